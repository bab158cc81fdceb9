-- `format`: as many sections as there are contents.
use Rattle.std.proofs.Common.{◌≡◌, ℕ, ◌+◌, suc, List, [], ◌∷◌, ◌++◌, length, true, false, Option, Some, Result, Ok, Err, refl, arith, ap, subst, ◌∙◌}
use Rattle.std.proofs.lemmas.Bool.{and_from}
use Rattle.std.specs.List.{slice_get}
use Rattle.prop_values.specs.Data.{Data, null, boolean, number, text, color, list, map, items_of}
use Rattle.prop_values.specs.declared.fault.EvalFault.{EvalFault}
use Rattle.prop_values.specs.declared.fault.FaultSet.{FaultSet}
use Rattle.prop_values.specs.declared.kinds.Item.TheVariants as items
use Rattle.prop_values.specs.declared.kinds.Kind.{Kind}
use Rattle.prop_values.specs.declared.kinds.Kind.TheVariants as kinds
use Rattle.prop_values.specs.declared.kinds.Want.{Want}
use Rattle.prop_values.specs.declared.kinds.Want.TheVariants as wants
use Rattle.property_tables.specs.Fitting.{item_count}
use Rattle.expr_syntax.specs.declared.expression.Operator.TheVariants as ops
use Rattle.expr_syntax.specs.declared.parts.FormatPiece.{FormatPiece}
use Rattle.expr_syntax.specs.declared.parts.Role.{Role}
use Rattle.expr_syntax.specs.declared.parts.Role.TheVariants as roles
use Rattle.expr_syntax.specs.Operators.{role_want, piece_wanted, want_of}
use Rattle.expr_syntax.specs.ReadTerms.{BeginsWithContent}
use Rattle.expr_types.specs.Fits.{wanted_kind}
use Rattle.expr_types.specs.Literals.{count_of}
use Rattle.expr_types.specs.OwnTable.{is_content, section_count}
use Rattle.format_text.specs.Sections.{section_with, section_of}
use Rattle.eval_face.specs.Sections.{Open, add_piece, then_open, add_pieces, closed, format_of}
use Rattle.typing_laws.specs.OfKind.{is_of}
use Rattle.typing_laws.proofs.KindLaws.{any_items, count_of_is}
use Rattle.typing_laws.proofs.Outcomes.{OutcomeOf}
use Rattle.typing_laws.proofs.Arguments.{IsGiven, AllOf, Applies}

items_length : (ds : List Data) → item_count (items_of ds) ≡ length ds
items_length [] = refl
items_length (d ∷ ds) = omega (arith, items_length ds)

append_length : (ds : List Data) (d : Data) → length (ds ++ d ∷ []) ≡ length ds + 1
append_length [] d = refl
append_length (e ∷ ds) d = omega (arith, append_length ds d)

-- values that are of the wants of the pieces, from some piece on
abbrev ArePieces : List FormatPiece → List Data → Type 0
ArePieces [] [] = Unit {0}
ArePieces (p ∷ ps) (d ∷ ds) = (is_of (wanted_kind (role_want p.role)) d ≡ true) × ArePieces ps ds
ArePieces _ _ = ⊥

-- open sections, with so many before the open one
abbrev OpenIn : ℕ → Result Open EvalFault → Type 0
OpenIn n (Ok sections) = length sections.0 ≡ n
OpenIn n (Err f) = ⊥

piece_ok : (role : Role) (d : Data) (sections : Open) → is_of (wanted_kind (role_want role)) d ≡ true →
    OpenIn (length sections.0 + is_content role) (add_piece role d sections)
piece_ok roles.Content (text s) (before, current) h = append_length before (section_of current)
piece_ok roles.Content _ (before, current) h = absurd (cc)
piece_ok roles.Scale (number z) (before, current) h = omega arith
piece_ok roles.Scale _ (before, current) h = absurd (cc)
piece_ok roles.Font d (before, current) h = omega arith
piece_ok roles.Color (color c) (before, current) h = omega arith
piece_ok roles.Color _ (before, current) h = absurd (cc)

then_in : (n m : ℕ) (r : Result Open EvalFault) (go : Open → Result Open EvalFault) → OpenIn n r →
    ((sections : Open) → length sections.0 ≡ n → OpenIn m (go sections)) → OpenIn m (then_open r go)
then_in n m (Ok sections) go h all = all sections h
then_in n m (Err f) go h all = absurd h

pieces_ok : (ps : List FormatPiece) (ds : List Data) (sections : Open) → ArePieces ps ds →
    OpenIn (length sections.0 + section_count ps) (add_pieces ps ds sections)
pieces_ok [] [] sections h = omega arith
pieces_ok (p ∷ ps) (d ∷ ds) sections h =
    then_in (length sections.0 + is_content p.role) (length sections.0 + section_count (p ∷ ps))
    (add_piece p.role d sections) (add_pieces ps ds) (piece_ok p.role d sections h.0)
    (λ next q. subst (λ (n : ℕ). OpenIn n (add_pieces ps ds next)) (let sum : length next.0 + section_count ps
    ≡ length sections.0 + (is_content p.role + section_count ps) = omega (arith, q) in sum)
    (pieces_ok ps ds next h.1))
pieces_ok [] (d ∷ ds) sections h = absurd h
pieces_ok (p ∷ ps) [] sections h = absurd h

module _ (S : FaultSet) where
  closed_ok : (n : ℕ) (r : Result Open EvalFault) → OpenIn n r →
      OutcomeOf S wants.Any (kinds.List items.Any (count_of (n + 1))) (closed r)
  closed_ok n (Ok (before, current)) h = (
    refl,
    and_from _ _ (count_of_is (n + 1) (items_of (before ++ section_of current ∷ [])) (items_length
        (before ++ section_of current ∷ []) ∙ append_length before (section_of current) ∙ omega (arith, h)))
        (any_items (items_of (before ++ section_of current ∷ []))),
  )
  closed_ok n (Err f) h = absurd h

  -- the pieces from place k on
  abbrev Placed : List FormatPiece → ℕ → List FormatPiece → Type 0
  Placed pieces k [] = Unit {0}
  Placed pieces k (p ∷ ps) = (slice_get pieces k ≡ Some p) × Placed pieces (k + 1) ps

  placed_later : (q : FormatPiece) (pieces : List FormatPiece) (k : ℕ) (ps : List FormatPiece) → Placed pieces k ps →
      Placed (q ∷ pieces) (k + 1) ps
  placed_later q pieces k [] h = tt
  placed_later q pieces k (p ∷ ps) h =
      (let next : k + 1 ≡ suc k = omega arith in rw next h.0, placed_later q pieces (k + 1) ps h.1)

  all_placed : (pieces : List FormatPiece) → Placed pieces 0 pieces
  all_placed [] = tt
  all_placed (p ∷ ps) = (refl, placed_later p ps 0 ps (all_placed ps))

  pieces_given : (pieces : List FormatPiece) (m k : ℕ) (w : Want) (ps : List FormatPiece) (ls : List (Option Data))
      (js : List Kind) (ds : List Data) → Placed pieces k ps → length ds ≡ length ps →
      AllOf (ops.Format pieces) m k w ls js ds → ArePieces ps ds
  pieces_given pieces m k w [] [] [] [] at e h = tt
  pieces_given pieces m k w (p ∷ ps) (l ∷ ls) (j ∷ js) (d ∷ ds) at e h =
      let g : IsGiven (want_of (piece_wanted (slice_get pieces k)) w) false l j d = h.0 in (
        subst (λ x. is_of (wanted_kind (want_of (piece_wanted x) w)) d ≡ true) at.0 g.wanted,
        pieces_given pieces m (k + 1) w ps ls js ds at.1 (omega (arith, e)) h.1,
      )
  pieces_given pieces m k w [] ls js (d ∷ ds) at e h = absurd (omega (arith, e))
  pieces_given pieces m k w (p ∷ ps) ls js [] at e h = absurd (omega (arith, e))
  pieces_given pieces m k w [] (l ∷ ls) [] [] at e h = absurd h
  pieces_given pieces m k w [] (l ∷ ls) (j ∷ js) [] at e h = absurd h
  pieces_given pieces m k w [] [] (j ∷ js) [] at e h = absurd h
  pieces_given pieces m k w (p ∷ ps) [] [] (d ∷ ds) at e h = absurd h
  pieces_given pieces m k w (p ∷ ps) [] (j ∷ js) (d ∷ ds) at e h = absurd h
  pieces_given pieces m k w (p ∷ ps) (l ∷ ls) [] (d ∷ ds) at e h = absurd h

  one_content : (role : Role) → role ≡ roles.Content → is_content role ≡ 1
  one_content role h = ap is_content h

  content_text : (role : Role) (d : Data) → role ≡ roles.Content →
      is_of (wanted_kind (role_want role)) d ≡ true → is_of kinds.Text d ≡ true
  content_text role d h q = subst (λ x. is_of (wanted_kind (role_want x)) d ≡ true) h q

  none_before : (n : ℕ) → length {A = Data} [] + n ≡ n
  none_before n = omega arith

  format_by : (ps : List FormatPiece) (ds : List Data) → BeginsWithContent ps → ArePieces ps ds →
      OutcomeOf S wants.Any (kinds.List items.Any (count_of (section_count ps))) (format_of ps ds)
  format_by [] ds h g = absurd h
  format_by (p ∷ ps) [] h g = absurd g
  format_by (p ∷ ps) (text s ∷ ds) h g =
      let q = one_content p.role h in
      subst (λ (n : ℕ). OutcomeOf S wants.Any (kinds.List items.Any (count_of n))
      (format_of (p ∷ ps) (text s ∷ ds)))
      (let sum : section_count ps + 1 ≡ is_content p.role + section_count ps = omega (arith, q) in sum)
      (closed_ok (section_count ps) (add_pieces ps ds ([], section_with s)) (subst (λ (n : ℕ). OpenIn n
      (add_pieces ps ds ([], section_with s))) (none_before (section_count ps)) (pieces_ok ps ds
      ([], section_with s) g.1)))
  format_by (p ∷ ps) (null ∷ ds) h g = absurd (let q = content_text p.role null h g.0 in cc)
  format_by (p ∷ ps) (boolean b ∷ ds) h g = absurd (let q = content_text p.role (boolean b) h g.0 in cc)
  format_by (p ∷ ps) (number z ∷ ds) h g = absurd (let q = content_text p.role (number z) h g.0 in cc)
  format_by (p ∷ ps) (color c ∷ ds) h g = absurd (let q = content_text p.role (color c) h g.0 in cc)
  format_by (p ∷ ps) (list es ∷ ds) h g = absurd (let q = content_text p.role (list es) h g.0 in cc)
  format_by (p ∷ ps) (map es ∷ ds) h g = absurd (let q = content_text p.role (map es) h g.0 in cc)

  pub format_ok : (pieces : List FormatPiece) → Applies S (ops.Format pieces) (λ world ds. format_of pieces ds)
  format_ok pieces bound w world ls js ds s h = λ none all. format_by pieces ds s.parts.0
      (pieces_given pieces (length ds) 0 w pieces ls js ds (all_placed pieces) s.parts.1 h)
