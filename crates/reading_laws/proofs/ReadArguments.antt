-- Each argument of a node that was read is what reading gives at its path.
use Rattle.std.proofs.Common.{◌≡◌, ◌∙◌, inl, inr, ℕ, zero, suc, ◌+◌, ◌-◌, ◌<◌, List, [], ◌∷◌, ◌++◌, length, refl, ap, sym, subst, arith, Bool, true, false}
use Rattle.std.proofs.lemmas.Bool.{not-false}
use Rattle.std.proofs.lemmas.Slice.Eq.{bytes_eq-Decides}
use Rattle.std.specs.Prelude.{ℤ, not, nat_eq, is_none, Option, Some, None, Result, Ok, Err, if◌then◌else◌, codes}
use Rattle.std.specs.List.{slice_get}
use Rattle.std.specs.Str.{bytes_eq}
use Rattle.decimal_json.specs.Tree.{Tree, null, boolean, number, text, list, object, Trees, no_trees, tree, Fields, no_fields, field}
use Rattle.decimal_json.specs.declared.paths.PathPart.{PathPart}
use Rattle.decimal_json.specs.declared.paths.PathPart.TheVariants.{Key, Index}
use Rattle.fixed_num.specs.Decimal.{read_text}
use Rattle.fixed_num.specs.declared.decimal.NumFault.{NumFault}
use Rattle.prop_values.specs.Data.{Data}
use Rattle.prop_values.specs.JsonData.{json_data}
use Rattle.expr_syntax.proofs.CountLaws.{count_trees}
use Rattle.expr_syntax.specs.declared.fault.SynFault.{SynFault}
use Rattle.expr_syntax.specs.declared.fault.SynCode.{SynCode}
use Rattle.expr_syntax.specs.declared.fault.SynCode.TheVariants as code
use Rattle.expr_syntax.specs.declared.names.Name.{Name}
use Rattle.expr_syntax.specs.declared.parts.FormatPiece.{FormatPiece}
use Rattle.expr_syntax.specs.declared.parts.Role.{Role}
use Rattle.expr_syntax.specs.declared.parts.Role.TheVariants.{Content, Scale, Font, Color}
use Rattle.expr_syntax.specs.declared.rows.ElementLayout.{ElementLayout}
use Rattle.expr_syntax.specs.declared.rows.ElementLayout.TheVariants as layouts
use Rattle.expr_syntax.specs.declared.expression.Operator.{Operator}
use Rattle.expr_syntax.specs.declared.expression.Operator.TheVariants.{Format, Let}
use Rattle.expr_syntax.specs.Elements.{head_text, name_in, second, second_text, option_named}
use Rattle.expr_syntax.specs.Mentioned.{count}
use Rattle.expr_syntax.specs.Names.{row, name_of}
use Rattle.expr_syntax.specs.Parts.{operator_of}
use Rattle.expr_syntax.specs.Reading.{Read, read, options, elements, members, array_read, named_read, node_read, number_read, literal_read, data_read, global_read, arguments, and_term, then_node, with_operator, names_in, at, fault, is_part, then_term, then_sections, with_piece, option_read, options_read, section_read, sections_read, all_sections, no_sections, then_format, is_value_layout, is_global_layout}
use Rattle.expr_syntax.specs.Rows.{allows, element_place, is_last}
use Rattle.expr_syntax.specs.Scopes.{Scope, frame}
use Rattle.expr_syntax.specs.Standing.{is_format_layout}
use Rattle.expr_syntax.specs.Term.{Term, literal, node, Terms, terms_of}
use Rattle.expr_types.specs.ArgumentPaths.{element_at, key_at, at_piece, piece_key, with_key, role_key, argument_path}
use Rattle.reading_laws.specs.ReadingLaw.{HasItem, HasMember, IsAt, argument_at, argument_scope, is_global, ArgumentsAreReadAtTheirPaths}
use Rattle.reading_laws.proofs.ArgumentPlaces.{HasElements, Counted, more, counted_start, counted_step, spot, last_spot}
use Rattle.reading_laws.proofs.LaidOut.{BindsBy, IsLaidOut, LaidOut, laid_out, elements_fit}

as_many : (ts : Trees) → length (elements ts) ≡ count_trees ts
as_many no_trees = refl
as_many (tree t ts) = ap suc (as_many ts)

count_of : (as_ : List Term) → count (terms_of as_) ≡ length as_
count_of [] = refl
count_of (a ∷ as_) = let h = count_of as_ in omega (arith, h)

-- an argument before others
pub and_read : (r : Read) (later : Result (List Term) SynFault) (as_ : List Term) → and_term r later ≡ Ok as_ →
    (a : Term) × (rest : List Term) × (r ≡ Ok a) × (later ≡ Ok rest) × (as_ ≡ a ∷ rest)
and_read (Ok a) (Ok rest) as_ h = (a, rest, refl, refl, cc)
and_read (Ok a) (Err f) as_ h = absurd (cc)
and_read (Err f) later as_ h = absurd (cc)

-- ---- arguments by places

module _ (layout : ElementLayout) (n : ℕ) (fits : HasElements layout n) (inner scope : Scope) (path : List PathPart) where
  -- an argument before which k others are, of trees that are the elements from i on
  abbrev IsFound : ℕ → Trees → ℕ → Term → Type 0
  IsFound i ts k a =
      (e : ℕ) × (j : ℕ) × (u : Tree) × (e ≡ i + j) × HasItem ts j u
      × (read u (if is_last n e then inner else scope) (at path e) ≡ Ok a)
      × (is_part (element_place layout n e) ≡ false) × Counted layout n e k × (e < i + count_trees ts)

  found_later : (i : ℕ) (t : Tree) (ts : Trees) (k : ℕ) (a : Term) → IsFound (i + 1) ts k a → IsFound i (tree t ts) k a
  found_later i t ts k a (e, j, u, same, item, reads, part, counted, less) =
      (e, suc j, u, omega (arith, same), item, reads, part, counted, omega (arith, less))

  -- what is found among later elements, whatever is before them
  abbrev FoundLater : ℕ → Trees → Type 0
  FoundLater i ts =
      (k : ℕ) (as_ : List Term) → Counted layout n i k → arguments layout n i (elements ts) inner scope path ≡ Ok as_ →
      (l : ℕ) (a : Term) → argument_at (terms_of as_) l ≡ Some a → IsFound i ts (k + l) a

  abbrev first_read : ℕ → Tree → Read
  first_read i t = read t (if is_last n i then inner else scope) (at path i)

  abbrev later_read : ℕ → Trees → Result (List Term) SynFault
  later_read i ts = arguments layout n (i + 1) (elements ts) inner scope path

  found_of : (i : ℕ) (t : Tree) (ts : Trees) (k : ℕ) → FoundLater (i + 1) ts → Counted layout n i k → (b : Term) (rest : List Term) →
      first_read i t ≡ Ok b → later_read i ts ≡ Ok rest → is_part (element_place layout n i) ≡ false → Counted layout n (i + 1) (suc k) →
      (l : ℕ) (a : Term) → argument_at (terms_of (b ∷ rest)) l ≡ Some a → IsFound i (tree t ts) (k + l) a
  found_of i t ts k go p b rest first later part next zero a is =
      let same : b ≡ a = cc in
      let here : k ≡ k + 0 = omega arith in
      (i, 0, t, omega arith, refl, first ∙ ap Ok same, part, subst (λ x. Counted layout n i x) here p, omega arith)
  found_of i t ts k go p b rest first later part next (suc l) a is =
      let here : suc k + l ≡ k + suc l = omega arith in
      subst (λ x. IsFound i (tree t ts) x a) here (found_later i t ts (suc k + l) a (go (suc k) rest next later l a is))

  found_if : (i : ℕ) (t : Tree) (ts : Trees) (k : ℕ) → FoundLater (i + 1) ts → Counted layout n i k → (as_ : List Term) (l : ℕ) (a : Term) →
      argument_at (terms_of as_) l ≡ Some a →
      (b : Bool) → is_part (element_place layout n i) ≡ b → Counted layout n (i + 1) (more b k) →
      (if b then later_read i ts else and_term (first_read i t) (later_read i ts)) ≡ Ok as_ → IsFound i (tree t ts) (k + l) a
  found_if i t ts k go p as_ l a is true part next h = found_later i t ts (k + l) a (go k as_ next h l a is)
  found_if i t ts k go p as_ l a is false part next h =
      let (b, rest, first, later, same) = and_read (first_read i t) (later_read i ts) as_ h in
      found_of i t ts k go p b rest first later part next l a (subst (λ xs. argument_at (terms_of xs) l ≡ Some a) same is)

  found_at : (ts : Trees) (i : ℕ) → FoundLater i ts
  found_at no_trees i k [] p h l a is = absurd (cc)
  found_at no_trees i k (b ∷ as_) p h l a is = absurd (cc)
  found_at (tree t ts) i k as_ p h l a is =
      found_if i t ts k (found_at ts (i + 1)) p as_ l a is (is_part (element_place layout n i)) refl (counted_step layout n i k fits p) h

  -- all arguments are before the end
  abbrev CountedLater : ℕ → Trees → Type 0
  CountedLater i ts =
      (k : ℕ) (as_ : List Term) → Counted layout n i k → arguments layout n i (elements ts) inner scope path ≡ Ok as_ →
      Counted layout n (i + count_trees ts) (k + length as_)

  counted_if : (i : ℕ) (t : Tree) (ts : Trees) (k : ℕ) → CountedLater (i + 1) ts → (as_ : List Term) (b : Bool) → Counted layout n (i + 1) (more b k) →
      (if b then later_read i ts else and_term (first_read i t) (later_read i ts)) ≡ Ok as_ →
      Counted layout n (i + suc (count_trees ts)) (k + length as_)
  counted_if i t ts k go as_ true next h =
      let there : (i + 1) + count_trees ts ≡ i + suc (count_trees ts) = omega arith in
      subst (λ x. Counted layout n x (k + length as_)) there (go k as_ next h)
  counted_if i t ts k go as_ false next h =
      let (b, rest, first, later, same) = and_read (first_read i t) (later_read i ts) as_ h in
      let there : (i + 1) + count_trees ts ≡ i + suc (count_trees ts) = omega arith in
      let longer : suc k + length rest ≡ k + length as_ = (let q = ap length same in omega (arith, q)) in
      subst (λ x. Counted layout n x (k + length as_)) there
      (subst (λ x. Counted layout n ((i + 1) + count_trees ts) x) longer (go (suc k) rest next later))

  all_counted : (ts : Trees) (i : ℕ) → CountedLater i ts
  all_counted no_trees i k [] p h =
      let end : i ≡ i + 0 = omega arith in
      let same : k ≡ k + 0 = omega arith in
      subst (λ x. Counted layout n (i + 0) x) same (subst (λ x. Counted layout n x k) end p)
  all_counted no_trees i k (b ∷ as_) p h = absurd (cc)
  all_counted (tree t ts) i k as_ p h =
      counted_if i t ts k (all_counted ts (i + 1)) as_ (is_part (element_place layout n i)) (counted_step layout n i k fits p) h

-- ---- nodes

module _ (ts : Trees) (scope : Scope) (path : List PathPart) where
  abbrev IsReadAt : Operator → ℕ → ℕ → Term → Type 0
  IsReadAt op m k a =
      (u : Tree) × IsAt (argument_path op m k []) (list ts) u
      × (read u (argument_scope op m k scope) (argument_path op m k path) ≡ Ok a)

  -- the arguments of what was read are read at their paths
  abbrev ArgumentsIn : Read → Type 0
  ArgumentsIn (Ok (node op as_)) = (k : ℕ) (a : Term) → argument_at as_ k ≡ Some a → IsReadAt op (count as_) k a
  ArgumentsIn (Ok (literal d)) = Unit {0}
  ArgumentsIn (Err f) = Unit {0}

  if_read : (b : Bool) (x y : Read) → (b ≡ true → ArgumentsIn x) → (b ≡ false → ArgumentsIn y) → ArgumentsIn (if b then x else y)
  if_read true x y p q = p refl
  if_read false x y p q = q refl

  -- ---- by places

  scope_same : (op : Operator) (layout : ElementLayout) (b c : Bool) → BindsBy layout op → (layout ≡ layouts.Bindings → b ≡ c) →
      (if b then names_in op scope else scope) ≡ (if c then names_in op scope else scope)
  scope_same (Let names) layout b c binds same = ap (λ x. if x then frame names scope else scope) (same binds)
  scope_same op layout true true binds same = refl
  scope_same op layout true false binds same = refl
  scope_same op layout false true binds same = refl
  scope_same op layout false false binds same = refl

  last_by : (layout : ElementLayout) (n m e k : ℕ) → layout ≡ layouts.Bindings → HasElements layout n → Counted layout n n m → Counted layout n e k →
      is_part (element_place layout n e) ≡ false → e < n → is_last n e ≡ is_last m k
  last_by layouts.Bindings n m e k is fits all p h less = last_spot n m e k fits all p h less
  last_by layout n m e k is fits all p h less = absurd (cc)

  placed : (layout : ElementLayout) (n : ℕ) → HasElements layout n → count_trees ts ≡ n → (op : Operator) → IsLaidOut layout n op → (as_ : List Term) →
      arguments layout n 0 (elements ts) (names_in op scope) scope path ≡ Ok as_ → ArgumentsIn (Ok (node op (terms_of as_)))
  placed layout n fits whole op laid as_ h k a is =
      let m : ℕ = count (terms_of as_) in
      let start = counted_start layout n fits in
      let (e, j, u, same, item, reads, part, counted, less) = found_at layout n fits (names_in op scope) scope path ts 0 0 as_ start h k a is in
      let end : Counted layout n n m =
      subst (λ x. Counted layout n n x) (let c = count_of as_ in omega (arith, c))
      (subst (λ x. Counted layout n x (0 + length as_)) (omega (arith, whole)) (all_counted layout n fits (names_in op scope) scope path ts 0 0 as_ start h)) in
      let before : Counted layout n e k = subst (λ x. Counted layout n e x) (omega arith) counted in
      let inside : e < n = omega (arith, less, whole) in
      let place : e ≡ element_at op m k = spot layout n m e k fits end before part inside ∙ sym (laid.0 m k).0 in
      let there : HasItem ts e u = subst (λ x. HasItem ts x u) (omega (arith, same)) item in
      let key : None ≡ key_at op k = sym (laid.0 m k).1 in
      let short : Index e ∷ [] ≡ argument_path op m k [] = λ i. with_key (key i) (Index (place i) ∷ []) in
      let long : at path e ≡ argument_path op m k path = λ i. with_key (key i) (path ++ Index (place i) ∷ []) in
      let around = sym (scope_same op layout (is_last n e) (is_last m k) laid.1 (λ binds. last_by layout n m e k binds fits end before part inside)) in
      let back = sym long in
      (u, subst (λ p. IsAt p (list ts) u) short (u, there, refl), (λ i. read u (around i) (back i)) ∙ reads)

  operator_in : (layout : ElementLayout) → HasElements layout (length (elements ts)) → (o : Result Operator SynCode) → LaidOut layout (length (elements ts)) o →
      ArgumentsIn (with_operator layout (elements ts) o scope path)
  operator_in layout fits (Err c) laid = tt
  operator_in layout fits (Ok op) laid = by (arguments layout (length (elements ts)) 0 (elements ts) (names_in op scope) scope path) refl
    where
      by : (r : Result (List Term) SynFault) → arguments layout (length (elements ts)) 0 (elements ts) (names_in op scope) scope path ≡ r → ArgumentsIn (then_node op r)
      by (Ok as_) h = placed layout (length (elements ts)) fits (sym (as_many ts)) op laid as_ h
      by (Err f) h = tt

  -- ---- `format`

  -- the type of what is read of a `format` has no name outside of its crate
  abbrev type_of : {A : Type 0} → A → Type 0
  type_of {A} x = A

  abbrev FormatArguments : Type 0
  FormatArguments = type_of no_sections

  abbrev IsPieceAt : FormatPiece → Term → Type 0
  IsPieceAt piece a =
      (u : Tree) × IsAt (with_key (role_key piece.role) (Index piece.at ∷ [])) (list ts) u
      × (read u scope (with_key (role_key piece.role) (at path piece.at)) ≡ Ok a)

  abbrev ArePieces : List FormatPiece → List Term → Type 0
  ArePieces [] [] = Unit {0}
  ArePieces (p ∷ ps) (a ∷ as_) = IsPieceAt p a × ArePieces ps as_
  ArePieces [] (a ∷ as_) = ⊥
  ArePieces (p ∷ ps) [] = ⊥

  abbrev PiecesIn : Result FormatArguments SynFault → Type 0
  PiecesIn (Ok found) = ArePieces found.pieces found.arguments
  PiecesIn (Err f) = Unit {0}

  pieces_push : (ps : List FormatPiece) (as_ : List Term) (p : FormatPiece) (a : Term) → ArePieces ps as_ → IsPieceAt p a → ArePieces (ps ++ p ∷ []) (as_ ++ a ∷ [])
  pieces_push [] [] p a h k = (k, tt)
  pieces_push (q ∷ ps) (b ∷ as_) p a h k = (h.0, pieces_push ps as_ p a h.1 k)
  pieces_push [] (b ∷ as_) p a h k = absurd h
  pieces_push (q ∷ ps) [] p a h k = absurd h

  piece_at : (ps : List FormatPiece) (as_ : List Term) → ArePieces ps as_ → (k : ℕ) (a : Term) → argument_at (terms_of as_) k ≡ Some a →
      (p : FormatPiece) × (slice_get ps k ≡ Some p) × IsPieceAt p a
  piece_at [] [] h k a is = absurd (cc)
  piece_at (p ∷ ps) (b ∷ as_) h zero a is = let same : b ≡ a = cc in (p, refl, subst (λ x. IsPieceAt p x) same h.0)
  piece_at (p ∷ ps) (b ∷ as_) h (suc k) a is = piece_at ps as_ h.1 k a is
  piece_at [] (b ∷ as_) h k a is = absurd h
  piece_at (p ∷ ps) [] h k a is = absurd h

  then_piece : (i : ℕ) (role : Role) (found : FormatArguments) (r : Read) → ArePieces found.pieces found.arguments →
      ((a : Term) → r ≡ Ok a → IsPieceAt (record { at = i; role = role }) a) → PiecesIn (then_term r (λ t. Ok (with_piece i role found t)))
  then_piece i role found (Ok a) h k = pieces_push found.pieces found.arguments (record { at = i; role = role }) a h (k a refl)
  then_piece i role found (Err f) h k = tt

  then_more : (r : Result FormatArguments SynFault) (go : FormatArguments → Result FormatArguments SynFault) → PiecesIn r →
      ((found : FormatArguments) → ArePieces found.pieces found.arguments → PiecesIn (go found)) → PiecesIn (then_sections r go)
  then_more (Ok found) go h k = k found h
  then_more (Err f) go h k = tt

  if_pieces : (b : Bool) (x y : Result FormatArguments SynFault) → PiecesIn x → PiecesIn y → PiecesIn (if b then x else y)
  if_pieces true x y h k = h
  if_pieces false x y h k = k

  role_named : (key : List ℕ) (role : Role) → option_named key ≡ Some role → role_key role ≡ Some key
  role_named key role h =
      by (bytes_eq key (codes "font-scale")) (bytes_eq key (codes "text-font")) (bytes_eq key (codes "text-color")) refl refl refl h
    where
      is_key : (one : Role) (name : List ℕ) → role_key one ≡ Some name → bytes_eq key name ≡ true → Some one ≡ Some role → role_key role ≡ Some key
      is_key one name of_one e h =
          let same : one ≡ role = cc in
          ap role_key (sym same) ∙ (of_one ∙ ap Some (sym ((bytes_eq-Decides key name).0 e)))

      by : (a b c : Bool) → bytes_eq key (codes "font-scale") ≡ a → bytes_eq key (codes "text-font") ≡ b → bytes_eq key (codes "text-color") ≡ c →
          (if a then Some Scale else if b then Some Font else if c then Some Color else None) ≡ Some role → role_key role ≡ Some key
      by true b c e f g h = is_key Scale (codes "font-scale") refl e h
      by false true c e f g h = is_key Font (codes "text-font") refl f h
      by false false true e f g h = is_key Color (codes "text-color") refl g h
      by false false false e f g h = absurd (cc)

  options_in : (i : ℕ) (whole fs : Fields) → HasItem ts i (object whole) → ((key : List ℕ) (u : Tree) → HasMember fs key u → HasMember whole key u) →
      (found : FormatArguments) → ArePieces found.pieces found.arguments → PiecesIn (options_read i (members fs) scope (at path i) found)
  options_in i whole no_fields item into found h = h
  options_in i whole (field key t fs) item into found h =
      then_more (option_read i (option_named key) key (read t) scope (at path i) found) (options_read i (members fs) scope (at path i))
      (by (option_named key) refl)
      (λ more k. options_in i whole fs item (λ other u is. into other u (inr is)) more k)
    where
      by : (o : Option Role) → option_named key ≡ o → PiecesIn (option_read i o key (read t) scope (at path i) found)
      by None is = tt
      by (Some role) is =
          let named = sym (role_named key role is) in
          then_piece i role found (read t scope (at path i ++ Key key ∷ [])) h (λ a e. (
            t,
            subst (λ o. IsAt (with_key o (Index i ∷ [])) (list ts) t) named (object whole, item, (t, into key t (inl (refl, refl)), refl)),
            ap (λ o. read t scope (with_key o (at path i))) (sym named) ∙ e,
          ))

  content_in : (i : ℕ) (t : Tree) → HasItem ts i t → (found : FormatArguments) → ArePieces found.pieces found.arguments →
      PiecesIn (then_term (read t scope (at path i)) (λ a. Ok (with_piece i Content found a)))
  content_in i t item found h = then_piece i Content found (read t scope (at path i)) h (λ a e. (t, (t, item, refl), e))

  section_in : (i : ℕ) (follows : Bool) (t : Tree) → HasItem ts i t → (found : FormatArguments) → ArePieces found.pieces found.arguments →
      PiecesIn (section_read i follows (options t) (read t) scope (at path i) found)
  section_in i follows (object fs) item found h =
      if_pieces follows (options_read i (members fs) scope (at path i) found) (fault (at path i) code.BareObject)
      (options_in i fs fs item (λ key u is. is) found h) tt
  section_in i follows null item found h = content_in i null item found h
  section_in i follows (boolean b) item found h = content_in i (boolean b) item found h
  section_in i follows (number n) item found h = content_in i (number n) item found h
  section_in i follows (text s) item found h = content_in i (text s) item found h
  section_in i follows (list us) item found h = content_in i (list us) item found h

  abbrev AreFrom : ℕ → Trees → Type 0
  AreFrom i rest = (j : ℕ) (u : Tree) → HasItem rest j u → HasItem ts (i + j) u

  sections_in : (rest : Trees) (i : ℕ) (follows : Bool) → AreFrom i rest → (found : FormatArguments) → ArePieces found.pieces found.arguments →
      PiecesIn (sections_read i follows (elements rest) scope path found)
  sections_in no_trees i follows from found h = h
  sections_in (tree t rest) i follows from found h =
      let here : HasItem ts i t = subst (λ x. HasItem ts x t) (omega arith) (from 0 t refl) in
      let later : AreFrom (i + 1) rest = λ j u item. subst (λ x. HasItem ts x u) (omega arith) (from (suc j) u item) in
      let section = section_read i follows (options t) (read t) scope (at path i) found in
      let go = sections_read (i + 1) (is_none (options t)) (elements rest) scope path in
      if_pieces (nat_eq i 0) (sections_read (i + 1) false (elements rest) scope path found) (then_sections section go)
      (sections_in rest (i + 1) false later found h)
      (then_more section go (section_in i follows t here found h) (λ more k. sections_in rest (i + 1) (is_none (options t)) later more k))

  one_scope : (b : Bool) → (if b then scope else scope) ≡ scope
  one_scope true = refl
  one_scope false = refl

  format_in : (r : Result FormatArguments SynFault) → PiecesIn r → ArgumentsIn (then_format r)
  format_in (Err f) h = tt
  format_in (Ok found) h = λ k a is.
      let m : ℕ = count (terms_of found.arguments) in
      let (p, got, piece) = piece_at found.pieces found.arguments h k a is in
      let (u, there, reads) = piece in
      let back = sym got in
      let short : with_key (role_key p.role) (Index p.at ∷ []) ≡ argument_path (Format found.pieces) m k [] =
      λ i. with_key (piece_key (back i)) (Index (at_piece (back i)) ∷ []) in
      let long : argument_path (Format found.pieces) m k path ≡ with_key (role_key p.role) (at path p.at) =
      λ i. with_key (piece_key (got i)) (path ++ Index (at_piece (got i)) ∷ []) in
      (u, subst (λ q. IsAt q (list ts) u) short there, (λ i. read u (one_scope (is_last m k) i) (long i)) ∙ reads)

  -- ---- the whole

  data_in : (r : Result Data NumFault) → ArgumentsIn (data_read r path)
  data_in (Ok d) = tt
  data_in (Err past) = tt

  literal_in : (t : Option Tree) → ArgumentsIn (literal_read t path)
  literal_in (Some t) = data_in (json_data t)
  literal_in None = tt

  node_in : (name : Name) → is_global_layout (row name).layout ≡ false → ArgumentsIn (node_read name ts (elements ts) scope path)
  node_in name other =
      let layout = (row name).layout in
      let op = with_operator layout (elements ts) (operator_of layout name scope (length (elements ts)) ts) scope path in
      let sections = then_format (all_sections (elements ts) scope path) in
      let by_sections : Read = if is_format_layout layout then sections else op in
      let by_global : Read = if is_global_layout layout then global_read (second_text ts) scope path else by_sections in
      let by_value : Read = if is_value_layout layout then literal_read (second ts) path else by_global in
      if_read (not (allows (row name).arity (length (elements ts) - 1))) (fault path code.Arity) by_value (λ e. tt) (λ e.
      let fits : allows (row name).arity (length (elements ts) - 1) ≡ true = not-false (allows (row name).arity (length (elements ts) - 1)) e in
      if_read (is_value_layout layout) (literal_read (second ts) path) by_global (λ v. literal_in (second ts)) (λ v.
      if_read (is_global_layout layout) (global_read (second_text ts) scope path) by_sections (λ g. absurd (cc)) (λ g.
      if_read (is_format_layout layout) sections op
      (λ f. format_in (all_sections (elements ts) scope path) (sections_in ts 0 false (λ j u item. subst (λ x. HasItem ts x u) (omega arith) item) no_sections tt))
      (λ f. operator_in layout (elements_fit name (length (elements ts)) fits) (operator_of layout name scope (length (elements ts)) ts) (at_length (length (elements ts)) (sym (as_many ts)) fits)))))
    where
      at_length : (n : ℕ) → count_trees ts ≡ n → allows (row name).arity (n - 1) ≡ true → LaidOut (row name).layout n (operator_of (row name).layout name scope n ts)
      at_length n e fits =
          subst (λ k. LaidOut (row name).layout k (operator_of (row name).layout name scope k ts)) e
          (laid_out name scope ts (subst (λ k. allows (row name).arity (k - 1) ≡ true) (sym e) fits))

  named_in : (name : Option Name) → is_global name ≡ false → ArgumentsIn (named_read name ts (elements ts) scope path)
  named_in None other = tt
  named_in (Some name) other = node_in name other

  array_in : (head : Option (List ℕ)) → is_global (name_in head) ≡ false → ArgumentsIn (array_read head ts (elements ts) scope path)
  array_in None other = tt
  array_in (Some s) other = named_in (name_of s) other

number_no_node : (r : Result ℤ NumFault) (path : List PathPart) (op : Operator) (as_ : Terms) → number_read r path ≡ Ok (node op as_) → ⊥
number_no_node (Ok z) path op as_ h = absurd (cc)
number_no_node (Err past) path op as_ h = absurd (cc)

pub arguments_are_read : ArgumentsAreReadAtTheirPaths
arguments_are_read (list ts) scope path op as_ h other k a is =
    (subst (ArgumentsIn ts scope path) h (array_in ts scope path (head_text ts) other)) k a is
arguments_are_read null scope path op as_ h other k a is = absurd (cc)
arguments_are_read (boolean b) scope path op as_ h other k a is = absurd (cc)
arguments_are_read (number n) scope path op as_ h other k a is = absurd (number_no_node (read_text n) path op as_ h)
arguments_are_read (text s) scope path op as_ h other k a is = absurd (cc)
arguments_are_read (object fs) scope path op as_ h other k a is = absurd (cc)
