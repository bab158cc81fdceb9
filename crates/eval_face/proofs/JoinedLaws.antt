-- The contents of what a `format` means, joined, are what `concat` means of them.
use Rattle.std.proofs.Common.{◌≡◌, ◌∙◌, ℕ, ◌+◌, suc, List, [], ◌∷◌, ◌++◌, length, refl, sym, ap, subst, append_assoc, append-nil, arith, Option, Some, None, Result, Ok, Err}
use Rattle.std.specs.List.{slice_get}
use Rattle.prop_values.specs.Data.{Data, null, boolean, number, text, color, list, map, items_of}
use Rattle.prop_values.specs.View.{value_of}
use Rattle.prop_values.specs.ValueText.{shown_text}
use Rattle.prop_values.specs.declared.fault.EvalFault.{EvalFault}
use Rattle.prop_values.specs.declared.kinds.Item.TheVariants as items
use Rattle.prop_values.specs.declared.kinds.Want.TheVariants as wants
use Rattle.fixed_num.specs.declared.color.Color.{Color as FixedColor}
use Rattle.property_tables.specs.Fitting.{fit, read_as_color}
use Rattle.expr_syntax.specs.Operators.{piece_wanted, role_want, want_of}
use Rattle.expr_syntax.specs.Term.{Term, node, Terms, no_terms, term}
use Rattle.expr_syntax.specs.declared.expression.Operator.TheVariants.{Concat, Format}
use Rattle.expr_syntax.specs.declared.parts.FormatPiece.{FormatPiece}
use Rattle.expr_syntax.specs.declared.parts.Role.{Role}
use Rattle.expr_syntax.specs.declared.parts.Role.TheVariants.{Content, Scale, Font, Color}
use Rattle.format_text.specs.Sections.{section_with, section_of}
use Rattle.format_text.specs.SectionLists.{sections_values, plain_text}
use Rattle.format_text.specs.declared.formatted.Section.{Section}
use Rattle.operator_values.specs.Evaluated.{Evaluated, then_value}
use Rattle.operator_values.specs.Texts.{joined, concat_of}
use Rattle.eval_face.proofs.FittedLaws.{each_value_is_fitted}
use Rattle.eval_face.specs.JoinedContents.{content_first, contents, IsOfContents, FormatsJoinTheirContents}
use Rattle.eval_face.specs.Meaning.{mean, means}
use Rattle.eval_face.specs.Meanings.{then_values, and_values, values_of}
use Rattle.eval_face.specs.Names.{BoundOutcomes}
use Rattle.eval_face.specs.Sections.{Open, add_piece, then_open, add_pieces, closed, format_of}
use Rattle.eval_face.specs.World.{World}
use Rattle.eval_face.proofs.ShownLaws.{mean_shown}

-- ---- lists of sections

values_more : (ss : List Section) (s : Section) → sections_values (ss ++ s ∷ []) ≡ sections_values ss ++ section_of s ∷ []
values_more [] s = refl
values_more (r ∷ ss) s = ap (λ vs. section_of r ∷ vs) (values_more ss s)

plain_more : (ss : List Section) (s : Section) → plain_text (ss ++ s ∷ []) ≡ plain_text ss ++ s.content
plain_more [] s = append-nil s.content
plain_more (r ∷ ss) s = ap (λ t. r.content ++ t) (plain_more ss s) ∙ sym (append_assoc r.content (plain_text ss) s.content)

-- ---- values that are there

pub record AreFirst (e : Evaluated) (later : Result (List Data) EvalFault) (ds : List Data) : Type 0 where
  pub here : Data
  pub rest : List Data
  pub is : ds ≡ here ∷ rest
  pub given : e ≡ Ok here
  pub later_given : later ≡ Ok rest

first_given : (e : Evaluated) (later : Result (List Data) EvalFault) (ds : List Data) → and_values e later ≡ Ok ds → AreFirst e later ds
first_given (Ok d) (Ok es) ds h = record { here = d; rest = es; is = (let k : Ok (d ∷ es) ≡ Ok ds = h in cc); given = refl; later_given = refl }
first_given (Ok d) (Err fault) ds h = absurd (cc)
first_given (Err fault) later ds h = absurd (cc)

-- a value that is shown is the text of one under Any
pub record IsTextOf (e : Evaluated) (d : Data) : Type 0 where
  pub plain : Data
  pub given : e ≡ Ok plain
  pub is : d ≡ text (shown_text plain)

text_given : (e : Evaluated) (d : Data) → then_value e (fit wants.Shown) ≡ Ok d → IsTextOf e d
text_given (Ok p) d h = record { plain = p; given = refl; is = (let k : Ok (text (shown_text p)) ≡ Ok d = h in cc) }
text_given (Err fault) d h = absurd (cc)

-- ---- outcomes that are values

pub record GoesOn {A : Type 0} (e : Result A EvalFault) (go : A → Evaluated) (d : Data) : Type 0 where
  pub value : A
  pub given : e ≡ Ok value
  pub went : go value ≡ Ok d

values_given : (values : Result (List Data) EvalFault) (go : List Data → Evaluated) (d : Data) → then_values values go ≡ Ok d → GoesOn values go d
values_given (Ok ds) go d h = record { value = ds; given = refl; went = h }
values_given (Err fault) go d h = absurd (cc)

any_last : (e : Evaluated) (d : Data) → then_value e (fit wants.Any) ≡ Ok d → e ≡ Ok d
any_last (Ok p) d h = h
any_last (Err fault) d h = absurd (cc)

pub record IsClosed (r : Result Open EvalFault) (d : Data) : Type 0 where
  pub last : Open
  pub given : r ≡ Ok last
  pub is : d ≡ list (items_of (last.0 ++ section_of last.1 ∷ []))

closed_given : (r : Result Open EvalFault) (d : Data) → closed r ≡ Ok d → IsClosed r d
closed_given (Ok o) d h = record { last = o; given = refl; is = (let k : Ok (list (items_of (o.0 ++ section_of o.1 ∷ []))) ≡ Ok d = h in cc) }
closed_given (Err fault) d h = absurd (cc)

-- ---- an option leaves the content

pub record KeepsContent (before : List Data) (current : Section) (go : Open → Result Open EvalFault) (last : Open) : Type 0 where
  pub next : Section
  pub went : go (before, next) ≡ Ok last
  pub content : next.content ≡ current.content

scale_keeps : (d : Data) (before : List Data) (current : Section) (go : Open → Result Open EvalFault) (last : Open) → then_open (add_piece Scale d (before, current)) go ≡ Ok last → KeepsContent before current go last
scale_keeps (number z) before current go last h = record { next = record current { scale = Some z }; went = h; content = refl }
scale_keeps null before current go last h = absurd (cc)
scale_keeps (boolean b) before current go last h = absurd (cc)
scale_keeps (text s) before current go last h = absurd (cc)
scale_keeps (color c) before current go last h = absurd (cc)
scale_keeps (list ds) before current go last h = absurd (cc)
scale_keeps (map ps) before current go last h = absurd (cc)

color_keeps : (d : Data) (before : List Data) (current : Section) (go : Open → Result Open EvalFault) (last : Open) → then_open (add_piece Color d (before, current)) go ≡ Ok last → KeepsContent before current go last
color_keeps (color c) before current go last h = record { next = record current { color = Some c }; went = h; content = refl }
color_keeps null before current go last h = absurd (cc)
color_keeps (boolean b) before current go last h = absurd (cc)
color_keeps (number z) before current go last h = absurd (cc)
color_keeps (text s) before current go last h = absurd (cc)
color_keeps (list ds) before current go last h = absurd (cc)
color_keeps (map ps) before current go last h = absurd (cc)

-- ---- pieces from an open section on

-- the sections that are there at the end, and the values that `concat` has
pub record IsRest (ss : List Section) (current : Section) (last : Open) (values : Result (List Data) EvalFault) : Type 0 where
  pub sections : List Section
  pub before : last.0 ≡ sections_values sections
  pub rest : List Data
  pub given : values ≡ Ok rest
  pub plain : plain_text sections ++ last.1.content ≡ (plain_text ss ++ current.content) ++ joined rest

abbrev is_open : Open → Result Open EvalFault
is_open o = Ok o

finished : (ss : List Section) (current : Section) (before : List Data) (last : Open) → before ≡ sections_values ss → is_open (before, current) ≡ is_open last → IsRest ss current last (Ok [])
finished ss current before last b h =
    let e : (before, current) ≡ last = cc in
    record {
      sections = ss;
      before = ap (λ o. o.0) (sym e) ∙ b;
      rest = [];
      given = refl;
      plain = ap (λ o. plain_text ss ++ o.1.content) (sym e) ∙ sym (append-nil (plain_text ss ++ current.content));
    }

no_values : (ps : List FormatPiece) (o : Open) → add_pieces ps [] o ≡ Ok o
no_values [] o = refl
no_values (p ∷ ps) o = refl

no_pieces : (ds : List Data) (o : Open) → add_pieces [] ds o ≡ Ok o
no_pieces [] o = refl
no_pieces (d ∷ ds) o = refl

no_contents : (ps : List FormatPiece) → contents ps no_terms ≡ no_terms
no_contents [] = refl
no_contents (p ∷ ps) = refl

module _ (n : ℕ) (names : BoundOutcomes) (world : World) where
  -- what `concat` has of these terms
  abbrev concat_values : ℕ → Terms → Result (List Data) EvalFault
  concat_values j ts = values_of Concat n j (means ts) wants.Any names world

  kept_rest : (cs : Terms) (j : ℕ) (ss : List Section) (current : Section) (before : List Data) (go : Open → Result Open EvalFault) (last : Open) (k : KeepsContent before current go last)
      → IsRest ss k.next last (concat_values j cs) → IsRest ss current last (concat_values j cs)
  kept_rest cs j ss current before go last k r = record {
    sections = r.sections;
    before = r.before;
    rest = r.rest;
    given = r.given;
    plain = r.plain ∙ ap (λ c. (plain_text ss ++ c) ++ joined r.rest) k.content;
  }

  content_rest : (t : Term) (cs : Terms) (j : ℕ) (ss : List Section) (current : Section) (last : Open) (d : Data) (g : IsTextOf (mean t wants.Any names world) d)
      → IsRest (ss ++ current ∷ []) (section_with (shown_text g.plain)) last (concat_values (j + 1) cs) → IsRest ss current last (concat_values j (term t cs))
  content_rest t cs j ss current last d g r = record {
    sections = r.sections;
    before = r.before;
    rest = g.plain ∷ r.rest;
    given = λ i. and_values (g.given i) (r.given i);
    plain = r.plain ∙ (append_assoc (plain_text (ss ++ current ∷ [])) (shown_text g.plain) (joined r.rest) ∙ ap (λ x. x ++ (shown_text g.plain ++ joined r.rest)) (plain_more ss current));
  }

  piece_rest : (role : Role) (t : Term) (cs : Terms) (j : ℕ) (ss : List Section) (current : Section) (before : List Data) (go : Open → Result Open EvalFault) (last : Open) (d : Data)
      → before ≡ sections_values ss → mean t (role_want role) names world ≡ Ok d → then_open (add_piece role d (before, current)) go ≡ Ok last
      → ((i : ℕ) (rs : List Section) (next : Section) (earlier : List Data) → earlier ≡ sections_values rs → go (earlier, next) ≡ Ok last → IsRest rs next last (concat_values i cs))
      → IsRest ss current last (concat_values j (content_first role t cs))
  piece_rest Content t cs j ss current before go last d b value h later =
      let g = text_given (mean t wants.Any names world) d (sym (mean_shown t names world) ∙ value) in
      content_rest t cs j ss current last d g
      (later (j + 1) (ss ++ current ∷ []) (section_with (shown_text g.plain)) (before ++ section_of current ∷ []) (ap (λ vs. vs ++ section_of current ∷ []) b ∙ sym (values_more ss current))
      (ap (λ x. then_open (add_piece Content x (before, current)) go) (sym g.is) ∙ h))
  piece_rest Scale t cs j ss current before go last d b value h later =
      let k = scale_keeps d before current go last h in kept_rest cs j ss current before go last k (later j ss k.next before b k.went)
  piece_rest Font t cs j ss current before go last d b value h later =
      let k : KeepsContent before current go last = record { next = record current { font = Some (value_of d) }; went = h; content = refl } in
      kept_rest cs j ss current before go last k (later j ss k.next before b k.went)
  piece_rest Color t cs j ss current before go last d b value h later =
      let k = color_keeps d before current go last h in kept_rest cs j ss current before go last k (later j ss k.next before b k.went)

  pieces_rest : (all : List FormatPiece) (m k : ℕ) (ps : List FormatPiece) (ts : Terms) (j : ℕ) (ds : List Data) (ss : List Section) (current : Section) (before : List Data) (last : Open)
      → ((a i : ℕ) → a ≡ k + i → slice_get all a ≡ slice_get ps i) → before ≡ sections_values ss
      → values_of (Format all) m k (means ts) wants.Any names world ≡ Ok ds → add_pieces ps ds (before, current) ≡ Ok last → IsRest ss current last (concat_values j (contents ps ts))
  pieces_rest all m k ps no_terms j ds ss current before last at b v h =
      let none : [] ≡ ds = cc in
      let e : is_open (before, current) ≡ is_open last = sym (no_values ps (before, current)) ∙ (ap (λ xs. add_pieces ps xs (before, current)) none ∙ h) in
      subst (λ cs. IsRest ss current last (concat_values j cs)) (sym (no_contents ps)) (finished ss current before last b e)
  pieces_rest all m k [] (term t ts) j ds ss current before last at b v h = finished ss current before last b (sym (no_pieces ds (before, current)) ∙ h)
  pieces_rest all m k (p ∷ ps) (term t ts) j ds ss current before last at b v h =
      let f = first_given _ _ ds v in
      let value : mean t (role_want p.role) names world ≡ Ok f.here = (λ i. mean t (want_of (piece_wanted (sym (at k 0 (omega arith)) i)) wants.Any) names world) ∙ f.given in
      piece_rest p.role t (contents ps ts) j ss current before (add_pieces ps f.rest) last f.here b value (ap (λ xs. add_pieces (p ∷ ps) xs (before, current)) (sym f.is) ∙ h)
      (λ i rs next earlier c went. pieces_rest all m (k + 1) ps ts i f.rest rs next earlier last (λ a q e. at a (suc q) (omega arith)) c f.later_given went)

-- ---- the first piece is a content

no_text_color : (c : Option FixedColor) (s : List ℕ) → read_as_color c ≡ Ok (text s) → ⊥
no_text_color (Some c) s h = absurd (cc)
no_text_color None s h = absurd (cc)

color_is_no_text : (s : List ℕ) → fit wants.Color (text s) ≡ Ok (text s) → ⊥
color_is_no_text s h = no_text_color _ s h

first_is_content : (role : Role) (t : Term) (names : BoundOutcomes) (world : World) (s : List ℕ) → mean t (role_want role) names world ≡ Ok (text s) → role ≡ Content
first_is_content Content t names world s h = refl
first_is_content Scale t names world s h = absurd (let k = each_value_is_fitted t wants.Number names world (text s) h in cc)
first_is_content Font t names world s h = absurd (let k = each_value_is_fitted t (wants.List items.Text None) names world (text s) h in cc)
first_is_content Color t names world s h = absurd (color_is_no_text s (each_value_is_fitted t wants.Color names world (text s) h))

one_more : (i : ℕ) → 1 + i ≡ suc i
one_more i = omega arith

after_content : (p : FormatPiece) (ps : List FormatPiece) (t : Term) (ts : Terms) (names : BoundOutcomes) (world : World) (rest : List Data) (s : List ℕ) (d : Data)
    → mean t (role_want p.role) names world ≡ Ok (text s) → values_of (Format (p ∷ ps)) (length (means (term t ts))) 1 (means ts) wants.Any names world ≡ Ok rest
    → closed (add_pieces ps rest ([], section_with s)) ≡ Ok d → IsOfContents d (mean (node Concat (contents (p ∷ ps) (term t ts))) wants.Any names world)
after_content p ps t ts names world rest s d value later h =
    let content = first_is_content p.role t names world s value in
    let c = closed_given (add_pieces ps rest ([], section_with s)) d h in
    let cs = contents ps ts in
    let n = length (means (term t cs)) in
    let r = pieces_rest n names world (p ∷ ps) (length (means (term t ts))) 1 ps ts 1 rest [] (section_with s) [] c.last (λ a i e. ap (slice_get (p ∷ ps)) (e ∙ one_more i)) refl later c.given in
    let shown_value : mean t wants.Shown names world ≡ Ok (text s) = ap (λ role. mean t (role_want role) names world) (sym content) ∙ value in
    let g = text_given (mean t wants.Any names world) (text s) (sym (mean_shown t names world) ∙ shown_value) in
    let same : s ≡ shown_text g.plain = let k = g.is in cc in
    let plain : shown_text g.plain ++ joined r.rest ≡ plain_text (r.sections ++ c.last.1 ∷ []) = ap (λ x. x ++ joined r.rest) (sym same) ∙ sym (plain_more r.sections c.last.1 ∙ r.plain) in
    record {
      sections = r.sections ++ c.last.1 ∷ [];
      value = c.is ∙ (ap (λ vs. list (items_of (vs ++ section_of c.last.1 ∷ []))) r.before ∙ ap (λ vs. list (items_of vs)) (sym (values_more r.sections c.last.1)));
      plain = ap (λ role. mean (node Concat (content_first role t cs)) wants.Any names world) content
          ∙ ((λ i. then_values (and_values (g.given i) (r.given i)) (λ ds. then_value (concat_of ds) (fit wants.Any))) ∙ ap (λ x. Ok (text x)) plain);
    }

by_first : (p : FormatPiece) (ps : List FormatPiece) (t : Term) (ts : Terms) (names : BoundOutcomes) (world : World) (here : Data) (rest : List Data) (d : Data)
    → mean t (role_want p.role) names world ≡ Ok here → values_of (Format (p ∷ ps)) (length (means (term t ts))) 1 (means ts) wants.Any names world ≡ Ok rest
    → format_of (p ∷ ps) (here ∷ rest) ≡ Ok d → IsOfContents d (mean (node Concat (contents (p ∷ ps) (term t ts))) wants.Any names world)
by_first p ps t ts names world (text s) rest d value later h = after_content p ps t ts names world rest s d value later h
by_first p ps t ts names world null rest d value later h = absurd (cc)
by_first p ps t ts names world (boolean b) rest d value later h = absurd (cc)
by_first p ps t ts names world (number z) rest d value later h = absurd (cc)
by_first p ps t ts names world (color c) rest d value later h = absurd (cc)
by_first p ps t ts names world (list es) rest d value later h = absurd (cc)
by_first p ps t ts names world (map qs) rest d value later h = absurd (cc)

no_format : (ds : List Data) (d : Data) → format_of [] ds ≡ Ok d → ⊥
no_format [] d h = absurd (cc)
no_format (e ∷ ds) d h = absurd (cc)

pub joined_contents : FormatsJoinTheirContents
joined_contents [] ts names world d h =
    let v = values_given (values_of (Format []) (length (means ts)) 0 (means ts) wants.Any names world) _ d h in
    absurd (no_format v.value d (any_last (format_of [] v.value) d v.went))
joined_contents (p ∷ ps) no_terms names world d h = absurd (cc)
joined_contents (p ∷ ps) (term t ts) names world d h =
    let v = values_given (values_of (Format (p ∷ ps)) (length (means (term t ts))) 0 (means (term t ts)) wants.Any names world) _ d h in
    let f = first_given _ _ v.value v.given in
    let formatted : format_of (p ∷ ps) (f.here ∷ f.rest) ≡ Ok d = ap (format_of (p ∷ ps)) (sym f.is) ∙ any_last (format_of (p ∷ ps) v.value) d v.went in
    by_first p ps t ts names world f.here f.rest d f.given f.later_given formatted
