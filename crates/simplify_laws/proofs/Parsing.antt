-- What reads without values of the global state and is not outside is parsed.
use Rattle.std.proofs.Common.{◌≡◌, ◌∙◌, ℕ, ◌+◌, ◌-◌, ◌<◌, ℤ, List, [], ◌∷◌, ◌++◌, length, Bool, true, false, Option, Some, None, Result, Ok, Err, refl, ap, sym, subst, append_assoc, arith}
use Rattle.std.proofs.lemmas.Bool.{ne_eqb, lt-ltb, or_parts}
use Rattle.std.specs.Prelude.{not, ◌&&◌, ◌||◌, nat_eq, nat_lt, is_none, if◌then◌else◌}
use Rattle.decimal_json.specs.Accessors.{is_object}
use Rattle.decimal_json.specs.Tree.{Tree, null, boolean, number, text, list, object, Trees, no_trees, tree, Fields, no_fields, field}
use Rattle.decimal_json.specs.declared.paths.PathPart.{PathPart}
use Rattle.decimal_json.specs.declared.paths.PathPart.TheVariants.{Key}
use Rattle.fixed_num.specs.Decimal.{read_text}
use Rattle.fixed_num.specs.declared.decimal.NumFault.{NumFault}
use Rattle.prop_values.specs.Data as values
use Rattle.prop_values.specs.Data.{Data, pairs_of}
use Rattle.prop_values.specs.Equality.{at_key}
use Rattle.prop_values.specs.JsonData.{json_data}
use Rattle.expr_syntax.specs.Elements.{Element, head_text, head_name, name_in, second, second_text, option_named}
use Rattle.expr_syntax.specs.Names.{row, name_of}
use Rattle.expr_syntax.specs.Parts.{operator_of, var_operator}
use Rattle.expr_syntax.specs.ReadTerms.{names_within}
use Rattle.expr_syntax.specs.Reading.{Read, Reader, read, options, elements, members, array_read, named_read, number_read, literal_read, data_read, global_read, global_term, arguments, and_term, then_node, with_operator, names_in, at, is_part, then_term, then_sections, with_piece, options_read, option_read, section_read, sections_read, no_sections, all_sections, then_format}
use Rattle.expr_syntax.specs.Rows.{allows, element_place, is_last}
use Rattle.expr_syntax.specs.Scopes.{Scope, globals, is_known, global_at}
use Rattle.expr_syntax.specs.Standing as standing
use Rattle.expr_syntax.specs.Standing.{Walker, stands, in_element, in_section, some_element, some_option, some_section, array_stands, is_outside_node, is_for_global, layout_outside, outside_part, outside_sections, other_options}
use Rattle.expr_syntax.specs.Term.{Term, literal, node, no_terms, terms_of}
use Rattle.expr_syntax.specs.declared.expression.Operator.{Operator}
use Rattle.expr_syntax.specs.declared.expression.Operator.TheVariants.{Var, Format}
use Rattle.expr_syntax.specs.declared.fault.SynFault.{SynFault}
use Rattle.expr_syntax.specs.declared.fault.SynCode.{SynCode}
use Rattle.expr_syntax.specs.declared.fault.SynCode.TheVariants as code
use Rattle.expr_syntax.specs.declared.names.Name.{Name}
use Rattle.expr_syntax.specs.declared.parts.FormatPiece.{FormatPiece}
use Rattle.expr_syntax.specs.declared.parts.Role.{Role}
use Rattle.expr_syntax.specs.declared.parts.Role.TheVariants.{Content}
use Rattle.expr_syntax.specs.declared.rows.ElementLayout.{ElementLayout}
use Rattle.expr_syntax.specs.declared.rows.ElementLayout.TheVariants as layouts
use Rattle.expr_syntax.specs.declared.rows.ElementPlace.{ElementPlace}
use Rattle.expr_syntax.specs.declared.rows.ElementPlace.TheVariants.{Part, Argument, Output}
use Rattle.expr_syntax.proofs.CountLaws.{count_trees}
use Rattle.simplify_laws.proofs.ParsedTrees.{Names, Values, HereOr, HasValue, HasVariable, HasGlobal, HasArguments, HasSections, LaidBy, MoreTerms, MorePieces, is_image_tree, Parsed, ParsedArguments, ParsedSections, ParsedOptions, IsIn}
use Rattle.simplify_laws.proofs.ReadBack.{FormatArguments, Sought, body_read, in_either, in_within, readers_count, walkers_count}
use Rattle.simplify_laws.proofs.Inside.{body_stands}

-- ---- answers that are no faults

and_ok : (r : Read) (later : Result (List Term) SynFault) (us : List Term) → and_term r later ≡ Ok us → (u : Term) × (xs : List Term) × (r ≡ Ok u) × (later ≡ Ok xs) × (us ≡ u ∷ xs)
and_ok (Ok t) (Ok ts) us h = let q : t ∷ ts ≡ us = cc in (t, ts, refl, refl, sym q)
and_ok (Ok t) (Err f) us h = absurd (cc)
and_ok (Err f) later us h = absurd (cc)

node_ok : (op : Operator) (r : Result (List Term) SynFault) (a : Term) → then_node op r ≡ Ok a → (us : List Term) × (r ≡ Ok us) × (a ≡ node op (terms_of us))
node_ok op (Ok us) a h = let q : node op (terms_of us) ≡ a = cc in (us, refl, sym q)
node_ok op (Err f) a h = absurd (cc)

operator_ok : (l : ElementLayout) (es : List (Element Reader)) (o : Result Operator SynCode) (sc : Scope) (p : List PathPart) (a : Term) → with_operator l es o sc p ≡ Ok a →
    (op : Operator) × (o ≡ Ok op) × (then_node op (arguments l (length es) 0 es (names_in op sc) sc p) ≡ Ok a)
operator_ok l es (Ok op) sc p a h = (op, refl, h)
operator_ok l es (Err c) sc p a h = absurd (cc)

sections_ok : (r : Result FormatArguments SynFault) (go : FormatArguments → Result FormatArguments SynFault) (found : FormatArguments) → then_sections r go ≡ Ok found → (more : FormatArguments) × (r ≡ Ok more) × (go more ≡ Ok found)
sections_ok (Ok more) go found h = (more, refl, h)
sections_ok (Err f) go found h = absurd (cc)

term_ok : (i : ℕ) (role : Role) (r : Read) (found more : FormatArguments) → then_term r (λ t. Ok (with_piece i role found t)) ≡ Ok more → (u : Term) × (r ≡ Ok u) × (more ≡ with_piece i role found u)
term_ok i role (Ok t) found more h = let q : with_piece i role found t ≡ more = cc in (t, refl, sym q)
term_ok i role (Err f) found more h = absurd (cc)

format_ok : (r : Result FormatArguments SynFault) (a : Term) → then_format r ≡ Ok a → (found : FormatArguments) × (r ≡ Ok found) × (a ≡ node (Format found.pieces) (terms_of found.arguments))
format_ok (Ok found) a h = let q : node (Format found.pieces) (terms_of found.arguments) ≡ a = cc in (found, refl, sym q)
format_ok (Err f) a h = absurd (cc)

fits_ok : (fits : Bool) (l : ElementLayout) (name : Name) (ts : Trees) (es : List (Element Reader)) (sc : Scope) (p : List PathPart) (a : Term) → body_read fits l name ts es sc p ≡ Ok a → (fits ≡ true) × (body_read true l name ts es sc p ≡ Ok a)
fits_ok true l name ts es sc p a h = (refl, h)
fits_ok false l name ts es sc p a h = absurd (cc)

if_inside : (outside rest : Bool) → (if outside then true else rest) ≡ false → (outside ≡ false) × (rest ≡ false)
if_inside true rest h = absurd (cc)
if_inside false rest h = (refl, h)

known_ok : (known : Bool) (s : List ℕ) (op : Operator) → (if known then Ok (Var s) else Err code.UnknownVar) ≡ Ok op → (known ≡ true) × (op ≡ Var s)
known_ok true s op h = let q : Var s ≡ op = cc in (refl, sym q)
known_ok false s op h = absurd (cc)

-- nothing is found among parts
no_argument_ok : (n i : ℕ) (es : List (Element Reader)) (inner sc : Scope) (p : List PathPart) (us : List Term) → arguments layouts.Variable n i es inner sc p ≡ Ok us → us ≡ []
no_argument_ok n i [] inner sc p us h = let q : [] ≡ us = cc in sym q
no_argument_ok n i (e ∷ es) inner sc p us h = by (nat_eq i 0) (no_argument_ok n (i + 1) es inner sc p us) h
  where
    by : (b : Bool) → (arguments layouts.Variable n (i + 1) es inner sc p ≡ Ok us → us ≡ []) → (if is_part (if b then Part else Part) then arguments layouts.Variable n (i + 1) es inner sc p else and_term (e.0 (if is_last n i then inner else sc) (at p i)) (arguments layouts.Variable n (i + 1) es inner sc p)) ≡ Ok us → us ≡ []
    by true later q = later q
    by false later q = later q

not_zero : (i : ℕ) → 0 < i → nat_eq i 0 ≡ false
not_zero i h = ne_eqb i 0 (λ e. omega (arith, h))

no_image : (b : Bool) (x : Bool) → b ≡ true → (b && x) ≡ false → x ≡ false
no_image true x e h = h
no_image false x e h = absurd (cc)

append_none : {A : Type 0} (xs : List A) → xs ++ [] ≡ xs
append_none [] = refl
append_none (x ∷ xs) = ap (λ zs. x ∷ zs) (append_none xs)

module _ (g : Values) (sought : Sought) (is : is_for_global sought ≡ false) where
  abbrev CanParse : Tree → Type 0
  CanParse t = (N : Names) (f : Bool) (a : Term) (sc : Scope) (p : List PathPart) → IsIn sc N [] → read t sc p ≡ Ok a → stands t sought f ≡ false → (b : Term) × Parsed g t N f a b

  abbrev ArgumentsParse : Trees → Type 0
  ArgumentsParse ts = (l : ElementLayout) (n i : ℕ) (N I : Names) (f : Bool) (us : List Term) (inner sc : Scope) (p : List PathPart) → IsIn inner I [] → IsIn sc N [] →
      arguments l n i (elements ts) inner sc p ≡ Ok us → some_element l n i (standing.elements ts) sought f ≡ false → (vs : List Term) × ParsedArguments g l n i ts N I f us vs

  abbrev FoundSections : Trees → ℕ → Bool → Names → FormatArguments → FormatArguments → Type 0
  FoundSections ts i follows N found more =
      (ps : List FormatPiece) × (us : List Term) × (vs : List Term) × (more.pieces ≡ found.pieces ++ ps) × (more.arguments ≡ found.arguments ++ us) × ParsedSections g false i follows ts N ps us vs

  abbrev SectionsParse : Trees → Type 0
  SectionsParse ts = (i : ℕ) (follows : Bool) (N : Names) (sc : Scope) (p : List PathPart) (found more : FormatArguments) → 0 < i → IsIn sc N [] →
      sections_read i follows (elements ts) sc p found ≡ Ok more → some_section i follows (standing.elements ts) sought ≡ false → outside_sections i follows ts ≡ false → FoundSections ts i follows N found more

  abbrev OptionsParse : Fields → Type 0
  OptionsParse fs = (i : ℕ) (N : Names) (sc : Scope) (p : List PathPart) (found more : FormatArguments) → IsIn sc N [] →
      options_read i (members fs) sc p found ≡ Ok more → some_option (standing.members fs) sought ≡ false →
      (ps : List FormatPiece) × (us : List Term) × (vs : List Term) × (more.pieces ≡ found.pieces ++ ps) × (more.arguments ≡ found.arguments ++ us) × ParsedOptions g i fs N ps us vs

  argument_parses : (t : Tree) (ts : Trees) → CanParse t → ArgumentsParse ts → (l : ElementLayout) (n i : ℕ) (N I : Names) (f : Bool) (us : List Term) (inner sc : Scope) (p : List PathPart) → IsIn inner I [] → IsIn sc N [] → (h : Bool) →
      and_term (read t (if is_last n i then inner else sc) (at p i)) (arguments l n (i + 1) (elements ts) inner sc p) ≡ Ok us → (stands t sought h || some_element l n (i + 1) (standing.elements ts) sought f) ≡ false →
      (vs : List Term) × MoreTerms us vs (λ u v xs ys. Parsed g t (if is_last n i then I else N) h u v × ParsedArguments g l n (i + 1) ts N I f xs ys)
  argument_parses t ts one others l n i N I f us inner sc p k m h reads inside =
      let (u, xs, u_is, xs_is, us_is) = and_ok (read t (if is_last n i then inner else sc) (at p i)) (arguments l n (i + 1) (elements ts) inner sc p) us reads in
      let (here, later) = or_parts (stands t sought h) (some_element l n (i + 1) (standing.elements ts) sought f) inside in
      let (v, parsed) = one (if is_last n i then I else N) h u (if is_last n i then inner else sc) (at p i) (in_either (is_last n i) inner sc I N [] k m) u_is here in
      let (ys, rest) = others l n (i + 1) N I f xs inner sc p k m xs_is later in
      (v ∷ ys, (u, v, xs, ys, us_is, refl, (parsed, rest)))

  more_parse : (t : Tree) (ts : Trees) → CanParse t → ArgumentsParse ts → ArgumentsParse (tree t ts)
  more_parse t ts one others l n i N I f us inner sc p k m reads inside = by (element_place l n i) reads inside
    where
      by : (place : ElementPlace) → (if is_part place then arguments l n (i + 1) (elements ts) inner sc p else and_term (read t (if is_last n i then inner else sc) (at p i)) (arguments l n (i + 1) (elements ts) inner sc p)) ≡ Ok us →
          (in_element place (stands t) sought f || some_element l n (i + 1) (standing.elements ts) sought f) ≡ false →
          (vs : List Term) × HereOr place f (ParsedArguments g l n (i + 1) ts N I f us vs) (λ h. MoreTerms us vs (λ u v xs ys. Parsed g t (if is_last n i then I else N) h u v × ParsedArguments g l n (i + 1) ts N I f xs ys))
      by Part q r = others l n (i + 1) N I f us inner sc p k m q r
      by Argument q r = argument_parses t ts one others l n i N I f us inner sc p k m false q r
      by Output q r = argument_parses t ts one others l n i N I f us inner sc p k m f q r

  -- ---- sections

  -- what was found after one piece more
  piece_found : (i : ℕ) (role : Role) (found more last : FormatArguments) (u : Term) (ps : List FormatPiece) (us : List Term) → more ≡ with_piece i role found u → last.pieces ≡ more.pieces ++ ps → last.arguments ≡ more.arguments ++ us →
      (last.pieces ≡ found.pieces ++ record { at = i; role = role } ∷ ps) × (last.arguments ≡ found.arguments ++ u ∷ us)
  piece_found i role found more last u ps us e p q =
      let piece : FormatPiece = record { at = i; role = role } in
      let one : more.pieces ≡ found.pieces ++ piece ∷ [] = (λ j. (e j).pieces) in
      let two : more.arguments ≡ found.arguments ++ u ∷ [] = (λ j. (e j).arguments) in
      (p ∙ (ap (λ xs. xs ++ ps) one ∙ append_assoc found.pieces (piece ∷ []) ps), q ∙ (ap (λ xs. xs ++ us) two ∙ append_assoc found.arguments (u ∷ []) us))

  option_parses : (k : List ℕ) (t : Tree) (fs : Fields) → CanParse t → OptionsParse fs → OptionsParse (field k t fs)
  option_parses k t fs one others i N sc p found more m reads inside = by (option_named k) refl
    where
      by : (o : Option Role) → option_named k ≡ o → (ps : List FormatPiece) × (us : List Term) × (vs : List Term) × (more.pieces ≡ found.pieces ++ ps) × (more.arguments ≡ found.arguments ++ us) × ParsedOptions g i (field k t fs) N ps us vs
      by None e = absurd (let bad : Err (record { path = p; code = code.BareObject }) ≡ Ok more = sym (ap (λ o. then_sections (option_read i o k (read t) sc p found) (options_read i (members fs) sc p)) e) ∙ reads in cc)
      by (Some role) e =
          let whole : then_sections (then_term (read t sc (p ++ Key k ∷ [])) (λ x. Ok (with_piece i role found x))) (options_read i (members fs) sc p) ≡ Ok more =
          sym (ap (λ o. then_sections (option_read i o k (read t) sc p found) (options_read i (members fs) sc p)) e) ∙ reads in
          let (next, first, later) = sections_ok (then_term (read t sc (p ++ Key k ∷ [])) (λ x. Ok (with_piece i role found x))) (options_read i (members fs) sc p) more whole in
          let (u, u_is, next_is) = term_ok i role (read t sc (p ++ Key k ∷ [])) found next first in
          let (here, rest) = or_parts (stands t sought false) (some_option (standing.members fs) sought) inside in
          let (v, parsed) = one N false u sc (p ++ Key k ∷ []) m u_is here in
          let (ps, us, vs, pieces, terms, options_parsed) = others i N sc p next more m later rest in
          let (all_pieces, all_terms) = piece_found i role found next more u ps us next_is pieces terms in
          (record { at = i; role = role } ∷ ps, u ∷ us, v ∷ vs, all_pieces, all_terms, (role, e, (ps, refl, (u, v, us, vs, refl, refl, (parsed, options_parsed)))))

  content_parses : (t : Tree) (ts : Trees) → CanParse t → SectionsParse ts → options t ≡ None → standing.options t ≡ None → is_object t ≡ false → ((i : ℕ) (follows : Bool) → 0 < i → outside_part i follows t ≡ false → is_image_tree t ≡ false) →
      (i : ℕ) (follows : Bool) (N : Names) (sc : Scope) (p : List PathPart) (found more : FormatArguments) → 0 < i → IsIn sc N [] →
      sections_read i follows (elements (tree t ts)) sc p found ≡ Ok more → some_section i follows (standing.elements (tree t ts)) sought ≡ false → outside_sections i follows (tree t ts) ≡ false →
      (ps : List FormatPiece) × (us : List Term) × (vs : List Term) × (more.pieces ≡ found.pieces ++ ps) × (more.arguments ≡ found.arguments ++ us)
      × ((is_image_tree t ≡ false) × MorePieces ps (record { at = i; role = Content }) (λ qs. MoreTerms us vs (λ u v xs ys. Parsed g t N false u v × ParsedSections g false (i + 1) true ts N qs xs ys)))
  content_parses t ts one others none nowhere plain no_picture i follows N sc p found more some m reads inside outside =
      let after : nat_lt 0 i ≡ true = lt-ltb 0 i some in
      let whole : then_sections (then_term (read t sc (at p i)) (λ x. Ok (with_piece i Content found x))) (sections_read (i + 1) true (elements ts) sc p) ≡ Ok more =
      sym (ap (λ b. if b then sections_read (i + 1) false (elements ts) sc p found else then_sections (section_read i follows (options t) (read t) sc (at p i) found) (sections_read (i + 1) (is_none (options t)) (elements ts) sc p)) (not_zero i some)
      ∙ ap (λ o. then_sections (section_read i follows o (read t) sc (at p i) found) (sections_read (i + 1) (is_none o) (elements ts) sc p)) none) ∙ reads in
      let (next, first, later) = sections_ok (then_term (read t sc (at p i)) (λ x. Ok (with_piece i Content found x))) (sections_read (i + 1) true (elements ts) sc p) more whole in
      let (u, u_is, next_is) = term_ok i Content (read t sc (at p i)) found next first in
      let (here, rest) = or_parts (stands t sought false) (some_section (i + 1) true (standing.elements ts) sought)
      (sym (ap (λ o. in_section i follows o (stands t) sought || some_section (i + 1) (nat_lt 0 i && is_none o) (standing.elements ts) sought) nowhere
      ∙ ap (λ b. (b && stands t sought false) || some_section (i + 1) (b && true) (standing.elements ts) sought) after) ∙ inside) in
      let (own, others_outside) = or_parts (outside_part i follows t) (outside_sections (i + 1) true ts)
      (sym (ap (λ b. outside_part i follows t || outside_sections (i + 1) (nat_lt 0 i && not b) ts) plain
      ∙ ap (λ b. outside_part i follows t || outside_sections (i + 1) (b && true) ts) after) ∙ outside) in
      let (v, parsed) = one N false u sc (at p i) m u_is here in
      let (ps, us, vs, pieces, terms, sections_parsed) = others (i + 1) true N sc p next more (omega arith) m later rest others_outside in
      let (all_pieces, all_terms) = piece_found i Content found next more u ps us next_is pieces terms in
      (record { at = i; role = Content } ∷ ps, u ∷ us, v ∷ vs, all_pieces, all_terms, (no_picture i follows some own, (ps, refl, (u, v, us, vs, refl, refl, (parsed, sections_parsed)))))

  object_parses : (fs : Fields) (ts : Trees) → OptionsParse fs → SectionsParse ts → SectionsParse (tree (object fs) ts)
  object_parses fs ts some_options others i follows N sc p found more some m reads inside outside = by follows (nat_lt 0 i) whole inside outside
    where
      whole : then_sections (section_read i follows (Some (members fs)) (read (object fs)) sc (at p i) found) (sections_read (i + 1) false (elements ts) sc p) ≡ Ok more
      whole = sym (ap (λ b. if b then sections_read (i + 1) false (elements ts) sc p found else then_sections (section_read i follows (Some (members fs)) (read (object fs)) sc (at p i) found) (sections_read (i + 1) false (elements ts) sc p)) (not_zero i some)) ∙ reads

      ends : (c : Bool) → (c && false) ≡ false
      ends true = refl
      ends false = refl

      by : (b c : Bool) → then_sections (section_read i b (Some (members fs)) (read (object fs)) sc (at p i) found) (sections_read (i + 1) false (elements ts) sc p) ≡ Ok more →
          ((b && some_option (standing.members fs) sought) || some_section (i + 1) (c && false) (standing.elements ts) sought) ≡ false →
          ((b && other_options fs) || outside_sections (i + 1) (c && false) ts) ≡ false → FoundSections (tree (object fs) ts) i b N found more
      by false c q r o = absurd (cc)
      by true c q r o =
          let (next, first, later) = sections_ok (options_read i (members fs) sc (at p i) found) (sections_read (i + 1) false (elements ts) sc p) more q in
          let (here, rest) = or_parts (some_option (standing.members fs) sought) (some_section (i + 1) false (standing.elements ts) sought) (sym (ap (λ b. some_option (standing.members fs) sought || some_section (i + 1) b (standing.elements ts) sought) (ends c)) ∙ r) in
          let (own, out) = or_parts (other_options fs) (outside_sections (i + 1) false ts) (sym (ap (λ b. other_options fs || outside_sections (i + 1) b ts) (ends c)) ∙ o) in
          let (ps, us, vs, pieces, terms, parsed) = some_options i N sc (at p i) found next m first here in
          let (qs, xs, ys, more_pieces, more_terms, sections_parsed) = others (i + 1) false N sc p next more (omega arith) m later rest out in (
            ps ++ qs,
            us ++ xs,
            vs ++ ys,
            more_pieces ∙ (ap (λ zs. zs ++ qs) pieces ∙ append_assoc found.pieces ps qs),
            more_terms ∙ (ap (λ zs. zs ++ xs) terms ∙ append_assoc found.arguments us xs),
            (refl, (ps, qs, us, xs, vs, ys, refl, refl, refl, parsed, sections_parsed)),
          )

  whole_parses : (ts : Trees) → ((t : Tree) (us : Trees) → ts ≡ tree t us → SectionsParse us) → (N : Names) (sc : Scope) (p : List PathPart) (more : FormatArguments) → IsIn sc N [] →
      all_sections (elements ts) sc p ≡ Ok more → some_section 0 false (standing.elements ts) sought ≡ false → outside_sections 0 false ts ≡ false →
      (vs : List Term) × ParsedSections g true 0 false ts N more.pieces more.arguments vs
  whole_parses no_trees later N sc p more m reads inside outside =
      let q : more ≡ no_sections = cc in ([], ((λ i. (q i).pieces), (λ i. (q i).arguments), refl))
  whole_parses (tree t ts) later N sc p more m reads inside outside =
      let (here, rest) = or_parts (in_section 0 false (standing.options t) (stands t) sought) (some_section 1 false (standing.elements ts) sought) inside in
      let (own, out) = or_parts (outside_part 0 false t) (outside_sections 1 false ts) outside in
      let (ps, us, vs, pieces, terms, parsed) = later t ts refl 1 false N sc p no_sections more (omega arith) m reads rest out in
      (vs, subst (λ xs. ParsedSections g false 1 false ts N xs more.arguments vs) (sym pieces) (subst (λ xs. ParsedSections g false 1 false ts N ps xs vs) (sym terms) parsed))

  -- ---- nodes

  module _ (name : Name) (ts : Trees) (N : Names) (f : Bool) (a : Term) (sc : Scope) (p : List PathPart) (m : IsIn sc N []) where
    abbrev Laid : ElementLayout → Type 0
    Laid l =
        (b : Term) × LaidBy l (HasValue ts a b) (HasVariable ts N a b) (HasGlobal g ts a b)
        (HasSections f a b (λ ps us vs. ParsedSections g true 0 false ts N ps us vs))
        (HasArguments l name ts f a b (λ op us vs. ParsedArguments g l (count_trees ts) 0 ts N (names_within op N) f us vs))

    abbrev ByArguments : ElementLayout → Type 0
    ByArguments l = (b : Term) × HasArguments l name ts f a b (λ op us vs. ParsedArguments g l (count_trees ts) 0 ts N (names_within op N) f us vs)

    with_arguments : (l : ElementLayout) → ((n : ℕ) → operator_of l name sc n ts ≡ operator_of l name (globals []) n ts) → ArgumentsParse ts →
        with_operator l (elements ts) (operator_of l name sc (length (elements ts)) ts) sc p ≡ Ok a → layout_outside l ts f ≡ false → some_element l (count_trees ts) 0 (standing.elements ts) sought f ≡ false → ByArguments l
    with_arguments l steady all reads outside inside =
        let n = length (elements ts) in
        let (op, op_is, rest) = operator_ok l (elements ts) (operator_of l name sc n ts) sc p a reads in
        let (us, us_is, a_is) = node_ok op (arguments l n 0 (elements ts) (names_in op sc) sc p) a rest in
        let counted : arguments l (count_trees ts) 0 (elements ts) (names_in op sc) sc p ≡ Ok us = ap (λ k. arguments l k 0 (elements ts) (names_in op sc) sc p) (sym (readers_count ts)) ∙ us_is in
        let (vs, parsed) = all l (count_trees ts) 0 N (names_within op N) f us (names_in op sc) sc p (in_within op sc N [] m) m counted inside in (
          node op (terms_of vs),
          (
            op,
            us,
            vs,
            ap (λ k. operator_of l name (globals []) k ts) (sym (readers_count ts)) ∙ (sym (steady n) ∙ op_is),
            outside,
            a_is,
            refl,
            parsed,
          ),
        )

    with_variable : with_operator layouts.Variable (elements ts) (var_operator sc (second_text ts)) sc p ≡ Ok a → (b : Term) × HasVariable ts N a b
    with_variable reads = by (second_text ts) refl reads
      where
        by : (o : Option (List ℕ)) → second_text ts ≡ o → with_operator layouts.Variable (elements ts) (var_operator sc o) sc p ≡ Ok a → (b : Term) × HasVariable ts N a b
        by None e q = absurd (cc)
        by (Some s) e q =
            let (op, op_is, rest) = operator_ok layouts.Variable (elements ts) (if is_known sc s then Ok (Var s) else Err code.UnknownVar) sc p a q in
            let (known, var) = known_ok (is_known sc s) s op op_is in
            let (us, us_is, a_is) = node_ok op (arguments layouts.Variable (length (elements ts)) 0 (elements ts) (names_in op sc) sc p) a rest in
            let none = no_argument_ok (length (elements ts)) 0 (elements ts) (names_in op sc) sc p us us_is in
            let whole : a ≡ node (Var s) no_terms = a_is ∙ (λ i. node (var i) (terms_of (none i))) in
            (a, (s, e, sym (m.known s) ∙ known, whole, whole))

    with_value : literal_read (second ts) p ≡ Ok a → (b : Term) × HasValue ts a b
    with_value reads = by (second ts) refl reads
      where
        of_data : (u : Tree) → second ts ≡ Some u → (r : Result Data NumFault) → json_data u ≡ r → data_read r p ≡ Ok a → (b : Term) × HasValue ts a b
        of_data u e (Ok d) j q = let same : literal d ≡ a = cc in (a, (u, d, e, j, sym same, sym same))
        of_data u e (Err past) j q = absurd (cc)

        by : (o : Option Tree) → second ts ≡ o → literal_read o p ≡ Ok a → (b : Term) × HasValue ts a b
        by None e q = absurd (cc)
        by (Some u) e q = of_data u e (json_data u) refl q

    with_global : global_read (second_text ts) sc p ≡ Ok a → (b : Term) × HasGlobal g ts a b
    with_global reads = by (second_text ts) refl reads
      where
        by : (o : Option (List ℕ)) → second_text ts ≡ o → global_read o sc p ≡ Ok a → (b : Term) × HasGlobal g ts a b
        by None e q = absurd (cc)
        by (Some s) e q =
            let same : global_term s (global_at sc s) ≡ a = cc in
            (global_term s (at_key s (pairs_of g)), (s, e, sym same ∙ ap (global_term s) (m.values s), refl))

    with_format : ((t : Tree) (us : Trees) → ts ≡ tree t us → SectionsParse us) → then_format (all_sections (elements ts) sc p) ≡ Ok a → (not f || outside_sections 0 false ts) ≡ false → some_section 0 false (standing.elements ts) sought ≡ false →
        (b : Term) × HasSections f a b (λ ps us vs. ParsedSections g true 0 false ts N ps us vs)
    with_format sections reads outside inside =
        let (found, found_is, a_is) = format_ok (all_sections (elements ts) sc p) a reads in
        let (here, own) = or_parts (not f) (outside_sections 0 false ts) outside in
        let (vs, parsed) = whole_parses ts sections N sc p found m found_is inside own in
        (node (Format found.pieces) (terms_of vs), (found.pieces, found.arguments, vs, by f here, a_is, refl, parsed))
      where
        by : (b : Bool) → not b ≡ false → b ≡ true
        by true h = refl
        by false h = absurd (cc)

    by_layout : (l : ElementLayout) → ArgumentsParse ts → ((t : Tree) (us : Trees) → ts ≡ tree t us → SectionsParse us) → body_read true l name ts (elements ts) sc p ≡ Ok a → layout_outside l ts f ≡ false → body_stands sought false false true l (standing.elements ts) (count_trees ts) f ≡ false → Laid l
    by_layout layouts.Value all sections reads outside inside = with_value reads
    by_layout layouts.Variable all sections reads outside inside = with_variable reads
    by_layout layouts.Global all sections reads outside inside = with_global reads
    by_layout layouts.Sections all sections reads outside inside = with_format sections reads outside inside
    by_layout layouts.Arguments all sections reads outside inside = with_arguments layouts.Arguments (λ n. refl) all reads outside inside
    by_layout layouts.Choices all sections reads outside inside = with_arguments layouts.Choices (λ n. refl) all reads outside inside
    by_layout layouts.Items all sections reads outside inside = with_arguments layouts.Items (λ n. refl) all reads outside inside
    by_layout layouts.Cases all sections reads outside inside = with_arguments layouts.Cases (λ n. refl) all reads outside inside
    by_layout layouts.Labels all sections reads outside inside = with_arguments layouts.Labels (λ n. refl) all reads outside inside
    by_layout layouts.Stops all sections reads outside inside = with_arguments layouts.Stops (λ n. refl) all reads outside inside
    by_layout layouts.Ramp all sections reads outside inside = with_arguments layouts.Ramp (λ n. refl) all reads outside inside
    by_layout layouts.Bindings all sections reads outside inside = with_arguments layouts.Bindings (λ n. refl) all reads outside inside

  list_parses : (ts : Trees) → ArgumentsParse ts → ((t : Tree) (us : Trees) → ts ≡ tree t us → SectionsParse us) → CanParse (list ts)
  list_parses ts all sections N f a sc p m reads inside = by_head (head_text ts) refl reads inside
    where
      by_name : (o : Option Name) → head_name ts ≡ o → named_read o ts (elements ts) sc p ≡ Ok a → array_stands o ts (standing.elements ts) sought f ≡ false → (b : Term) × Parsed g (list ts) N f a b
      by_name None e q r = absurd (cc)
      by_name (Some name) e q r =
          let l = (row name).layout in
          let (fit, body) = fits_ok (allows (row name).arity (length (elements ts) - 1)) l name ts (elements ts) sc p a q in
          let fits : allows (row name).arity (count_trees ts - 1) ≡ true = ap (λ k. allows (row name).arity (k - 1)) (sym (readers_count ts)) ∙ fit in
          let here : allows (row name).arity (length (standing.elements ts) - 1) ≡ true = ap (λ k. allows (row name).arity (k - 1)) (walkers_count ts) ∙ fits in
          let whole : body_stands sought false (is_outside_node name ts f) true l (standing.elements ts) (count_trees ts) f ≡ false =
          sym (λ i. body_stands sought (is i) (is_outside_node name ts f) (here i) l (standing.elements ts) (walkers_count ts i) f) ∙ r in
          let (out, rest) = if_inside (is_outside_node name ts f) (body_stands sought false false true l (standing.elements ts) (count_trees ts) f) whole in
          let (own, laid_out) = or_parts (row name).is_outside (layout_outside l ts f) out in
          let (b, laid) = by_layout name ts N f a sc p m l all sections body laid_out rest in
          (b, (name, e, own, fits, laid))

      by_head : (head : Option (List ℕ)) → head_text ts ≡ head → array_read head ts (elements ts) sc p ≡ Ok a → array_stands (name_in head) ts (standing.elements ts) sought f ≡ false → (b : Term) × Parsed g (list ts) N f a b
      by_head None e q r = absurd (cc)
      by_head (Some s) e q r = by_name (name_of s) (ap name_in e) q r

  number_parses : (n : List ℕ) → CanParse (number n)
  number_parses n N f a sc p m reads inside = by (read_text n) refl reads
    where
      by : (r : Result ℤ NumFault) → read_text n ≡ r → number_read r p ≡ Ok a → (b : Term) × Parsed g (number n) N f a b
      by (Ok z) e q = let same : literal (values.number z) ≡ a = cc in (a, (z, e, sym same, sym same))
      by (Err past) e q = absurd (cc)

  mutual
    pub tree_parses : (t : Tree) → CanParse t
    tree_parses null = λ N f a sc p m reads inside. (a, (let q : literal values.null ≡ a = cc in (sym q, sym q)))
    tree_parses (boolean c) = λ N f a sc p m reads inside. (a, (let q : literal (values.boolean c) ≡ a = cc in (sym q, sym q)))
    tree_parses (number n) = number_parses n
    tree_parses (text s) = λ N f a sc p m reads inside. (a, (let q : literal (values.text s) ≡ a = cc in (sym q, sym q)))
    tree_parses (list ts) = list_parses ts (arguments_parse ts) (after_parses ts)
    tree_parses (object fs) = λ N f a sc p m reads inside. absurd (cc)

    arguments_parse : (ts : Trees) → ArgumentsParse ts
    arguments_parse no_trees = λ l n i N I f us inner sc p k m reads inside. ([], (let q : [] ≡ us = cc in (sym q, refl)))
    arguments_parse (tree t ts) = more_parse t ts (tree_parses t) (arguments_parse ts)

    after_parses : (ts : Trees) (t : Tree) (us : Trees) → ts ≡ tree t us → SectionsParse us
    after_parses no_trees t us e = absurd (cc)
    after_parses (tree x ts) t us e = let same : ts ≡ us = cc in subst SectionsParse same (sections_parse ts)

    sections_parse : (ts : Trees) → SectionsParse ts
    sections_parse no_trees = λ i follows N sc p found more some m reads inside outside.
        let q : more ≡ found = cc in
        ([], [], [], (λ i. (q i).pieces) ∙ sym (append_none found.pieces), (λ i. (q i).arguments) ∙ sym (append_none found.arguments), (refl, refl, refl))
    sections_parse (tree null ts) = content_parses null ts (tree_parses null) (sections_parse ts) refl refl refl (λ i follows some h. refl)
    sections_parse (tree (boolean c) ts) = content_parses (boolean c) ts (tree_parses (boolean c)) (sections_parse ts) refl refl refl (λ i follows some h. refl)
    sections_parse (tree (number n) ts) = content_parses (number n) ts (tree_parses (number n)) (sections_parse ts) refl refl refl (λ i follows some h. refl)
    sections_parse (tree (text s) ts) = content_parses (text s) ts (tree_parses (text s)) (sections_parse ts) refl refl refl (λ i follows some h. refl)
    sections_parse (tree (list xs) ts) = content_parses (list xs) ts (tree_parses (list xs)) (sections_parse ts) refl refl refl (λ i follows some h. no_image (nat_lt 0 i) (is_image_tree (list xs)) (lt-ltb 0 i some) h)
    sections_parse (tree (object fs) ts) = object_parses fs ts (options_parse fs) (sections_parse ts)

    options_parse : (fs : Fields) → OptionsParse fs
    options_parse no_fields = λ i N sc p found more m reads inside.
        let q : more ≡ found = cc in
        ([], [], [], (λ i. (q i).pieces) ∙ sym (append_none found.pieces), (λ i. (q i).arguments) ∙ sym (append_none found.arguments), (refl, refl, refl))
    options_parse (field k t fs) = option_parses k t fs (tree_parses t) (options_parse fs)
