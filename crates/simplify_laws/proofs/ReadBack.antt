-- What was parsed reads as its term, in each scope with its names, and is not outside.
use Rattle.std.proofs.Common.{◌≡◌, ◌∙◌, ℕ, suc, ◌+◌, ◌-◌, ◌<◌, List, [], ◌∷◌, ◌++◌, length, Bool, true, false, Option, Some, None, Result, Ok, Err, refl, ap, sym, subst, append_assoc, arith}
use Rattle.std.proofs.lemmas.Bool.{ne_eqb}
use Rattle.std.specs.Prelude.{not, ◌||◌, nat_eq, is_none, if◌then◌else◌}
use Rattle.std.specs.Str.{bytes_eq}
use Rattle.decimal_json.specs.Tree.{Tree, null, boolean, number, text, list, object, Trees, no_trees, tree, Fields, no_fields, field}
use Rattle.decimal_json.specs.declared.paths.PathPart.{PathPart}
use Rattle.decimal_json.specs.declared.paths.PathPart.TheVariants.{Key}
use Rattle.prop_values.specs.Data as values
use Rattle.prop_values.specs.Data.{pairs_of}
use Rattle.prop_values.specs.Equality.{at_key}
use Rattle.expr_syntax.specs.BoundNames.{is_among}
use Rattle.expr_syntax.specs.Elements.{Element, head_text, name_in, second, second_text}
use Rattle.expr_syntax.specs.Names.{row}
use Rattle.expr_syntax.specs.Parts.{operator_of, var_operator}
use Rattle.expr_syntax.specs.ReadTerms.{names_within}
use Rattle.expr_syntax.specs.Reading.{Read, Reader, read, options, elements, members, array_read, named_read, node_read, number_read, literal_read, data_read, global_read, global_term, arguments, and_term, then_node, with_operator, names_in, at, fault, is_part, then_term, then_sections, with_piece, options_read, option_read, section_read, sections_read, no_sections, all_sections, then_format, is_value_layout, is_global_layout}
use Rattle.expr_syntax.specs.Rows.{allows, element_place, is_last}
use Rattle.expr_syntax.specs.Scopes.{Scope, globals, frame, global_at}
use Rattle.expr_syntax.specs.Standing as standing
use Rattle.expr_syntax.specs.Standing.{Walker, stands, in_element, in_section, some_element, some_option, some_section, node_stands, array_stands, is_outside_node, is_image_node, layout_outside, outside_part, outside_sections, other_options, is_format_layout, is_for_global}
use Rattle.expr_syntax.specs.Term.{Term, literal, node, no_terms, terms_of}
use Rattle.expr_syntax.specs.declared.expression.Operator.{Operator}
use Rattle.expr_syntax.specs.declared.expression.Operator.TheVariants.{Var, Let, Format}
use Rattle.expr_syntax.specs.declared.fault.SynFault.{SynFault}
use Rattle.expr_syntax.specs.declared.fault.SynCode.TheVariants as code
use Rattle.expr_syntax.specs.declared.names.Name.{Name}
use Rattle.expr_syntax.specs.declared.parts.FormatPiece.{FormatPiece}
use Rattle.expr_syntax.specs.declared.parts.Role.{Role}
use Rattle.expr_syntax.specs.declared.parts.Role.TheVariants.{Content}
use Rattle.expr_syntax.specs.declared.rows.ElementLayout.{ElementLayout}
use Rattle.expr_syntax.specs.declared.rows.ElementLayout.TheVariants as layouts
use Rattle.expr_syntax.specs.declared.rows.ElementPlace.{ElementPlace}
use Rattle.expr_syntax.specs.declared.rows.ElementPlace.TheVariants.{Part, Argument, Output}
use Rattle.expr_syntax.proofs.CountLaws.{count_trees}
use Rattle.simplify_laws.proofs.ParsedTrees.{Names, Values, HereOr, HasValue, HasVariable, HasGlobal, HasArguments, HasSections, LaidBy, MoreTerms, MorePieces, Parsed, ParsedArguments, ParsedSections, ParsedOptions, IsIn}

-- types that have no name outside of their crate
abbrev type_of : {A : Type 0} → A → Type 0
type_of {A} x = A

abbrev domain_of : {A B : Type 0} → (A → B) → Type 0
domain_of {A} f = A

abbrev pub FormatArguments : Type 0
FormatArguments = type_of no_sections

abbrev pub Sought : Type 0
Sought = domain_of is_for_global

pub readers_count : (ts : Trees) → length (elements ts) ≡ count_trees ts
readers_count no_trees = refl
readers_count (tree t ts) = ap suc (readers_count ts)

pub walkers_count : (ts : Trees) → length (standing.elements ts) ≡ count_trees ts
walkers_count no_trees = refl
walkers_count (tree t ts) = ap suc (walkers_count ts)

-- of two, the first or the second
abbrev pub picked : {A : Type 0} → Bool → A → A → A
picked true a b = a
picked false a b = b

pub picked_same : {A : Type 0} (side : Bool) (x a b : A) → a ≡ x → b ≡ x → x ≡ picked side a b
picked_same true x a b p q = sym p
picked_same false x a b p q = sym q

pub picked_more : {A : Type 0} (side : Bool) (u v : A) (xs ys us vs : List A) → us ≡ u ∷ xs → vs ≡ v ∷ ys → picked side u v ∷ picked side xs ys ≡ picked side us vs
picked_more true u v xs ys us vs p q = sym p
picked_more false u v xs ys us vs p q = sym q

picked_join : {A : Type 0} (side : Bool) (u v x y us vs : List A) → us ≡ u ++ x → vs ≡ v ++ y → picked side u v ++ picked side x y ≡ picked side us vs
picked_join true u v x y us vs p q = sym p
picked_join false u v x y us vs p q = sym q

picked_node : (side : Bool) (op : Operator) (us vs : List Term) (a b : Term) → a ≡ node op (terms_of us) → b ≡ node op (terms_of vs) → node op (terms_of (picked side us vs)) ≡ picked side a b
picked_node true op us vs a b p q = sym p
picked_node false op us vs a b p q = sym q

abbrev pub values_at : Bool → Values → Values
values_at side g = picked side [] g

-- ---- scopes

pub among_append : (ns ms : Names) (s : List ℕ) → (is_among ns s || is_among ms s) ≡ is_among (ns ++ ms) s
among_append [] ms s = refl
among_append (n ∷ ns) ms s = by (bytes_eq n s) (among_append ns ms s)
  where
    by : (b : Bool) → (is_among ns s || is_among ms s) ≡ is_among (ns ++ ms) s → ((b || is_among ns s) || is_among ms s) ≡ (b || is_among (ns ++ ms) s)
    by true h = refl
    by false h = h

in_frame : (names : Names) (sc : Scope) (N : Names) (G : Values) → IsIn sc N G → IsIn (frame names sc) (names ++ N) G
in_frame names sc N G h = record {
  known = λ s. ap (λ b. is_among names s || b) (h.known s) ∙ among_append names N s;
  values = h.values;
}

pub in_within : (op : Operator) (sc : Scope) (N : Names) (G : Values) → IsIn sc N G → IsIn (names_in op sc) (names_within op N) G
in_within (Let names) sc N G h = in_frame names sc N G h
in_within op sc N G h = h

pub in_either : (b : Bool) (inner sc : Scope) (I N : Names) (G : Values) → IsIn inner I G → IsIn sc N G → IsIn (if b then inner else sc) (if b then I else N) G
in_either true inner sc I N G h k = h
in_either false inner sc I N G h k = k

pub in_globals : (G : Values) → IsIn (globals G) [] G
in_globals G = record { known = λ s. refl; values = λ s. refl }

-- ---- a node by what is tested at it

abbrev pub body_read : Bool → ElementLayout → Name → Trees → List (Element Reader) → Reader
body_read fits l name ts es scope path =
    if not fits then fault path code.Arity
    else if is_value_layout l then literal_read (second ts) path
    else if is_global_layout l then global_read (second_text ts) scope path
    else if is_format_layout l then then_format (all_sections es scope path)
    else with_operator l es (operator_of l name scope (length es) ts) scope path

pub array_by : (name : Name) (ts : Trees) (es : List (Element Reader)) (sc : Scope) (p : List PathPart) (head : Option (List ℕ)) → name_in head ≡ Some name → array_read head ts es sc p ≡ node_read name ts es sc p
array_by name ts es sc p None h = absurd (cc)
array_by name ts es sc p (Some s) h = ap (λ o. named_read o ts es sc p) h

-- all elements are parts
no_arguments : (n i : ℕ) (es : List (Element Reader)) (inner sc : Scope) (p : List PathPart) → arguments layouts.Variable n i es inner sc p ≡ Ok []
no_arguments n i [] inner sc p = refl
no_arguments n i (e ∷ es) inner sc p = by (nat_eq i 0) (no_arguments n (i + 1) es inner sc p)
  where
    by : (b : Bool) → arguments layouts.Variable n (i + 1) es inner sc p ≡ Ok [] → (if is_part (if b then Part else Part) then arguments layouts.Variable n (i + 1) es inner sc p else and_term (e.0 (if is_last n i then inner else sc) (at p i)) (arguments layouts.Variable n (i + 1) es inner sc p)) ≡ Ok []
    by true h = h
    by false h = h

by_place : {A : Type 0} (place : ElementPlace) (f : Bool) (P : Type 0) (Q : Bool → Type 0) (x y goal : A) → HereOr place f P Q → (P → x ≡ goal) → ((h : Bool) → Q h → y ≡ goal) → (if is_part place then x else y) ≡ goal
by_place Part f P Q x y goal h part argument = part h
by_place Argument f P Q x y goal h part argument = argument false h
by_place Output f P Q x y goal h part argument = argument f h

-- what sections read as, after those that were found
abbrev after : FormatArguments → List FormatPiece → List Term → FormatArguments
after found ps us = record { pieces = found.pieces ++ ps; arguments = found.arguments ++ us }

append_none : {A : Type 0} (xs ys : List A) → ys ≡ [] → xs ++ ys ≡ xs
append_none [] ys h = h
append_none (x ∷ xs) ys h = ap (λ zs. x ∷ zs) (append_none xs ys h)

picked_none : {A : Type 0} (side : Bool) (us vs : List A) → us ≡ [] → vs ≡ [] → picked side us vs ≡ []
picked_none true us vs p q = p
picked_none false us vs p q = q

no_more : (found : FormatArguments) (ps : List FormatPiece) (us : List Term) → ps ≡ [] → us ≡ [] → found ≡ after found ps us
no_more found ps us p q = λ i. record { pieces = sym (append_none found.pieces ps p) i; arguments = sym (append_none found.arguments us q) i }

after_piece : (found : FormatArguments) (i : ℕ) (role : Role) (t : Term) (qs ps : List FormatPiece) (xs us : List Term) → ps ≡ record { at = i; role = role } ∷ qs → us ≡ t ∷ xs → after (with_piece i role found t) qs xs ≡ after found ps us
after_piece found i role t qs ps xs us p q =
    let piece : FormatPiece = record { at = i; role = role } in
    let one = append_assoc found.pieces (piece ∷ []) qs ∙ ap (λ zs. found.pieces ++ zs) (sym p) in
    let two = append_assoc found.arguments (t ∷ []) xs ∙ ap (λ zs. found.arguments ++ zs) (sym q) in
    λ j. record { pieces = one j; arguments = two j }

after_after : (found : FormatArguments) (p q ps : List FormatPiece) (u x us : List Term) → ps ≡ p ++ q → us ≡ u ++ x → after (after found p u) q x ≡ after found ps us
after_after found p q ps u x us h k =
    let one = append_assoc found.pieces p q ∙ ap (λ zs. found.pieces ++ zs) (sym h) in
    let two = append_assoc found.arguments u x ∙ ap (λ zs. found.arguments ++ zs) (sym k) in
    λ j. record { pieces = one j; arguments = two j }

not_zero : (i : ℕ) → 0 < i → nat_eq i 0 ≡ false
not_zero i h = ne_eqb i 0 (λ e. omega (arith, h))

module _ (g : Values) (side : Bool) where
  abbrev ReadsAs : Tree → Type 0
  ReadsAs t = (N : Names) (f : Bool) (a b : Term) → Parsed g t N f a b → (sc : Scope) (p : List PathPart) → IsIn sc N (values_at side g) → read t sc p ≡ Ok (picked side a b)

  abbrev ArgumentsRead : Trees → Type 0
  ArgumentsRead ts = (l : ElementLayout) (n i : ℕ) (N I : Names) (f : Bool) (us vs : List Term) → ParsedArguments g l n i ts N I f us vs →
      (inner sc : Scope) (p : List PathPart) → IsIn inner I (values_at side g) → IsIn sc N (values_at side g) → arguments l n i (elements ts) inner sc p ≡ Ok (picked side us vs)

  abbrev SectionsRead : Trees → Type 0
  SectionsRead ts = (i : ℕ) (follows : Bool) (N : Names) (ps : List FormatPiece) (us vs : List Term) → 0 < i → ParsedSections g false i follows ts N ps us vs →
      (sc : Scope) (p : List PathPart) (found : FormatArguments) → IsIn sc N (values_at side g) → sections_read i follows (elements ts) sc p found ≡ Ok (after found ps (picked side us vs))

  abbrev OptionsRead : Fields → Type 0
  OptionsRead fs = (i : ℕ) (N : Names) (ps : List FormatPiece) (us vs : List Term) → ParsedOptions g i fs N ps us vs →
      (sc : Scope) (p : List PathPart) (found : FormatArguments) → IsIn sc N (values_at side g) → options_read i (members fs) sc p found ≡ Ok (after found ps (picked side us vs))

  -- an argument more
  more_read : (t : Tree) (ts : Trees) → ReadsAs t → ArgumentsRead ts → ArgumentsRead (tree t ts)
  more_read t ts one others l n i N I f us vs h inner sc p k m =
      by_place (element_place l n i) f _ _ _ _ _ h
      (λ q. others l n (i + 1) N I f us vs q inner sc p k m)
      (λ e q.
      let (u, v, xs, ys, us_is, vs_is, (here, later)) = q in
      (λ j. and_term
      (one (if is_last n i then I else N) e u v here (if is_last n i then inner else sc) (at p i) (in_either (is_last n i) inner sc I N (values_at side g) k m) j)
      (others l n (i + 1) N I f xs ys later inner sc p k m j))
      ∙ ap Ok (picked_more side u v xs ys us vs us_is vs_is))

  -- a piece more
  piece_read : (i : ℕ) (role : Role) (r : Read) (found : FormatArguments) (go : FormatArguments → Result FormatArguments SynFault) (u v : Term) (xs ys us vs : List Term) (qs ps : List FormatPiece) →
      r ≡ Ok (picked side u v) → ps ≡ record { at = i; role = role } ∷ qs → us ≡ u ∷ xs → vs ≡ v ∷ ys →
      ((more : FormatArguments) → go more ≡ Ok (after more qs (picked side xs ys))) →
      then_sections (then_term r (λ t. Ok (with_piece i role found t))) go ≡ Ok (after found ps (picked side us vs))
  piece_read i role r found go u v xs ys us vs qs ps reads ps_is us_is vs_is later =
      ap (λ x. then_sections (then_term x (λ t. Ok (with_piece i role found t))) go) reads
      ∙ (later (with_piece i role found (picked side u v))
      ∙ ap Ok (after_piece found i role (picked side u v) qs ps (picked side xs ys) (picked side us vs) ps_is (sym (picked_more side u v xs ys us vs us_is vs_is))))

  option_more : (k : List ℕ) (t : Tree) (fs : Fields) → ReadsAs t → OptionsRead fs → OptionsRead (field k t fs)
  option_more k t fs one others i N ps us vs h sc p found m =
      let (role, named, (qs, ps_is, (u, v, xs, ys, us_is, vs_is, (here, later)))) = h in
      ap (λ o. then_sections (option_read i o k (read t) sc p found) (options_read i (members fs) sc p)) named
      ∙ piece_read i role (read t sc (p ++ Key k ∷ [])) found (options_read i (members fs) sc p) u v xs ys us vs qs ps
      (one N false u v here sc (p ++ Key k ∷ []) m) ps_is us_is vs_is
      (λ more. others i N qs xs ys later sc p more m)

  content_more : (t : Tree) (ts : Trees) → ReadsAs t → SectionsRead ts → options t ≡ None → (i : ℕ) (follows : Bool) (N : Names) (ps : List FormatPiece) (us vs : List Term) → 0 < i →
      MorePieces ps (record { at = i; role = Content }) (λ qs. MoreTerms us vs (λ u v xs ys. Parsed g t N false u v × ParsedSections g false (i + 1) true ts N qs xs ys)) →
      (sc : Scope) (p : List PathPart) (found : FormatArguments) → IsIn sc N (values_at side g) → sections_read i follows (elements (tree t ts)) sc p found ≡ Ok (after found ps (picked side us vs))
  content_more t ts one others none i follows N ps us vs some h sc p found m =
      let (qs, ps_is, (u, v, xs, ys, us_is, vs_is, (here, later))) = h in
      ap (λ b. if b then sections_read (i + 1) false (elements ts) sc p found else then_sections (section_read i follows (options t) (read t) sc (at p i) found) (sections_read (i + 1) (is_none (options t)) (elements ts) sc p)) (not_zero i some)
      ∙ (ap (λ o. then_sections (section_read i follows o (read t) sc (at p i) found) (sections_read (i + 1) (is_none o) (elements ts) sc p)) none
      ∙ piece_read i Content (read t sc (at p i)) found (sections_read (i + 1) true (elements ts) sc p) u v xs ys us vs qs ps
      (one N false u v here sc (at p i) m) ps_is us_is vs_is
      (λ more. others (i + 1) true N qs xs ys (omega arith) later sc p more m))

  section_more : (fs : Fields) (ts : Trees) → OptionsRead fs → SectionsRead ts → SectionsRead (tree (object fs) ts)
  section_more fs ts some_options others i follows N ps us vs some h sc p found m =
      let (follow, (x, y, u, v, w, z, ps_is, us_is, vs_is, here, later)) = h in
      ap (λ b. if b then sections_read (i + 1) false (elements ts) sc p found else then_sections (section_read i follows (Some (members fs)) (read (object fs)) sc (at p i) found) (sections_read (i + 1) false (elements ts) sc p)) (not_zero i some)
      ∙ (ap (λ b. then_sections (section_read i b (Some (members fs)) (read (object fs)) sc (at p i) found) (sections_read (i + 1) false (elements ts) sc p)) follow
      ∙ (ap (λ r. then_sections r (sections_read (i + 1) false (elements ts) sc p)) (some_options i N x u w here sc (at p i) found m)
      ∙ (others (i + 1) false N y v z (omega arith) later sc p (after found x (picked side u w)) m
      ∙ ap Ok (after_after found x y ps (picked side u w) (picked side v z) (picked side us vs) ps_is (sym (picked_join side u w v z us vs us_is vs_is))))))

  whole_sections : (ts : Trees) → ((t : Tree) (us : Trees) → ts ≡ tree t us → SectionsRead us) → (N : Names) (ps : List FormatPiece) (us vs : List Term) →
      ParsedSections g true 0 false ts N ps us vs → (sc : Scope) (p : List PathPart) → IsIn sc N (values_at side g) → all_sections (elements ts) sc p ≡ Ok (after no_sections ps (picked side us vs))
  whole_sections no_trees later N ps us vs h sc p m = ap Ok (no_more no_sections ps (picked side us vs) h.0 (picked_none side us vs h.1 h.2))
  whole_sections (tree t ts) later N ps us vs h sc p m = later t ts refl 1 false N ps us vs (omega arith) h sc p no_sections m

  -- ---- nodes

  module _ (name : Name) (ts : Trees) (N : Names) (f : Bool) (a b : Term) (sc : Scope) (p : List PathPart) (m : IsIn sc N (values_at side g)) where
    with_arguments : (l : ElementLayout) → ((n : ℕ) → operator_of l name sc n ts ≡ operator_of l name (globals []) n ts) → ArgumentsRead ts →
        HasArguments l name ts f a b (λ op us vs. ParsedArguments g l (count_trees ts) 0 ts N (names_within op N) f us vs) →
        with_operator l (elements ts) (operator_of l name sc (length (elements ts)) ts) sc p ≡ Ok (picked side a b)
    with_arguments l steady all h =
        let (op, us, vs, op_is, inside, a_is, b_is, parsed) = h in
        let n = length (elements ts) in
        let as_many : n ≡ count_trees ts = readers_count ts in
        let op_now : operator_of l name sc n ts ≡ Ok op = steady n ∙ (ap (λ k. operator_of l name (globals []) k ts) as_many ∙ op_is) in
        ap (λ o. with_operator l (elements ts) o sc p) op_now
        ∙ (ap (λ k. then_node op (arguments l k 0 (elements ts) (names_in op sc) sc p)) as_many
        ∙ (ap (λ r. then_node op r) (all l (count_trees ts) 0 N (names_within op N) f us vs parsed (names_in op sc) sc p (in_within op sc N (values_at side g) m) m)
        ∙ ap Ok (picked_node side op us vs a b a_is b_is)))

    with_variable : HasVariable ts N a b → with_operator layouts.Variable (elements ts) (operator_of layouts.Variable name sc (length (elements ts)) ts) sc p ≡ Ok (picked side a b)
    with_variable h =
        let (s, named, known, a_is, b_is) = h in
        let n = length (elements ts) in
        ap (λ o. with_operator layouts.Variable (elements ts) (var_operator sc o) sc p) named
        ∙ (ap (λ b. with_operator layouts.Variable (elements ts) (if b then Ok (Var s) else Err code.UnknownVar) sc p) (m.known s ∙ known)
        ∙ (ap (λ r. then_node (Var s) r) (no_arguments n 0 (elements ts) sc sc p)
        ∙ ap Ok (picked_same side (node (Var s) no_terms) a b a_is b_is)))

    by_layout : (l : ElementLayout) → ArgumentsRead ts → ((t : Tree) (us : Trees) → ts ≡ tree t us → SectionsRead us) →
        LaidBy l (HasValue ts a b) (HasVariable ts N a b) (HasGlobal g ts a b)
        (HasSections f a b (λ ps us vs. ParsedSections g true 0 false ts N ps us vs))
        (HasArguments l name ts f a b (λ op us vs. ParsedArguments g l (count_trees ts) 0 ts N (names_within op N) f us vs)) →
        body_read true l name ts (elements ts) sc p ≡ Ok (picked side a b)
    by_layout layouts.Value all sections h =
        let (u, d, there, is, a_is, b_is) = h in
        ap (λ o. literal_read o p) there ∙ (ap (λ r. data_read r p) is ∙ ap Ok (picked_same side (literal d) a b a_is b_is))
    by_layout layouts.Variable all sections h = with_variable h
    by_layout layouts.Global all sections h =
        let (s, named, a_is, b_is) = h in
        ap (λ o. global_read o sc p) named ∙ ap Ok (at_global side s a_is b_is (m.values s))
      where
        at_global : (side : Bool) (s : List ℕ) → a ≡ global_term s (at_key s (pairs_of [])) → b ≡ global_term s (at_key s (pairs_of g)) → global_at sc s ≡ at_key s (pairs_of (values_at side g)) → global_term s (global_at sc s) ≡ picked side a b
        at_global true s a_is b_is v = ap (global_term s) v ∙ sym a_is
        at_global false s a_is b_is v = ap (global_term s) v ∙ sym b_is
    by_layout layouts.Sections all sections h =
        let (ps, us, vs, format, a_is, b_is, parsed) = h in
        ap then_format (whole_sections ts sections N ps us vs parsed sc p m) ∙ ap Ok (picked_node side (Format ps) us vs a b a_is b_is)
    by_layout layouts.Arguments all sections h = with_arguments layouts.Arguments (λ n. refl) all h
    by_layout layouts.Choices all sections h = with_arguments layouts.Choices (λ n. refl) all h
    by_layout layouts.Items all sections h = with_arguments layouts.Items (λ n. refl) all h
    by_layout layouts.Cases all sections h = with_arguments layouts.Cases (λ n. refl) all h
    by_layout layouts.Labels all sections h = with_arguments layouts.Labels (λ n. refl) all h
    by_layout layouts.Stops all sections h = with_arguments layouts.Stops (λ n. refl) all h
    by_layout layouts.Ramp all sections h = with_arguments layouts.Ramp (λ n. refl) all h
    by_layout layouts.Bindings all sections h = with_arguments layouts.Bindings (λ n. refl) all h

  list_read : (ts : Trees) → ArgumentsRead ts → ((t : Tree) (us : Trees) → ts ≡ tree t us → SectionsRead us) → ReadsAs (list ts)
  list_read ts all sections N f a b h sc p m =
      let (name, head, inside, fits, laid) = h in
      let fit : allows (row name).arity (length (elements ts) - 1) ≡ true = ap (λ k. allows (row name).arity (k - 1)) (readers_count ts) ∙ fits in
      array_by name ts (elements ts) sc p (head_text ts) head
      ∙ (ap (λ x. body_read x (row name).layout name ts (elements ts) sc p) fit
      ∙ by_layout name ts N f a b sc p m (row name).layout all sections laid)

  mutual
    pub parsed_reads : (t : Tree) → ReadsAs t
    parsed_reads null = λ N f a b h sc p m. ap Ok (picked_same side (literal values.null) a b h.0 h.1)
    parsed_reads (boolean c) = λ N f a b h sc p m. ap Ok (picked_same side (literal (values.boolean c)) a b h.0 h.1)
    parsed_reads (number n) = λ N f a b h sc p m. ap (λ r. number_read r p) h.1 ∙ ap Ok (picked_same side (literal (values.number h.0)) a b h.2 h.3)
    parsed_reads (text s) = λ N f a b h sc p m. ap Ok (picked_same side (literal (values.text s)) a b h.0 h.1)
    parsed_reads (list ts) = list_read ts (parsed_arguments ts) (parsed_after ts)
    parsed_reads (object fs) = λ N f a b h sc p m. absurd h

    parsed_arguments : (ts : Trees) → ArgumentsRead ts
    parsed_arguments no_trees = λ l n i N I f us vs h inner sc p k m. ap Ok (picked_same side [] us vs h.0 h.1)
    parsed_arguments (tree t ts) = more_read t ts (parsed_reads t) (parsed_arguments ts)

    parsed_after : (ts : Trees) (t : Tree) (us : Trees) → ts ≡ tree t us → SectionsRead us
    parsed_after no_trees t us e = absurd (cc)
    parsed_after (tree x ts) t us e = let same : ts ≡ us = cc in subst SectionsRead same (parsed_sections ts)

    parsed_sections : (ts : Trees) → SectionsRead ts
    parsed_sections no_trees = λ i follows N ps us vs some h sc p found m. ap Ok (no_more found ps (picked side us vs) h.0 (picked_none side us vs h.1 h.2))
    parsed_sections (tree null ts) = λ i follows N ps us vs some h. content_more null ts (parsed_reads null) (parsed_sections ts) refl i follows N ps us vs some h.1
    parsed_sections (tree (boolean c) ts) = λ i follows N ps us vs some h. content_more (boolean c) ts (parsed_reads (boolean c)) (parsed_sections ts) refl i follows N ps us vs some h.1
    parsed_sections (tree (number n) ts) = λ i follows N ps us vs some h. content_more (number n) ts (parsed_reads (number n)) (parsed_sections ts) refl i follows N ps us vs some h.1
    parsed_sections (tree (text s) ts) = λ i follows N ps us vs some h. content_more (text s) ts (parsed_reads (text s)) (parsed_sections ts) refl i follows N ps us vs some h.1
    parsed_sections (tree (list xs) ts) = λ i follows N ps us vs some h. content_more (list xs) ts (parsed_reads (list xs)) (parsed_sections ts) refl i follows N ps us vs some h.1
    parsed_sections (tree (object fs) ts) = section_more fs ts (parsed_options fs) (parsed_sections ts)

    parsed_options : (fs : Fields) → OptionsRead fs
    parsed_options no_fields = λ i N ps us vs h sc p found m. ap Ok (no_more found ps (picked side us vs) h.0 (picked_none side us vs h.1 h.2))
    parsed_options (field k t fs) = option_more k t fs (parsed_reads t) (parsed_options fs)
