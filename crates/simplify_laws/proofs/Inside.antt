-- What was parsed is not outside.
use Rattle.std.proofs.Common.{◌≡◌, ◌∙◌, ℕ, ◌+◌, ◌-◌, ◌<◌, List, [], ◌∷◌, length, Bool, true, false, Option, Some, None, refl, ap, subst, arith}
use Rattle.std.proofs.lemmas.Bool.{lt-ltb, or_from}
use Rattle.std.specs.Prelude.{not, ◌&&◌, ◌||◌, nat_eq, nat_lt, is_none, if◌then◌else◌}
use Rattle.decimal_json.specs.Accessors.{is_object}
use Rattle.decimal_json.specs.Tree.{Tree, null, boolean, number, text, list, object, Trees, no_trees, tree, Fields, no_fields, field}
use Rattle.expr_syntax.specs.Elements.{Element}
use Rattle.expr_syntax.specs.Names.{row}
use Rattle.expr_syntax.specs.ReadTerms.{names_within}
use Rattle.expr_syntax.specs.Rows.{allows, element_place, place}
use Rattle.expr_syntax.specs.Standing.{Walker, stands, options, elements, members, in_element, in_section, some_element, some_option, some_section, array_stands, is_outside_node, is_for_global, is_global_layout, layout_outside, outside_part, outside_sections, other_options, is_format_layout}
use Rattle.expr_syntax.specs.Term.{Term}
use Rattle.expr_syntax.specs.declared.names.Name.{Name}
use Rattle.expr_syntax.specs.declared.parts.FormatPiece.{FormatPiece}
use Rattle.expr_syntax.specs.declared.parts.Role.TheVariants.{Content}
use Rattle.expr_syntax.specs.declared.rows.ElementLayout.{ElementLayout}
use Rattle.expr_syntax.specs.declared.rows.ElementLayout.TheVariants as layouts
use Rattle.expr_syntax.specs.declared.rows.ElementPlace.{ElementPlace}
use Rattle.expr_syntax.specs.declared.rows.ElementPlace.TheVariants.{Part, Argument, Output}
use Rattle.expr_syntax.proofs.CountLaws.{count_trees}
use Rattle.simplify_laws.proofs.ParsedTrees.{Names, Values, HereOr, HasValue, HasVariable, HasGlobal, HasArguments, HasSections, LaidBy, MoreTerms, MorePieces, is_image_tree, Parsed, ParsedArguments, ParsedSections, ParsedOptions}
use Rattle.simplify_laws.proofs.ReadBack.{Sought, walkers_count}

abbrev pub body_stands : Sought → Bool → Bool → Bool → ElementLayout → List (Element Walker) → ℕ → Bool → Bool
body_stands sought for_global outside fits l ws n f =
    if outside then not for_global
    else if for_global && is_global_layout l then true
    else if not fits then false
    else if is_format_layout l then some_section 0 false ws sought
    else some_element l n 0 ws sought f

module _ (sought : Sought) (is : is_for_global sought ≡ false) where
  inside_at : (place : ElementPlace) (f : Bool) (P : Type 0) (Q : Bool → Type 0) (w : Walker) (rest : Bool) → HereOr place f P Q → (P → rest ≡ false) → ((h : Bool) → Q h → (w sought h ≡ false) × (rest ≡ false)) → (in_element place w sought f || rest) ≡ false
  inside_at Part f P Q w rest h part argument = part h
  inside_at Argument f P Q w rest h part argument = let k = argument false h in or_from (w sought false) rest k.0 k.1
  inside_at Output f P Q w rest h part argument = let k = argument f h in or_from (w sought f) rest k.0 k.1

  -- all elements are parts
  no_element : (l : ElementLayout) → ((n i : ℕ) → place l n i ≡ Part) → (n i : ℕ) (ws : List (Element Walker)) (f : Bool) → some_element l n i ws sought f ≡ false
  no_element l parts n i [] f = refl
  no_element l parts n i (w ∷ ws) f = ap (λ x. in_element (if nat_eq i 0 then Part else x) w.0 sought f || some_element l n (i + 1) ws sought f) (parts n i) ∙ by (nat_eq i 0) (no_element l parts n (i + 1) ws f)
    where
      by : (b : Bool) → some_element l n (i + 1) ws sought f ≡ false → (in_element (if b then Part else Part) w.0 sought f || some_element l n (i + 1) ws sought f) ≡ false
      by true h = h
      by false h = h

  first_section : (o : Option (List (List ℕ × Walker))) (w : Walker) → in_section 0 false o w sought ≡ false
  first_section None w = refl
  first_section (Some ms) w = refl

  first_part : (t : Tree) → outside_part 0 false t ≡ false
  first_part null = refl
  first_part (boolean b) = refl
  first_part (number n) = refl
  first_part (text s) = refl
  first_part (list ts) = refl
  first_part (object fs) = refl

  content_part : (t : Tree) (i : ℕ) (follows : Bool) → options t ≡ None → is_image_tree t ≡ false → outside_part i follows t ≡ false
  content_part null i follows o h = refl
  content_part (boolean b) i follows o h = refl
  content_part (number n) i follows o h = refl
  content_part (text s) i follows o h = refl
  content_part (list ts) i follows o h = by (nat_lt 0 i)
    where
      by : (b : Bool) → (b && is_image_tree (list ts)) ≡ false
      by true = h
      by false = refl
  content_part (object fs) i follows o h = absurd (cc)

  no_object : (t : Tree) → options t ≡ None → is_object t ≡ false
  no_object null o = refl
  no_object (boolean b) o = refl
  no_object (number n) o = refl
  no_object (text s) o = refl
  no_object (list ts) o = refl
  no_object (object fs) o = absurd (cc)

  module _ (g : Values) where
    abbrev IsInside : Tree → Type 0
    IsInside t = (N : Names) (f : Bool) (a b : Term) → Parsed g t N f a b → stands t sought f ≡ false

    abbrev ArgumentsInside : Trees → Type 0
    ArgumentsInside ts = (l : ElementLayout) (n i : ℕ) (N I : Names) (f : Bool) (us vs : List Term) → ParsedArguments g l n i ts N I f us vs → some_element l n i (elements ts) sought f ≡ false

    abbrev SectionsInside : Trees → Type 0
    SectionsInside ts = (i : ℕ) (follows : Bool) (N : Names) (ps : List FormatPiece) (us vs : List Term) → 0 < i → ParsedSections g false i follows ts N ps us vs →
        (some_section i follows (elements ts) sought ≡ false) × (outside_sections i follows ts ≡ false)

    abbrev OptionsInside : Fields → Type 0
    OptionsInside fs = (i : ℕ) (N : Names) (ps : List FormatPiece) (us vs : List Term) → ParsedOptions g i fs N ps us vs →
        (some_option (members fs) sought ≡ false) × (other_options fs ≡ false)

    more_inside : (t : Tree) (ts : Trees) → IsInside t → ArgumentsInside ts → ArgumentsInside (tree t ts)
    more_inside t ts one others l n i N I f us vs h =
        inside_at (element_place l n i) f _ _ (stands t) (some_element l n (i + 1) (elements ts) sought f) h
        (λ q. others l n (i + 1) N I f us vs q)
        (λ e q. let (u, v, xs, ys, us_is, vs_is, (here, later)) = q in (one _ e u v here, others l n (i + 1) N I f xs ys later))

    option_inside : (k : List ℕ) (t : Tree) (fs : Fields) → IsInside t → OptionsInside fs → OptionsInside (field k t fs)
    option_inside k t fs one others i N ps us vs h =
        let (role, named, (qs, ps_is, (u, v, xs, ys, us_is, vs_is, (here, later)))) = h in
        let rest = others i N qs xs ys later in
        (or_from (stands t sought false) (some_option (members fs) sought) (one N false u v here) rest.0, ap (λ o. is_none o || other_options fs) named ∙ rest.1)

    content_inside : (t : Tree) (ts : Trees) → IsInside t → SectionsInside ts → options t ≡ None → (i : ℕ) (follows : Bool) (N : Names) (ps : List FormatPiece) (us vs : List Term) → 0 < i →
        (is_image_tree t ≡ false) × MorePieces ps (record { at = i; role = Content }) (λ qs. MoreTerms us vs (λ u v xs ys. Parsed g t N false u v × ParsedSections g false (i + 1) true ts N qs xs ys)) →
        (some_section i follows (elements (tree t ts)) sought ≡ false) × (outside_sections i follows (tree t ts) ≡ false)
    content_inside t ts one others none i follows N ps us vs some h =
        let (plain, (qs, ps_is, (u, v, xs, ys, us_is, vs_is, (here, later)))) = h in
        let rest = others (i + 1) true N qs xs ys (omega arith) later in
        let after : nat_lt 0 i ≡ true = lt-ltb 0 i some in (
          ap (λ o. in_section i follows o (stands t) sought || some_section (i + 1) (nat_lt 0 i && is_none o) (elements ts) sought) none
              ∙ (ap (λ b. (b && stands t sought false) || some_section (i + 1) (b && true) (elements ts) sought) after
              ∙ or_from (stands t sought false) (some_section (i + 1) true (elements ts) sought) (one N false u v here) rest.0),
          ap (λ b. outside_part i follows t || outside_sections (i + 1) (nat_lt 0 i && not b) ts) (no_object t none)
              ∙ (ap (λ b. outside_part i follows t || outside_sections (i + 1) (b && true) ts) after
              ∙ or_from (outside_part i follows t) (outside_sections (i + 1) true ts) (content_part t i follows none plain) rest.1),
        )

    object_inside : (fs : Fields) (ts : Trees) → OptionsInside fs → SectionsInside ts → SectionsInside (tree (object fs) ts)
    object_inside fs ts some_options others i follows N ps us vs some h =
        let (follow, (x, y, u, v, w, z, ps_is, us_is, vs_is, here, later)) = h in
        let own = some_options i N x u w here in
        let rest = others (i + 1) false N y v z (omega arith) later in (
          by follows (nat_lt 0 i) (some_option (members fs) sought) (λ b. some_section (i + 1) b (elements ts) sought) own.0 rest.0,
          by follows (nat_lt 0 i) (other_options fs) (λ b. outside_sections (i + 1) b ts) own.1 rest.1,
        )
      where
        by : (b c d : Bool) (e : Bool → Bool) → d ≡ false → e false ≡ false → ((b && d) || e (c && false)) ≡ false
        by true true d e p q = or_from d (e false) p q
        by true false d e p q = or_from d (e false) p q
        by false true d e p q = q
        by false false d e p q = q

    whole_inside : (ts : Trees) → ((t : Tree) (us : Trees) → ts ≡ tree t us → SectionsInside us) → (N : Names) (ps : List FormatPiece) (us vs : List Term) →
        ParsedSections g true 0 false ts N ps us vs → (some_section 0 false (elements ts) sought ≡ false) × (outside_sections 0 false ts ≡ false)
    whole_inside no_trees later N ps us vs h = (refl, refl)
    whole_inside (tree t ts) later N ps us vs h =
        let rest = later t ts refl 1 false N ps us vs (omega arith) h in (
          or_from (in_section 0 false (options t) (stands t) sought) (some_section 1 false (elements ts) sought) (first_section (options t) (stands t)) rest.0,
          or_from (outside_part 0 false t) (outside_sections 1 false ts) (first_part t) rest.1,
        )

    module _ (name : Name) (ts : Trees) (N : Names) (f : Bool) (a b : Term) where
      abbrev layout_inside : ElementLayout → Type 0
      layout_inside l = (layout_outside l ts f ≡ false) × (body_stands sought false false true l (elements ts) (count_trees ts) f ≡ false)

      arguments_inside : (l : ElementLayout) → (body_stands sought false false true l (elements ts) (count_trees ts) f ≡ some_element l (count_trees ts) 0 (elements ts) sought f) → ArgumentsInside ts →
          HasArguments l name ts f a b (λ op us vs. ParsedArguments g l (count_trees ts) 0 ts N (names_within op N) f us vs) → layout_inside l
      arguments_inside l is all h =
          let (op, us, vs, op_is, inside, a_is, b_is, parsed) = h in
          (inside, is ∙ all l (count_trees ts) 0 N (names_within op N) f us vs parsed)

      by_layout : (l : ElementLayout) → ArgumentsInside ts → ((t : Tree) (us : Trees) → ts ≡ tree t us → SectionsInside us) →
          LaidBy l (HasValue ts a b) (HasVariable ts N a b) (HasGlobal g ts a b)
          (HasSections f a b (λ ps us vs. ParsedSections g true 0 false ts N ps us vs))
          (HasArguments l name ts f a b (λ op us vs. ParsedArguments g l (count_trees ts) 0 ts N (names_within op N) f us vs)) → layout_inside l
      by_layout layouts.Value all sections h = (refl, no_element layouts.Value (λ n i. refl) (count_trees ts) 0 (elements ts) f)
      by_layout layouts.Variable all sections h = (refl, no_element layouts.Variable (λ n i. refl) (count_trees ts) 0 (elements ts) f)
      by_layout layouts.Global all sections h = (refl, no_element layouts.Global (λ n i. refl) (count_trees ts) 0 (elements ts) f)
      by_layout layouts.Sections all sections h =
          let (ps, us, vs, format, a_is, b_is, parsed) = h in
          let whole = whole_inside ts sections N ps us vs parsed in
          (ap (λ x. not x || outside_sections 0 false ts) format ∙ whole.1, whole.0)
      by_layout layouts.Arguments all sections h = arguments_inside layouts.Arguments refl all h
      by_layout layouts.Choices all sections h = arguments_inside layouts.Choices refl all h
      by_layout layouts.Items all sections h = arguments_inside layouts.Items refl all h
      by_layout layouts.Cases all sections h = arguments_inside layouts.Cases refl all h
      by_layout layouts.Labels all sections h = arguments_inside layouts.Labels refl all h
      by_layout layouts.Stops all sections h = arguments_inside layouts.Stops refl all h
      by_layout layouts.Ramp all sections h = arguments_inside layouts.Ramp refl all h
      by_layout layouts.Bindings all sections h = arguments_inside layouts.Bindings refl all h

    list_inside : (ts : Trees) → ArgumentsInside ts → ((t : Tree) (us : Trees) → ts ≡ tree t us → SectionsInside us) → IsInside (list ts)
    list_inside ts all sections N f a b h =
        let (name, head, inside, fits, laid) = h in
        let (own, below) = by_layout name ts N f a b (row name).layout all sections laid in
        let fit : allows (row name).arity (length (elements ts) - 1) ≡ true = ap (λ k. allows (row name).arity (k - 1)) (walkers_count ts) ∙ fits in
        let outside : is_outside_node name ts f ≡ false = or_from (row name).is_outside (layout_outside (row name).layout ts f) inside own in
        ap (λ o. array_stands o ts (elements ts) sought f) head
        ∙ ((λ i. body_stands sought (is i) (outside i) (fit i) (row name).layout (elements ts) (walkers_count ts i) f) ∙ below)

    mutual
      pub parsed_inside : (t : Tree) → IsInside t
      parsed_inside null = λ N f a b h. refl
      parsed_inside (boolean c) = λ N f a b h. refl
      parsed_inside (number n) = λ N f a b h. refl
      parsed_inside (text s) = λ N f a b h. refl
      parsed_inside (list ts) = list_inside ts (arguments_are_inside ts) (after_inside ts)
      parsed_inside (object fs) = λ N f a b h. refl

      arguments_are_inside : (ts : Trees) → ArgumentsInside ts
      arguments_are_inside no_trees = λ l n i N I f us vs h. refl
      arguments_are_inside (tree t ts) = more_inside t ts (parsed_inside t) (arguments_are_inside ts)

      after_inside : (ts : Trees) (t : Tree) (us : Trees) → ts ≡ tree t us → SectionsInside us
      after_inside no_trees t us e = absurd (cc)
      after_inside (tree x ts) t us e = let same : ts ≡ us = cc in subst SectionsInside same (sections_inside ts)

      sections_inside : (ts : Trees) → SectionsInside ts
      sections_inside no_trees = λ i follows N ps us vs some h. (refl, refl)
      sections_inside (tree null ts) = content_inside null ts (parsed_inside null) (sections_inside ts) refl
      sections_inside (tree (boolean c) ts) = content_inside (boolean c) ts (parsed_inside (boolean c)) (sections_inside ts) refl
      sections_inside (tree (number n) ts) = content_inside (number n) ts (parsed_inside (number n)) (sections_inside ts) refl
      sections_inside (tree (text s) ts) = content_inside (text s) ts (parsed_inside (text s)) (sections_inside ts) refl
      sections_inside (tree (list xs) ts) = content_inside (list xs) ts (parsed_inside (list xs)) (sections_inside ts) refl
      sections_inside (tree (object fs) ts) = object_inside fs ts (options_inside fs) (sections_inside ts)

      options_inside : (fs : Fields) → OptionsInside fs
      options_inside no_fields = λ i N ps us vs h. (refl, refl)
      options_inside (field k t fs) = option_inside k t fs (parsed_inside t) (options_inside fs)
