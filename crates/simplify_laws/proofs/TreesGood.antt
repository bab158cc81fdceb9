-- Each tree that reads as an expression is simplified to one that means the same.
use Rattle.std.proofs.Common.{◌≡◌, ◌∙◌, ◌<◌, ℕ, ◌+◌, ◌-◌, suc, List, [], ◌∷◌, ◌++◌, length, map, Bool, true, false, Some, None, Ok, refl, ap, sym, subst, arith}
use Rattle.std.proofs.lemmas.Bool.{and_parts, eqb-true}
use Rattle.std.specs.Prelude.{◌||◌, ◌%◌, nat_eq, nat_le, if◌then◌else◌}
use Rattle.decimal_json.specs.Sound.{AreSound, HasSoundMembers, IsSound}
use Rattle.decimal_json.specs.Tree.{Tree, null, boolean, number, text, list, object, Trees, no_trees, tree, trees_of, Fields, no_fields, field}
use Rattle.prop_values.specs.Data as values
use Rattle.prop_values.specs.Data.{Data, pairs_of}
use Rattle.prop_values.specs.Equality.{at_key}
use Rattle.prop_values.specs.declared.kinds.Kind.{Kind}
use Rattle.prop_values.specs.declared.kinds.Kind.TheVariants as known_kinds
use Rattle.prop_values.specs.declared.kinds.Want.{Want}
use Rattle.prop_values.specs.declared.kinds.Want.TheVariants as wants
use Rattle.expr_syntax.specs.BoundNames.{is_among}
use Rattle.expr_syntax.specs.Elements.{head_name, taken}
use Rattle.expr_syntax.specs.Names.{row}
use Rattle.expr_syntax.specs.Operators.{operator_name}
use Rattle.expr_syntax.specs.Parts.{let_operator, names_among, operator_of}
use Rattle.expr_syntax.specs.ReadTerms.{names_within}
use Rattle.expr_syntax.specs.Reading.{global_object, global_term, is_part, is_global_layout}
use Rattle.expr_syntax.specs.Rows.{allows, element_place, is_even, is_last}
use Rattle.expr_syntax.specs.Scopes.{globals}
use Rattle.expr_syntax.specs.Standing.{layout_outside}
use Rattle.expr_syntax.specs.Term.{Term, literal, node, no_terms, terms_of}
use Rattle.expr_syntax.specs.declared.expression.Operator.{Operator}
use Rattle.expr_syntax.specs.declared.expression.Operator.TheVariants as operators
use Rattle.expr_syntax.specs.declared.names.Name.{Name}
use Rattle.expr_syntax.specs.declared.names.Name.TheVariants as named
use Rattle.expr_syntax.specs.declared.parts.Labelled.{Labelled}
use Rattle.expr_syntax.specs.declared.rows.ElementLayout.{ElementLayout}
use Rattle.expr_syntax.specs.declared.rows.ElementLayout.TheVariants as layouts
use Rattle.expr_syntax.specs.declared.rows.ElementPlace.{ElementPlace}
use Rattle.expr_syntax.specs.declared.rows.ElementPlace.TheVariants.{Part, Argument, Output}
use Rattle.expr_syntax.proofs.CountLaws.{count_trees}
use Rattle.prop_values.specs.Faults.{no_faults}
use Rattle.expr_types.specs.NodeKinds.{kind_found, node_kind}
use Rattle.expr_types.specs.Typing.{KindScope, argument_want, fitted}
use Rattle.operator_values.specs.Evaluated.{then_value}
use Rattle.property_tables.specs.Fitting.{fit}
use Rattle.eval_face.specs.Meaning.{mean}
use Rattle.style_simplify.specs.Choices.{choices_of, is_image}
use Rattle.style_simplify.specs.ShorterNodes.{shorter, shorter_by}
use Rattle.style_simplify.specs.Simple.{Simple, as_it_is, choices, choices_in, elements, format_of, global_element, is_global_name, listed, literal_at, node_choices, operator_reads, piece_elements, plain_choices, simple_element, simples, var_element}
use Rattle.style_simplify.specs.SimpleElements.{SimpleElement, node_of, part, tree_in}
use Rattle.simplify_laws.proofs.ParsedTrees.{HasArguments, HasGlobal, HasSections, HasValue, HasVariable, HereOr, LaidBy, MoreTerms, Names, Parsed, ParsedArguments, ParsedSections, Values}
use Rattle.simplify_laws.proofs.Alike.{IsNameless}
use Rattle.simplify_laws.proofs.TermKinds.{HasKind, literal_from, literal_has, name_from, name_has, node_from, node_has}
use Rattle.simplify_laws.proofs.GoodElements.{AreGood, AreKept, Good, GoodChoices, GoodFields, GoodMembers, GoodNode, GoodTree, GoodTrees, Kept, NewArguments, PartOr, chosen_good, chosen_kept, new_arguments, one_scope}
use Rattle.simplify_laws.proofs.FormatsGood.{format_good}
use Rattle.simplify_laws.proofs.LetsGood.{let_node, let_ok}
use Rattle.simplify_laws.proofs.JoinsGood.{all_good, any_good, coalesce_good, not_first}
use Rattle.simplify_laws.proofs.CasesGood.{case_good, cases_of_good, match_good, outputs_good}
use Rattle.simplify_laws.proofs.LiteralsGood.{choices_good, literal_good}
use Rattle.simplify_laws.proofs.NodeGood.{IsGeneral, PartsStay, argument_made, length_simples, listed_back, listed_count, name_is, node_good, node_kept, operator_stays, outside_stays, part_made, same_image, trees_count}

-- ---- terms that were read

-- a node of this layout binds no name
abbrev BindsNone : ElementLayout → Type 0
BindsNone layouts.Bindings = ⊥
BindsNone l = Unit {0}

global_named : (name : Name) → is_global_name (Some name) ≡ is_global_layout (row name).layout
global_named named.GlobalState = refl
global_named name = refl

module _ (g : Values) where
  -- ---- literals

  literal_choices : (want : Want) (N : Names) (f : Bool) (t : Tree) (d : Data) (ks : KindScope) → ((M : Names) (h : Bool) → Parsed g t M h (literal d) (literal d)) → GoodNode g ks want N f t (literal d) (choices (literal d) t want ks)
  literal_choices want N f t d ks anywhere = (
    choices_good g ks want N f (literal d) (literal_at d want t) None
        (literal_good g ks want N f (literal d) (literal_at d want t) d anywhere (λ names world. refl) (λ k q. q) refl refl)
        (λ k typed. literal_from d want ks k typed)
        (λ made h k kind. absurd (cc)),
    λ apart h. h,
  )

  literal_tree : (t : Tree) (d : Data) (N : Names) (f : Bool) (a b : Term) → a ≡ literal d → b ≡ literal d → ((M : Names) (h : Bool) → Parsed g t M h (literal d) (literal d)) → (want : Want) (ks : KindScope) → GoodNode g ks want N f t b (choices a t want ks)
  literal_tree t d N f a b p q anywhere want ks =
      subst (λ x. GoodNode g ks want N f t b (choices x t want ks)) (sym p) (subst (λ y. GoodNode g ks want N f t y (choices (literal d) t want ks)) (sym q) (literal_choices want N f t d ks anywhere))

  -- ---- the elements of a node

  module _ (op : Operator) (n m : ℕ) (want : Want) (ks : KindScope) (N : Names) (f : Bool) where
    abbrev place_of : ℕ → ElementPlace
    place_of i = element_place (row (operator_name op)).layout n i

    pub elements_good : (i k : ℕ) (ts : Trees) (us vs : List Term) → GoodTrees g ts → ParsedArguments g (row (operator_name op)).layout n i ts N N f us vs →
        AreGood g ks op m want (row (operator_name op)).layout n N f i k (listed ts) (elements op n m want ks i k (simples (terms_of us)) (listed ts)) vs
    elements_good i k no_trees us vs good h = by us h.1
      where
        by : (us : List Term) → vs ≡ [] → AreGood g ks op m want (row (operator_name op)).layout n N f i k [] (elements op n m want ks i k (simples (terms_of us)) []) vs
        by us q = q
    elements_good i k (tree t ts) us vs good h = by (place_of i) refl h (λ q. elements_good (i + 1) k ts us vs good.2 q) (λ xs ys q. elements_good (i + 1) (k + 1) ts xs ys good.2 q)
      where
        one : (b : Bool) → place_of i ≡ (if b then Output else Argument) → (xs ys : List Term) (u v : Term) → us ≡ u ∷ xs → vs ≡ v ∷ ys → Parsed g t (if is_last n i then N else N) (if b then f else false) u v →
            AreGood g ks op m want (row (operator_name op)).layout n N f (i + 1) (k + 1) (listed ts) (elements op n m want ks (i + 1) (k + 1) (simples (terms_of xs)) (listed ts)) ys →
            AreGood g ks op m want (row (operator_name op)).layout n N f i k (t ∷ listed ts) (elements op n m want ks i k (simples (terms_of us)) (t ∷ listed ts)) vs
        one b place xs ys u v us_is vs_is parsed later =
            let here : is_part (place_of i) ≡ false = ap is_part place ∙ not_part b in
            let good_one : Good g ks (argument_want op m k want) N (if b then f else false) v (simple_element false (choices u) t (argument_want op m k want) ks) =
            chosen_good g ks (argument_want op m k want) N (if b then f else false) v false (choices u t (argument_want op m k want) ks)
            (good.0 N (if b then f else false) u v (subst (λ M. Parsed g t M (if b then f else false) u v) (one_scope (is_last n i) N) parsed) (argument_want op m k want) ks).0 in
            subst (λ zs. AreGood g ks op m want (row (operator_name op)).layout n N f i k (t ∷ listed ts) (elements op n m want ks i k (simples (terms_of zs)) (t ∷ listed ts)) vs) (sym us_is)
            (subst (λ es. AreGood g ks op m want (row (operator_name op)).layout n N f i k (t ∷ listed ts) es vs) (sym (argument_made op n m want ks i k u xs t (listed ts) here))
            (wrap b place _ _ (v, ys, vs_is, good_one, later)))
          where
            not_part : (b : Bool) → is_part (if b then Output else Argument) ≡ false
            not_part true = refl
            not_part false = refl

            wrap : (b : Bool) → place_of i ≡ (if b then Output else Argument) → (S : Type 0) (T : Bool → Type 0) → T (if b then f else false) → HereOr (place_of i) f S T
            wrap true q S T x = subst (λ p. HereOr p f S T) (sym q) x
            wrap false q S T x = subst (λ p. HereOr p f S T) (sym q) x

        by : (place : ElementPlace) → place_of i ≡ place → HereOr place f (ParsedArguments g (row (operator_name op)).layout n (i + 1) ts N N f us vs) (λ h. MoreTerms us vs (λ u v xs ys. Parsed g t (if is_last n i then N else N) h u v × ParsedArguments g (row (operator_name op)).layout n (i + 1) ts N N f xs ys)) →
            (ParsedArguments g (row (operator_name op)).layout n (i + 1) ts N N f us vs → AreGood g ks op m want (row (operator_name op)).layout n N f (i + 1) k (listed ts) (elements op n m want ks (i + 1) k (simples (terms_of us)) (listed ts)) vs) →
            ((xs ys : List Term) → ParsedArguments g (row (operator_name op)).layout n (i + 1) ts N N f xs ys → AreGood g ks op m want (row (operator_name op)).layout n N f (i + 1) (k + 1) (listed ts) (elements op n m want ks (i + 1) (k + 1) (simples (terms_of xs)) (listed ts)) ys) →
            AreGood g ks op m want (row (operator_name op)).layout n N f i k (t ∷ listed ts) (elements op n m want ks i k (simples (terms_of us)) (t ∷ listed ts)) vs
        by Part place h skip go =
            subst (λ es. AreGood g ks op m want (row (operator_name op)).layout n N f i k (t ∷ listed ts) es vs) (sym (part_made op n m want ks i k us t (listed ts) (ap is_part place)))
            (subst (λ p. HereOr p f ((part t ≡ part t) × AreGood g ks op m want (row (operator_name op)).layout n N f (i + 1) k (listed ts) (elements op n m want ks (i + 1) k (simples (terms_of us)) (listed ts)) vs) (λ h. (v : Term) × (ys : List Term) × (vs ≡ v ∷ ys) × Good g ks (argument_want op m k want) N h v (part t) × AreGood g ks op m want (row (operator_name op)).layout n N f (i + 1) (k + 1) (listed ts) (elements op n m want ks (i + 1) k (simples (terms_of us)) (listed ts)) ys)) (sym place) (refl, skip h))
        by Argument place h skip go = let (u, v, xs, ys, us_is, vs_is, (parsed, rest)) = h in one false place xs ys u v us_is vs_is parsed (go xs ys rest)
        by Output place h skip go = let (u, v, xs, ys, us_is, vs_is, (parsed, rest)) = h in one true place xs ys u v us_is vs_is parsed (go xs ys rest)

    -- each has the kind of what it was
    pub elements_kept : (i k : ℕ) (ts : Trees) (us vs : List Term) → GoodTrees g ts → ParsedArguments g (row (operator_name op)).layout n i ts N N f us vs →
        AreKept g ks op m k want (elements op n m want ks i k (simples (terms_of us)) (listed ts)) vs
    elements_kept i k no_trees us vs good h = by us h.1
      where
        by : (us : List Term) → vs ≡ [] → AreKept g ks op m k want (elements op n m want ks i k (simples (terms_of us)) []) vs
        by us q = q
    elements_kept i k (tree t ts) us vs good h = by (place_of i) refl h (λ q. elements_kept (i + 1) k ts us vs good.2 q) (λ xs ys q. elements_kept (i + 1) (k + 1) ts xs ys good.2 q)
      where
        Rest : ℕ → List Term → List Term → Type 0
        Rest j xs ys = AreKept g ks op m j want (elements op n m want ks (i + 1) j (simples (terms_of xs)) (listed ts)) ys

        one : (b : Bool) → is_part (place_of i) ≡ false → MoreTerms us vs (λ u v xs ys. Parsed g t (if is_last n i then N else N) b u v × ParsedArguments g (row (operator_name op)).layout n (i + 1) ts N N f xs ys) →
            ((xs ys : List Term) → ParsedArguments g (row (operator_name op)).layout n (i + 1) ts N N f xs ys → Rest (k + 1) xs ys) → AreKept g ks op m k want (elements op n m want ks i k (simples (terms_of us)) (t ∷ listed ts)) vs
        one b here q go =
            let (u, v, xs, ys, us_is, vs_is, (parsed, rest)) = q in
            let made : GoodChoices g ks (argument_want op m k want) N b v (choices u t (argument_want op m k want) ks) =
            (good.0 N b u v (subst (λ M. Parsed g t M b u v) (one_scope (is_last n i) N) parsed) (argument_want op m k want) ks).0 in
            let e : SimpleElement = simple_element false (choices u) t (argument_want op m k want) ks in
            let argument : e.is_part ≡ false = (chosen_good g ks (argument_want op m k want) N b v false (choices u t (argument_want op m k want) ks) made).argument in
            let kept = chosen_kept g ks (argument_want op m k want) N b v false (choices u t (argument_want op m k want) ks) made in
            let others = elements op n m want ks (i + 1) (k + 1) (simples (terms_of xs)) (listed ts) in
            subst (λ zs. AreKept g ks op m k want (elements op n m want ks i k (simples (terms_of zs)) (t ∷ listed ts)) vs) (sym us_is)
            (subst (λ es. AreKept g ks op m k want es vs) (sym (argument_made op n m want ks i k u xs t (listed ts) here))
            (subst (λ c. PartOr c (AreKept g ks op m k want others vs) ((w : Term) × (zs : List Term) × (vs ≡ w ∷ zs) × Kept g ks (argument_want op m k want) w e × AreKept g ks op m (k + 1) want others zs)) (sym argument)
            (v, ys, vs_is, kept, go xs ys rest)))

        by : (place : ElementPlace) → place_of i ≡ place → HereOr place f (ParsedArguments g (row (operator_name op)).layout n (i + 1) ts N N f us vs) (λ h. MoreTerms us vs (λ u v xs ys. Parsed g t (if is_last n i then N else N) h u v × ParsedArguments g (row (operator_name op)).layout n (i + 1) ts N N f xs ys)) →
            (ParsedArguments g (row (operator_name op)).layout n (i + 1) ts N N f us vs → Rest k us vs) →
            ((xs ys : List Term) → ParsedArguments g (row (operator_name op)).layout n (i + 1) ts N N f xs ys → Rest (k + 1) xs ys) → AreKept g ks op m k want (elements op n m want ks i k (simples (terms_of us)) (t ∷ listed ts)) vs
        by Part place h skip go = subst (λ es. AreKept g ks op m k want es vs) (sym (part_made op n m want ks i k us t (listed ts) (ap is_part place))) (skip h)
        by Argument place h skip go = one false (ap is_part place) h go
        by Output place h skip go = one f (ap is_part place) h go

  -- ---- a node without names

  within : (op : Operator) (N : Names) → IsNameless op → names_within op N ≡ N
  within (operators.Let bs) N plain = absurd plain
  within op N plain = refl

  parsed_count : (l : ElementLayout) (n i : ℕ) (ts : Trees) (N : Names) (f : Bool) (us vs : List Term) → ParsedArguments g l n i ts N N f us vs → length us ≡ length vs
  parsed_count l n i no_trees N f us vs h = ap length h.0 ∙ sym (ap length h.1)
  parsed_count l n i (tree t ts) N f us vs h = by (element_place l n i) h (λ q. parsed_count l n (i + 1) ts N f us vs q) (λ xs ys q. parsed_count l n (i + 1) ts N f xs ys q)
    where
      more : (h : Bool) → MoreTerms us vs (λ u v xs ys. Parsed g t (if is_last n i then N else N) h u v × ParsedArguments g l n (i + 1) ts N N f xs ys) → ((xs ys : List Term) → ParsedArguments g l n (i + 1) ts N N f xs ys → length xs ≡ length ys) → length us ≡ length vs
      more h q go = let (u, v, xs, ys, us_is, vs_is, (parsed, rest)) = q in ap length us_is ∙ (ap suc (go xs ys rest) ∙ sym (ap length vs_is))

      by : (place : ElementPlace) → HereOr place f (ParsedArguments g l n (i + 1) ts N N f us vs) (λ h. MoreTerms us vs (λ u v xs ys. Parsed g t (if is_last n i then N else N) h u v × ParsedArguments g l n (i + 1) ts N N f xs ys)) →
          (ParsedArguments g l n (i + 1) ts N N f us vs → length us ≡ length vs) → ((xs ys : List Term) → ParsedArguments g l n (i + 1) ts N N f xs ys → length xs ≡ length ys) → length us ≡ length vs
      by Part q skip go = skip q
      by Argument q skip go = more false q go
      by Output q skip go = more f q go

  -- what the first element is
  head_part : (ks : KindScope) (op : Operator) (m : ℕ) (want : Want) (n : ℕ) (N : Names) (f : Bool) (t : Tree) (ts : List Tree) (head : SimpleElement) (es : List SimpleElement) (vs : List Term) →
      AreGood g ks op m want (row (operator_name op)).layout n N f 0 0 (t ∷ ts) (head ∷ es) vs → (head ≡ part t) × AreGood g ks op m want (row (operator_name op)).layout n N f 1 0 ts es vs
  head_part ks op m want n N f t ts head es vs h = h

  -- the five operators that become shorter
  module _ (ks : KindScope) (want : Want) (N : Names) (f : Bool) (n : ℕ) (t : Tree) (ts : List Tree) (head : SimpleElement) (es : List SimpleElement) (vs : List Term) where
    match_shorter : (ls : List Labelled) (m : ℕ) → AreGood g ks (operators.Match ls) m want layouts.Labels n N f 1 0 ts es vs → (made : SimpleElement) → shorter_by (operators.Match ls) want head es ≡ Some made → Good g ks want N f (node (operators.Match ls) (terms_of vs)) made
    match_shorter ls m h made q = by ts es h q
      where
        by : (ts : List Tree) (es : List SimpleElement) → AreGood g ks (operators.Match ls) m want layouts.Labels n N f 1 0 ts es vs → shorter_by (operators.Match ls) want head es ≡ Some made → Good g ks want N f (node (operators.Match ls) (terms_of vs)) made
        by [] [] h q = absurd (cc)
        by [] (e ∷ es) h q = absurd h
        by (t ∷ ts) [] h q = absurd h
        by (t ∷ ts) (input ∷ es) h q =
            let (v, ys, vs_is, good, rest) = h in
            subst (λ zs. Good g ks want N f (node (operators.Match ls) (terms_of zs)) made) (sym vs_is)
            (match_good g ks want N f ls input es v ys good (outputs_good g ks want N f ls m n 2 1 ts es ys (omega arith) (omega arith) rest) made q)

    argument_count : (m n i k : ℕ) (ts : List Tree) (es : List SimpleElement) (vs : List Term) → 0 < i → AreGood g ks operators.Case m want layouts.Cases n N f i k ts es vs → length es ≡ length vs
    argument_count m n i k [] [] vs some h = sym (ap length h)
    argument_count m n i k [] (e ∷ es) vs some h = absurd h
    argument_count m n i k (t ∷ ts) [] vs some h = absurd h
    argument_count m n i k (t ∷ ts) (e ∷ es) vs some h = by (is_last n i || is_even i) (subst (λ b. HereOr (if b then Part else if is_last n i || is_even i then Output else Argument) f ((e ≡ part t) × AreGood g ks operators.Case m want layouts.Cases n N f (i + 1) k ts es vs) (λ h. (v : Term) × (ys : List Term) × (vs ≡ v ∷ ys) × Good g ks (argument_want operators.Case m k want) N h v e × AreGood g ks operators.Case m want layouts.Cases n N f (i + 1) (k + 1) ts es ys)) (not_first i some) h) (λ ys q. argument_count m n (i + 1) (k + 1) ts es ys (omega arith) q)
      where
        by : (b : Bool) → HereOr (if b then Output else Argument) f ((e ≡ part t) × AreGood g ks operators.Case m want layouts.Cases n N f (i + 1) k ts es vs) (λ h. (v : Term) × (ys : List Term) × (vs ≡ v ∷ ys) × Good g ks (argument_want operators.Case m k want) N h v e × AreGood g ks operators.Case m want layouts.Cases n N f (i + 1) (k + 1) ts es ys) →
            ((ys : List Term) → AreGood g ks operators.Case m want layouts.Cases n N f (i + 1) (k + 1) ts es ys → length es ≡ length ys) → length (e ∷ es) ≡ length vs
        by true h go = let (v, ys, vs_is, good, rest) = h in ap suc (go ys rest) ∙ sym (ap length vs_is)
        by false h go = let (v, ys, vs_is, good, rest) = h in ap suc (go ys rest) ∙ sym (ap length vs_is)

    pub shorter_good : (op : Operator) (m : ℕ) → m ≡ length vs → n ≡ suc (length es) → allows (row (operator_name op)).arity (n - 1) ≡ true → head_name (tree t no_trees) ≡ Some (operator_name op) → head ≡ part t → AreGood g ks op m want (row (operator_name op)).layout n N f 1 0 ts es vs →
        (made : SimpleElement) → shorter_by op want head es ≡ Some made → Good g ks want N f (node op (terms_of vs)) made
    shorter_good operators.All m all more fits named head_is h made q = all_good g ks want N f m n t ts head es vs head_is named h made q
    shorter_good operators.Any m all more fits named head_is h made q = any_good g ks want N f m n t ts head es vs head_is named h made q
    shorter_good operators.Coalesce m all more fits named head_is h made q = coalesce_good g ks want N f m n t ts head es vs head_is named h made q
    shorter_good operators.Case m all more fits named head_is h made q =
        let (least, odd) = and_parts (nat_le 3 (n - 1)) (nat_eq ((n - 1) % 2) 1) fits in
        let odd_count : (n - 1) % 2 ≡ 1 = eqb-true ((n - 1) % 2) 1 odd in
        let counted : length es ≡ length vs = argument_count m n 1 0 ts es vs (omega arith) h in
        case_good g ks want N f t head es vs named head_is
        (cases_of_good g ks want N f m n 0 ts es vs refl (omega (arith, all)) (omega (arith, more, all, counted)) (omega (arith, more, odd_count)) h) made q
    shorter_good (operators.Match ls) m all more fits named head_is h made q = match_shorter ls m h made q
    shorter_good op m all more fits named head_is h made q = absurd (cc)

  -- ---- a node of an operator without names that is laid out by places

  head_alone : (ts : Trees) (name : Name) → head_name ts ≡ Some name → (t : Tree) × (us : Trees) × (ts ≡ tree t us) × (head_name (tree t no_trees) ≡ Some name)
  head_alone no_trees name h = absurd (cc)
  head_alone (tree t us) name h = (t, us, refl, h)

  module _ (op : Operator) (plain : IsNameless op) (general : IsGeneral (row (operator_name op)).layout) (ts : Trees) (N : Names) (f : Bool) (us vs : List Term) (want : Want) (ks : KindScope) where
    plain_good : head_name ts ≡ Some (operator_name op) → (row (operator_name op)).is_outside ≡ false → allows (row (operator_name op)).arity (count_trees ts - 1) ≡ true →
        operator_of (row (operator_name op)).layout (operator_name op) (globals []) (count_trees ts) ts ≡ Ok op → layout_outside (row (operator_name op)).layout ts f ≡ false →
        ParsedArguments g (row (operator_name op)).layout (count_trees ts) 0 ts N N f us vs → GoodTrees g ts →
        GoodNode g ks want N f (list ts) (node op (terms_of vs)) (plain_choices op (simples (terms_of us)) (listed ts) want ks)
    plain_good head inside fits operator laid parsed good =
        let (t, rest, ts_is, named) = head_alone ts (operator_name op) head in
        let m = length (simples (terms_of us)) in
        let n = length (listed ts) in
        let same_count : n ≡ count_trees ts = listed_count ts in
        let all : m ≡ length vs = length_simples us ∙ parsed_count (row (operator_name op)).layout (count_trees ts) 0 ts N f us vs parsed in
        let es = elements op n m want ks 0 0 (simples (terms_of us)) (listed ts) in
        let are = elements_good op n m want ks N f 0 0 ts us vs good (subst (λ c. ParsedArguments g (row (operator_name op)).layout c 0 ts N N f us vs) (sym same_count) parsed) in
        let here = subst (λ c. AreGood g ks op c want (row (operator_name op)).layout n N f 0 0 (listed ts) es vs) all are in
        let stay = subst (λ c. AreKept g ks op c 0 want es vs) all (elements_kept op n m want ks N f 0 0 ts us vs good (subst (λ c. ParsedArguments g (row (operator_name op)).layout c 0 ts N N f us vs) (sym same_count) parsed)) in
        let r = new_arguments g ks op (length vs) want (row (operator_name op)).layout n N f 0 0 (listed ts) es vs here in
        by t rest ts_is named m n es same_count all here stay r
      where
        by : (t : Tree) (rest : Trees) → ts ≡ tree t rest → head_name (tree t no_trees) ≡ Some (operator_name op) → (m n : ℕ) (es : List SimpleElement) → n ≡ count_trees ts → m ≡ length vs →
            AreGood g ks op (length vs) want (row (operator_name op)).layout n N f 0 0 (listed ts) es vs → AreKept g ks op (length vs) 0 want es vs → NewArguments g ks op (length vs) want (row (operator_name op)).layout n N f 0 0 (listed ts) es vs →
            GoodNode g ks want N f (list ts) (node op (terms_of vs)) (choices_of want (node_of op want (operator_reads op m) es) (shorter op want es))
        by t rest ts_is named m n [] counted all here kept r = absurd (let less : 0 ≡ length (listed ts) = r.counted in omega (arith, less, listed_count ts, ap count_trees ts_is))
        by t rest ts_is named m n (e ∷ es) counted all here kept r =
            let new = trees_of (map tree_in (e ∷ es)) in
            let first = head_part ks op (length vs) want n N f t (listed rest) e es vs (subst (λ x. AreGood g ks op (length vs) want (row (operator_name op)).layout n N f 0 0 (listed x) (e ∷ es) vs) ts_is here) in
            let count_new : count_trees new ≡ n = trees_count (e ∷ es) ∙ (r.counted ∙ (listed_count ts ∙ sym counted)) in
            let stay : PartsStay (row (operator_name op)).layout n new ts = λ test parts. r.taken test parts ∙ ap (taken test n 0) (listed_back ts) in (
              choices_good g ks want N f (node op (terms_of vs)) (node_of op want (operator_reads op m) (e ∷ es)) (shorter op want (e ∷ es))
                  (node_good g op plain general ks want N f (listed ts) (e ∷ es) vs (operator_reads op m) n
                  (record {
                    head = ap (λ x. head_name (tree x.tree (trees_of (map tree_in es)))) first.0 ∙ named;
                    inside = inside;
                    fits = ap (λ c. allows (row (operator_name op)).arity (c - 1)) (count_new ∙ counted) ∙ fits;
                    operator = ap (λ c. operator_of (row (operator_name op)).layout (operator_name op) (globals []) c new) count_new
                        ∙ (operator_stays (row (operator_name op)).layout general (operator_name op) (globals []) n new ts count_new (sym counted) stay
                        ∙ (ap (λ c. operator_of (row (operator_name op)).layout (operator_name op) (globals []) c ts) counted ∙ operator));
                    laid = outside_stays (row (operator_name op)).layout general n new ts f stay ∙ laid;
                  })
                  (r.counted ∙ (listed_count ts ∙ sym counted)) here (λ z. ap (operator_reads op) all ∙ z))
                  (node_kept g op plain general ks want (e ∷ es) vs (operator_reads op m) kept)
                  (λ made q k kind. shorter_good ks want N f n t (listed rest) e es vs op (length vs) refl
                  (sym (r.counted ∙ (listed_count ts ∙ sym counted))) (ap (λ c. allows (row (operator_name op)).arity (c - 1)) counted ∙ fits) named first.0 first.1 made q),
              λ apart h. ap (λ (x : SimpleElement). is_image (list (tree x.tree (trees_of (map tree_in es))))) first.0 ∙ (same_image t (trees_of (map tree_in es)) rest ∙ (sym (ap (λ us. is_image (list us)) ts_is) ∙ h)),
            )

  -- ---- trees

  nameless : (op : Operator) → IsGeneral (row (operator_name op)).layout → BindsNone (row (operator_name op)).layout → IsNameless op
  nameless (operators.Let bs) general none = absurd none
  nameless (operators.Var s) general none = absurd general
  nameless op general none = tt

  in_choices : (op : Operator) → IsGeneral (row (operator_name op)).layout → BindsNone (row (operator_name op)).layout → (ss : List Simple) (ts : List Tree) (want : Want) (ks : KindScope) → plain_choices op ss ts want ks ≡ choices_in op ss ts want ks
  in_choices (operators.Let bs) general none ss ts want ks = absurd none
  in_choices (operators.Var s) general none ss ts want ks = absurd general
  in_choices (operators.Format ps) general none ss ts want ks = absurd general
  in_choices op general none ss ts want ks = refl

  in_node : (op : Operator) (ss : List Simple) (ts : Trees) (want : Want) (ks : KindScope) → is_global_name (head_name ts) ≡ false → choices_in op ss (listed ts) want ks ≡ node_choices op ss (list ts) want ks
  in_node op ss ts want ks h = sym (ap (λ b. if b then as_it_is want (global_element want (list ts)) else choices_in op ss (listed ts) want ks) h)

  value_name : (name : Name) → (row name).layout ≡ layouts.Value → name ≡ named.Literal
  value_name named.Literal h = refl
  value_name name h = absurd (cc)

  variable_name : (name : Name) → (row name).layout ≡ layouts.Variable → name ≡ named.Var
  variable_name named.Var h = refl
  variable_name name h = absurd (cc)

  format_name : (name : Name) → (row name).layout ≡ layouts.Sections → name ≡ named.Format
  format_name named.Format h = refl
  format_name name h = absurd (cc)

  let_name : (name : Name) → (row name).layout ≡ layouts.Bindings → name ≡ named.Let
  let_name named.Let h = refl
  let_name name h = absurd (cc)

  global_name : (name : Name) → (row name).layout ≡ layouts.Global → name ≡ named.GlobalState
  global_name named.GlobalState h = refl
  global_name name h = absurd (cc)

  module _ (ts : Trees) (good : GoodTrees g ts) (N : Names) (f : Bool) (a b : Term) (want : Want) (ks : KindScope) where
    value_good : (name : Name) → head_name ts ≡ Some name → name ≡ named.Literal → allows (row name).arity (count_trees ts - 1) ≡ true → HasValue ts a b → GoodNode g ks want N f (list ts) b (choices a (list ts) want ks)
    value_good name head name_is fits h =
        let (u, d, there, is, a_is, b_is) = h in
        literal_tree (list ts) d N f a b a_is b_is
        (λ M h. (named.Literal, head ∙ ap Some name_is, refl, subst (λ m. allows (row m).arity (count_trees ts - 1) ≡ true) name_is fits, (u, d, there, is, refl, refl))) want ks

    variable_good : (name : Name) → head_name ts ≡ Some name → name ≡ named.Var → allows (row name).arity (count_trees ts - 1) ≡ true → HasVariable ts N a b → GoodNode g ks want N f (list ts) b (choices a (list ts) want ks)
    variable_good name head name_is fits h =
        let (s, there, known, a_is, b_is) = h in
        let none : is_global_name (head_name ts) ≡ false = ap is_global_name (head ∙ ap Some name_is) in
        let own : Tree = list (trees_of (listed ts)) in
        let e : SimpleElement = var_element s want ks own in
        let allowed : allows (row named.Var).arity (count_trees ts - 1) ≡ true = subst (λ m. allows (row m).arity (count_trees ts - 1) ≡ true) name_is fits in
        let parsed : (M : Names) → is_among M s ≡ true → Parsed g own M f (node (operators.Var s) no_terms) (node (operators.Var s) no_terms) = λ M k.
        subst (λ x. Parsed g (list x) M f (node (operators.Var s) no_terms) (node (operators.Var s) no_terms)) (sym (listed_back ts))
        (named.Var, head ∙ ap Some name_is, refl, allowed, (s, there, k, refl, refl)) in
        subst (λ x. GoodNode g ks want N f (list ts) b (choices x (list ts) want ks)) (sym a_is)
        (subst (λ y. GoodNode g ks want N f (list ts) y (choices (node (operators.Var s) no_terms) (list ts) want ks)) (sym b_is)
        (subst (GoodNode g ks want N f (list ts) (node (operators.Var s) no_terms)) (in_node (operators.Var s) [] ts want ks none) (
          choices_good g ks want N f (node (operators.Var s) no_terms) e None
              (record {
                first = node (operators.Var s) no_terms;
                second = node (operators.Var s) no_terms;
                parsed = parsed N known;
                same = λ names world. refl;
                lighter = λ w. omega arith;
                calmer = λ s. omega arith;
                known = λ k q. record {
                  names = λ M h. parsed M h.0;
                  depends = λ names names' v w h reads. ap (λ x. then_value x (fit want)) h.0;
                  steady = λ z. refl;
                  typed = λ js a j kind. name_has s want js j (ap (λ o. kind_found (fitted want o no_faults [])) (sym a.0) ∙ kind);
                };
                asked = λ k q. (known, tt);
                argument = refl;
              })
              (λ k typed. name_from s want ks k typed)
              (λ made q k kind. absurd (cc)),
          λ apart h. ap (λ xs. is_image (list xs)) (listed_back ts) ∙ h,
        )))

    global_good : (name : Name) → head_name ts ≡ Some name → name ≡ named.GlobalState → allows (row name).arity (count_trees ts - 1) ≡ true → HasGlobal g ts a b → GoodNode g ks want N f (list ts) b (choices a (list ts) want ks)
    global_good name head name_is fits h =
        let (s, there, a_is, b_is) = h in
        let yes_global : is_global_name (head_name ts) ≡ true = ap is_global_name (head ∙ ap Some name_is) in
        let allowed : allows (row named.GlobalState).arity (count_trees ts - 1) ≡ true = subst (λ m. allows (row m).arity (count_trees ts - 1) ≡ true) name_is fits in
        let old : Term = global_term s (at_key s (pairs_of [])) in
        let new : Term = global_term s (at_key s (pairs_of g)) in
        let parsed : (M : Names) → Parsed g (list ts) M f old new = λ M. (named.GlobalState, head ∙ ap Some name_is, refl, allowed, (s, there, refl, refl)) in
        let e : SimpleElement = global_element want (list ts) in
        let parts : List Term = literal (values.text s) ∷ literal (values.map (global_object s (at_key s (pairs_of g)))) ∷ [] in
        let global_has : (js : KindScope) (j : Kind) → node_kind operators.Get want [] ≡ Some j → HasKind new want js j = λ js j kind.
        node_has operators.Get tt want js parts j (known_kinds.Text ∷ known_kinds.Object ∷ []) (
          literal_has (values.text s) wants.Text js known_kinds.Text refl,
          (literal_has (values.map (global_object s (at_key s (pairs_of g)))) wants.Object js known_kinds.Object refl, tt),
        ) kind in
        let made_by : as_it_is want e ≡ choices old (list ts) want ks = sym (ap (λ b. if b then as_it_is want e else choices_in operators.Get (choices (literal (values.text s)) ∷ choices (literal (values.map (global_object s (at_key s (pairs_of []))))) ∷ []) (listed ts) want ks) yes_global) in
        subst (λ x. GoodNode g ks want N f (list ts) b (choices x (list ts) want ks)) (sym a_is)
        (subst (λ y. GoodNode g ks want N f (list ts) y (choices old (list ts) want ks)) (sym b_is)
        (subst (GoodNode g ks want N f (list ts) new) made_by (
          choices_good g ks want N f new e None
              (record {
                first = old;
                second = new;
                parsed = parsed N;
                same = λ names world. refl;
                lighter = λ w. omega arith;
                calmer = λ s. omega arith;
                known = λ k q. record {
                  names = λ M h. parsed M;
                  depends = λ names names' v w h reads. ap (λ x. mean new want names x) (reads refl);
                  steady = λ z. absurd (cc);
                  typed = λ js a j kind. global_has js j kind;
                };
                asked = λ k q. tt;
                argument = refl;
              })
              (λ k typed. let (js, are, kind) = node_from operators.Get tt want ks parts k typed in kind)
              (λ made q k kind. absurd (cc)),
          λ apart h. h,
        )))

    general_good : (name : Name) → head_name ts ≡ Some name → (row name).is_outside ≡ false → allows (row name).arity (count_trees ts - 1) ≡ true → IsGeneral (row name).layout → BindsNone (row name).layout → is_global_layout (row name).layout ≡ false →
        HasArguments (row name).layout name ts f a b (λ op us vs. ParsedArguments g (row name).layout (count_trees ts) 0 ts N (names_within op N) f us vs) → GoodNode g ks want N f (list ts) b (choices a (list ts) want ks)
    general_good name head inside fits general unbound still h =
        let (op, us, vs, operator, laid, a_is, b_is, parsed) = h in
        let is : operator_name op ≡ name = name_is name (globals []) (count_trees ts) ts op operator in
        let general_now : IsGeneral (row (operator_name op)).layout = subst (λ m. IsGeneral (row m).layout) (sym is) general in
        let unbound_now : BindsNone (row (operator_name op)).layout = subst (λ m. BindsNone (row m).layout) (sym is) unbound in
        let plain : IsNameless op = nameless op general_now unbound_now in
        let none : is_global_name (head_name ts) ≡ false = ap is_global_name head ∙ (global_named name ∙ still) in
        let one : GoodNode g ks want N f (list ts) (node op (terms_of vs)) (plain_choices op (simples (terms_of us)) (listed ts) want ks) =
        plain_good op plain general_now ts N f us vs want ks
        (head ∙ ap Some (sym is)) (subst (λ m. (row m).is_outside ≡ false) (sym is) inside) (subst (λ m. allows (row m).arity (count_trees ts - 1) ≡ true) (sym is) fits)
        (subst (λ m. operator_of (row m).layout m (globals []) (count_trees ts) ts ≡ Ok op) (sym is) operator) (subst (λ m. layout_outside (row m).layout ts f ≡ false) (sym is) laid)
        (subst (λ m. ParsedArguments g (row m).layout (count_trees ts) 0 ts N N f us vs) (sym is) (subst (λ M. ParsedArguments g (row name).layout (count_trees ts) 0 ts N M f us vs) (within op N plain) parsed))
        good in
        subst (λ x. GoodNode g ks want N f (list ts) b (choices x (list ts) want ks)) (sym a_is)
        (subst (λ y. GoodNode g ks want N f (list ts) y (choices (node op (terms_of us)) (list ts) want ks)) (sym b_is)
        (subst (GoodNode g ks want N f (list ts) (node op (terms_of vs))) (in_choices op general_now unbound_now (simples (terms_of us)) (listed ts) want ks ∙ in_node op (simples (terms_of us)) ts want ks none) one))

    format_node : (name : Name) → head_name ts ≡ Some name → name ≡ named.Format → allows (row name).arity (count_trees ts - 1) ≡ true → HasSections f a b (λ ps us vs. ParsedSections g true 0 false ts N ps us vs) → GoodNode g ks want N f (list ts) b (choices a (list ts) want ks)
    format_node name head name_is fits h =
        let (ps, us, vs, format, a_is, b_is, parsed) = h in
        let head_is : head_name ts ≡ Some named.Format = head ∙ ap Some name_is in
        let none : is_global_name (head_name ts) ≡ false = ap is_global_name head_is in
        let allowed : allows (row named.Format).arity (count_trees ts - 1) ≡ true = subst (λ m. allows (row m).arity (count_trees ts - 1) ≡ true) name_is fits in
        let e : SimpleElement = format_of (operators.Format ps) ps want (listed ts) (piece_elements ps 0 (simples (terms_of us)) (listed ts) ks) in
        subst (λ x. GoodNode g ks want N f (list ts) b (choices x (list ts) want ks)) (sym a_is)
        (subst (λ y. GoodNode g ks want N f (list ts) y (choices (node (operators.Format ps) (terms_of us)) (list ts) want ks)) (sym b_is)
        (subst (GoodNode g ks want N f (list ts) (node (operators.Format ps) (terms_of vs))) (in_node (operators.Format ps) (simples (terms_of us)) ts want ks none) (
          choices_good g ks want N f (node (operators.Format ps) (terms_of vs)) e None
              (format_good g ps want N f ks us vs ts good head_is allowed format parsed).0
              (format_good g ps want N f ks us vs ts good head_is allowed format parsed).1
              (λ made q k kind. absurd (cc)),
          λ apart h. absurd (let bad : true ≡ false = sym format ∙ apart in cc),
        )))

    let_in : (name : Name) → head_name ts ≡ Some name → name ≡ named.Let → allows (row name).arity (count_trees ts - 1) ≡ true → (us : Trees) → ts ≡ us → GoodTrees g us →
        HasArguments layouts.Bindings name ts f a b (λ op us vs. ParsedArguments g layouts.Bindings (count_trees ts) 0 ts N (names_within op N) f us vs) → GoodNode g ks want N f (list ts) b (choices a (list ts) want ks)
    let_in name head name_is fits no_trees ts_is goods h = absurd (let none : None ≡ Some name = sym (ap head_name ts_is) ∙ head in cc)
    let_in name head name_is fits (tree t rest) ts_is goods h =
        let (op, us, vs, operator, laid, a_is, b_is, parsed) = h in
        let (bs, names, op_is) = let_ok (names_among (count_trees ts) ts) op operator in
        subst (λ xs. GoodNode g ks want N f (list xs) b (choices a (list xs) want ks)) (sym ts_is)
        (let_of_parts t rest goods (subst (λ xs. head_name xs ≡ Some named.Let) ts_is (head ∙ ap Some name_is))
        (subst (λ xs. allows (row named.Let).arity (count_trees xs - 1) ≡ true) ts_is (subst (λ m. allows (row m).arity (count_trees ts - 1) ≡ true) name_is fits))
        bs us vs (subst (λ xs. names_among (count_trees xs) xs ≡ Some bs) ts_is names)
        (a_is ∙ ap (λ x. node x (terms_of us)) op_is) (b_is ∙ ap (λ x. node x (terms_of vs)) op_is)
        (subst (λ xs. ParsedArguments g layouts.Bindings (count_trees xs) 0 xs N (bs ++ N) f us vs) ts_is (subst (λ x. ParsedArguments g layouts.Bindings (count_trees ts) 0 ts N (names_within x N) f us vs) op_is parsed)))
      where
        let_of_parts : (t : Tree) (rest : Trees) → GoodTrees g (tree t rest) → head_name (tree t rest) ≡ Some named.Let → allows (row named.Let).arity (count_trees (tree t rest) - 1) ≡ true → (bs : Names) (us vs : List Term) →
            names_among (count_trees (tree t rest)) (tree t rest) ≡ Some bs → a ≡ node (operators.Let bs) (terms_of us) → b ≡ node (operators.Let bs) (terms_of vs) →
            ParsedArguments g layouts.Bindings (count_trees (tree t rest)) 0 (tree t rest) N (bs ++ N) f us vs → GoodNode g ks want N f (list (tree t rest)) b (choices a (list (tree t rest)) want ks)
        let_of_parts t rest goods head fits bs us vs names a_is b_is parsed =
            let whole : Parsed g (list (tree t rest)) N f (node (operators.Let bs) (terms_of us)) (node (operators.Let bs) (terms_of vs)) =
            (named.Let, head, refl, fits, (operators.Let bs, us, vs, ap let_operator names, refl, refl, refl, parsed)) in
            let none : is_global_name (head_name (tree t rest)) ≡ false = ap is_global_name head in
            subst (λ x. GoodNode g ks want N f (list (tree t rest)) b (choices x (list (tree t rest)) want ks)) (sym a_is)
            (subst (λ y. GoodNode g ks want N f (list (tree t rest)) y (choices (node (operators.Let bs) (terms_of us)) (list (tree t rest)) want ks)) (sym b_is)
            (subst (GoodNode g ks want N f (list (tree t rest)) (node (operators.Let bs) (terms_of vs))) (in_node (operators.Let bs) (simples (terms_of us)) (tree t rest) want ks none)
            (let_node g ks t rest N f us vs bs want head fits names goods.2 parsed whole)))

    general_by : (name : Name) → head_name ts ≡ Some name → (row name).is_outside ≡ false → allows (row name).arity (count_trees ts - 1) ≡ true → (l : ElementLayout) → (row name).layout ≡ l → IsGeneral l → BindsNone l → is_global_layout l ≡ false →
        HasArguments l name ts f a b (λ op us vs. ParsedArguments g l (count_trees ts) 0 ts N (names_within op N) f us vs) → GoodNode g ks want N f (list ts) b (choices a (list ts) want ks)
    general_by name head inside fits l is general unbound still h =
        general_good name head inside fits (subst IsGeneral (sym is) general) (subst BindsNone (sym is) unbound) (ap is_global_layout is ∙ still)
        (subst (λ l. HasArguments l name ts f a b (λ op us vs. ParsedArguments g l (count_trees ts) 0 ts N (names_within op N) f us vs)) (sym is) h)

    by_layout : (name : Name) → head_name ts ≡ Some name → (row name).is_outside ≡ false → allows (row name).arity (count_trees ts - 1) ≡ true → (l : ElementLayout) → (row name).layout ≡ l →
        LaidBy l (HasValue ts a b) (HasVariable ts N a b) (HasGlobal g ts a b)
        (HasSections f a b (λ ps us vs. ParsedSections g true 0 false ts N ps us vs))
        (HasArguments l name ts f a b (λ op us vs. ParsedArguments g l (count_trees ts) 0 ts N (names_within op N) f us vs)) → GoodNode g ks want N f (list ts) b (choices a (list ts) want ks)
    by_layout name head inside fits layouts.Value is h = value_good name head (value_name name is) fits h
    by_layout name head inside fits layouts.Variable is h = variable_good name head (variable_name name is) fits h
    by_layout name head inside fits layouts.Global is h = global_good name head (global_name name is) fits h
    by_layout name head inside fits layouts.Sections is h = format_node name head (format_name name is) fits h
    by_layout name head inside fits layouts.Arguments is h = general_by name head inside fits layouts.Arguments is tt tt refl h
    by_layout name head inside fits layouts.Choices is h = general_by name head inside fits layouts.Choices is tt tt refl h
    by_layout name head inside fits layouts.Items is h = general_by name head inside fits layouts.Items is tt tt refl h
    by_layout name head inside fits layouts.Cases is h = general_by name head inside fits layouts.Cases is tt tt refl h
    by_layout name head inside fits layouts.Labels is h = general_by name head inside fits layouts.Labels is tt tt refl h
    by_layout name head inside fits layouts.Stops is h = general_by name head inside fits layouts.Stops is tt tt refl h
    by_layout name head inside fits layouts.Ramp is h = general_by name head inside fits layouts.Ramp is tt tt refl h
    by_layout name head inside fits layouts.Bindings is h = let_in name head (let_name name is) fits ts refl good h

  list_good : (ts : Trees) → GoodTrees g ts → GoodTree g (list ts)
  list_good ts good N f a b p want ks =
      let (name, head, inside, fits, laid) = p in
      by_layout ts good N f a b want ks name head inside fits (row name).layout refl laid

  mutual
    pub tree_good : (k : ℕ) (t : Tree) → IsSound k t → GoodTree g t
    tree_good k null sound = λ N f a b p want ks. literal_tree null values.null N f a b p.0 p.1 (λ M h. (refl, refl)) want ks
    tree_good k (boolean c) sound = λ N f a b p want ks. literal_tree (boolean c) (values.boolean c) N f a b p.0 p.1 (λ M h. (refl, refl)) want ks
    tree_good k (number n) sound = λ N f a b p want ks. literal_tree (number n) (values.number p.0) N f a b p.2 p.3 (λ M h. (p.0, p.1, refl, refl)) want ks
    tree_good k (text s) sound = λ N f a b p want ks. literal_tree (text s) (values.text s) N f a b p.0 p.1 (λ M h. (refl, refl)) want ks
    tree_good k (list ts) sound = list_good ts (trees_good (suc k) ts sound.1)
    tree_good k (object fs) sound = λ N f a b p want ks. absurd p

    trees_good : (k : ℕ) (ts : Trees) → AreSound k ts → GoodTrees g ts
    trees_good k no_trees sound = tt
    trees_good k (tree t ts) sound = (tree_good k t sound.0, members_good k t sound.0, trees_good k ts sound.1)

    members_good : (k : ℕ) (t : Tree) → IsSound k t → GoodMembers g t
    members_good k null sound = tt
    members_good k (boolean c) sound = tt
    members_good k (number n) sound = tt
    members_good k (text s) sound = tt
    members_good k (list ts) sound = tt
    members_good k (object fs) sound = (sound.1, fields_good (suc k) fs sound.2)

    fields_good : (k : ℕ) (fs : Fields) → HasSoundMembers k fs → GoodFields g fs
    fields_good k no_fields sound = tt
    fields_good k (field key t fs) sound = (tree_good k t sound.1, fields_good k fs sound.2)
