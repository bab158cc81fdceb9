-- `all`, `any` and `coalesce` without what decides nothing.
use Rattle.std.proofs.Common.{◌≡◌, ◌∙◌, ◌≤◌, ◌<◌, ℕ, ◌+◌, ◌-◌, suc, List, [], ◌∷◌, length, map, Bool, true, false, Option, Some, None, Result, Ok, Err, refl, ap, sym, subst, arith, inl, inr}
use Rattle.std.proofs.lemmas.Bool.{and_parts, le-leb, ne_eqb}
use Rattle.std.specs.Prelude.{◌⊎◌, ◌&&◌, nat_eq, if◌then◌else◌}
use Rattle.decimal_json.specs.Tree.{Tree, null, boolean, number, text, list, object, Trees, no_trees, tree, trees_of}
use Rattle.prop_values.specs.Data as values
use Rattle.prop_values.specs.Data.{Data, Items, Pairs}
use Rattle.prop_values.specs.JsonData.{fields_data, json_data, then_data, trees_data}
use Rattle.fixed_num.specs.declared.decimal.NumFault.{NumFault}
use Rattle.prop_values.specs.declared.kinds.Want.{Want}
use Rattle.prop_values.specs.declared.kinds.Want.TheVariants as wants
use Rattle.property_tables.specs.Fitting.{fit}
use Rattle.expr_syntax.specs.Elements.{head_name, second}
use Rattle.expr_syntax.specs.Mentioned.{count}
use Rattle.expr_syntax.specs.Names.{row}
use Rattle.expr_syntax.specs.Operators.{operator_name}
use Rattle.expr_syntax.specs.Parts.{operator_of}
use Rattle.expr_syntax.specs.Rows.{allows, element_place}
use Rattle.expr_syntax.specs.Scopes.{globals}
use Rattle.expr_syntax.specs.Standing.{layout_outside}
use Rattle.expr_syntax.proofs.CountLaws.{count_trees}
use Rattle.expr_syntax.specs.Term.{Term, literal, node, terms_of}
use Rattle.expr_syntax.specs.declared.expression.Operator.{Operator}
use Rattle.expr_syntax.specs.declared.expression.Operator.TheVariants.{All, Any, Coalesce}
use Rattle.expr_syntax.specs.declared.rows.ElementLayout.{ElementLayout}
use Rattle.expr_syntax.specs.declared.rows.ElementLayout.TheVariants as layouts
use Rattle.expr_syntax.specs.declared.rows.ElementPlace.TheVariants.{Part, Argument, Output}
use Rattle.expr_types.specs.Typing.{KindScope, argument_want}
use Rattle.expr_types.specs.declared.standing.Standing.{Standing}
use Rattle.operator_values.specs.Evaluated.{Evaluated, then_value}
use Rattle.eval_face.specs.Decisions.{first_of, or_later, if_false, if_true, if_there}
use Rattle.eval_face.specs.Meaning.{mean, means}
use Rattle.eval_face.specs.Meanings.{Meaning, argument_of}
use Rattle.eval_face.specs.Names.{BoundOutcomes}
use Rattle.eval_face.specs.World.{World}
use Rattle.style_simplify.specs.Literals.{is_literal_node, literal_element, literal_value, value_at, value_in}
use Rattle.style_simplify.specs.Simple.{operator_reads}
use Rattle.style_simplify.specs.ShorterNodes.{and_element, choice_role, condition_role, is_coalesce, is_container, is_deciding, joined, role_of, shorter_by, some_role, undecided}
use Rattle.style_simplify.specs.SimpleElements.{SimpleElement, node_of, part, tree_in}
use Rattle.simplify_laws.proofs.ParsedTrees.{HereOr, Names, Values, Parsed}
use Rattle.simplify_laws.proofs.Measures.{LosesArguments, Weights, measure, measures}
use Rattle.simplify_laws.proofs.Strays.{loses_calmer, spread_strays, strays}
use Rattle.simplify_laws.proofs.Alike.{IsNameless}
use Rattle.simplify_laws.proofs.GoodElements.{AreGood, Good}
use Rattle.simplify_laws.proofs.LiteralsGood.{IsLiteral, element_kinds, literal_good, literal_parsed, value_laid}
use Rattle.simplify_laws.proofs.NodeGood.{IsGeneral, node_good, trees_count}

abbrev type_of : {A : Type 0} → A → Type 0
type_of {A} x = A

abbrev Role : Type 0
Role = type_of (choice_role null)

abbrev passed : Role
passed = choice_role null

abbrev deciding : Role
deciding = condition_role false (boolean false)

abbrev open_role : Role
open_role = condition_role false null

pub not_first : (k : ℕ) → 0 < k → nat_eq k 0 ≡ false
not_first k h = ne_eqb k 0 (λ e. omega (arith, h, e))

-- what the first that decides gives, under one want
abbrev pub each_of : (Data → Option Data) → Evaluated → Want → List Meaning → BoundOutcomes → World → Evaluated
each_of decides none u [] names world = none
each_of decides none u (x ∷ ms) names world = then_value (x u names world) (λ d. or_later (decides d) (each_of decides none u ms names world))

first_is_each : (decides : Data → Option Data) (none : Evaluated) (op : Operator) (u want : Want) (names : BoundOutcomes) (world : World) → ((m k : ℕ) (x : Meaning) → argument_of op m k x want names world ≡ x u names world) →
    (m k : ℕ) (ms : List Meaning) → first_of decides none op m k ms want names world ≡ each_of decides none u ms names world
first_is_each decides none op u want names world is m k [] = refl
first_is_each decides none op u want names world is m k (x ∷ ms) = λ i. then_value (is m k x i) (λ d. or_later (decides d) (first_is_each decides none op u want names world is m (k + 1) ms i))

module _ (g : Values) (scope : KindScope) where
  pub good_change : (want : Want) (N : Names) (f : Bool) (t u : Term) (e : SimpleElement) → ((names : BoundOutcomes) (world : World) → mean u want names world ≡ mean t want names world) → ((w : Weights) → measure w u ≤ measure w t) → ((s : Standing) → strays u s ≤ strays t s) → Good g scope want N f u e → Good g scope want N f t e
  good_change want N f t u e same lighter calmer good = record {
    first = good.first;
    second = good.second;
    parsed = good.parsed;
    same = λ names world. good.same names world ∙ same names world;
    lighter = λ w. let x = lighter w in let y = good.lighter w in omega (arith, x, y);
    calmer = λ s. let x = calmer s in let y = good.calmer s in omega (arith, x, y);
    known = good.known;
    asked = good.asked;
    argument = good.argument;
  }

  -- ---- arguments all under one want

  abbrev pub EachGood : Want → Names → Bool → List SimpleElement → List Term → Type 0
  EachGood u N h [] [] = Unit {0}
  EachGood u N h [] (v ∷ vs) = ⊥
  EachGood u N h (e ∷ es) [] = ⊥
  EachGood u N h (e ∷ es) (v ∷ vs) = Good g scope u N h v e × EachGood u N h es vs

  module _ (op : Operator) (want : Want) (l : ElementLayout) (N : Names) (f h : Bool) (u : Want) (one : (m k : ℕ) → argument_want op m k want ≡ u) where
    pub each_of_good : (m n : ℕ) → ((j : ℕ) → 0 < j → (S : Type 0) (T : Bool → Type 0) → HereOr (element_place l n j) f S T → T h) → (i k : ℕ) (ts : List Tree) (es : List SimpleElement) (vs : List Term) → 0 < i → AreGood g scope op m want l n N f i k ts es vs → EachGood u N h es vs
    each_of_good m n here i k [] [] vs some good = subst (EachGood u N h []) (sym good) tt
    each_of_good m n here i k [] (e ∷ es) vs some good = absurd good
    each_of_good m n here i k (t ∷ ts) [] vs some good = absurd good
    each_of_good m n here i k (t ∷ ts) (e ∷ es) vs some good =
        let (v, ys, vs_is, this, rest) = here i some _ _ good in
        subst (EachGood u N h (e ∷ es)) (sym vs_is) (subst (λ w. Good g scope w N h v e) (one m k) this, each_of_good m n here (i + 1) (k + 1) ts es ys (omega arith) rest)

    pub good_of_each : (m n : ℕ) → ((j : ℕ) → 0 < j → (S : Type 0) (T : Bool → Type 0) → T h → HereOr (element_place l n j) f S T) → (i k : ℕ) (es : List SimpleElement) (vs : List Term) → 0 < i → EachGood u N h es vs → AreGood g scope op m want l n N f i k (map tree_in es) es vs
    good_of_each m n here i k [] [] some good = refl
    good_of_each m n here i k [] (v ∷ vs) some good = absurd good
    good_of_each m n here i k (e ∷ es) [] some good = absurd good
    good_of_each m n here i k (e ∷ es) (v ∷ vs) some good =
        here i some _ _ (v, vs, refl, subst (λ w. Good g scope w N h v e) (sym (one m k)) good.0, good_of_each m n here (i + 1) (k + 1) es vs (omega arith) good.1)

  -- ---- what an argument is by itself

  module _ (op : Operator) (u : Want) (decides : Data → Option Data) where
    abbrev Passes : Tree → Type 0
    Passes t = (M : Names) (h : Bool) (a b : Term) → Parsed g t M h a b → (d : Data) × (b ≡ literal d) × (fit u d ≡ Ok d) × (decides d ≡ None)

    abbrev Decides : Tree → Type 0
    Decides t = (M : Names) (h : Bool) (a b : Term) → Parsed g t M h a b → (d : Data) × (b ≡ literal d) × IsLiteral g t d × (literal_value t ≡ Some d) × (fit u d ≡ Ok d) × (decides d ≡ Some d)

    abbrev HasRole : Tree → Type 0
    HasRole t = ((role_of op t ≡ passed) × Passes t) ⊎ ((role_of op t ≡ deciding) × Decides t) ⊎ (role_of op t ≡ open_role)

    module _ (none : Evaluated) (roles : (t : Tree) → HasRole t) (N : Names) (h : Bool) where
      abbrev decided : List Term → BoundOutcomes → World → Evaluated
      decided vs names world = each_of decides none u (means (terms_of vs)) names world

      abbrev Undecided : List SimpleElement → List Term → Type 0
      Undecided es vs = (ws : List Term) × EachGood u N h (undecided op es) ws × ((names : BoundOutcomes) (world : World) → decided ws names world ≡ decided vs names world) × ((w : Weights) → measures w (terms_of ws) ≤ measures w (terms_of vs)) × ((s : Standing) → spread_strays ws s ≤ spread_strays vs s)

      passed_more : (e : SimpleElement) (v : Term) (es : List SimpleElement) (vs : List Term) → Good g scope u N h v e → Undecided es vs → role_of op e.tree ≡ passed → Passes e.tree → Undecided (e ∷ es) (v ∷ vs)
      passed_more e v es vs good rest role passes =
          let (ws, each, same, lighter, calmer) = rest in
          let (d, is, fits, absent) = passes N h good.first good.second good.parsed in (
            ws,
            subst (λ r. EachGood u N h (and_element r e (undecided op es)) ws) (sym role) each,
            (λ names world. same names world
                ∙ sym (ap (λ x. then_value x (λ d. or_later (decides d) (decided vs names world))) (sym (good.same names world) ∙ (ap (λ t. mean t u names world) is ∙ fits))
                ∙ ap (λ o. or_later o (decided vs names world)) absent)),
            (λ w. let x = lighter w in omega (arith, x)),
            (λ s. let x = calmer s in omega (arith, x)),
          )

      deciding_more : (e : SimpleElement) (v : Term) (es : List SimpleElement) (vs : List Term) → Good g scope u N h v e → role_of op e.tree ≡ deciding → Decides e.tree → Undecided (e ∷ es) (v ∷ vs)
      deciding_more e v es vs good role deciding_is =
          let (d, is, anywhere, value, fits, chosen_one) = deciding_is N h good.first good.second good.parsed in
          let whole : (names : BoundOutcomes) (world : World) (later : Evaluated) → then_value (mean v u names world) (λ d. or_later (decides d) later) ≡ Ok d = λ names world later.
          ap (λ x. then_value x (λ d. or_later (decides d) later)) (sym (good.same names world) ∙ (ap (λ t. mean t u names world) is ∙ fits)) ∙ ap (λ o. or_later o later) chosen_one in (
            v ∷ [],
            subst (λ r. EachGood u N h (and_element r e (undecided op es)) (v ∷ [])) (sym role) (good, tt),
            (λ names world. whole names world none ∙ sym (whole names world (decided vs names world))),
            (λ w. omega arith),
            (λ s. omega arith),
          )

      open_more : (e : SimpleElement) (v : Term) (es : List SimpleElement) (vs : List Term) → Good g scope u N h v e → Undecided es vs → role_of op e.tree ≡ open_role → Undecided (e ∷ es) (v ∷ vs)
      open_more e v es vs good rest role =
          let (ws, each, same, lighter, calmer) = rest in (
            v ∷ ws,
            subst (λ r. EachGood u N h (and_element r e (undecided op es)) (v ∷ ws)) (sym role) (good, each),
            (λ names world. ap (λ x. then_value (mean v u names world) (λ d. or_later (decides d) x)) (same names world)),
            (λ w. let x = lighter w in omega (arith, x)),
            (λ s. let x = calmer s in omega (arith, x)),
          )

      pub undecided_good : (es : List SimpleElement) (vs : List Term) → EachGood u N h es vs → Undecided es vs
      undecided_good [] [] good = ([], tt, (λ names world. refl), (λ w. omega arith), (λ s. omega arith))
      undecided_good [] (v ∷ vs) good = absurd good
      undecided_good (e ∷ es) [] good = absurd good
      undecided_good (e ∷ es) (v ∷ vs) good =
          let rest = undecided_good es vs good.1 in
          elim (roles e.tree) [ inl p ↦ passed_more e v es vs good.0 rest p.0 p.1 | inr q ↦ elim q [ inl p ↦ deciding_more e v es vs good.0 p.0 p.1 | inr p ↦ open_more e v es vs good.0 rest p ] ]

      -- ---- the whole

      abbrev Whole : Want → Term → List Term → Type 0
      Whole want t vs = (names : BoundOutcomes) (world : World) → then_value (decided vs names world) (fit want) ≡ mean t want names world

      -- nodes of these arguments are good
      abbrev NodesGood : Want → Bool → SimpleElement → Type 0
      NodesGood want f head =
          (es : List SimpleElement) (ws : List Term) → (is_coalesce op ≡ true → 1 ≤ length es) → EachGood u N h es ws →
          Good g scope want N f (node op (terms_of ws)) (node_of op want false (head ∷ es)) × Whole want (node op (terms_of ws)) ws

      one_decided : (want : Want) (f : Bool) (t : Term) (e : SimpleElement) (v : Term) → Good g scope u N h v e → Decides e.tree → Whole want t (v ∷ []) → Good g scope want N f t (literal_element want e.tree)
      one_decided want f t e v good deciding_is whole =
          let (d, is, anywhere, value, fits, chosen_one) = deciding_is N h good.first good.second good.parsed in
          literal_good g scope want N f t (literal_element want e.tree) d anywhere
          (λ names world.
          sym (ap (λ x. then_value x (fit want))
          (ap (λ x. then_value x (λ d. or_later (decides d) none)) (sym (good.same names world) ∙ (ap (λ t. mean t u names world) is ∙ fits)) ∙ ap (λ o. or_later o none) chosen_one))
          ∙ whole names world)
          (element_kinds g want e.tree d value) refl refl

      joined_by : (want : Want) (f : Bool) (t : Term) (head : SimpleElement) (nodes_good : NodesGood want f head) (none_null : is_coalesce op ≡ true → none ≡ Ok values.null) (vs : List Term) → Whole want t vs →
          (rest : List SimpleElement) (ws : List Term) → EachGood u N h rest ws → ((names : BoundOutcomes) (world : World) → decided ws names world ≡ decided vs names world) → ((w : Weights) → measure w (node op (terms_of ws)) ≤ measure w t) → ((s : Standing) → strays (node op (terms_of ws)) s ≤ strays t s) → Good g scope want N f t (joined op want head rest)
      joined_by want f t head nodes_good none_null vs whole rest ws each same lighter calmer = by rest each
        where
          whole_now : Whole want t ws
          whole_now names world = ap (λ x. then_value x (fit want)) (same names world) ∙ whole names world

          as_node : (rest : List SimpleElement) → EachGood u N h rest ws → (is_coalesce op ≡ true → 1 ≤ length rest) → Good g scope want N f t (node_of op want false (head ∷ rest))
          as_node rest each some =
              let (good, means_so) = nodes_good rest ws some each in
              good_change want N f t (node op (terms_of ws)) (node_of op want false (head ∷ rest)) (λ names world. sym (means_so names world) ∙ whole_now names world) lighter calmer good

          nothing_left : (ws : List Term) → EachGood u N h [] ws → Whole want t ws → is_coalesce op ≡ true → Good g scope want N f t (literal_element want null)
          nothing_left [] each now chosen_one = literal_good g scope want N f t (literal_element want null) values.null (λ M k. (refl, refl)) (λ names world. sym (ap (λ x. then_value x (fit want)) (none_null chosen_one)) ∙ now names world) (element_kinds g want null values.null refl) refl refl
          nothing_left (w ∷ ws) each now chosen_one = absurd each

          by_null : (b : Bool) → is_coalesce op ≡ b → EachGood u N h [] ws → Good g scope want N f t (if b then literal_element want null else node_of op want false (head ∷ []))
          by_null true q each = nothing_left ws each whole_now q
          by_null false q each = as_node [] each (λ z. absurd (let bad : true ≡ false = sym z ∙ q in cc))

          one_left : (ws : List Term) (e : SimpleElement) → EachGood u N h (e ∷ []) ws → Whole want t ws → Decides e.tree → Good g scope want N f t (literal_element want e.tree)
          one_left [] e each now chosen_one = absurd each
          one_left (w ∷ []) e each now chosen_one = one_decided want f t e w each.0 chosen_one now
          one_left (w ∷ x ∷ ws) e each now chosen_one = absurd each.1

          by_one : (e : SimpleElement) → EachGood u N h (e ∷ []) ws → Good g scope want N f t (if is_deciding (role_of op e.tree) then literal_element want e.tree else node_of op want false (head ∷ e ∷ []))
          by_one e each =
              let P : Role → Type 0 = λ r. Good g scope want N f t (if is_deciding r then literal_element want e.tree else node_of op want false (head ∷ e ∷ [])) in
              elim (roles e.tree) [ inl p ↦ subst P (sym p.0) (as_node (e ∷ []) each (λ z. omega arith)) | inr q ↦ elim q [ inl p ↦ subst P (sym p.0) (one_left ws e each whole_now p.1) | inr p ↦ subst P (sym p) (as_node (e ∷ []) each (λ z. omega arith)) ] ]

          by : (rest : List SimpleElement) → EachGood u N h rest ws → Good g scope want N f t (joined op want head rest)
          by [] each = by_null (is_coalesce op) refl each
          by (e ∷ []) each = by_one e each
          by (e ∷ x ∷ es) each = as_node (e ∷ x ∷ es) each (λ z. omega arith)

      pub joined_good : LosesArguments op → (want : Want) (f : Bool) (head : SimpleElement) (vs : List Term) (es : List SimpleElement) → NodesGood want f head → (is_coalesce op ≡ true → none ≡ Ok values.null) → Whole want (node op (terms_of vs)) vs → EachGood u N h es vs →
          Good g scope want N f (node op (terms_of vs)) (joined op want head (undecided op es))
      joined_good loses want f head vs es nodes_good none_null whole each =
          let (ws, now, same, lighter, calmer) = undecided_good es vs each in
          joined_by want f (node op (terms_of vs)) head nodes_good none_null vs whole (undecided op es) ws now same (λ w. let x = lighter w in let same_one = w.steady op loses (count (terms_of ws)) (count (terms_of vs)) in omega (arith, x, same_one)) (loses_calmer op loses ws vs calmer)

  -- ---- the three operators

  all_roles : (t : Tree) → HasRole All wants.Boolean if_false t
  all_roles (boolean true) = inl (refl, λ M h a b p. (values.boolean true, p.1, refl, refl))
  all_roles (boolean false) = inr (inl (refl, λ M h a b p. (values.boolean false, p.1, (λ N f. (refl, refl)), refl, refl, refl)))
  all_roles null = inr (inr refl)
  all_roles (number n) = inr (inr refl)
  all_roles (text s) = inr (inr refl)
  all_roles (list ts) = inr (inr refl)
  all_roles (object fs) = inr (inr refl)

  any_roles : (t : Tree) → HasRole Any wants.Boolean if_true t
  any_roles (boolean true) = inr (inl (refl, λ M h a b p. (values.boolean true, p.1, (λ N f. (refl, refl)), refl, refl, refl)))
  any_roles (boolean false) = inl (refl, λ M h a b p. (values.boolean false, p.1, refl, refl))
  any_roles null = inr (inr refl)
  any_roles (number n) = inr (inr refl)
  any_roles (text s) = inr (inr refl)
  any_roles (list ts) = inr (inr refl)
  any_roles (object fs) = inr (inr refl)

  container_data : (x : Tree) (d : Data) → is_container (Some x) ≡ true → json_data x ≡ Ok d → if_there d ≡ Some d
  container_data null d q h = absurd (cc)
  container_data (boolean b) d q h = absurd (cc)
  container_data (number n) d q h = absurd (cc)
  container_data (text s) d q h = absurd (cc)
  container_data (list us) d q h = by (trees_data us) h
    where
      by : (r : Result Items NumFault) → then_data r (λ ds. Ok (values.list ds)) ≡ Ok d → if_there d ≡ Some d
      by (Ok ds) k = let e : values.list ds ≡ d = cc in subst (λ x. if_there x ≡ Some x) e refl
      by (Err f) k = absurd (cc)
  container_data (object fs) d q h = by (fields_data fs) h
    where
      by : (r : Result Pairs NumFault) → then_data r (λ ps. Ok (values.map ps)) ≡ Ok d → if_there d ≡ Some d
      by (Ok ps) k = let e : values.map ps ≡ d = cc in subst (λ x. if_there x ≡ Some x) e refl
      by (Err f) k = absurd (cc)

  container_decides : (ts : Trees) → (is_literal_node ts && is_container (second ts)) ≡ true → Decides Coalesce wants.Any if_there (list ts)
  container_decides ts q M h a b p =
      let (node_is, holds) = and_parts (is_literal_node ts) (is_container (second ts)) q in
      let (x, d, there, is, a_is, b_is) = value_laid g ts M h a b p node_is in
      let value : literal_value (list ts) ≡ Some d =
      ap (λ c. if c then value_at (second ts) else None) node_is ∙ (ap value_at there ∙ ap value_in is) in
      (d, b_is, (literal_parsed g (list ts) d M h a b p value).1, value, refl, container_data x d (sym (ap is_container there) ∙ holds) is)

  coalesce_roles : (t : Tree) → HasRole Coalesce wants.Any if_there t
  coalesce_roles null = inl (refl, λ M h a b p. (values.null, p.1, refl, refl))
  coalesce_roles (boolean c) = inr (inl (refl, λ M h a b p. (values.boolean c, p.1, (λ N f. (refl, refl)), refl, refl, refl)))
  coalesce_roles (number n) = inr (inl (refl, λ M h a b p. let (z, reads, a_is, b_is) = p in (values.number z, b_is, (λ N f. (z, reads, refl, refl)), ap (λ r. value_in (then_data r (λ z. Ok (values.number z)))) reads, refl, refl)))
  coalesce_roles (text s) = inr (inl (refl, λ M h a b p. (values.text s, p.1, (λ N f. (refl, refl)), refl, refl, refl)))
  coalesce_roles (list ts) = by (is_literal_node ts && is_container (second ts)) refl
    where
      by : (b : Bool) → (is_literal_node ts && is_container (second ts)) ≡ b → HasRole Coalesce wants.Any if_there (list ts)
      by true q = inr (inl (ap (λ b. if b then deciding else open_role) q, container_decides ts q))
      by false q = inr (inr (ap (λ b. if b then deciding else open_role) q))
  coalesce_roles (object fs) = inr (inr refl)

  module _ (op : Operator) (plain : IsNameless op) (general : IsGeneral (row (operator_name op)).layout) (u : Want) (decides : Data → Option Data) (none : Evaluated) (roles : (t : Tree) → HasRole op u decides t) (N : Names) (f h : Bool) where
    abbrev place_of : ElementLayout
    place_of = (row (operator_name op)).layout

    record IsJoin (want : Want) : Type 1 where
      loses : LosesArguments op
      one : (m k : ℕ) → argument_want op m k want ≡ u
      here : (n j : ℕ) → 0 < j → (S : Type 0) (T : Bool → Type 0) → HereOr (element_place place_of n j) f S T → T h
      back : (n j : ℕ) → 0 < j → (S : Type 0) (T : Bool → Type 0) → T h → HereOr (element_place place_of n j) f S T
      fits : (k : ℕ) → (is_coalesce op ≡ true → 1 ≤ k) → allows (row (operator_name op)).arity (suc k - 1) ≡ true
      inside : (row (operator_name op)).is_outside ≡ false
      operator : (n : ℕ) (new : Trees) → operator_of place_of (operator_name op) (globals []) n new ≡ Ok op
      laid : (new : Trees) → layout_outside place_of new f ≡ false
      silent : (m : ℕ) → operator_reads op m ≡ false
      whole : (ws : List Term) (names : BoundOutcomes) (world : World) → then_value (each_of decides none u (means (terms_of ws)) names world) (fit want) ≡ mean (node op (terms_of ws)) want names world
      none_null : is_coalesce op ≡ true → none ≡ Ok values.null

    join_good : (want : Want) → IsJoin want → (m n : ℕ) (t : Tree) (ts : List Tree) (head : SimpleElement) (es : List SimpleElement) (vs : List Term) → head_name (tree t no_trees) ≡ Some (operator_name op) →
        head ≡ part t → AreGood g scope op m want place_of n N f 1 0 ts es vs → Good g scope want N f (node op (terms_of vs)) (joined op want head (undecided op es))
    join_good want is m n t ts head es vs named head_is good =
        joined_good op u decides none roles N h is.loses want f head vs es
        (λ new ws some each. (
          node_good g op plain general scope want N f (t ∷ map tree_in new) (head ∷ new) ws false (suc (length new))
              (record {
                head = ap (λ e. head_name (tree e.tree (trees_of (map tree_in new)))) head_is ∙ named;
                inside = is.inside;
                fits = ap (λ k. allows (row (operator_name op)).arity (suc k - 1)) (trees_count new) ∙ is.fits (length new) some;
                operator = is.operator (count_trees (trees_of (map tree_in (head ∷ new)))) (trees_of (map tree_in (head ∷ new)));
                laid = is.laid (trees_of (map tree_in (head ∷ new)));
              })
              refl
              (head_is, good_of_each op want place_of N f h u is.one (length ws) (suc (length new)) (is.back (suc (length new))) 1 0 new ws (omega arith) each)
              (λ z. absurd (let bad : true ≡ false = sym z ∙ is.silent (length ws) in cc)),
          is.whole ws,
        ))
        is.none_null (is.whole vs)
        (each_of_good op want place_of N f h u is.one m n (is.here n) 1 0 ts es vs (omega arith) good)

  arguments_here : (n j : ℕ) → 0 < j → (f : Bool) (S : Type 0) (T : Bool → Type 0) → HereOr (element_place layouts.Arguments n j) f S T → T false
  arguments_here n j some f S T x = subst (λ b. HereOr (if b then Part else Argument) f S T) (not_first j some) x

  arguments_back : (n j : ℕ) → 0 < j → (f : Bool) (S : Type 0) (T : Bool → Type 0) → T false → HereOr (element_place layouts.Arguments n j) f S T
  arguments_back n j some f S T x = subst (λ b. HereOr (if b then Part else Argument) f S T) (sym (not_first j some)) x

  choices_here : (n j : ℕ) → 0 < j → (f : Bool) (S : Type 0) (T : Bool → Type 0) → HereOr (element_place layouts.Choices n j) f S T → T f
  choices_here n j some f S T x = subst (λ b. HereOr (if b then Part else Output) f S T) (not_first j some) x

  choices_back : (n j : ℕ) → 0 < j → (f : Bool) (S : Type 0) (T : Bool → Type 0) → T f → HereOr (element_place layouts.Choices n j) f S T
  choices_back n j some f S T x = subst (λ b. HereOr (if b then Part else Output) f S T) (sym (not_first j some)) x

  some_joined : (b : Bool) (e made : SimpleElement) → (if b then Some e else None) ≡ Some made → e ≡ made
  some_joined true e made h = cc
  some_joined false e made h = absurd (cc)

  module _ (want : Want) (N : Names) (f : Bool) (m n : ℕ) (t : Tree) (ts : List Tree) (head : SimpleElement) (es : List SimpleElement) (vs : List Term) (head_is : head ≡ part t) where
    pub all_good : head_name (tree t no_trees) ≡ Some (operator_name All) → AreGood g scope All m want layouts.Arguments n N f 1 0 ts es vs → (made : SimpleElement) → shorter_by All want head es ≡ Some made → Good g scope want N f (node All (terms_of vs)) made
    all_good named good made h =
        subst (Good g scope want N f (node All (terms_of vs))) (some_joined (some_role All es) (joined All want head (undecided All es)) made h)
        (join_good All tt tt wants.Boolean if_false (Ok (values.boolean true)) all_roles N f false want
        (record {
          loses = tt;
          one = λ m k. refl;
          here = λ n j some S T x. arguments_here n j some f S T x;
          back = λ n j some S T x. arguments_back n j some f S T x;
          fits = λ k some. le-leb 0 (suc k - 1) (omega arith);
          inside = refl;
          operator = λ n new. refl;
          laid = λ new. refl;
          silent = λ m. refl;
          whole = λ ws names world. sym (ap (λ x. then_value x (fit want)) (first_is_each if_false (Ok (values.boolean true)) All wants.Boolean want names world (λ m k x. refl) (length (means (terms_of ws))) 0 (means (terms_of ws))));
          none_null = λ z. absurd (cc);
        })
        m n t ts head es vs named head_is good)

    pub any_good : head_name (tree t no_trees) ≡ Some (operator_name Any) → AreGood g scope Any m want layouts.Arguments n N f 1 0 ts es vs → (made : SimpleElement) → shorter_by Any want head es ≡ Some made → Good g scope want N f (node Any (terms_of vs)) made
    any_good named good made h =
        subst (Good g scope want N f (node Any (terms_of vs))) (some_joined (some_role Any es) (joined Any want head (undecided Any es)) made h)
        (join_good Any tt tt wants.Boolean if_true (Ok (values.boolean false)) any_roles N f false want
        (record {
          loses = tt;
          one = λ m k. refl;
          here = λ n j some S T x. arguments_here n j some f S T x;
          back = λ n j some S T x. arguments_back n j some f S T x;
          fits = λ k some. le-leb 0 (suc k - 1) (omega arith);
          inside = refl;
          operator = λ n new. refl;
          laid = λ new. refl;
          silent = λ m. refl;
          whole = λ ws names world. sym (ap (λ x. then_value x (fit want)) (first_is_each if_true (Ok (values.boolean false)) Any wants.Boolean want names world (λ m k x. refl) (length (means (terms_of ws))) 0 (means (terms_of ws))));
          none_null = λ z. absurd (cc);
        })
        m n t ts head es vs named head_is good)

    pub coalesce_good : head_name (tree t no_trees) ≡ Some (operator_name Coalesce) → AreGood g scope Coalesce m want layouts.Choices n N f 1 0 ts es vs → (made : SimpleElement) → shorter_by Coalesce want head es ≡ Some made → Good g scope want N f (node Coalesce (terms_of vs)) made
    coalesce_good named good made h =
        subst (Good g scope want N f (node Coalesce (terms_of vs))) (some_joined (some_role Coalesce es) (joined Coalesce want head (undecided Coalesce es)) made h)
        (join_good Coalesce tt tt wants.Any if_there (Ok values.null) coalesce_roles N f f want
        (record {
          loses = tt;
          one = λ m k. refl;
          here = λ n j some S T x. choices_here n j some f S T x;
          back = λ n j some S T x. choices_back n j some f S T x;
          fits = λ k some. let one = some refl in le-leb 1 (suc k - 1) (omega (arith, one));
          inside = refl;
          operator = λ n new. refl;
          laid = λ new. refl;
          silent = λ m. refl;
          whole = λ ws names world. sym (ap (λ x. then_value x (fit want)) (first_is_each if_there (Ok values.null) Coalesce wants.Any want names world (λ m k x. refl) (length (means (terms_of ws))) 0 (means (terms_of ws))));
          none_null = λ z. refl;
        })
        m n t ts head es vs named head_is good)
