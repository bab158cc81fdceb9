-- `case` without pairs that literals decide, and the output that the literal input of a `match` chooses.
use Rattle.std.proofs.Common.{◌≡◌, ◌∙◌, ◌≤◌, ◌<◌, ℕ, ◌+◌, ◌-◌, zero, suc, List, [], ◌∷◌, ◌++◌, length, map, take, Bool, true, false, Option, Some, None, Ok, refl, ap, sym, subst, arith}
use Rattle.std.proofs.lemmas.Bool.{and_from, eq-eqb, eqb-true, le-leb, ne_eqb}
use Rattle.std.specs.List.{slice_get}
use Rattle.std.specs.Prelude.{◌||◌, ◌%◌, nat_eq, nat_le, not, if◌then◌else◌}
use Rattle.decimal_json.specs.Tree.{Tree, null, boolean, number, text, list, object, no_trees, tree, trees_of}
use Rattle.prop_values.specs.Data as values
use Rattle.prop_values.specs.Data.{Data}
use Rattle.prop_values.specs.declared.kinds.Want.{Want}
use Rattle.prop_values.specs.declared.kinds.Want.TheVariants as wants
use Rattle.expr_syntax.specs.Chosen.{output_of}
use Rattle.expr_syntax.specs.Elements.{head_name}
use Rattle.expr_syntax.specs.Mentioned.{count}
use Rattle.expr_syntax.specs.Names.{row}
use Rattle.expr_syntax.specs.Operators.{operator_name, want_of}
use Rattle.expr_syntax.specs.Rows.{allows, element_place, is_even, is_label, is_last}
use Rattle.expr_syntax.specs.Term.{Term, node, terms_of}
use Rattle.expr_syntax.specs.declared.expression.Operator.TheVariants.{Case, Match}
use Rattle.expr_syntax.specs.declared.parts.Labelled.{Labelled}
use Rattle.expr_syntax.specs.declared.rows.ElementLayout.TheVariants as layouts
use Rattle.expr_syntax.specs.declared.rows.ElementPlace.TheVariants.{Part, Argument, Output}
use Rattle.expr_syntax.specs.declared.rows.Wanted.TheVariants.{Own, OfNode}
use Rattle.expr_types.specs.Typing.{KindScope, argument_want}
use Rattle.operator_values.specs.Evaluated.{then_value}
use Rattle.eval_face.specs.Branches.{branch, output_at}
use Rattle.eval_face.specs.Branches as branches
use Rattle.eval_face.specs.Meaning.{mean, means}
use Rattle.eval_face.specs.Names.{BoundOutcomes}
use Rattle.eval_face.specs.World.{World}
use Rattle.style_simplify.specs.Literals.{literal_value}
use Rattle.style_simplify.specs.ShorterNodes.{and_condition, arguments_in, case_of, case_with, chosen_output, first_turn, open_pairs, shorter_case, shorter_match, some_condition, turn_at}
use Rattle.style_simplify.specs.SimpleElements.{SimpleElement, node_of, part, tree_in}
use Rattle.simplify_laws.proofs.Measures.{Weights, measure, measures}
use Rattle.simplify_laws.proofs.Strays.{case_hides, hidden_calmer, match_hides, zooms}
use Rattle.simplify_laws.proofs.ParsedTrees.{HereOr, Names, Values}
use Rattle.simplify_laws.proofs.GoodElements.{AreGood, Good}
use Rattle.simplify_laws.proofs.JoinsGood.{EachGood, good_change, not_first}
use Rattle.simplify_laws.proofs.LiteralsGood.{literal_parsed}
use Rattle.simplify_laws.proofs.NodeGood.{node_good, trees_count, means_count}

abbrev type_of : {A : Type 0} → A → Type 0
type_of {A} x = A

-- all but the last, and the last
pub last_of : {A : Type 0} (x : A) (xs : List A) → (front : List A) × (end : A) × (take (length (x ∷ xs) - 1) (x ∷ xs) ≡ front) × (slice_get (x ∷ xs) (length (x ∷ xs) - 1) ≡ Some end) × (x ∷ xs ≡ front ++ end ∷ [])
last_of x [] = ([], x, refl, refl, refl)
last_of x (y ∷ ys) =
    let (front, end, taken, got, whole) = last_of y ys in
    let one : length (x ∷ y ∷ ys) - 1 ≡ suc (length (y ∷ ys) - 1) = omega arith in (
      x ∷ front,
      end,
      ap (λ n. take n (x ∷ y ∷ ys)) one ∙ ap (λ zs. x ∷ zs) taken,
      ap (slice_get (x ∷ y ∷ ys)) one ∙ got,
      ap (λ zs. x ∷ zs) whole,
    )

some_is : (b : Bool) (e made : SimpleElement) → (if b then Some e else None) ≡ Some made → e ≡ made
some_is true e made h = cc
some_is false e made h = absurd (cc)

module _ (g : Values) (scope : KindScope) (want : Want) (N : Names) (f : Bool) where
  -- conditions and outputs in turn, and the last output
  abbrev pub CasesGood : List SimpleElement → List Term → Type 0
  CasesGood [] vs = ⊥
  CasesGood (e ∷ es) [] = ⊥
  CasesGood (e ∷ []) (v ∷ []) = Good g scope want N f v e
  CasesGood (e ∷ []) (v ∷ w ∷ vs) = ⊥
  CasesGood (e ∷ x ∷ es) (v ∷ []) = ⊥
  CasesGood (e ∷ x ∷ es) (v ∷ w ∷ vs) = Good g scope wants.Boolean N false v e × Good g scope want N f w x × CasesGood es vs

  cases_odd : (es : List SimpleElement) (vs : List Term) → CasesGood es vs → (length es % 2 ≡ 1) × (length es ≡ length vs)
  cases_odd [] vs h = absurd h
  cases_odd (e ∷ es) [] h = absurd h
  cases_odd (e ∷ []) (v ∷ []) h = (refl, refl)
  cases_odd (e ∷ []) (v ∷ w ∷ vs) h = absurd h
  cases_odd (e ∷ x ∷ es) (v ∷ []) h = absurd h
  cases_odd (e ∷ x ∷ es) (v ∷ w ∷ vs) h = let (odd, same) = cases_odd es vs h.2 in (omega (arith, odd), omega (arith, same))

  -- ---- places and wants

  case_place : (n i : ℕ) (b c : Bool) → 0 < i → is_last n i ≡ b → is_even i ≡ c → (S : Type 0) (T : Bool → Type 0) → HereOr (element_place layouts.Cases n i) f S T ≡ HereOr (if b || c then Output else Argument) f S T
  case_place n i b c some p q S T = λ j. HereOr (if not_first i some j then Part else if p j || q j then Output else Argument) f S T

  case_want : (m k : ℕ) (b c : Bool) → is_last m k ≡ b → is_even k ≡ c → argument_want Case m k want ≡ want_of (if b || not c then OfNode else Own wants.Boolean) want
  case_want m k b c p q = λ j. want_of (if p j || not (q j) then OfNode else Own wants.Boolean) want

  even_then : (k : ℕ) → is_even k ≡ true → (is_even (k + 1) ≡ false) × (is_even (k + 1 + 1) ≡ true) × (is_even (k + 1 + 1 + 1) ≡ false)
  even_then k h =
      let even : k % 2 ≡ 0 = eqb-true (k % 2) 0 h in (
        ne_eqb ((k + 1) % 2) 0 (λ z. omega (arith, even, z)),
        eq-eqb ((k + 1 + 1) % 2) 0 (omega (arith, even)),
        ne_eqb ((k + 1 + 1 + 1) % 2) 0 (λ z. omega (arith, even, z)),
      )

  same_type : (A B : Type 0) → A ≡ B → A → B
  same_type A B e x = subst (λ T. T) e x

  -- the last
  last_here : (m n k : ℕ) → k + 1 ≡ m → n ≡ m + 1 → (S : Type 0) (T : Bool → Type 0) → HereOr (element_place layouts.Cases n (k + 1)) f S T ≡ T f
  last_here m n k all more S T = case_place n (k + 1) true (is_even (k + 1)) (omega arith) (eq-eqb (k + 1 + 1) n (omega (arith, all, more))) refl S T

  condition_here : (m n k : ℕ) → is_even k ≡ true → (k + 1 ≡ m → ⊥) → n ≡ m + 1 → (S : Type 0) (T : Bool → Type 0) → HereOr (element_place layouts.Cases n (k + 1)) f S T ≡ T false
  condition_here m n k even less more S T = case_place n (k + 1) false false (omega arith) (ne_eqb (k + 1 + 1) n (λ z. less (omega (arith, more, z)))) (even_then k even).0 S T

  output_here : (n k : ℕ) → is_even k ≡ true → (S : Type 0) (T : Bool → Type 0) → HereOr (element_place layouts.Cases n (k + 1 + 1)) f S T ≡ T f
  output_here n k even S T = case_place n (k + 1 + 1) (is_last n (k + 1 + 1)) true (omega arith) refl (even_then k even).1 S T ∙ by (is_last n (k + 1 + 1))
    where
      by : (b : Bool) → HereOr (if b || true then Output else Argument) f S T ≡ T f
      by true = refl
      by false = refl

  last_want : (m k : ℕ) → k + 1 ≡ m → argument_want Case m k want ≡ want
  last_want m k all = case_want m k true (is_even k) (eq-eqb (k + 1) m all) refl

  condition_want : (m k : ℕ) → is_even k ≡ true → (k + 1 ≡ m → ⊥) → argument_want Case m k want ≡ wants.Boolean
  condition_want m k even less = case_want m k false true (ne_eqb (k + 1) m less) even

  output_want : (m k : ℕ) → is_even k ≡ true → argument_want Case m (k + 1) want ≡ want
  output_want m k even = case_want m (k + 1) (is_last m (k + 1)) false refl (even_then k even).0 ∙ by (is_last m (k + 1))
    where
      by : (b : Bool) → want_of (if b || true then OfNode else Own wants.Boolean) want ≡ want
      by true = refl
      by false = refl

  -- ---- one form and the other

  pub cases_of_good : (m n k : ℕ) (ts : List Tree) (es : List SimpleElement) (vs : List Term) → is_even k ≡ true → k + length vs ≡ m → n ≡ m + 1 → length es % 2 ≡ 1 → AreGood g scope Case m want layouts.Cases n N f (k + 1) k ts es vs → CasesGood es vs
  cases_of_good m n k [] [] vs even all more odd h = absurd (omega (arith, odd))
  cases_of_good m n k [] (e ∷ es) vs even all more odd h = absurd h
  cases_of_good m n k (t ∷ ts) [] vs even all more odd h = absurd h
  cases_of_good m n k (t ∷ ts) (e ∷ es) [] even all more odd h =
      let (v, ys, vs_is, good, rest) = same_type _ _ (condition_here m n k even (λ z. omega (arith, all, z)) more _ _) h in
      absurd (cc)
  cases_of_good m n k (t ∷ ts) (e ∷ []) (v ∷ []) even all more odd h =
      let end : k + 1 ≡ m = omega (arith, all) in
      let (u, ys, vs_is, good, rest) = same_type _ _ (last_here m n k end more _ _) h in
      let same : u ≡ v = cc in
      subst (λ x. Good g scope want N f x e) same (subst (λ w. Good g scope w N f u e) (last_want m k end) good)
  cases_of_good m n k (t ∷ ts) (e ∷ x ∷ es) (v ∷ []) even all more odd h =
      let end : k + 1 ≡ m = omega (arith, all) in
      let (u, ys, vs_is, good, rest) = same_type _ _ (last_here m n k end more _ _) h in
      let none : ys ≡ [] = cc in
      absurd (none_more m n k ts x es even (subst (λ zs. AreGood g scope Case m want layouts.Cases n N f (k + 1 + 1) (k + 1) ts (x ∷ es) zs) none rest))
    where
      none_more : (m n k : ℕ) (ts : List Tree) (x : SimpleElement) (es : List SimpleElement) → is_even k ≡ true → AreGood g scope Case m want layouts.Cases n N f (k + 1 + 1) (k + 1) ts (x ∷ es) [] → ⊥
      none_more m n k [] x es even h = h
      none_more m n k (t ∷ ts) x es even h =
          let (w, zs, vs_is, good, rest) = same_type _ _ (output_here n k even _ _) h in
          absurd (cc)
  cases_of_good m n k (t ∷ []) (e ∷ []) (v ∷ w ∷ vs) even all more odd h =
      let (u, ys, vs_is, good, rest) = same_type _ _ (condition_here m n k even (λ z. omega (arith, all, z)) more _ _) h in
      absurd (let some : w ∷ vs ≡ ys = cc in let bad : w ∷ vs ≡ [] = some ∙ rest in cc)
  cases_of_good m n k (t ∷ y ∷ ts) (e ∷ []) (v ∷ w ∷ vs) even all more odd h =
      let (u, ys, vs_is, good, rest) = same_type _ _ (condition_here m n k even (λ z. omega (arith, all, z)) more _ _) h in
      absurd rest
  cases_of_good m n k (t ∷ []) (e ∷ x ∷ es) (v ∷ w ∷ vs) even all more odd h =
      let (u, ys, vs_is, good, rest) = same_type _ _ (condition_here m n k even (λ z. omega (arith, all, z)) more _ _) h in
      absurd rest
  cases_of_good m n k (t ∷ y ∷ ts) (e ∷ x ∷ es) (v ∷ w ∷ vs) even all more odd h =
      let between : k + 1 ≡ m → ⊥ = λ z. omega (arith, all, z) in
      let (u, ys, vs_is, good, rest) = same_type _ _ (condition_here m n k even between more _ _) h in
      let (p, zs, ys_is, output, others) = same_type _ _ (output_here n k even _ _) rest in
      let first : u ≡ v = cc in
      let some : ys ≡ w ∷ vs = cc in
      let whole : p ∷ zs ≡ w ∷ vs = sym ys_is ∙ some in
      let second : p ≡ w = cc in
      let later : zs ≡ vs = cc in (
        subst (λ x. Good g scope wants.Boolean N false x e) first (subst (λ w. Good g scope w N false u e) (condition_want m k even between) good),
        subst (λ z. Good g scope want N f z x) second (subst (λ w. Good g scope w N f p x) (output_want m k even) output),
        cases_of_good m n (k + 1 + 1) ts es vs (even_then k even).1 (omega (arith, all)) more (omega (arith, odd))
            (subst (λ z. AreGood g scope Case m want layouts.Cases n N f (k + 1 + 1 + 1) (k + 1 + 1) ts es z) later others),
      )

  pub good_of_cases : (m n k : ℕ) (es : List SimpleElement) (vs : List Term) → is_even k ≡ true → k + length vs ≡ m → n ≡ m + 1 → CasesGood es vs → AreGood g scope Case m want layouts.Cases n N f (k + 1) k (map tree_in es) es vs
  good_of_cases m n k [] vs even all more h = absurd h
  good_of_cases m n k (e ∷ es) [] even all more h = absurd h
  good_of_cases m n k (e ∷ []) (v ∷ []) even all more h =
      let end : k + 1 ≡ m = omega (arith, all) in
      same_type _ _ (sym (last_here m n k end more _ _)) (v, [], refl, subst (λ w. Good g scope w N f v e) (sym (last_want m k end)) h, refl)
  good_of_cases m n k (e ∷ []) (v ∷ w ∷ vs) even all more h = absurd h
  good_of_cases m n k (e ∷ x ∷ es) (v ∷ []) even all more h = absurd h
  good_of_cases m n k (e ∷ x ∷ es) (v ∷ w ∷ vs) even all more h =
      let between : k + 1 ≡ m → ⊥ = λ z. omega (arith, all, z) in
      same_type _ _ (sym (condition_here m n k even between more _ _)) (
        v,
        w ∷ vs,
        refl,
        subst (λ u. Good g scope u N false v e) (sym (condition_want m k even between)) h.0,
        same_type _ _ (sym (output_here n k even _ _)) (
          w,
          vs,
          refl,
          subst (λ u. Good g scope u N f w x) (sym (output_want m k even)) h.1,
          good_of_cases m n (k + 1 + 1) es vs (even_then k even).1 (omega (arith, all)) more h.2,
        ),
      )

  -- ---- pairs that literals decide go

  abbrev Turn : Type 0
  Turn = type_of first_turn

  abbrev OpenCases : List SimpleElement → List Term → Type 0
  OpenCases es vs = (ws : List Term) × CasesGood es ws × ((names : BoundOutcomes) (world : World) → branches.case_of (means (terms_of ws)) want names world ≡ branches.case_of (means (terms_of vs)) want names world) × ((w : Weights) → measures w (terms_of ws) ≤ measures w (terms_of vs))

  condition_is : (c : Bool) (v : Term) (e : SimpleElement) (t : Tree) → e.tree ≡ t → t ≡ boolean c → Good g scope wants.Boolean N false v e → (names : BoundOutcomes) (world : World) → mean v wants.Boolean names world ≡ Ok (values.boolean c)
  condition_is c v e t is b good names world =
      let p = literal_parsed g e.tree (values.boolean c) N false good.first good.second good.parsed (ap literal_value (is ∙ b)) in
      sym (good.same names world) ∙ ap (λ x. mean x wants.Boolean names world) p.0

  pub open_good : (pairs : List SimpleElement) (last : SimpleElement) (vs : List Term) → CasesGood (pairs ++ last ∷ []) vs → OpenCases (open_pairs first_turn pairs last) vs
  open_good [] last vs h = (vs, h, (λ names world. refl), (λ w. omega arith))
  open_good (e ∷ pairs) last [] h = absurd h
  open_good (e ∷ []) last (v ∷ []) h = absurd h
  open_good (e ∷ []) last (v ∷ w ∷ vs) h = absurd h.2
  open_good (e ∷ x ∷ pairs) last (v ∷ []) h = absurd h
  open_good (e ∷ x ∷ pairs) last (v ∷ w ∷ vs) h = by e.tree refl (open_good pairs last vs h.2)
    where
      kept : (t : Tree) → e.tree ≡ t → ((rest : List SimpleElement) → and_condition (turn_at t) e (open_pairs (turn_at t) (x ∷ pairs) last) ≡ e ∷ x ∷ open_pairs first_turn pairs last) → OpenCases (open_pairs first_turn pairs last) vs → OpenCases (open_pairs first_turn (e ∷ x ∷ pairs) last) (v ∷ w ∷ vs)
      kept t is stays later =
          let (ws, cases, same, lighter) = later in
          subst (λ zs. OpenCases zs (v ∷ w ∷ vs)) (sym (ap (λ u. and_condition (turn_at u) e (open_pairs (turn_at u) (x ∷ pairs) last)) is ∙ stays []))
          (v ∷ w ∷ ws, (h.0, h.1, cases), (λ names world. ap (branch (mean v wants.Boolean names world) (mean w want names world)) (same names world)), (λ w. let x = lighter w in omega (arith, x)))

      by : (t : Tree) → e.tree ≡ t → OpenCases (open_pairs first_turn pairs last) vs → OpenCases (open_pairs first_turn (e ∷ x ∷ pairs) last) (v ∷ w ∷ vs)
      by (boolean true) is later =
          subst (λ zs. OpenCases zs (v ∷ w ∷ vs)) (sym (ap (λ u. and_condition (turn_at u) e (open_pairs (turn_at u) (x ∷ pairs) last)) is))
          (w ∷ [], h.1, (λ names world. sym (ap (λ r. branch r (mean w want names world) (branches.case_of (means (terms_of vs)) want names world)) (condition_is true v e (boolean true) is refl h.0 names world))), (λ w. omega arith))
      by (boolean false) is later =
          let (ws, cases, same, lighter) = later in
          subst (λ zs. OpenCases zs (v ∷ w ∷ vs)) (sym (ap (λ u. and_condition (turn_at u) e (open_pairs (turn_at u) (x ∷ pairs) last)) is))
          (ws, cases, (λ names world. same names world ∙ sym (ap (λ r. branch r (mean w want names world) (branches.case_of (means (terms_of vs)) want names world)) (condition_is false v e (boolean false) is refl h.0 names world))), (λ w. let x = lighter w in omega (arith, x)))
      by null is later = kept null is (λ rest. refl) later
      by (number n) is later = kept (number n) is (λ rest. refl) later
      by (text s) is later = kept (text s) is (λ rest. refl) later
      by (list ts) is later = kept (list ts) is (λ rest. refl) later
      by (object fs) is later = kept (object fs) is (λ rest. refl) later

  one_case : (e : SimpleElement) (ws : List Term) (vs : List Term) → CasesGood (e ∷ []) ws → ((names : BoundOutcomes) (world : World) → branches.case_of (means (terms_of ws)) want names world ≡ branches.case_of (means (terms_of vs)) want names world) → ((w : Weights) → measures w (terms_of ws) ≤ measures w (terms_of vs)) → Good g scope want N f (node Case (terms_of vs)) e
  one_case e [] vs h same lighter = absurd h
  one_case e (v ∷ []) vs h same lighter =
      let less : (w : Weights) → measure w v ≤ measure w (node Case (terms_of vs)) = λ w. let x = lighter w in omega (arith, x) in
      good_change g scope want N f (node Case (terms_of vs)) v e same less (hidden_calmer Case (terms_of vs) v case_hides refl (less zooms)) h
  one_case e (w ∷ x ∷ ws) vs h same lighter = absurd h

  more_cases : (t : Tree) (head e x : SimpleElement) (es : List SimpleElement) (ws vs : List Term) → head_name (tree t no_trees) ≡ Some (operator_name Case) → head ≡ part t → CasesGood (e ∷ x ∷ es) ws →
      ((names : BoundOutcomes) (world : World) → branches.case_of (means (terms_of ws)) want names world ≡ branches.case_of (means (terms_of vs)) want names world) → ((w : Weights) → measures w (terms_of ws) ≤ measures w (terms_of vs)) →
      Good g scope want N f (node Case (terms_of vs)) (node_of Case want false (head ∷ e ∷ x ∷ es))
  more_cases t head e x es ws vs named head_is h same lighter =
      let new = e ∷ x ∷ es in
      let (odd, as_many) = cases_odd new ws h in
      let less : (w : Weights) → measure w (node Case (terms_of ws)) ≤ measure w (node Case (terms_of vs)) = λ w. let x = lighter w in let same_one = w.steady Case tt (count (terms_of ws)) (count (terms_of vs)) in omega (arith, x, same_one) in
      good_change g scope want N f (node Case (terms_of vs)) (node Case (terms_of ws)) (node_of Case want false (head ∷ new)) same less (hidden_calmer Case (terms_of vs) (node Case (terms_of ws)) case_hides refl (less zooms))
      (node_good g Case tt tt scope want N f (t ∷ map tree_in new) (head ∷ new) ws false (suc (length new))
      (record {
        head = ap (λ e. head_name (tree e.tree (trees_of (map tree_in new)))) head_is ∙ named;
        inside = refl;
        fits = ap (λ k. allows (row (operator_name Case)).arity (suc k - 1)) (trees_count new) ∙ and_from (nat_le 3 (suc (length new) - 1)) (nat_eq ((suc (length new) - 1) % 2) 1) (le-leb 3 (suc (length new) - 1) (omega (arith, odd))) (eq-eqb ((suc (length new) - 1) % 2) 1 (omega (arith, odd)));
        operator = refl;
        laid = refl;
      })
      refl
      (head_is, good_of_cases (length ws) (suc (length new)) 0 new ws refl (omega arith) (omega (arith, as_many)) h)
      (λ z. absurd (cc)))

  case_is_good : (t : Tree) (head : SimpleElement) (es : List SimpleElement) (vs : List Term) → head_name (tree t no_trees) ≡ Some (operator_name Case) → head ≡ part t → OpenCases es vs → Good g scope want N f (node Case (terms_of vs)) (case_of want head es)
  case_is_good t head [] vs named head_is h = absurd h.1
  case_is_good t head (e ∷ []) vs named head_is h = one_case e h.0 vs h.1 h.2 h.3
  case_is_good t head (e ∷ x ∷ es) vs named head_is h = more_cases t head e x es h.0 vs named head_is h.1 h.2 h.3

  pub case_good : (t : Tree) (head : SimpleElement) (es : List SimpleElement) (vs : List Term) → head_name (tree t no_trees) ≡ Some (operator_name Case) → head ≡ part t → CasesGood es vs →
      (made : SimpleElement) → shorter_case want head es ≡ Some made → Good g scope want N f (node Case (terms_of vs)) made
  case_good t head [] vs named head_is h made q = absurd h
  case_good t head (e ∷ es) vs named head_is h made q =
      let (front, end, taken, got, whole) = last_of e es in
      let now : case_with want head front (Some end) ≡ Some made = sym (λ i. case_with want head (taken i) (got i)) ∙ q in
      let is : case_of want head (open_pairs first_turn front end) ≡ made = some_is (some_condition true front) (case_of want head (open_pairs first_turn front end)) made now in
      subst (Good g scope want N f (node Case (terms_of vs))) is (case_is_good t head (open_pairs first_turn front end) vs named head_is (open_good front end vs (subst (λ zs. CasesGood zs vs) whole h)))

  -- ---- `match`

  later_place : (n i : ℕ) → 1 < i → (S : Type 0) (T : Bool → Type 0) → HereOr (element_place layouts.Labels n i) f S T ≡ HereOr (if is_label n i then Part else Output) f S T
  later_place n i some S T = λ j. HereOr (if ne_eqb i 0 (λ e. omega (arith, some, e)) j then Part else if ne_eqb i 1 (λ e. omega (arith, some, e)) j then Argument else if is_label n i then Part else Output) f S T

  output_wants : (ls : List Labelled) (m k : ℕ) → 0 < k → argument_want (Match ls) m k want ≡ want
  output_wants ls m k some = ap (λ b. want_of (if b then Own wants.Any else OfNode) want) (not_first k some)

  pub outputs_good : (ls : List Labelled) (m n i k : ℕ) (ts : List Tree) (es : List SimpleElement) (vs : List Term) → 1 < i → 0 < k → AreGood g scope (Match ls) m want layouts.Labels n N f i k ts es vs → EachGood g scope want N f (arguments_in es) vs
  outputs_good ls m n i k [] [] vs some past h = subst (EachGood g scope want N f []) (sym h) tt
  outputs_good ls m n i k [] (e ∷ es) vs some past h = absurd h
  outputs_good ls m n i k (t ∷ ts) [] vs some past h = absurd h
  outputs_good ls m n i k (t ∷ ts) (e ∷ es) vs some past h =
      by (is_label n i) (same_type _ _ (later_place n i some _ _) h) (λ x. outputs_good ls m n (i + 1) k ts es vs (omega arith) past x) (λ ys x. outputs_good ls m n (i + 1) (k + 1) ts es ys (omega arith) (omega arith) x)
    where
      by : (b : Bool) → HereOr (if b then Part else Output) f ((e ≡ part t) × AreGood g scope (Match ls) m want layouts.Labels n N f (i + 1) k ts es vs)
          (λ h. (v : Term) × (ys : List Term) × (vs ≡ v ∷ ys) × Good g scope (argument_want (Match ls) m k want) N h v e × AreGood g scope (Match ls) m want layouts.Labels n N f (i + 1) (k + 1) ts es ys) →
          (AreGood g scope (Match ls) m want layouts.Labels n N f (i + 1) k ts es vs → EachGood g scope want N f (arguments_in es) vs) →
          ((ys : List Term) → AreGood g scope (Match ls) m want layouts.Labels n N f (i + 1) (k + 1) ts es ys → EachGood g scope want N f (arguments_in es) ys) → EachGood g scope want N f (arguments_in (e ∷ es)) vs
      by true h skip go = subst (λ x. EachGood g scope want N f (arguments_in (x ∷ es)) vs) (sym h.0) (skip h.1)
      by false h skip go =
          let (v, ys, vs_is, good, rest) = h in
          subst (λ b. EachGood g scope want N f (if b then arguments_in es else e ∷ arguments_in es) vs) (sym good.argument)
          (subst (EachGood g scope want N f (e ∷ arguments_in es)) (sym vs_is) (subst (λ w. Good g scope w N f v e) (output_wants ls m k past) good, go ys rest))

  each_length : (es : List SimpleElement) (vs : List Term) → EachGood g scope want N f es vs → length es ≡ length vs
  each_length [] [] h = refl
  each_length [] (v ∷ vs) h = absurd h
  each_length (e ∷ es) [] h = absurd h
  each_length (e ∷ es) (v ∷ vs) h = ap suc (each_length es vs h.1)

  output_good : (es : List SimpleElement) (vs : List Term) (k : ℕ) (made : SimpleElement) → EachGood g scope want N f es vs → slice_get es k ≡ Some made →
      (v : Term) × Good g scope want N f v made × ((names : BoundOutcomes) (world : World) → mean v want names world ≡ output_at (means (terms_of vs)) k want names world) × ((w : Weights) → measure w v ≤ measures w (terms_of vs))
  output_good [] vs k made h q = absurd (cc)
  output_good (e ∷ es) [] k made h q = absurd h
  output_good (e ∷ es) (v ∷ vs) zero made h q = let is : e ≡ made = cc in (v, subst (Good g scope want N f v) is h.0, (λ names world. refl), (λ w. omega arith))
  output_good (e ∷ es) (v ∷ vs) (suc k) made h q = let (u, good, same, lighter) = output_good es vs k made h.1 q in (u, good, same, (λ w. let x = lighter w in omega (arith, x)))

  -- the input, and the outputs among other elements
  pub match_good : (ls : List Labelled) (input : SimpleElement) (es : List SimpleElement) (v : Term) (vs : List Term) → Good g scope wants.Any N false v input → EachGood g scope want N f (arguments_in es) vs →
      (made : SimpleElement) → shorter_match ls (input ∷ es) ≡ Some made → Good g scope want N f (node (Match ls) (terms_of (v ∷ vs))) made
  match_good ls input es v vs good outputs made q = by (literal_value input.tree) refl (sym (ap (λ b. chosen_output ls (if b then arguments_in es else input ∷ arguments_in es) (literal_value input.tree)) good.argument) ∙ q)
    where
      by : (o : Option Data) → literal_value input.tree ≡ o → chosen_output ls (input ∷ arguments_in es) o ≡ Some made → Good g scope want N f (node (Match ls) (terms_of (v ∷ vs))) made
      by None is k = absurd (cc)
      by (Some d) is k =
          let outs = arguments_in es in
          let place = output_of ls d (length (input ∷ outs) - 2) in
          let next : place + 1 ≡ suc place = omega arith in
          let got : slice_get outs place ≡ Some made = sym (ap (slice_get (input ∷ outs)) next) ∙ k in
          let (u, this, same, lighter) = output_good outs vs place made outputs got in
          let p = literal_parsed g input.tree d N false good.first good.second good.parsed is in
          let value : (names : BoundOutcomes) (world : World) → mean v wants.Any names world ≡ Ok d = λ names world. sym (good.same names world) ∙ ap (λ x. mean x wants.Any names world) p.0 in
          let counted : length (input ∷ outs) - 2 ≡ length (means (terms_of vs)) - 1 = omega (arith, each_length outs vs outputs, means_count vs) in
          let less : (w : Weights) → measure w u ≤ measure w (node (Match ls) (terms_of (v ∷ vs))) = λ w. let x = lighter w in omega (arith, x) in
          good_change g scope want N f (node (Match ls) (terms_of (v ∷ vs))) u made
          (λ names world. same names world ∙ (ap (λ n. output_at (means (terms_of vs)) (output_of ls d n) want names world) counted
          ∙ sym (ap (λ r. then_value r (λ x. output_at (means (terms_of vs)) (output_of ls x (length (means (terms_of vs)) - 1)) want names world)) (value names world))))
          less (hidden_calmer (Match ls) (terms_of (v ∷ vs)) u (match_hides ls) refl (less zooms)) this
