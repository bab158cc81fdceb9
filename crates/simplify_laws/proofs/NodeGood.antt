-- A node whose arguments mean what they meant means what it meant.
use Rattle.std.proofs.Common.{◌≡◌, ◌∙◌, ◌≤◌, ◌<◌, ℕ, ℤ, ◌+◌, ◌-◌, zero, suc, List, [], ◌∷◌, length, map, Bool, true, false, Option, Some, None, Result, Ok, Err, refl, ap, sym, subst, arith}
use Rattle.std.proofs.lemmas.Bool.{and_parts, or_parts, or_left, or_right, leb-true, eqb-true, eqb-false, ne_eqb}
use Rattle.std.specs.Prelude.{not, ◌&&◌, ◌||◌, nat_eq, nat_le, if◌then◌else◌}
use Rattle.decimal_json.specs.Tree.{Tree, null, boolean, number, text, list, object, Trees, no_trees, tree, trees_of}
use Rattle.prop_values.specs.declared.kinds.Item.{Item}
use Rattle.prop_values.specs.declared.kinds.Kind.{Kind}
use Rattle.prop_values.specs.declared.kinds.Want.{Want}
use Rattle.prop_values.specs.declared.outcome.Curve.{Curve}
use Rattle.expr_syntax.specs.Elements.{after_head, head_name, second, second_text, taken}
use Rattle.expr_syntax.specs.Mentioned.{of_operator}
use Rattle.expr_syntax.specs.Names.{row}
use Rattle.expr_syntax.specs.Operators.{operator_name}
use Rattle.expr_syntax.specs.Parts.{operator_of, array_operator, with_item, with_length, item_of, length_of, match_operator, labels_among, are_of_one_type, inputs_among, with_inputs, ramp_operator, curve_in, names_among, let_operator, var_operator, collect_parts, no_labels, inputs_of, binding_names}
use Rattle.expr_syntax.specs.LabelLists.{repeats}
use Rattle.expr_syntax.specs.ReadTerms.{names_within}
use Rattle.expr_syntax.specs.Reading.{is_part}
use Rattle.expr_syntax.specs.Rows.{allows, element_place, place, is_even, is_input, is_label, is_last, is_binder}
use Rattle.expr_syntax.specs.Scopes.{Scope, globals, is_known}
use Rattle.expr_syntax.specs.Standing.{layout_outside, outside_ramp}
use Rattle.expr_syntax.specs.Term.{Term, node, terms_of}
use Rattle.expr_syntax.specs.declared.expression.Operator.{Operator}
use Rattle.expr_syntax.specs.declared.expression.Operator.TheVariants as operators
use Rattle.expr_syntax.specs.declared.fault.SynCode.{SynCode}
use Rattle.expr_syntax.specs.declared.fault.SynCode.TheVariants as code
use Rattle.expr_syntax.specs.declared.names.Name.{Name}
use Rattle.expr_syntax.specs.declared.names.Name.TheVariants as named
use Rattle.expr_syntax.specs.declared.rows.ElementLayout.{ElementLayout}
use Rattle.expr_syntax.specs.declared.rows.ElementLayout.TheVariants as layouts
use Rattle.expr_syntax.specs.declared.rows.ElementPlace.TheVariants.{Part, Argument}
use Rattle.expr_syntax.proofs.CountLaws.{count_trees, label_parts, stop_parts, ramp_parts, binder_parts}
use Rattle.expr_types.specs.Typing.{KindScope, argument_want}
use Rattle.eval_face.specs.Meaning.{means}
use Rattle.style_simplify.specs.Choices.{is_image}
use Rattle.style_simplify.specs.Simple.{choices, elements, is_any_read, is_script, listed, operator_reads, simple_element, simples}
use Rattle.style_simplify.specs.SimpleElements.{SimpleElement, all_asks, argument_kinds, kind_by, node_of, part, some_reads, tree_in}
use Rattle.simplify_laws.proofs.ParsedTrees.{Names, Values, LaidBy, Parsed, ParsedArguments}
use Rattle.simplify_laws.proofs.TermKinds.{AllHave, node_from, node_has}
use Rattle.simplify_laws.proofs.Measures.{same_weight}
use Rattle.simplify_laws.proofs.Strays.{node_calmer}
use Rattle.simplify_laws.proofs.Alike.{AreAlike, IsNameless, any_read, node_alike}
use Rattle.simplify_laws.proofs.GoodElements.{AreAmong, AreGood, AreKept, Good, Kept, Known, NewArguments, kinds_kept, new_arguments}

-- ---- the name of an operator that was read

abbrev type_of : {A : Type 0} → A → Type 0
type_of {A} x = A

abbrev IsNamedBy : Name → Result Operator SynCode → Type 0
IsNamedBy name (Ok op) = operator_name op ≡ name
IsNamedBy name (Err c) = Unit {0}

if_named : (name : Name) (b : Bool) (x y : Result Operator SynCode) → IsNamedBy name x → IsNamedBy name y → IsNamedBy name (if b then x else y)
if_named name true x y h k = h
if_named name false x y h k = k

array_named : (ts : Trees) → IsNamedBy named.Array (array_operator ts)
array_named no_trees = tt
array_named (tree x no_trees) = refl
array_named (tree i (tree x no_trees)) = by (item_of i)
  where
    by : (o : Option Item) → IsNamedBy named.Array (with_item o)
    by None = tt
    by (Some item) = refl
array_named (tree i (tree l (tree x ts))) = by (item_of i) (length_of l)
  where
    by : (o : Option Item) (c : Option ℕ) → IsNamedBy named.Array (with_length o c)
    by None c = tt
    by (Some item) None = tt
    by (Some item) (Some n) = refl

match_named : (n : ℕ) (ts : Trees) → IsNamedBy named.Match (match_operator (labels_among n ts))
match_named n ts = by (labels_among n ts)
  where
    by : (o : type_of (labels_among n ts)) → IsNamedBy named.Match (match_operator o)
    by None = tt
    by (Some found) = if_named named.Match (not (are_of_one_type found) || repeats (λ l. false) found.labels) _ _ tt (if_named named.Match found.past _ _ tt refl)

inputs_named : (name : Name) (make : List ℤ → Operator) → ((zs : List ℤ) → operator_name (make zs) ≡ name) → (r : Result (List ℤ) SynCode) → IsNamedBy name (with_inputs make r)
inputs_named name make is (Ok zs) = is zs
inputs_named name make is (Err c) = tt

ramp_named : (curve : Option Curve) (r : Result (List ℤ) SynCode) → IsNamedBy named.Interpolate (ramp_operator curve r)
ramp_named None r = tt
ramp_named (Some curve) (Ok zs) = refl
ramp_named (Some curve) (Err c) = tt

let_named : (o : Option (List (List ℕ))) → IsNamedBy named.Let (let_operator o)
let_named None = tt
let_named (Some names) = refl

var_named : (sc : Scope) (o : Option (List ℕ)) → IsNamedBy named.Var (var_operator sc o)
var_named sc None = tt
var_named sc (Some s) = if_named named.Var (is_known sc s) _ _ refl tt

operator_named : (name : Name) (sc : Scope) (n : ℕ) (ts : Trees) → IsNamedBy name (operator_of (row name).layout name sc n ts)
operator_named named.Array sc n ts = array_named (after_head ts)
operator_named named.Match sc n ts = match_named n ts
operator_named named.Step sc n ts = inputs_named named.Step operators.Step (λ zs. refl) (inputs_among n ts)
operator_named named.Interpolate sc n ts = ramp_named (curve_in (second ts)) (inputs_among n ts)
operator_named named.Let sc n ts = let_named (names_among n ts)
operator_named named.Var sc n ts = var_named sc (second_text ts)
operator_named named.Literal sc n ts = tt
operator_named named.GlobalState sc n ts = tt
operator_named named.Format sc n ts = tt
operator_named named.Upcase sc n ts = tt
operator_named named.Downcase sc n ts = tt
operator_named named.Collator sc n ts = tt
operator_named named.ResolvedLocale sc n ts = tt
operator_named named.NumberFormat sc n ts = tt
operator_named named.Within sc n ts = tt
operator_named named.Distance sc n ts = tt
operator_named named.InterpolateHcl sc n ts = tt
operator_named named.InterpolateLab sc n ts = tt
operator_named named.Power sc n ts = tt
operator_named named.Sqrt sc n ts = tt
operator_named named.Ln sc n ts = tt
operator_named named.Log10 sc n ts = tt
operator_named named.Log2 sc n ts = tt
operator_named named.Sin sc n ts = tt
operator_named named.Cos sc n ts = tt
operator_named named.Tan sc n ts = tt
operator_named named.Asin sc n ts = tt
operator_named named.Acos sc n ts = tt
operator_named named.Atan sc n ts = tt
operator_named named.E sc n ts = tt
operator_named named.Pi sc n ts = tt
operator_named named.Ln2 sc n ts = tt
operator_named named.HeatmapDensity sc n ts = tt
operator_named named.LineProgress sc n ts = tt
operator_named named.Accumulated sc n ts = tt
operator_named name sc n ts = refl

pub name_is : (name : Name) (sc : Scope) (n : ℕ) (ts : Trees) (op : Operator) → operator_of (row name).layout name sc n ts ≡ Ok op → operator_name op ≡ name
name_is name sc n ts op h = subst (IsNamedBy name) h (operator_named name sc n ts)

-- ---- the operator of a node whose parts stay

abbrev pub IsGeneral : ElementLayout → Type 0
IsGeneral layouts.Value = ⊥
IsGeneral layouts.Variable = ⊥
IsGeneral layouts.Global = ⊥
IsGeneral layouts.Sections = ⊥
IsGeneral l = Unit {0}

-- the elements between the name and the last
abbrev is_between : ℕ → ℕ → Bool
is_between n i = not (nat_eq i 0) && not (is_last n i)

abbrev array_from : ℕ → List Tree → Result Operator SynCode
array_from zero parts = Err code.Part
array_from (suc zero) parts = Ok (operators.Array None None)
array_from (suc (suc k)) [] = Err code.Part
array_from (suc (suc k)) (item ∷ []) = with_item (item_of item)
array_from (suc (suc k)) (item ∷ length ∷ parts) = with_length (item_of item) (length_of length)

between_at : (n i : ℕ) → 0 < i → (i + 1 ≡ n → ⊥) → is_between n i ≡ true
between_at n i some more = (λ j. not (ne_eqb i 0 (λ e. omega (arith, e, some)) j) && not (ne_eqb (i + 1) n more j))

array_parts : (n : ℕ) (us : Trees) → 1 + count_trees us ≡ n → array_operator us ≡ array_from (count_trees us) (taken is_between n 1 us)
array_parts n no_trees h = refl
array_parts n (tree x no_trees) h = refl
array_parts n (tree i (tree x no_trees)) h = subst (λ k. array_operator (tree i (tree x no_trees)) ≡ array_from (suc (suc zero)) (taken is_between k 1 (tree i (tree x no_trees)))) h refl
array_parts n (tree i (tree l (tree x ts))) h =
    let one : is_between n 1 ≡ true = between_at n 1 (omega arith) (λ e. omega (arith, e, h)) in
    let two : is_between n 2 ≡ true = between_at n 2 (omega arith) (λ e. omega (arith, e, h)) in
    sym (λ j. array_from (suc (suc (suc (count_trees ts)))) (if one j then i ∷ (if two j then l ∷ taken is_between n 3 (tree x ts) else taken is_between n 3 (tree x ts)) else (if two j then l ∷ taken is_between n 3 (tree x ts) else taken is_between n 3 (tree x ts))))

array_kept : (n : ℕ) (new old : Trees) → count_trees new ≡ n → count_trees old ≡ n → taken is_between n 0 new ≡ taken is_between n 0 old → array_operator (after_head new) ≡ array_operator (after_head old)
array_kept n no_trees no_trees p q h = refl
array_kept n no_trees (tree y vs) p q h = absurd (omega (arith, p, q))
array_kept n (tree x us) no_trees p q h = absurd (omega (arith, p, q))
array_kept n (tree x us) (tree y vs) p q h =
    let same : count_trees us ≡ count_trees vs = omega (arith, p, q) in
    array_parts n us (omega (arith, p)) ∙ ((λ j. array_from (same j) (h j)) ∙ sym (array_parts n vs (omega (arith, q))))

abbrev first_in : List Tree → Option Tree
first_in [] = None
first_in (t ∷ ts) = Some t

second_taken : (n : ℕ) (ts : Trees) → second ts ≡ first_in (taken (λ n i. nat_eq i 1) n 0 ts)
second_taken n no_trees = refl
second_taken n (tree a no_trees) = refl
second_taken n (tree a (tree b ts)) = refl

first_is_part : (l : ElementLayout) (n j : ℕ) → nat_eq j 0 ≡ true → is_part (element_place l n j) ≡ true
first_is_part l n j q = ap (λ b. is_part (if b then Part else place l n j)) q

-- a test that holds of parts after the name
parts_where : (l : ElementLayout) (n : ℕ) (test : ℕ → ℕ → Bool) → ((j : ℕ) → 1 ≤ j → is_part (element_place l n j) ≡ test n j) → (j : ℕ) → test n j ≡ true → is_part (element_place l n j) ≡ true
parts_where l n test is j h = by (nat_eq j 0) refl
  where
    by : (b : Bool) → nat_eq j 0 ≡ b → is_part (element_place l n j) ≡ true
    by true q = first_is_part l n j q
    by false q = is j (let z = eqb-false j 0 q in omega (arith, z)) ∙ h

ramp_where : (n j : ℕ) → is_input j ≡ true → is_part (element_place layouts.Ramp n j) ≡ true
ramp_where n j h = let (three, odd) = and_parts (nat_le 3 j) (not (is_even j)) h in ramp_parts n j (let z = leb-true 3 j three in omega (arith, z)) ∙ h

second_where : (n j : ℕ) → nat_eq j 1 ≡ true → is_part (element_place layouts.Ramp n j) ≡ true
second_where n j h = let one : j ≡ 1 = eqb-true j 1 h in subst (λ k. is_part (element_place layouts.Ramp n k) ≡ true) (sym one) refl

between_where : (n j : ℕ) → is_between n j ≡ true → is_part (element_place layouts.Items n j) ≡ true
between_where n j h = by (nat_eq j 0) (is_last n j) h
  where
    by : (b c : Bool) → (not b && not c) ≡ true → is_part (if b then Part else if c then Argument else Part) ≡ true
    by true c q = refl
    by false false q = refl
    by false true q = absurd (cc)

abbrev pub PartsStay : ElementLayout → ℕ → Trees → Trees → Type 0
PartsStay l n new old = (test : ℕ → ℕ → Bool) → ((j : ℕ) → test n j ≡ true → is_part (element_place l n j) ≡ true) → taken test n 0 new ≡ taken test n 0 old

second_stays : (n : ℕ) (new old : Trees) → PartsStay layouts.Ramp n new old → second new ≡ second old
second_stays n new old stay = second_taken n new ∙ (ap first_in (stay (λ n i. nat_eq i 1) (second_where n)) ∙ sym (second_taken n old))

pub operator_stays : (l : ElementLayout) → IsGeneral l → (name : Name) (sc : Scope) (n : ℕ) (new old : Trees) → count_trees new ≡ n → count_trees old ≡ n → PartsStay l n new old →
    operator_of l name sc n new ≡ operator_of l name sc n old
operator_stays layouts.Value g name sc n new old p q stay = absurd g
operator_stays layouts.Variable g name sc n new old p q stay = absurd g
operator_stays layouts.Global g name sc n new old p q stay = absurd g
operator_stays layouts.Sections g name sc n new old p q stay = absurd g
operator_stays layouts.Arguments g name sc n new old p q stay = refl
operator_stays layouts.Choices g name sc n new old p q stay = refl
operator_stays layouts.Cases g name sc n new old p q stay = refl
operator_stays layouts.Items g name sc n new old p q stay = array_kept n new old p q (stay is_between (between_where n))
operator_stays layouts.Labels g name sc n new old p q stay = ap (λ ts. match_operator (collect ts)) (stay is_label (parts_where layouts.Labels n is_label (label_parts n)))
  where
    collect : List Tree → type_of (labels_among n new)
    collect ts = collect_parts 0 ts no_labels
operator_stays layouts.Stops g name sc n new old p q stay = ap (λ ts. with_inputs operators.Step (inputs_of None ts)) (stay (λ n i. is_input i) (parts_where layouts.Stops n (λ n i. is_input i) (stop_parts n)))
operator_stays layouts.Ramp g name sc n new old p q stay =
    λ j. ramp_operator (curve_in (second_stays n new old stay j)) (inputs_of None (stay (λ n i. is_input i) (ramp_where n) j))
operator_stays layouts.Bindings g name sc n new old p q stay = ap (λ ts. let_operator (binding_names ts)) (stay is_binder (parts_where layouts.Bindings n is_binder (binder_parts n)))

pub outside_stays : (l : ElementLayout) → IsGeneral l → (n : ℕ) (new old : Trees) (f : Bool) → PartsStay l n new old → layout_outside l new f ≡ layout_outside l old f
outside_stays layouts.Ramp g n new old f stay = ap outside_ramp (second_stays n new old stay)
outside_stays layouts.Sections g n new old f stay = absurd g
outside_stays l g n new old f stay = refl

-- ---- counts

pub trees_count : (es : List SimpleElement) → count_trees (trees_of (map tree_in es)) ≡ length es
trees_count [] = refl
trees_count (e ∷ es) = ap suc (trees_count es)

pub listed_count : (ts : Trees) → length (listed ts) ≡ count_trees ts
listed_count no_trees = refl
listed_count (tree t ts) = ap suc (listed_count ts)

pub listed_back : (ts : Trees) → trees_of (listed ts) ≡ ts
listed_back no_trees = refl
listed_back (tree t ts) = ap (λ us. tree t us) (listed_back ts)

pub means_count : (ts : List Term) → length (means (terms_of ts)) ≡ length ts
means_count [] = refl
means_count (t ∷ ts) = ap suc (means_count ts)

pub length_simples : (us : List Term) → length (simples (terms_of us)) ≡ length us
length_simples [] = refl
length_simples (u ∷ us) = ap suc (length_simples us)

pub same_image : (t : Tree) (xs ys : Trees) → is_image (list (tree t xs)) ≡ is_image (list (tree t ys))
same_image null xs ys = refl
same_image (boolean b) xs ys = refl
same_image (number n) xs ys = refl
same_image (text s) xs ys = refl
same_image (list ts) xs ys = refl
same_image (object fs) xs ys = refl

-- ---- the elements of a node, one by one

module _ (op : Operator) (n m : ℕ) (want : Want) (ks : KindScope) where
  pub part_made : (i k : ℕ) (us : List Term) (t : Tree) (ts : List Tree) → is_part (element_place (row (operator_name op)).layout n i) ≡ true →
      elements op n m want ks i k (simples (terms_of us)) (t ∷ ts) ≡ part t ∷ elements op n m want ks (i + 1) k (simples (terms_of us)) ts
  part_made i k [] t ts here = refl
  part_made i k (u ∷ us) t ts here = ap (λ b. if b then part t ∷ elements op n m want ks (i + 1) k (simples (terms_of (u ∷ us))) ts else simple_element false (choices u) t (argument_want op m k want) ks ∷ elements op n m want ks (i + 1) (k + 1) (simples (terms_of us)) ts) here

  pub argument_made : (i k : ℕ) (u : Term) (us : List Term) (t : Tree) (ts : List Tree) → is_part (element_place (row (operator_name op)).layout n i) ≡ false →
      elements op n m want ks i k (simples (terms_of (u ∷ us))) (t ∷ ts) ≡ simple_element false (choices u) t (argument_want op m k want) ks ∷ elements op n m want ks (i + 1) (k + 1) (simples (terms_of us)) ts
  argument_made i k u us t ts here = ap (λ b. if b then part t ∷ elements op n m want ks (i + 1) k (simples (terms_of (u ∷ us))) ts else simple_element false (choices u) t (argument_want op m k want) ks ∷ elements op n m want ks (i + 1) (k + 1) (simples (terms_of us)) ts) here

pub within_same : (op : Operator) (N : Names) → IsNameless op → names_within op N ≡ N
within_same (operators.Let bs) N plain = absurd plain
within_same op N plain = refl

-- ---- a node

module _ (g : Values) where
  pub general_laid : (l : ElementLayout) (A B C D E : Type 0) → IsGeneral l → E → LaidBy l A B C D E
  general_laid layouts.Value A B C D E is h = absurd is
  general_laid layouts.Variable A B C D E is h = absurd is
  general_laid layouts.Global A B C D E is h = absurd is
  general_laid layouts.Sections A B C D E is h = absurd is
  general_laid l A B C D E is h = h

  module _ (op : Operator) (plain : IsNameless op) (general : IsGeneral (row (operator_name op)).layout) where
    abbrev layout : ElementLayout
    layout = (row (operator_name op)).layout

    -- a node of this operator
    pub record IsNode (new : Trees) (f : Bool) : Type 0 where
      pub head : head_name new ≡ Some (operator_name op)
      pub inside : (row (operator_name op)).is_outside ≡ false
      pub fits : allows (row (operator_name op)).arity (count_trees new - 1) ≡ true
      pub operator : operator_of layout (operator_name op) (globals []) (count_trees new) new ≡ Ok op
      pub laid : layout_outside layout new f ≡ false

    pub node_parsed : (new : Trees) (f : Bool) → IsNode new f → (n : ℕ) → count_trees new ≡ n → (M : Names) (us vs : List Term) → ParsedArguments g layout n 0 new M M f us vs →
        Parsed g (list new) M f (node op (terms_of us)) (node op (terms_of vs))
    node_parsed new f is n counted M us vs h = (
      operator_name op,
      is.head,
      is.inside,
      is.fits,
      general_laid layout _ _ _ _ _ general (
        op,
        us,
        vs,
        is.operator,
        is.laid,
        refl,
        refl,
        subst (λ I. ParsedArguments g layout (count_trees new) 0 new M I f us vs) (sym (within_same op M plain))
            (subst (λ k. ParsedArguments g layout k 0 new M M f us vs) (sym counted) h),
      ),
    )

    -- in names of these kinds
    module _ (scope : KindScope) where
      pub node_good : (want : Want) (N : Names) (f : Bool) (ts : List Tree) (es : List SimpleElement) (vs : List Term) (reads : Bool) (n : ℕ) →
          IsNode (trees_of (map tree_in es)) f → length es ≡ n → AreGood g scope op (length vs) want layout n N f 0 0 ts es vs → (operator_reads op (length vs) ≡ true → reads ≡ true) →
          Good g scope want N f (node op (terms_of vs)) (node_of op want reads es)
      node_good want N f ts es vs reads n is counted h reading =
          let r = new_arguments g scope op (length vs) want layout n N f 0 0 ts es vs h in
          let new = trees_of (map tree_in es) in
          let all : count_trees new ≡ n = trees_count es ∙ counted in
          let as_many : length (means (terms_of r.seconds)) ≡ length vs = means_count r.seconds ∙ r.as_many in
          record {
            first = node op (terms_of r.firsts);
            second = node op (terms_of r.seconds);
            parsed = node_parsed new f is n all N r.firsts r.seconds r.parsed;
            same = λ names world.
                node_alike want names names world world op (means (terms_of r.seconds)) (means (terms_of vs)) plain (λ z. refl) (λ z. refl)
                (subst (λ m. AreAlike want names names world world op m 0 (means (terms_of r.seconds)) (means (terms_of vs))) (sym as_many) (r.alike names world));
            lighter = λ w. let x = r.lighter w in let same = same_weight w op r.seconds vs r.as_many in omega (arith, x, same);
            calmer = node_calmer op r.seconds vs r.as_many r.calmer;
            known = λ k q. known_by r as_many all (argument_kinds es) refl k q;
            asked = λ k q. asked_by r (argument_kinds es) refl k q;
            argument = refl;
          }
        where
          asked_by : (r : NewArguments g scope op (length vs) want layout n N f 0 0 ts es vs) → (o : Option (List Kind)) → argument_kinds es ≡ o → (k : Kind) → kind_by op want o ≡ Some k → AreAmong N (all_asks es)
          asked_by r None e k q = absurd (cc)
          asked_by r (Some ks) e k q = r.asked ks e

          known_by : (r : NewArguments g scope op (length vs) want layout n N f 0 0 ts es vs) → length (means (terms_of r.seconds)) ≡ length vs → count_trees (trees_of (map tree_in es)) ≡ n →
              (o : Option (List Kind)) → argument_kinds es ≡ o → (k : Kind) → kind_by op want o ≡ Some k → Known g scope want f (node_of op want reads es) (node op (terms_of r.firsts)) (node op (terms_of r.seconds))
          known_by r as_many all None e k q = absurd (cc)
          known_by r as_many all (Some ks) e k q =
              let s = r.known ks e in
              record {
                names = λ M a. node_parsed (trees_of (map tree_in es)) f is n all M r.firsts r.seconds (s.names M a);
                depends = λ names names' v w a given.
                    let own : operator_reads op (length vs) ≡ true → v ≡ w = λ z. given (or_left reads (some_reads es) (reading z)) in
                    node_alike want names names' v w op (means (terms_of r.seconds)) (means (terms_of r.seconds)) plain
                    (λ z. own (or_right (is_script op) (is_any_read (of_operator op (length vs))) (sym (ap (λ m. any_read (of_operator op m)) as_many) ∙ z)))
                    (λ z. own (or_left (is_script op) (is_any_read (of_operator op (length vs))) (ap is_script z)))
                    (subst (λ m. AreAlike want names names' v w op m 0 (means (terms_of r.seconds)) (means (terms_of r.seconds))) (sym as_many)
                    (s.depends names names' v w a (λ z. given (or_right reads (some_reads es) z))));
                steady = λ z. ap (λ us. node op (terms_of us)) (s.steady (or_parts reads (some_reads es) z).1);
                typed = λ js a j kind.
                    node_has op plain want js r.seconds j ks
                    (subst (λ m. AllHave op m 0 want js r.seconds ks) (sym r.as_many) (s.typed js a ks e)) (sym (ap (kind_by op want) e) ∙ kind);
              }

      pub node_kept : (want : Want) (es : List SimpleElement) (vs : List Term) (reads : Bool) → AreKept g scope op (length vs) 0 want es vs → Kept g scope want (node op (terms_of vs)) (node_of op want reads es)
      node_kept want es vs reads h k typed =
          let (js, are, kind) = node_from op plain want scope vs k typed in
          ap (kind_by op want) (kinds_kept g scope op (length vs) 0 want es vs js h are) ∙ kind
