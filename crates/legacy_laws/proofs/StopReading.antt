-- How `step` and `interpolate` read, by their inputs and outputs.
use Rattle.std.proofs.Common.{◌≡◌, ◌∙◌, ℕ, suc, ◌+◌, ◌-◌, ◌<◌, ◌≤◌, ◌%◌, ℤ, pos, List, [], ◌∷◌, length, refl, ap, arith, true, false}
use Rattle.std.proofs.lemmas.Bool.{ne_eqb, eq-eqb, le-leb}
use Rattle.std.proofs.lemmas.Int.{ints}
use Rattle.std.specs.Prelude.{Bool, not, ◌&&◌, nat_eq, nat_le, codes, int_lt, Option, Some, None, is_none, Result, Ok, Err, if◌then◌else◌}
use Rattle.decimal_json.specs.Tree.{Tree, number, text, trees_of}
use Rattle.decimal_json.specs.declared.paths.PathPart.{PathPart}
use Rattle.fixed_num.specs.Decimal.{read_text}
use Rattle.expr_syntax.specs.declared.expression.Operator.{Operator}
use Rattle.expr_syntax.specs.declared.expression.Operator.TheVariants as operators
use Rattle.expr_syntax.specs.declared.fault.SynCode.{SynCode}
use Rattle.expr_syntax.specs.declared.fault.SynCode.TheVariants as code
use Rattle.expr_syntax.specs.declared.rows.Arity.TheVariants.{EvenFrom}
use Rattle.expr_syntax.specs.declared.rows.ElementLayout.{ElementLayout}
use Rattle.expr_syntax.specs.declared.rows.ElementLayout.TheVariants.{Stops, Ramp}
use Rattle.expr_syntax.specs.declared.rows.ElementPlace.{ElementPlace}
use Rattle.expr_syntax.specs.declared.rows.ElementPlace.TheVariants.{Part, Argument, Output}
use Rattle.expr_syntax.specs.Elements.{Element, taken}
use Rattle.expr_syntax.specs.Parts.{curve_of, inputs_of, input_of, steps_up, value_in, and_input, with_inputs, ramp_operator, base_of}
use Rattle.expr_syntax.specs.Reading.{Reader, read, options, arguments, then_node, is_part, with_operator, at}
use Rattle.expr_syntax.specs.Rows.{allows, element_place, is_even, is_input}
use Rattle.expr_syntax.specs.Scopes.{Scope}
use Rattle.expr_syntax.specs.Standing.{Walker, stands, some_element, is_for_global, outside_curve}
use Rattle.expr_syntax.specs.Term.{Term, node, terms_of}
use Rattle.legacy_functions.specs.Function.{Way, even, curved, stepped}
use Rattle.legacy_functions.specs.Tokens.{call}
use Rattle.legacy_functions.specs.ToExpression.{Branches, branch_elements, curve_expression, ramp_expression}
use Rattle.legacy_functions.specs.ToExpression.{step_expression, way_expression}
use Rattle.legacy_functions.proofs.ClimbLaws.{IsAbove, Climbs}
use Rattle.legacy_laws.proofs.FilterReading.{nowhere, IsReadAs, node_with, walk_unless_few, walks, readers, unless_few}
use Rattle.legacy_laws.proofs.FunctionTerms.{TermBranches, branch_inputs, branch_terms, way_curve, ramp_term, step_term, way_term}
use Rattle.legacy_laws.proofs.FunctionReading.{AllNowhere, node_inside, argument_read, part_passed}

-- ---- branches: an input and an output each, from an odd place on

abbrev pub AreBranches : Branches → TermBranches → Type 0
AreBranches [] [] = Unit {0}
AreBranches [] (x ∷ xs) = ⊥
AreBranches (b ∷ bs) [] = ⊥
AreBranches (b ∷ bs) (x ∷ xs) =
    ((read_text b.0.spelled ≡ Ok x.0.value) × IsReadAs b.1 x.1) × AreBranches bs xs

-- inputs are parts, and outputs are not
record TakesStops (layout : ElementLayout) : Type 0 where
  inputs : (n i : ℕ) → 3 ≤ i → i % 2 ≡ 1 → is_part (element_place layout n i) ≡ true
  outputs : (n i : ℕ) → 3 ≤ i → i % 2 ≡ 0 → is_part (element_place layout n i) ≡ false

odd_is_input : (i : ℕ) → 3 ≤ i → i % 2 ≡ 1 → is_input i ≡ true
odd_is_input i many odd =
    let third : nat_le 3 i ≡ true = le-leb 3 i many in
    let uneven : is_even i ≡ false = ne_eqb (i % 2) 0 (λ p. omega (arith, odd, p)) in
    λ j. third j && not (uneven j)

even_is_none : (i : ℕ) → 3 ≤ i → i % 2 ≡ 0 → is_input i ≡ false
even_is_none i many h =
    let third : nat_le 3 i ≡ true = le-leb 3 i many in
    let is : is_even i ≡ true = eq-eqb (i % 2) 0 h in
    λ j. third j && not (is j)

abbrev stop_place : Bool → Bool → Bool → ElementPlace
stop_place is_name is_value is_input =
    if is_name then Part else if is_value then Argument else if is_input then Part else Output

stop_elements : TakesStops Stops
stop_elements = record { inputs = inputs_of_stops; outputs = outputs_of_stops }
  where
    behind : (i k : ℕ) → k < 3 → 3 ≤ i → nat_eq i k ≡ false
    behind i k few many = ne_eqb i k (λ p. omega (arith, p, few, many))

    inputs_of_stops : (n i : ℕ) → 3 ≤ i → i % 2 ≡ 1 → is_part (element_place Stops n i) ≡ true
    inputs_of_stops n i many odd =
        let a = behind i 0 (omega arith) many in
        let b = behind i 1 (omega arith) many in
        let c = odd_is_input i many odd in
        λ j. is_part (stop_place (a j) (b j) (c j))

    outputs_of_stops : (n i : ℕ) → 3 ≤ i → i % 2 ≡ 0 → is_part (element_place Stops n i) ≡ false
    outputs_of_stops n i many h =
        let a = behind i 0 (omega arith) many in
        let b = behind i 1 (omega arith) many in
        let c = even_is_none i many h in
        λ j. is_part (stop_place (a j) (b j) (c j))

ramp_elements : TakesStops Ramp
ramp_elements = record { inputs = inputs_of_ramp; outputs = outputs_of_ramp }
  where
    inputs_of_ramp : (n i : ℕ) → 3 ≤ i → i % 2 ≡ 1 → is_part (element_place Ramp n i) ≡ true
    inputs_of_ramp n i many odd =
        let a : nat_eq i 0 ≡ false = ne_eqb i 0 (λ p. omega (arith, p, many)) in
        let b : is_even i ≡ false = ne_eqb (i % 2) 0 (λ p. omega (arith, odd, p)) in
        λ j. is_part (if a j then Part else if b j then Argument else Part)

    outputs_of_ramp : (n i : ℕ) → 3 ≤ i → i % 2 ≡ 0 → is_part (element_place Ramp n i) ≡ false
    outputs_of_ramp n i many h =
        let a : nat_eq i 0 ≡ false = ne_eqb i 0 (λ p. omega (arith, p, many)) in
        let b : is_even i ≡ true = eq-eqb (i % 2) 0 h in
        λ j. is_part (if a j then Part else if b j then Argument else Part)

branches_read : (layout : ElementLayout) → TakesStops layout → (bs : Branches) (xs : TermBranches) → AreBranches bs xs
    → (n i : ℕ) → 3 ≤ i → i % 2 ≡ 1 → (scope : Scope) (path : List PathPart)
    → arguments layout n i (readers (branch_elements bs)) scope scope path ≡ Ok (branch_terms xs)
branches_read layout takes [] [] h n i many odd scope path = refl
branches_read layout takes [] (x ∷ xs) h n i many odd scope path = absurd h
branches_read layout takes (b ∷ bs) [] h n i many odd scope path = absurd h
branches_read layout takes (b ∷ bs) (x ∷ xs) h n i many odd scope path =
    let es = readers (branch_elements bs) in
    let output : Element Reader = (read b.1, options b.1) in
    let input : Element Reader = (read (number b.0.spelled), options (number b.0.spelled)) in
    part_passed layout n i input (output ∷ es) scope path (branch_terms (x ∷ xs)) (takes.inputs n i many odd)
    (argument_read layout n (i + 1) output es scope path x.1 (branch_terms xs)
    (takes.outputs n (i + 1) (omega (arith, many)) (omega (arith, odd)))
    (h.0.1.reads scope (at path (i + 1)))
    (branches_read layout takes bs xs h.1 n (i + 1 + 1) (omega (arith, many)) (omega (arith, odd)) scope path))

branches_nowhere : (bs : Branches) (xs : TermBranches) → AreBranches bs xs → AllNowhere (walks (branch_elements bs))
branches_nowhere [] [] h = tt
branches_nowhere [] (x ∷ xs) h = absurd h
branches_nowhere (b ∷ bs) [] h = absurd h
branches_nowhere (b ∷ bs) (x ∷ xs) h = (refl, (h.0.1.inside, branches_nowhere bs xs h.1))

-- how many elements they are
branch_count : (bs : Branches) → length (readers (branch_elements bs)) ≡ length bs + length bs
branch_count [] = refl
branch_count (b ∷ bs) = let h = branch_count bs in omega (arith, h)

-- ---- the inputs among the elements

above_up : (before : Option ℤ) (z : ℤ) → IsAbove before z → steps_up before (Some z) ≡ true
above_up None z h = refl
above_up (Some y) z h = grind (arith, ints, h)

abbrev two_taken : Bool → Bool → Tree → Tree → List Tree → List Tree
two_taken p q s t later = if p then s ∷ (if q then t ∷ later else later) else (if q then t ∷ later else later)

abbrev Inputs : Type 0
Inputs = Result (List ℤ) SynCode

abbrev if_up : Bool → Inputs → Inputs
if_up up later = if up then later else Err code.Part

inputs_read : (bs : Branches) (xs : TermBranches) → AreBranches bs xs → (before : Option ℤ)
    → Climbs before (branch_inputs xs) → (n i : ℕ) → 3 ≤ i → i % 2 ≡ 1
    → inputs_of before (taken (λ n i. is_input i) n i (trees_of (branch_elements bs))) ≡ Ok (branch_inputs xs)
inputs_read [] [] h before climbs n i many odd = refl
inputs_read [] (x ∷ xs) h before climbs n i many odd = absurd h
inputs_read (b ∷ bs) [] h before climbs n i many odd = absurd h
inputs_read (b ∷ bs) (x ∷ xs) h before climbs n i many odd =
    let later = taken (λ n i. is_input i) n (i + 1 + 1) (trees_of (branch_elements bs)) in
    let first = odd_is_input i many odd in
    let second = even_is_none (i + 1) (omega (arith, many)) (omega (arith, odd)) in
    let z = x.0.value in
    let rest = inputs_read bs xs h.1 (Some z) climbs.1 n (i + 1 + 1) (omega (arith, many)) (omega (arith, odd)) in
    let up = above_up before z climbs.0 in
    (λ j. inputs_of before (two_taken (first j) (second j) (number b.0.spelled) b.1 later))
    ∙ ((λ j. input_of before (value_in (h.0.0 j)) (inputs_of (value_in (h.0.0 j)) later))
    ∙ ((λ j. input_of before (Some z) (rest j))
    ∙ (λ j. if_up (up j) (and_input (Some z) (Ok (branch_inputs xs))))))

-- ---- `step`

abbrev stops_node : ElementLayout → Bool → Result Operator SynCode → List Tree → Reader
stops_node layout is_enough op ts scope path =
    unless_few is_enough (with_operator layout (readers ts) op scope path) path

read_step : (a o : Tree) (x y : Term) (bs : Branches) (xs : TermBranches) → IsReadAs a x → IsReadAs o y
    → AreBranches bs xs → 0 < length bs → Climbs None (branch_inputs xs)
    → IsReadAs (call (codes "step") (a ∷ o ∷ branch_elements bs))
    (node (operators.Step (branch_inputs xs)) (terms_of (x ∷ y ∷ branch_terms xs)))
read_step a o x y bs xs h k branches some climbs = record {
  inside = node_inside Stops (suc (length (walks (a ∷ o ∷ branch_elements bs)))) _ (walks (a ∷ o ∷ branch_elements bs))
      (h.inside, (k.inside, branches_nowhere bs xs branches));
  reads = reads;
}
  where
    es : List Tree
    es = branch_elements bs

    n : ℕ
    n = length (readers (text (codes "step") ∷ a ∷ o ∷ es))

    enough : allows (EvenFrom 4) (n - 1) ≡ true
    enough =
        let count = branch_count bs in
        let many : nat_le 4 (n - 1) ≡ true = le-leb 4 (n - 1) (omega (arith, count, some)) in
        let even_count : nat_eq ((n - 1) % 2) 0 ≡ true = eq-eqb ((n - 1) % 2) 0 (omega (arith, count)) in
        λ j. many j && even_count j

    operator : with_inputs operators.Step (inputs_of None (taken (λ n i. is_input i) n 3 (trees_of es)))
        ≡ Ok (operators.Step (branch_inputs xs))
    operator = ap (with_inputs operators.Step) (inputs_read bs xs branches None climbs n 3 (omega arith) refl)

    given : (scope : Scope) (path : List PathPart)
        → arguments Stops n 1 (readers (a ∷ o ∷ es)) scope scope path ≡ Ok (x ∷ y ∷ branch_terms xs)
    given scope path =
        argument_read Stops n 1 (read a, options a) (readers (o ∷ es)) scope path x (y ∷ branch_terms xs) refl
        (h.reads scope (at path 1))
        (argument_read Stops n 2 (read o, options o) (readers es) scope path y (branch_terms xs) refl
        (k.reads scope (at path 2))
        (branches_read Stops stop_elements bs xs branches n 3 (omega arith) refl scope path))

    reads : (scope : Scope) (path : List PathPart)
        → read (call (codes "step") (a ∷ o ∷ es)) scope path
        ≡ Ok (node (operators.Step (branch_inputs xs)) (terms_of (x ∷ y ∷ branch_terms xs)))
    reads scope path =
        (λ j. stops_node Stops (enough j) (operator j) (text (codes "step") ∷ a ∷ o ∷ es) scope path)
        ∙ (λ j. then_node (operators.Step (branch_inputs xs)) (given scope path j))

-- ---- `interpolate`

-- the base is that of its text, and above 0
abbrev pub IsReadWay : Way → Type 0
IsReadWay even = Unit {0}
IsReadWay (curved base) = (read_text base.spelled ≡ Ok base.value) × (int_lt (pos 0) base.value ≡ true)
IsReadWay stepped = Unit {0}

curve_read : (way : Way) → IsReadWay way → curve_of (curve_expression way) ≡ Some (way_curve way)
curve_read even h = refl
curve_read stepped h = refl
curve_read (curved base) h =
    (λ j. base_of (h.0 j)) ∙ (λ j. if h.1 j then Some (way_curve (curved base)) else None)

curve_inside : (way : Way) → IsReadWay way → outside_curve (curve_expression way) ≡ false
curve_inside even h = refl
curve_inside stepped h = refl
curve_inside (curved base) h = λ j. is_none (curve_read (curved base) h j)

curve_nowhere : (way : Way) → stands (curve_expression way) ≡ nowhere
curve_nowhere even = refl
curve_nowhere stepped = refl
curve_nowhere (curved base) = refl

abbrev ramp_walk : Bool → Walker → Walker
ramp_walk is_out others sought format = if is_out then not (is_for_global sought) else others sought format

read_interpolate : (way : Way) (a : Tree) (x : Term) (bs : Branches) (xs : TermBranches) → IsReadWay way → IsReadAs a x
    → AreBranches bs xs → 0 < length bs → Climbs None (branch_inputs xs)
    → IsReadAs (ramp_expression way a bs) (ramp_term way x xs)
read_interpolate way a x bs xs w h branches some climbs = record { inside = inside; reads = reads }
  where
    es : List Tree
    es = branch_elements bs

    curve : Tree
    curve = curve_expression way

    n : ℕ
    n = length (readers (text (codes "interpolate") ∷ curve ∷ a ∷ es))

    enough : allows (EvenFrom 4) (n - 1) ≡ true
    enough =
        let count = branch_count bs in
        let many : nat_le 4 (n - 1) ≡ true = le-leb 4 (n - 1) (omega (arith, count, some)) in
        let even_count : nat_eq ((n - 1) % 2) 0 ≡ true = eq-eqb ((n - 1) % 2) 0 (omega (arith, count)) in
        λ j. many j && even_count j

    inside : stands (ramp_expression way a bs) ≡ nowhere
    inside =
        let ws = walks (curve ∷ a ∷ es) in
        let m = suc (length ws) in
        let others = node_with (walk_unless_few (allows (EvenFrom 4) (m - 1)) (some_element Ramp m 1 ws)) in
        (λ j. ramp_walk (curve_inside way w j) others)
        ∙ node_inside Ramp m _ ws (curve_nowhere way, (h.inside, branches_nowhere bs xs branches))

    operator : ramp_operator (curve_of curve) (inputs_of None (taken (λ n i. is_input i) n 3 (trees_of es)))
        ≡ Ok (operators.Interpolate (way_curve way, branch_inputs xs))
    operator =
        let inputs = inputs_read bs xs branches None climbs n 3 (omega arith) refl in
        λ j. ramp_operator (curve_read way w j) (inputs j)

    given : (scope : Scope) (path : List PathPart)
        → arguments Ramp n 1 (readers (curve ∷ a ∷ es)) scope scope path ≡ Ok (x ∷ branch_terms xs)
    given scope path =
        part_passed Ramp n 1 (read curve, options curve) (readers (a ∷ es)) scope path (x ∷ branch_terms xs) refl
        (argument_read Ramp n 2 (read a, options a) (readers es) scope path x (branch_terms xs) refl
        (h.reads scope (at path 2))
        (branches_read Ramp ramp_elements bs xs branches n 3 (omega arith) refl scope path))

    reads : (scope : Scope) (path : List PathPart)
        → read (ramp_expression way a bs) scope path ≡ Ok (ramp_term way x xs)
    reads scope path =
        (λ j. stops_node Ramp (enough j) (operator j) (text (codes "interpolate") ∷ curve ∷ a ∷ es) scope path)
        ∙ (λ j. then_node (operators.Interpolate (way_curve way, branch_inputs xs)) (given scope path j))

-- ---- by the way from stop to stop

weaker : (before : Option ℤ) (zs : List ℤ) → Climbs before zs → Climbs None zs
weaker before [] h = tt
weaker before (z ∷ zs) h = (tt, h.1)

pub read_steps : (a : Tree) (x : Term) (bs : Branches) (xs : TermBranches) → IsReadAs a x → AreBranches bs xs
    → 0 < length bs → Climbs None (branch_inputs xs) → IsReadAs (step_expression a bs) (step_term x xs)
read_steps a x [] xs h branches some climbs = absurd (omega (arith, some))
read_steps a x (b ∷ bs) [] h branches some climbs = absurd branches
read_steps a x (b ∷ []) (y ∷ []) h branches some climbs = branches.0.1
read_steps a x (b ∷ []) (y ∷ z ∷ xs) h branches some climbs = absurd branches.1
read_steps a x (b ∷ c ∷ bs) (y ∷ []) h branches some climbs = absurd branches.1
read_steps a x (b ∷ c ∷ bs) (y ∷ z ∷ xs) h branches some climbs =
    read_step a b.1 x y.1 (c ∷ bs) (z ∷ xs) h branches.0.1 branches.1 (omega arith)
    (weaker (Some y.0.value) (branch_inputs (z ∷ xs)) climbs.1)

pub read_way : (way : Way) (a : Tree) (x : Term) (bs : Branches) (xs : TermBranches) → IsReadWay way → IsReadAs a x
    → AreBranches bs xs → 0 < length bs → Climbs None (branch_inputs xs)
    → IsReadAs (way_expression way a bs) (way_term way x xs)
read_way even a x bs xs w h branches some climbs = read_interpolate even a x bs xs w h branches some climbs
read_way (curved base) a x bs xs w h branches some climbs =
    read_interpolate (curved base) a x bs xs w h branches some climbs
read_way stepped a x bs xs w h branches some climbs = read_steps a x bs xs h branches some climbs
