-- What is given of the arguments of a node that are evaluated from left to right.
use Rattle.std.proofs.Common.{◌≡◌, ◌∙◌, ℕ, ◌+◌, ◌<◌, ◌≤◌, Result, Ok, Err, Some, None, IsErrAnd, List, [], ◌∷◌, length, take, drop, arith, refl, subst, sym, ap, true, false}
use Rattle.std.specs.Prelude.{Vec}
use Rattle.std.specs.declared.alloc.Global.{Global}
use Rattle.std.specs.List.{slice_get}
use Rattle.std.proofs.lemmas.Option.{slice_get_within}
use Rattle.prop_values.specs.Data.{Data, boolean, number, text, list, items_of}
use Rattle.prop_values.specs.View.{data_of}
use Rattle.prop_values.specs.ViewParts.{values_view}
use Rattle.prop_values.specs.declared.fault.EvalFault.{EvalFault}
use Rattle.prop_values.specs.declared.kinds.Want.{Want}
use Rattle.prop_values.specs.declared.kinds.Want.TheVariants.{Any}
use Rattle.prop_values.specs.declared.value.Value.{Value}
use Rattle.property_tables.specs.Fitting.{fit}
use Rattle.halts.specs.declared.halt.Halt.{Halt}
use Rattle.halts.specs.declared.halt.Halt.TheVariants.{Fault, NoMemory}
use Rattle.expr_syntax.specs.declared.expression.Operator.{Operator}
use Rattle.expr_syntax.specs.declared.expression.Operator.TheVariants as operators
use Rattle.expr_syntax.specs.Names.{row}
use Rattle.expr_syntax.specs.Operators.{operator_name}
use Rattle.operator_values.specs.Evaluated.{Evaluated, GivesValue, then_value}
use Rattle.eval_face.specs.World.{World}
use Rattle.eval_face.specs.Names.{BoundOutcomes}
use Rattle.eval_face.specs.Meanings.{Meaning, values_of, and_values, then_values, looked_at, is_sequence}
use Rattle.eval_face.specs.Rules.{rule_of}
use Rattle.operator_rules.specs.RuleParts.{argument_at, asserts, applied_by, decided_by, undecided_by, each_of, deciding_of}
use Rattle.operator_rules.specs.ValueStack.{added, EndsAll}
use Rattle.operator_rules.proofs.ArgumentLaws.{after, values_from, made_of, one_given, two_given, one_halted, two_halted, second_halted, values_halted_at, decision_from, decision_halted, decision_found, decision_later, undecided}
use Rattle.expr_nodes.specs.Node.{Node, constant, children, size, total_size}
use Rattle.expr_nodes.specs.Outcome.{outcome, promises, all_known}
use Rattle.expr_nodes.specs.Slots.{HoldPromises, pending}
use Rattle.expr_nodes.specs.EvaluatesNode.{IsReady, HasProgressed, EvaluatesNode, EvaluatesNodes, arguments_of, known_arguments, argument_in, size_in}
use Rattle.expr_nodes.specs.declared.workspace.Workspace.{Workspace}
use Rattle.expr_nodes.specs.declared.workspace.PromiseSlot.{PromiseSlot}
use Rattle.expr_nodes.proofs.NodeLaws.{size_pos, size_at, child_size, outcome_here, argument_is, outcomes_length, argument_known, size_total, two_sizes, take_total, take_next}
use Rattle.expr_nodes.proofs.Composing.{begun, ticked, joined, cheaper, given, halts}

-- the argument of a place, as the laws of arguments have it
pub as_argument : (r : Result Value (Halt EvalFault)) (world : World) (op : Operator) (os : List Evaluated) (k : ℕ) (want : Want) → GivesValue r (argument_in op os k) → GivesValue r (argument_at op (all_known os) k want [] world)
as_argument r world op os k want g = subst (GivesValue r) (argument_known op os k want [] world) g

count_known : (n : Node) (bs : List Node) (world : World) (k : ℕ) → length (children n) ≡ k → length (known_arguments n bs world) ≡ k
count_known n bs world k l = outcomes_length (children n) (promises bs world) world ∙ l

-- an argument that need be no text and no list
pub plain_evaluates : {limit : ℕ} {bs : List Node} {world : World} {r : Result Value (Halt EvalFault)} {x y : Workspace} {s t : ℕ} (op : Operator) (n b : Node) (k : ℕ) → is_sequence (row (operator_name op)).sequence k ≡ false → slice_get (children n) k ≡ Some b → EvaluatesNode limit bs world r (outcome b (promises bs world) world) (size b) x y s t → EvaluatesNode limit bs world r (argument_in op (arguments_of n bs world) k) (size_in (children n) k) x y s t
plain_evaluates {limit} {bs} {world} {r} {x} {y} {s} {t} op n b k q e h =
    let o = outcome b (promises bs world) world in
    let own = argument_in op (arguments_of n bs world) k in
    let here : o ≡ own = argument_is op (arguments_of n bs world) k o false (sym q) (outcome_here (children n) k b (promises bs world) world e) in
    let M : Evaluated → Type 0 = λ m. EvaluatesNode limit bs world r m (size b) x y s t in
    let C : ℕ → Type 0 = λ c. EvaluatesNode limit bs world r own c x y s t in
    subst C (sym (size_at (children n) k b e)) (subst M here h)

-- ---- no argument, one and two

none_given : (op : Operator) (ms : List Meaning) (want : Want) (names : BoundOutcomes) (world : World) → length ms ≡ 0 → made_of op want world [] ≡ each_of op ms want names world
none_given op [] want names world l = refl
none_given op (me ∷ ms) want names world l = absurd (omega arith)

pub none_evaluates : {limit : ℕ} {bs : List Node} {world : World} {r : Result Value (Halt EvalFault)} {x : Workspace} {s : ℕ} (op : Operator) (n : Node) (want : Want) → length (children n) ≡ 0 → IsReady limit bs world x → GivesValue r (made_of op want world []) → EvaluatesNode limit bs world r (each_of op (known_arguments n bs world) want [] world) (total_size (children n)) x x s s
none_evaluates {bs = bs} {world} {r} op n want l i g =
    given 0 (total_size (children n)) i (begun i) (omega arith)
    (subst (GivesValue r) (none_given op (known_arguments n bs world) want [] world (count_known n bs world 0 l)) g)
    refl

pub one_evaluates : {limit : ℕ} {bs : List Node} {world : World} {r : Result Value (Halt EvalFault)} {v : Value} {x y : Workspace} {s t : ℕ} (op : Operator) (n : Node) (want : Want) → length (children n) ≡ 1 → IsReady limit bs world x → EvaluatesNode limit bs world (Ok v) (argument_in op (arguments_of n bs world) 0) (size_in (children n) 0) x y s t → GivesValue r (made_of op want world (data_of v ∷ [])) → EvaluatesNode limit bs world r (each_of op (known_arguments n bs world) want [] world) (total_size (children n)) x y s t
one_evaluates {bs = bs} {world} {r} {v} op n want l i h g =
    let w = size_total (children n) 0 in
    given (0 + size_in (children n) 0) (total_size (children n)) i (joined 0 (size_in (children n) 0) (begun i) h.progress) (omega (arith, w))
    (subst (GivesValue r) (one_given op (known_arguments n bs world) want [] world (data_of v) (count_known n bs world 1 l) (sym (argument_known op (arguments_of n bs world) 0 want [] world) ∙ h.gives)) g)
    h.stands

pub one_halts : {limit : ℕ} {bs : List Node} {world : World} {r : Result Value (Halt EvalFault)} {h : Halt EvalFault} {x y : Workspace} {s t : ℕ} (op : Operator) (n : Node) (want : Want) → length (children n) ≡ 1 → IsReady limit bs world x → EvaluatesNode limit bs world (Err h) (argument_in op (arguments_of n bs world) 0) (size_in (children n) 0) x y s t → IsErrAnd r (λ k. k ≡ h) → EvaluatesNode limit bs world r (each_of op (known_arguments n bs world) want [] world) (total_size (children n)) x y s t
one_halts {bs = bs} {world} {r} {h} op n want l i e k =
    let w = size_total (children n) 0 in
    halts 0 (size_in (children n) 0) (total_size (children n)) (begun i) e (omega (arith, w)) k
    (one_halted h op (known_arguments n bs world) want [] world (count_known n bs world 1 l) (as_argument (Err h) world op (arguments_of n bs world) 0 want e.gives))

pub two_evaluate : {limit : ℕ} {bs : List Node} {world : World} {r : Result Value (Halt EvalFault)} {v w : Value} {x y z : Workspace} {s t u : ℕ} (op : Operator) (n : Node) (want : Want) → length (children n) ≡ 2 → IsReady limit bs world x → EvaluatesNode limit bs world (Ok v) (argument_in op (arguments_of n bs world) 0) (size_in (children n) 0) x y s t → EvaluatesNode limit bs world (Ok w) (argument_in op (arguments_of n bs world) 1) (size_in (children n) 1) y z t u → GivesValue r (made_of op want world (data_of v ∷ data_of w ∷ [])) → EvaluatesNode limit bs world r (each_of op (known_arguments n bs world) want [] world) (total_size (children n)) x z s u
two_evaluate {bs = bs} {world} {r} {v} {w} op n want l i h j g =
    let os = arguments_of n bs world in
    let a = size_in (children n) 0 in
    let b = size_in (children n) 1 in
    let k = two_sizes (children n) 0 in
    given (a + b) (total_size (children n)) i (joined a b h.progress j.progress) (omega (arith, k))
    (subst (GivesValue r) (two_given op (known_arguments n bs world) want [] world (data_of v) (data_of w) (count_known n bs world 2 l) (sym (argument_known op os 0 want [] world) ∙ h.gives) (sym (argument_known op os 1 want [] world) ∙ j.gives)) g)
    (j.stands ∙ h.stands)

-- both are numbers that are known: each is counted, and none is evaluated
pub two_known : {limit : ℕ} {bs : List Node} {world : World} {r : Result Value (Halt EvalFault)} {x : Workspace} {s t u : ℕ} (op : Operator) (n left right : Node) (want : Want) (v w : Value) → ((k : ℕ) → is_sequence (row (operator_name op)).sequence k ≡ false) → length (children n) ≡ 2 → IsReady limit bs world x → slice_get (children n) 0 ≡ Some left → slice_get (children n) 1 ≡ Some right → t ≡ s + 1 → u ≡ t + 1 → outcome left (promises bs world) world ≡ Ok (data_of v) → outcome right (promises bs world) world ≡ Ok (data_of w) → GivesValue r (made_of op want world (data_of v ∷ data_of w ∷ [])) → EvaluatesNode limit bs world r (each_of op (known_arguments n bs world) want [] world) (total_size (children n)) x x s u
two_known op n left right want v w plain len i d e p q f g made =
    two_evaluate op n want len i
    (plain_evaluates op n left 0 (plain 0) d (given {r = Ok v} 1 (size left) i (ticked i p) (size_pos left) f refl))
    (plain_evaluates op n right 1 (plain 1) e (given {r = Ok w} 1 (size right) i (ticked i q) (size_pos right) g refl))
    made

pub first_halts : {limit : ℕ} {bs : List Node} {world : World} {r : Result Value (Halt EvalFault)} {h : Halt EvalFault} {x y : Workspace} {s t : ℕ} (op : Operator) (n : Node) (want : Want) → length (children n) ≡ 2 → IsReady limit bs world x → EvaluatesNode limit bs world (Err h) (argument_in op (arguments_of n bs world) 0) (size_in (children n) 0) x y s t → IsErrAnd r (λ k. k ≡ h) → EvaluatesNode limit bs world r (each_of op (known_arguments n bs world) want [] world) (total_size (children n)) x y s t
first_halts {bs = bs} {world} {r} {h} op n want l i e k =
    let w = size_total (children n) 0 in
    halts 0 (size_in (children n) 0) (total_size (children n)) (begun i) e (omega (arith, w)) k
    (two_halted h op (known_arguments n bs world) want [] world (count_known n bs world 2 l) (as_argument (Err h) world op (arguments_of n bs world) 0 want e.gives))

pub second_halts : {limit : ℕ} {bs : List Node} {world : World} {r : Result Value (Halt EvalFault)} {v : Value} {h : Halt EvalFault} {x y z : Workspace} {s t u : ℕ} (op : Operator) (n : Node) (want : Want) → length (children n) ≡ 2 → EvaluatesNode limit bs world (Ok v) (argument_in op (arguments_of n bs world) 0) (size_in (children n) 0) x y s t → EvaluatesNode limit bs world (Err h) (argument_in op (arguments_of n bs world) 1) (size_in (children n) 1) y z t u → IsErrAnd r (λ k. k ≡ h) → EvaluatesNode limit bs world r (each_of op (known_arguments n bs world) want [] world) (total_size (children n)) x z s u
second_halts {bs = bs} {world} {r} {v} {h} op n want l e j k =
    let os = arguments_of n bs world in
    let w = two_sizes (children n) 0 in
    halts (size_in (children n) 0) (size_in (children n) 1) (total_size (children n)) e.progress j (omega (arith, w)) k
    (second_halted h op (known_arguments n bs world) want [] world (data_of v) (count_known n bs world 2 l) (sym (argument_known op os 0 want [] world) ∙ e.gives) (as_argument (Err h) world op os 1 want j.gives))

-- ---- `in` of a list that is not evaluated

-- an argument that is a list: it has to be a text or a list, and is one
list_evaluates : {limit : ℕ} {bs : List Node} {world : World} {v : Value} {x : Workspace} {s t : ℕ} (n : Node) (ds : List Data) → data_of v ≡ list (items_of ds) → slice_get (children n) 1 ≡ Some (constant (Ok (list (items_of ds)))) → IsReady limit bs world x → t ≡ s + 1 → EvaluatesNode limit bs world (Ok v) (argument_in operators.In (arguments_of n bs world) 1) (size_in (children n) 1) x x s t
list_evaluates {limit} {bs} {world} {v} {x} {s} {t} n ds d e i p =
    let right = constant (Ok (list (items_of ds))) in
    let os = arguments_of n bs world in
    let own = argument_in operators.In os 1 in
    let here : Ok (list (items_of ds)) ≡ own = argument_is operators.In os 1 (Ok (list (items_of ds))) true refl (outcome_here (children n) 1 right (promises bs world) world e) in
    let C : ℕ → Type 0 = λ c. EvaluatesNode limit bs world (Ok v) own c x x s t in
    subst C (sym (size_at (children n) 1 right e))
    (given {r = Ok v} 1 (size right) i (ticked i p) (size_pos right) (sym here ∙ ap (λ (y : Data). Ok y) (sym d)) refl)

-- the needle is there
pub among_known : {limit : ℕ} {bs : List Node} {world : World} {r : Result Value (Halt EvalFault)} {x : Workspace} {s t u : ℕ} (n left : Node) (want : Want) (v w : Value) (ds : List Data) → data_of w ≡ list (items_of ds) → length (children n) ≡ 2 → IsReady limit bs world x → slice_get (children n) 0 ≡ Some left → slice_get (children n) 1 ≡ Some (constant (Ok (list (items_of ds)))) → t ≡ s + 1 → u ≡ t + 1 → outcome left (promises bs world) world ≡ Ok (data_of v) → GivesValue r (made_of operators.In want world (data_of v ∷ data_of w ∷ [])) → EvaluatesNode limit bs world r (each_of operators.In (known_arguments n bs world) want [] world) (total_size (children n)) x x s u
among_known n left want v w ds y len i d e p q f made =
    two_evaluate operators.In n want len i
    (plain_evaluates operators.In n left 0 refl d (given {r = Ok v} 1 (size left) i (ticked i p) (size_pos left) f refl))
    (list_evaluates n ds y e i q)
    made

-- the needle is evaluated
pub among_evaluates : {limit : ℕ} {bs : List Node} {world : World} {r : Result Value (Halt EvalFault)} {v : Value} {x y : Workspace} {s t u : ℕ} (n left : Node) (want : Want) (w : Value) (ds : List Data) → data_of w ≡ list (items_of ds) → length (children n) ≡ 2 → IsReady limit bs world x → slice_get (children n) 0 ≡ Some left → slice_get (children n) 1 ≡ Some (constant (Ok (list (items_of ds)))) → EvaluatesNode limit bs world (Ok v) (outcome left (promises bs world) world) (size left) x y s t → u ≡ t + 1 → GivesValue r (made_of operators.In want world (data_of v ∷ data_of w ∷ [])) → EvaluatesNode limit bs world r (each_of operators.In (known_arguments n bs world) want [] world) (total_size (children n)) x y s u
among_evaluates n left want w ds z len i d e h q made =
    two_evaluate operators.In n want len i (plain_evaluates operators.In n left 0 refl d h) (list_evaluates n ds z e h.ready q) made

pub among_halts : {limit : ℕ} {bs : List Node} {world : World} {r : Result Value (Halt EvalFault)} {h : Halt EvalFault} {x y : Workspace} {s t : ℕ} (n left : Node) (want : Want) → length (children n) ≡ 2 → IsReady limit bs world x → slice_get (children n) 0 ≡ Some left → EvaluatesNode limit bs world (Err h) (outcome left (promises bs world) world) (size left) x y s t → IsErrAnd r (λ k. k ≡ h) → EvaluatesNode limit bs world r (each_of operators.In (known_arguments n bs world) want [] world) (total_size (children n)) x y s t
among_halts n left want len i d h k = first_halts operators.In n want len i (plain_evaluates operators.In n left 0 refl d h) k

-- ---- all arguments

nothing_added : (vs : List Value) → added vs vs ≡ []
nothing_added [] = refl
nothing_added (v ∷ vs) = nothing_added vs

after_nothing : (whole : Result (List Data) EvalFault) → after [] whole ≡ whole
after_nothing (Ok ds) = refl
after_nothing (Err f) = refl

-- before the first value
pub values_begin : (vs : List Value) (whole : Result (List Data) EvalFault) → after (added vs vs) whole ≡ whole
values_begin vs whole = ap (λ ds. after ds whole) (nothing_added vs) ∙ after_nothing whole

pub values_halt : {limit : ℕ} {bs : List Node} {world : World} {A : Type 0} {r : Result A (Halt EvalFault)} {h : Halt EvalFault} {x y z : Workspace} {s t u : ℕ} (op : Operator) (n : Node) {k : ℕ} → k < length (children n) → HasProgressed limit bs world (total_size (take k (children n))) x y s t → after (added x.values.items y.values.items) (values_from op (known_arguments n bs world) k Any [] world) ≡ values_from op (known_arguments n bs world) 0 Any [] world → EvaluatesNode limit bs world (Err h) (argument_in op (arguments_of n bs world) k) (size_in (children n) k) y z t u → IsErrAnd r (λ j. j ≡ h) → EvaluatesNodes limit bs world r (values_from op (known_arguments n bs world) 0 Any [] world) (total_size (children n)) x z s u
values_halt {r = Ok a} op n l p q e j = absurd j
values_halt {bs = bs} {world} {r = Err j} {h} {x} {y} op n {k} l p q e i =
    let ms = known_arguments n bs world in
    let whole = values_from op ms 0 Any [] world in
    let count = outcomes_length (children n) (promises bs world) world in
    let w = take_next (children n) k in
    record {
      gives = subst (λ (z : Halt EvalFault). EndsAll z whole) (sym i) (values_halted_at h op ms k Any [] world (added x.values.items y.values.items) whole (omega (arith, l, count)) q (as_argument (Err h) world op (arguments_of n bs world) k Any e.gives));
      rises = omega (arith, p.rises, e.rises);
      most = omega (arith, p.paid, e.most, w);
      progress = tt;
      ready = tt;
      stands = tt;
    }

-- ---- the first that decides

-- an operator that asserts the form of a value decides by it, and looks at no text or list
asserted : (op : Operator) (d : Data) → asserts op d ≡ true → (false ≡ is_sequence (row (operator_name op)).sequence 0) × (decided_by (rule_of op) d ≡ Some d)
asserted operators.Boolean (boolean b) h = (refl, refl)
asserted operators.Number (number z) h = (refl, refl)
asserted operators.String (text s) h = (refl, refl)
asserted _ _ h = absurd (cc)

pub deciding_borrows : {limit : ℕ} {bs : List Node} {world : World} {r : Result Value (Halt EvalFault)} {x : Workspace} {s t : ℕ} (op : Operator) (n : Node) (want : Want) (d : Data) (b : Node) → slice_get (children n) 0 ≡ Some b → IsReady limit bs world x → outcome b (promises bs world) world ≡ Ok d → asserts op d ≡ true → t ≡ s + 1 → GivesValue r (fit want d) → EvaluatesNode limit bs world r (deciding_of op (known_arguments n bs world) want [] world) (total_size (children n)) x x s t
deciding_borrows {bs = bs} {world} {r} op n want d b e i o a q g =
    let os = arguments_of n bs world in
    let sure = asserted op d a in
    let cost = child_size (children n) 0 b e in
    let least = size_pos b in
    let count = outcomes_length (children n) (promises bs world) world in
    let some = slice_get_within (children n) 0 b e in
    let first : argument_in op os 0 ≡ Ok d = sym (argument_is op os 0 (outcome b (promises bs world) world) false sure.0 (outcome_here (children n) 0 b (promises bs world) world e)) ∙ o in
    given 1 (total_size (children n)) i (ticked i q) (omega (arith, cost, least))
    (subst (GivesValue r) (decision_found op (known_arguments n bs world) 0 want [] world d d (omega (arith, count, some)) refl (sym (argument_known op os 0 want [] world) ∙ first) sure.1) g)
    refl

pub deciding_halts : {limit : ℕ} {bs : List Node} {world : World} {r : Result Value (Halt EvalFault)} {h : Halt EvalFault} {x y z : Workspace} {s t u : ℕ} (op : Operator) (n : Node) (want : Want) {k : ℕ} → k < length (children n) → HasProgressed limit bs world (total_size (take k (children n))) x y s t → decision_from op (known_arguments n bs world) k want [] world ≡ decision_from op (known_arguments n bs world) 0 want [] world → EvaluatesNode limit bs world (Err h) (argument_in op (arguments_of n bs world) k) (size_in (children n) k) y z t u → IsErrAnd r (λ j. j ≡ h) → EvaluatesNode limit bs world r (deciding_of op (known_arguments n bs world) want [] world) (total_size (children n)) x z s u
deciding_halts {bs = bs} {world} {r} {h} op n want {k} l p q e j =
    let ms = known_arguments n bs world in
    let count = outcomes_length (children n) (promises bs world) world in
    let w = take_next (children n) k in
    halts (total_size (take k (children n))) (size_in (children n) k) (total_size (children n)) p e w j
    (decision_halted h op ms k want [] world (omega (arith, l, count)) q (as_argument (Err h) world op (arguments_of n bs world) k want e.gives))

pub deciding_evaluates : {limit : ℕ} {bs : List Node} {world : World} {r : Result Value (Halt EvalFault)} {v : Value} {x y z : Workspace} {s t u : ℕ} (found : Value) (op : Operator) (n : Node) (want : Want) {k : ℕ} → k < length (children n) → IsReady limit bs world x → HasProgressed limit bs world (total_size (take k (children n))) x y s t → y.values.items ≡ x.values.items → decision_from op (known_arguments n bs world) k want [] world ≡ decision_from op (known_arguments n bs world) 0 want [] world → EvaluatesNode limit bs world (Ok v) (argument_in op (arguments_of n bs world) k) (size_in (children n) k) y z t u → Some (data_of found) ≡ decided_by (rule_of op) (data_of v) → GivesValue r (fit want (data_of found)) → EvaluatesNode limit bs world r (deciding_of op (known_arguments n bs world) want [] world) (total_size (children n)) x z s u
deciding_evaluates {bs = bs} {world} {r} {v} found op n want {k} l i p e q h d g =
    let ms = known_arguments n bs world in
    let count = outcomes_length (children n) (promises bs world) world in
    let a = total_size (take k (children n)) in
    let b = size_in (children n) k in
    given (a + b) (total_size (children n)) i (joined a b p h.progress) (take_next (children n) k)
    (subst (GivesValue r) (decision_found op ms k want [] world (data_of v) (data_of found) (omega (arith, l, count)) q (sym (argument_known op (arguments_of n bs world) k want [] world) ∙ h.gives) (sym d)) g)
    (h.stands ∙ e)

pub decides_later : (bs : List Node) (world : World) (op : Operator) (n : Node) (want : Want) (k : ℕ) (d : Data) → k < length (children n) → decision_from op (known_arguments n bs world) k want [] world ≡ decision_from op (known_arguments n bs world) 0 want [] world → argument_in op (arguments_of n bs world) k ≡ Ok d → decided_by (rule_of op) d ≡ None → decision_from op (known_arguments n bs world) (k + 1) want [] world ≡ decision_from op (known_arguments n bs world) 0 want [] world
decides_later bs world op n want k d l q a e =
    let count = outcomes_length (children n) (promises bs world) world in
    decision_later op (known_arguments n bs world) k want [] world d (omega (arith, l, count)) q (sym (argument_known op (arguments_of n bs world) k want [] world) ∙ a) e

pub none_decides : (bs : List Node) (world : World) (op : Operator) (n : Node) (want : Want) (k : ℕ) → length (children n) ≤ k → decision_from op (known_arguments n bs world) k want [] world ≡ decision_from op (known_arguments n bs world) 0 want [] world → then_value (undecided_by (rule_of op)) (fit want) ≡ deciding_of op (known_arguments n bs world) want [] world
none_decides bs world op n want k l q =
    let count = outcomes_length (children n) (promises bs world) world in
    undecided op (known_arguments n bs world) k want [] world (omega (arith, l, count)) q

-- the stack of values is no part of the slots
pub slots_stay : {limit cost : ℕ} {bs : List Node} {world : World} {x y z : Workspace} {s t : ℕ} → HasProgressed limit bs world cost x y s t → z.slots ≡ y.slots → HasProgressed limit bs world cost x z s t
slots_stay {limit} {bs = bs} {world} {z = z} p q =
    let w = ap (λ (k : Vec PromiseSlot Global). k.items) q in
    let P : List PromiseSlot → Type 0 = λ ss. HoldPromises (promises bs world) ss in
    record {
      kept = subst P (sym w) p.kept;
      above = λ k h. ap (λ ss. slice_get ss k) w ∙ p.above k h;
      rises = p.rises;
      paid = let m = ap (pending limit bs) w in omega (arith, p.paid, m);
    }

-- ---- all arguments are a node

-- values of arguments that are known are the same under each want
values_any : (op : Operator) (m k : ℕ) (os : List Evaluated) (want : Want) (world : World) → values_of op m k (all_known os) Any [] world ≡ values_of op m k (all_known os) want [] world
values_any op m k [] want world = refl
values_any op m k (o ∷ os) want world = ap (and_values (looked_at (is_sequence (row (operator_name op)).sequence k) o)) (values_any op m (k + 1) os want world)

many_meant : (op : Operator) (os : List Evaluated) (want : Want) (world : World) → then_values (values_from op (all_known os) 0 Any [] world) (made_of op want world) ≡ each_of op (all_known os) want [] world
many_meant op os want world = ap (λ r. then_values r (made_of op want world)) (values_any op (length (all_known os)) 0 os want world)

values_halted : (h : Halt EvalFault) (a : Result (List Data) EvalFault) (go : List Data → Evaluated) → EndsAll h a → GivesValue (Err h) (then_values a go)
values_halted (Fault f) a go g = ap (λ x. then_values x go) g
values_halted NoMemory a go g = tt

pub many_halts : {limit : ℕ} {bs : List Node} {world : World} {r : Result Value (Halt EvalFault)} {h : Halt EvalFault} {A : Type 0} {x y : Workspace} {s t : ℕ} (op : Operator) (n : Node) (want : Want) → EvaluatesNodes {A = A} limit bs world (Err h) (values_from op (known_arguments n bs world) 0 Any [] world) (total_size (children n)) x y s t → IsErrAnd r (λ k. k ≡ h) → EvaluatesNode limit bs world r (each_of op (known_arguments n bs world) want [] world) (total_size (children n)) x y s t
many_halts {r = Ok v} op n want e k = absurd k
many_halts {bs = bs} {world} {r = Err k} {h} op n want e q =
    let os = arguments_of n bs world in
    let m = values_halted h (values_from op (all_known os) 0 Any [] world) (made_of op want world) e.gives in
    record {
      gives = subst (λ (z : Halt EvalFault). GivesValue (Err z) (each_of op (all_known os) want [] world)) (sym q) (subst (GivesValue (Err h)) (many_meant op os want world) m);
      rises = e.rises;
      most = e.most;
      progress = tt;
      ready = tt;
      stands = tt;
    }

pub many_evaluates : {limit : ℕ} {bs : List Node} {world : World} {r : Result Value (Halt EvalFault)} {A : Type 0} {u : A} {x y z : Workspace} {s t : ℕ} (op : Operator) (n : Node) (want : Want) (base : ℕ) → base ≡ length x.values.items → IsReady limit bs world x → EvaluatesNodes limit bs world (Ok u) (values_from op (known_arguments n bs world) 0 Any [] world) (total_size (children n)) x y s t → z.slots ≡ y.slots → z.values.items ≡ take base y.values.items → GivesValue r (then_value (applied_by (rule_of op) world (values_view (drop base y.values.items))) (fit want)) → EvaluatesNode limit bs world r (each_of op (known_arguments n bs world) want [] world) (total_size (children n)) x z s t
many_evaluates {limit} {bs} {world} {r} {x = x} {y} {z} {s} {t} op n want base b i e q v g =
    let os = arguments_of n bs world in
    let cost = total_size (children n) in
    let far = slots_stay {z = z} e.progress q in
    let made = made_of op want world (values_view (drop base y.values.items)) in
    let there : made ≡ each_of op (all_known os) want [] world =
    ap (λ k. made_of op want world (values_view (drop k y.values.items))) b ∙ (ap (λ a. then_values a (made_of op want world)) (sym e.gives) ∙ many_meant op os want world) in
    given cost cost i far (omega arith) (subst (GivesValue r) there g) (v ∙ (ap (λ k. take k y.values.items) b ∙ e.stands))

-- a value that is not kept
pub values_fail : {limit : ℕ} {bs : List Node} {world : World} {A : Type 0} {r : Result A (Halt EvalFault)} {v : Value} {m : Result (List Data) EvalFault} {x y z w : Workspace} {s t u : ℕ} (op : Operator) (n : Node) (k : ℕ) → HasProgressed limit bs world (total_size (take k (children n))) x y s t → EvaluatesNode limit bs world (Ok v) (argument_in op (arguments_of n bs world) k) (size_in (children n) k) y z t u → IsErrAnd r (λ j. j ≡ NoMemory) → EvaluatesNodes limit bs world r m (total_size (children n)) x w s u
values_fail {r = Ok a} op n k p e j = absurd j
values_fail {r = Err j} {m = m} op n k p e i =
    let w = take_next (children n) k in
    record {
      gives = subst (λ (z : Halt EvalFault). EndsAll z m) (sym i) tt;
      rises = omega (arith, p.rises, e.rises);
      most = omega (arith, p.paid, e.most, w);
      progress = tt;
      ready = tt;
      stands = tt;
    }

-- one value more
pub one_further : {limit : ℕ} {bs : List Node} {world : World} {v : Value} {m : Evaluated} {x y z : Workspace} {s t u : ℕ} (n : Node) (k : ℕ) → HasProgressed limit bs world (total_size (take k (children n))) x y s t → EvaluatesNode limit bs world (Ok v) m (size_in (children n) k) y z t u → HasProgressed limit bs world (total_size (take (k + 1) (children n))) x z s u
one_further n k p e =
    let a = total_size (take k (children n)) in
    let b = size_in (children n) k in
    let w = take_total (children n) k in
    cheaper (a + b) (total_size (take (k + 1) (children n))) (joined a b p e.progress) (omega (arith, w))
