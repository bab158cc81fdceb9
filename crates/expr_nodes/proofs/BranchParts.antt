-- What decides between outputs, and the output that it chooses.
use Rattle.std.proofs.Common.{◌≡◌, ◌∙◌, ℕ, ◌+◌, ◌-◌, ◌<◌, ◌≤◌, ℤ, zero, suc, Some, Result, Ok, Err, IsErrAnd, Bool, true, false, List, [], ◌∷◌, length, take, drop, arith, refl, subst, sym, ap}
use Rattle.std.proofs.lemmas.List.{drop_all}
use Rattle.std.specs.List.{slice_get}
use Rattle.prop_values.specs.Data.{Data, null, boolean, number, text, color, list, map}
use Rattle.prop_values.specs.View.{data_of}
use Rattle.prop_values.specs.declared.fault.EvalFault.{EvalFault}
use Rattle.prop_values.specs.declared.fault.EvalFault.TheVariants.{WrongType}
use Rattle.prop_values.specs.declared.kinds.Want.{Want}
use Rattle.prop_values.specs.declared.kinds.Want.TheVariants as wants
use Rattle.prop_values.specs.declared.outcome.Curve.{Curve}
use Rattle.prop_values.specs.declared.value.Value.{Value}
use Rattle.property_tables.specs.Fitting.{fit}
use Rattle.halts.specs.declared.halt.Halt.{Halt}
use Rattle.halts.specs.declared.halt.Halt.TheVariants.{Fault, NoMemory}
use Rattle.interpolate_fixed.specs.Places.{input_at, place_of, count_not_above}
use Rattle.interpolate_fixed.specs.Warp.{warp_of}
use Rattle.interpolate_fixed.specs.declared.place.StopPlace.{StopPlace}
use Rattle.interpolate_fixed.specs.declared.place.StopPlace.TheVariants.{First, Last, Between}
use Rattle.expr_syntax.specs.Chosen.{output_of}
use Rattle.expr_syntax.specs.Operators.{ramp_want}
use Rattle.expr_syntax.specs.declared.parts.Labelled.{Labelled}
use Rattle.operator_values.specs.Arithmetic.{then_number}
use Rattle.operator_values.specs.Evaluated.{Evaluated, GivesValue, then_value}
use Rattle.operator_values.specs.Ramps.{between_of}
use Rattle.eval_face.specs.World.{World}
use Rattle.eval_face.specs.Branches.{branch, case_of, output_at, match_of, step_of, with_number, ramp_of, ramp_at, between_values}
use Rattle.operator_rules.specs.Inputs.{condition_in, number_in}
use Rattle.operator_rules.proofs.Halts.{then_halted}
use Rattle.operator_rules.proofs.InputLaws.{by_flag, branch_by, by_number, number_by, moved_by}
use Rattle.expr_nodes.specs.Node.{Node, children, size, total_size}
use Rattle.expr_nodes.specs.Outcome.{outcome, promises, each_outcome, known, all_known}
use Rattle.expr_nodes.specs.EvaluatesNode.{IsReady, HasProgressed, EvaluatesNode, arguments_of, known_arguments, outcome_at, size_in}
use Rattle.expr_nodes.specs.MovedInput.{moved_in}
use Rattle.expr_nodes.specs.declared.workspace.Workspace.{Workspace}
use Rattle.expr_nodes.proofs.NodeLaws.{size_pos, output_known, outcome_here, size_at, size_total, child_size, take_total, take_next, take_within, first_and_rest, size_rest, two_sizes}
use Rattle.expr_nodes.proofs.Composing.{begun, ticked, joined, cheaper, given, fails, halts, ended}

known_length : (os : List Evaluated) → length (all_known os) ≡ length os
known_length [] = refl
known_length (o ∷ os) = ap suc (known_length os)

-- as many outcomes as arguments
pub count_here : (n : Node) (bs : List Node) (world : World) → length (arguments_of n bs world) ≡ length (children n)
count_here n bs world = each_length (children n) (promises bs world) world
  where
    each_length : (ns : List Node) (ps : List Evaluated) (world : World) → length (each_outcome ns ps world) ≡ length ns
    each_length [] ps world = refl
    each_length (m ∷ ns) ps world = ap suc (each_length ns ps world)

-- ---- an argument by its place, among those that are left

drop_next : (os : List Evaluated) (k : ℕ) → k < length os → drop k (all_known os) ≡ known (outcome_at os k) ∷ drop (k + 1) (all_known os)
drop_next [] k h = absurd (omega arith)
drop_next (o ∷ os) zero h = refl
drop_next (o ∷ os) (suc k) h =
    let q : suc (k + 1) ≡ suc k + 1 = omega arith in
    subst (λ (m : ℕ). drop k (all_known os) ≡ known (outcome_at os k) ∷ drop m (all_known (o ∷ os))) q (drop_next os k (omega arith))

-- ---- `case`

pub case_next : (os : List Evaluated) (k : ℕ) (world : World) → k + 2 ≤ length os → case_of (drop k (all_known os)) wants.Any [] world ≡ branch (outcome_at os k) (outcome_at os (k + 1)) (case_of (drop (k + 2) (all_known os)) wants.Any [] world)
case_next os k world h =
    let q : k + 1 + 1 ≡ k + 2 = omega arith in
    let two = drop_next os k (omega (arith, h)) ∙ ap (λ ms. known (outcome_at os k) ∷ ms) (drop_next os (k + 1) (omega (arith, h))) in
    ap (λ ms. case_of ms wants.Any [] world) two
    ∙ ap (λ (m : ℕ). branch (outcome_at os k) (outcome_at os (k + 1)) (case_of (drop m (all_known os)) wants.Any [] world)) q

pub case_last : (os : List Evaluated) (k : ℕ) (world : World) → length os ≡ k + 1 → case_of (drop k (all_known os)) wants.Any [] world ≡ outcome_at os k
case_last os k world h =
    ap (λ ms. case_of ms wants.Any [] world)
    (drop_next os k (omega (arith, h)) ∙ ap (λ ms. known (outcome_at os k) ∷ ms) (drop_all (k + 1) (all_known os) (let l = known_length os in omega (arith, h))))

pub case_end : (os : List Evaluated) (k : ℕ) (world : World) → length os ≤ k → case_of (drop k (all_known os)) wants.Any [] world ≡ Err WrongType
case_end [] zero world h = refl
case_end [] (suc k) world h = refl
case_end (o ∷ os) zero world h = absurd (omega arith)
case_end (o ∷ os) (suc k) world h = case_end os k world (omega arith)

-- a condition that is evaluated
pub case_by : (os : List Evaluated) (k : ℕ) (world : World) (d : Data) (flag : Result Bool EvalFault) → k + 2 ≤ length os → outcome_at os k ≡ Ok d → flag ≡ condition_in d → by_flag flag (outcome_at os (k + 1)) (case_of (drop (k + 2) (all_known os)) wants.Any [] world) ≡ case_of (drop k (all_known os)) wants.Any [] world
case_by os k world d flag h a e =
    let output = outcome_at os (k + 1) in
    let later = case_of (drop (k + 2) (all_known os)) wants.Any [] world in
    ap (λ x. by_flag x output later) e
    ∙ (sym (branch_by d output later) ∙ (ap (λ x. branch x output later) (sym a) ∙ sym (case_next os k world h)))

branch_halted : (h : Halt EvalFault) (a output later : Evaluated) → GivesValue (Err h) a → GivesValue (Err h) (branch a output later)
branch_halted (Fault f) a output later g = ap (λ x. branch x output later) g
branch_halted NoMemory a output later g = tt

pub case_halted : (h : Halt EvalFault) (os : List Evaluated) (k : ℕ) (world : World) → k + 2 ≤ length os → GivesValue (Err h) (outcome_at os k) → GivesValue (Err h) (case_of (drop k (all_known os)) wants.Any [] world)
case_halted h os k world w g = subst (GivesValue (Err h)) (sym (case_next os k world w)) (branch_halted h (outcome_at os k) (outcome_at os (k + 1)) _ g)

-- ---- the want of a node does not count where its arguments are known

pub case_any : (os : List Evaluated) (want : Want) (world : World) → case_of (all_known os) wants.Any [] world ≡ case_of (all_known os) want [] world
case_any [] want world = refl
case_any (o ∷ []) want world = refl
case_any (o ∷ p ∷ os) want world = ap (branch o p) (case_any os want world)

output_any : (os : List Evaluated) (k : ℕ) (want : Want) (world : World) → output_at (all_known os) k wants.Any [] world ≡ output_at (all_known os) k want [] world
output_any os k want world = output_known os k wants.Any [] world ∙ sym (output_known os k want [] world)

pub match_any : (labels : List Labelled) (os : List Evaluated) (want : Want) (world : World) → match_of labels (all_known os) wants.Any [] world ≡ match_of labels (all_known os) want [] world
match_any labels [] want world = refl
match_any labels (o ∷ os) want world = λ i. then_value o (λ d. output_any os (output_of labels d (length (all_known os) - 1)) want world i)

pub step_any : (inputs : List ℤ) (os : List Evaluated) (want : Want) (world : World) → step_of inputs (all_known os) wants.Any [] world ≡ step_of inputs (all_known os) want [] world
step_any inputs [] want world = refl
step_any inputs (o ∷ os) want world = λ i. with_number o (λ x. output_any os (count_not_above x inputs) want world i)

-- ---- an input, and the outputs after it

-- an output by the place of its argument
pub output_place : (os : List Evaluated) (k : ℕ) (want : Want) (world : World) → outcome_at os (k + 1) ≡ output_at (drop 1 (all_known os)) k want [] world
output_place [] k want world = let q : k + 1 ≡ suc k = omega arith in ap (λ (m : ℕ). outcome_at [] m) q ∙ sym (none k)
  where
    none : (k : ℕ) → output_at (drop 1 (all_known [])) k want [] world ≡ outcome_at [] (suc k)
    none zero = refl
    none (suc k) = refl
output_place (o ∷ os) k want world =
    let q : k + 1 ≡ suc k = omega arith in
    ap (λ (m : ℕ). outcome_at (o ∷ os) m) q ∙ sym (output_known os k want [] world)

pub match_with : (labels : List Labelled) (os : List Evaluated) (world : World) (d : Data) (place : ℕ) → 1 ≤ length os → outcome_at os 0 ≡ Ok d → place ≡ output_of labels d (length os - 1 - 1) → outcome_at os (place + 1) ≡ match_of labels (all_known os) wants.Any [] world
match_with labels [] world d place h a p = absurd (omega arith)
match_with labels (o ∷ os) world d place h a p =
    let l = known_length os in
    let c : length (o ∷ os) - 1 - 1 ≡ length (all_known os) - 1 = omega arith in
    output_place (o ∷ os) place wants.Any world
    ∙ (ap (λ (k : ℕ). output_at (all_known os) k wants.Any [] world) (p ∙ ap (output_of labels d) c)
    ∙ ap (λ x. then_value x (λ y. output_at (all_known os) (output_of labels y (length (all_known os) - 1)) wants.Any [] world)) (sym a))

pub match_halted : (h : Halt EvalFault) (labels : List Labelled) (os : List Evaluated) (world : World) → 1 ≤ length os → GivesValue (Err h) (outcome_at os 0) → GivesValue (Err h) (match_of labels (all_known os) wants.Any [] world)
match_halted h labels [] world w g = absurd (omega arith)
match_halted h labels (o ∷ os) world w g = then_halted h o (λ d. output_at (all_known os) (output_of labels d (length (all_known os) - 1)) wants.Any [] world) g

number_halted : (h : Halt EvalFault) (a : Evaluated) (go : ℤ → Evaluated) → GivesValue (Err h) a → GivesValue (Err h) (with_number a go)
number_halted (Fault f) a go g = ap (λ x. with_number x go) g
number_halted NoMemory a go g = tt

pub step_with : (inputs : List ℤ) (os : List Evaluated) (world : World) (d : Data) (found : Result ℤ EvalFault) → 1 ≤ length os → outcome_at os 0 ≡ Ok d → found ≡ number_in d → by_number found (λ x. outcome_at os (count_not_above x inputs + 1)) ≡ step_of inputs (all_known os) wants.Any [] world
step_with inputs [] world d found h a e = absurd (omega arith)
step_with inputs (o ∷ os) world d found h a e =
    let go = λ (x : ℤ). output_at (all_known os) (count_not_above x inputs) wants.Any [] world in
    (λ i. by_number found (λ x. output_place (o ∷ os) (count_not_above x inputs) wants.Any world i))
    ∙ (ap (λ n. by_number n go) e ∙ (sym (number_by d go) ∙ ap (λ x. with_number x go) (sym a)))

pub step_halted : (h : Halt EvalFault) (inputs : List ℤ) (os : List Evaluated) (world : World) → 1 ≤ length os → GivesValue (Err h) (outcome_at os 0) → GivesValue (Err h) (step_of inputs (all_known os) wants.Any [] world)
step_halted h inputs [] world w g = absurd (omega arith)
step_halted h inputs (o ∷ os) world w g = number_halted h o (λ x. output_at (all_known os) (count_not_above x inputs) wants.Any [] world) g

-- without an input
pub no_match : (labels : List Labelled) (os : List Evaluated) (world : World) → length os ≡ 0 → match_of labels (all_known os) wants.Any [] world ≡ Err WrongType
no_match labels [] world h = refl
no_match labels (o ∷ os) world h = absurd (omega arith)

pub no_step : (inputs : List ℤ) (os : List Evaluated) (world : World) → length os ≡ 0 → step_of inputs (all_known os) wants.Any [] world ≡ Err WrongType
no_step inputs [] world h = refl
no_step inputs (o ∷ os) world h = absurd (omega arith)

pub no_ramp : (curve : Curve) (inputs : List ℤ) (os : List Evaluated) (want : Want) (world : World) → length os ≡ 0 → ramp_of curve inputs (all_known os) want [] world ≡ Err WrongType
no_ramp curve inputs [] want world h = refl
no_ramp curve inputs (o ∷ os) want world h = absurd (omega arith)

-- ---- `interpolate`

-- what is at an input that was moved, before it is fitted
abbrev pub at_input : List ℤ → List Evaluated → World → ℤ → Evaluated
at_input inputs os world x = ramp_at inputs (drop 1 (all_known os)) x (place_of inputs x) wants.Any [] world

-- outputs that are known are the same under each want
ramp_any : (inputs : List ℤ) (os : List Evaluated) (x : ℤ) (place : StopPlace) (want : Want) (world : World) → ramp_at inputs (all_known os) x place wants.Any [] world ≡ ramp_at inputs (all_known os) x place want [] world
ramp_any inputs os x First want world = output_any os 0 want world
ramp_any inputs os x Last want world = output_any os (length inputs - 1) want world
ramp_any inputs os x (Between k) want world = λ i. between_values x (input_at inputs k) (input_at inputs (k + 1)) (output_any os k want world i) (output_any os (k + 1) want world i)

-- what a value that is the input goes on to
abbrev pub from_input : Curve → List ℤ → List Evaluated → Want → World → ℤ → Evaluated
from_input curve inputs os want world v = then_number (warp_of curve inputs v) (λ x. then_value (at_input inputs os world x) (fit want))

moved_value : (curve : Curve) (inputs : List ℤ) (os : List Evaluated) (want : Want) (world : World) (d : Data) → by_number (moved_in curve inputs d) (λ x. then_value (at_input inputs os world x) (fit want)) ≡ with_number (Ok d) (from_input curve inputs os want world)
moved_value curve inputs os want world (number z) = moved_by (warp_of curve inputs z) (λ x. then_value (at_input inputs os world x) (fit want))
moved_value curve inputs os want world null = refl
moved_value curve inputs os want world (boolean b) = refl
moved_value curve inputs os want world (text s) = refl
moved_value curve inputs os want world (color c) = refl
moved_value curve inputs os want world (list ds) = refl
moved_value curve inputs os want world (map ps) = refl

ramp_first : (curve : Curve) (inputs : List ℤ) (os : List Evaluated) (want : Want) (world : World) → 1 ≤ length os → with_number (outcome_at os 0) (from_input curve inputs os want world) ≡ ramp_of curve inputs (all_known os) want [] world
ramp_first curve inputs [] want world h = absurd (omega arith)
ramp_first curve inputs (o ∷ os) want world h =
    λ i. with_number o (λ v. then_number (warp_of curve inputs v) (λ x. then_value (ramp_any inputs os x (place_of inputs x) (ramp_want want) world i) (fit want)))

-- the ramp by the input that its curve moved
pub ramp_with : (curve : Curve) (inputs : List ℤ) (os : List Evaluated) (want : Want) (world : World) (d : Data) (at : Result ℤ EvalFault) → 1 ≤ length os → outcome_at os 0 ≡ Ok d → at ≡ moved_in curve inputs d → by_number at (λ x. then_value (at_input inputs os world x) (fit want)) ≡ ramp_of curve inputs (all_known os) want [] world
ramp_with curve inputs os want world d at h a e =
    ap (λ y. by_number y (λ x. then_value (at_input inputs os world x) (fit want))) e
    ∙ (moved_value curve inputs os want world d
    ∙ (ap (λ y. with_number y (from_input curve inputs os want world)) (sym a) ∙ ramp_first curve inputs os want world h))

pub ramp_halted : (h : Halt EvalFault) (curve : Curve) (inputs : List ℤ) (os : List Evaluated) (want : Want) (world : World) → 1 ≤ length os → GivesValue (Err h) (outcome_at os 0) → GivesValue (Err h) (ramp_of curve inputs (all_known os) want [] world)
ramp_halted h curve inputs [] want world w g = absurd (omega arith)
ramp_halted h curve inputs (o ∷ os) want world w g = number_halted h o _ g

-- an output between two
pub between_halted_first : (h : Halt EvalFault) (x x0 x1 : ℤ) (a b : Evaluated) → GivesValue (Err h) a → GivesValue (Err h) (between_values x x0 x1 a b)
between_halted_first (Fault f) x x0 x1 a b g = ap (λ y. between_values x x0 x1 y b) g
between_halted_first NoMemory x x0 x1 a b g = tt

pub between_halted_second : (h : Halt EvalFault) (x x0 x1 : ℤ) (a b : Evaluated) (d : Data) → a ≡ Ok d → GivesValue (Err h) b → GivesValue (Err h) (between_values x x0 x1 a b)
between_halted_second (Fault f) x x0 x1 a b d e g = ap (λ y. between_values x x0 x1 y b) e ∙ ap (λ y. between_values x x0 x1 (Ok d) y) g
between_halted_second NoMemory x x0 x1 a b d e g = tt

-- ---- what is given of what decides and of the output that it chooses

-- the condition of a `case` that halts
pub case_halts : {limit : ℕ} {bs : List Node} {world : World} {r : Result Value (Halt EvalFault)} {h : Halt EvalFault} {x y z : Workspace} {s t u : ℕ} (n : Node) (k : ℕ) (b : Node) → k + 2 ≤ length (children n) → HasProgressed limit bs world (total_size (take k (children n))) x y s t → case_of (drop k (known_arguments n bs world)) wants.Any [] world ≡ case_of (known_arguments n bs world) wants.Any [] world → slice_get (children n) k ≡ Some b → EvaluatesNode limit bs world (Err h) (outcome b (promises bs world) world) (size b) y z t u → IsErrAnd r (λ j. j ≡ h) → EvaluatesNode limit bs world r (case_of (known_arguments n bs world) wants.Any [] world) (total_size (children n)) x z s u
case_halts {bs = bs} {world} {r} {h} n k b l p q e j i =
    let os = arguments_of n bs world in
    let w = take_next (children n) k in
    let v = size_at (children n) k b e in
    let o = outcome_here (children n) k b (promises bs world) world e in
    halts (total_size (take k (children n))) (size b) (total_size (children n)) p j (omega (arith, w, v)) i
    (subst (GivesValue (Err h)) q (case_halted h os k world (let c = count_here n bs world in omega (arith, l, c)) (subst (GivesValue (Err h)) (sym o) j.gives)))

-- or that is no truth value
pub case_faults : {limit : ℕ} {bs : List Node} {world : World} {r : Result Value (Halt EvalFault)} {v : Value} {x y z : Workspace} {s t u : ℕ} (fault : EvalFault) (n : Node) (k : ℕ) (b : Node) → k + 2 ≤ length (children n) → HasProgressed limit bs world (total_size (take k (children n))) x y s t → case_of (drop k (known_arguments n bs world)) wants.Any [] world ≡ case_of (known_arguments n bs world) wants.Any [] world → slice_get (children n) k ≡ Some b → EvaluatesNode limit bs world (Ok v) (outcome b (promises bs world) world) (size b) y z t u → Err fault ≡ condition_in (data_of v) → IsErrAnd r (λ j. j ≡ Fault fault) → EvaluatesNode limit bs world r (case_of (known_arguments n bs world) wants.Any [] world) (total_size (children n)) x z s u
case_faults {bs = bs} {world} {v = v} fault n k b l p q e j f i =
    let os = arguments_of n bs world in
    let w = take_next (children n) k in
    let a = size_at (children n) k b e in
    let o = outcome_here (children n) k b (promises bs world) world e in
    fails (Fault fault) (total_size (take k (children n)) + size b) (total_size (children n)) (joined (total_size (take k (children n))) (size b) p j.progress) (omega (arith, w, a)) i
    (sym q ∙ sym (case_by os k world (data_of v) (Err fault) (let c = count_here n bs world in omega (arith, l, c)) (o ∙ j.gives) f))

-- the condition is true
pub case_chooses : {limit : ℕ} {bs : List Node} {world : World} {r : Result Value (Halt EvalFault)} {v : Value} {x y z w : Workspace} {s t u m : ℕ} (n : Node) (k : ℕ) (b c : Node) → k + 2 ≤ length (children n) → HasProgressed limit bs world (total_size (take k (children n))) x y s t → y.values.items ≡ x.values.items → case_of (drop k (known_arguments n bs world)) wants.Any [] world ≡ case_of (known_arguments n bs world) wants.Any [] world → slice_get (children n) k ≡ Some b → slice_get (children n) (k + 1) ≡ Some c → EvaluatesNode limit bs world (Ok v) (outcome b (promises bs world) world) (size b) y z t u → Ok true ≡ condition_in (data_of v) → EvaluatesNode limit bs world r (outcome c (promises bs world) world) (size c) z w u m → EvaluatesNode limit bs world r (case_of (known_arguments n bs world) wants.Any [] world) (total_size (children n)) x w s m
case_chooses {bs = bs} {world} {v = v} n k b c l p g q e f j d i =
    let os = arguments_of n bs world in
    let cs = children n in
    let a = total_size (take k cs) in
    let one = take_total cs k in
    let two = take_next cs (k + 1) in
    let sb = size_at cs k b e in
    let sc = size_at cs (k + 1) c f in
    let ob = outcome_here cs k b (promises bs world) world e in
    let oc = outcome_here cs (k + 1) c (promises bs world) world f in
    let there = case_by os k world (data_of v) (Ok true) (let h = count_here n bs world in omega (arith, l, h)) (ob ∙ j.gives) d in
    ended (a + size b) (size c) (total_size cs) (joined a (size b) p j.progress) i (omega (arith, one, two, sb, sc)) (sym oc ∙ (there ∙ q)) (j.stands ∙ g)

-- the condition is false
pub case_later : {limit : ℕ} {bs : List Node} {world : World} {v : Value} {y z : Workspace} {t u : ℕ} (n : Node) (k : ℕ) (b : Node) → k + 2 ≤ length (children n) → case_of (drop k (known_arguments n bs world)) wants.Any [] world ≡ case_of (known_arguments n bs world) wants.Any [] world → slice_get (children n) k ≡ Some b → EvaluatesNode limit bs world (Ok v) (outcome b (promises bs world) world) (size b) y z t u → Ok false ≡ condition_in (data_of v) → case_of (drop (k + 2) (known_arguments n bs world)) wants.Any [] world ≡ case_of (known_arguments n bs world) wants.Any [] world
case_later {bs = bs} {world} {v} n k b l q e j d =
    let ob = outcome_here (children n) k b (promises bs world) world e in
    case_by (arguments_of n bs world) k world (data_of v) (Ok false) (let h = count_here n bs world in omega (arith, l, h)) (ob ∙ j.gives) d ∙ q

pub case_further : {limit : ℕ} {bs : List Node} {world : World} {v : Value} {m : Evaluated} {x y z : Workspace} {s t u : ℕ} (n : Node) (k : ℕ) (b : Node) → slice_get (children n) k ≡ Some b → HasProgressed limit bs world (total_size (take k (children n))) x y s t → EvaluatesNode limit bs world (Ok v) m (size b) y z t u → HasProgressed limit bs world (total_size (take (k + 2) (children n))) x z s u
case_further n k b e p j =
    let cs = children n in
    let a = total_size (take k cs) in
    let one = take_total cs k in
    let two = take_total cs (k + 1) in
    let q : k + 1 + 1 ≡ k + 2 = omega arith in
    let three = ap (λ (i : ℕ). total_size (take i cs)) q in
    let sb = size_at cs k b e in
    cheaper (a + size b) (total_size (take (k + 2) cs)) (joined a (size b) p j.progress) (omega (arith, one, two, three, sb))

-- the last output
pub case_ends : {limit : ℕ} {bs : List Node} {world : World} {r : Result Value (Halt EvalFault)} {x y z : Workspace} {s t u : ℕ} (n : Node) (k : ℕ) (b : Node) → length (children n) ≡ k + 1 → HasProgressed limit bs world (total_size (take k (children n))) x y s t → y.values.items ≡ x.values.items → case_of (drop k (known_arguments n bs world)) wants.Any [] world ≡ case_of (known_arguments n bs world) wants.Any [] world → slice_get (children n) k ≡ Some b → EvaluatesNode limit bs world r (outcome b (promises bs world) world) (size b) y z t u → EvaluatesNode limit bs world r (case_of (known_arguments n bs world) wants.Any [] world) (total_size (children n)) x z s u
case_ends {bs = bs} {world} n k b l p g q e i =
    let cs = children n in
    let w = take_next cs k in
    let sb = size_at cs k b e in
    let ob = outcome_here cs k b (promises bs world) world e in
    let last = case_last (arguments_of n bs world) k world (count_here n bs world ∙ l) in
    ended (total_size (take k cs)) (size b) (total_size cs) p i (omega (arith, w, sb)) (sym ob ∙ (sym last ∙ q)) g

pub case_fails : {limit : ℕ} {bs : List Node} {world : World} {x y : Workspace} {s t : ℕ} (n : Node) {k : ℕ} → length (children n) ≤ k → IsReady limit bs world x → HasProgressed limit bs world (total_size (take k (children n))) x y s t → y.values.items ≡ x.values.items → case_of (drop k (known_arguments n bs world)) wants.Any [] world ≡ case_of (known_arguments n bs world) wants.Any [] world → EvaluatesNode limit bs world (Err (Fault WrongType)) (case_of (known_arguments n bs world) wants.Any [] world) (total_size (children n)) x y s t
case_fails {bs = bs} {world} n {k} l i p g q =
    let h = count_here n bs world in
    given (total_size (take k (children n))) (total_size (children n)) i p (take_within (children n) k)
    (sym q ∙ case_end (arguments_of n bs world) k world (omega (arith, l, h))) g

-- ---- an input, and the output that it chooses

-- the input halts
pub input_halts : {limit : ℕ} {bs : List Node} {world : World} {r : Result Value (Halt EvalFault)} {h : Halt EvalFault} {m : Evaluated} {x y : Workspace} {s t : ℕ} (n b : Node) → IsReady limit bs world x → slice_get (children n) 0 ≡ Some b → EvaluatesNode limit bs world (Err h) (outcome b (promises bs world) world) (size b) x y s t → IsErrAnd r (λ j. j ≡ h) → (GivesValue (Err h) (outcome_at (arguments_of n bs world) 0) → GivesValue (Err h) m) → EvaluatesNode limit bs world r m (total_size (children n)) x y s t
input_halts {bs = bs} {world} {h = h} n b i e j k go =
    let w = child_size (children n) 0 b e in
    halts 0 (size b) (total_size (children n)) (begun i) j (omega (arith, w)) k
    (go (subst (GivesValue (Err h)) (sym (outcome_here (children n) 0 b (promises bs world) world e)) j.gives))

-- the input is no number
pub input_fails : {limit : ℕ} {bs : List Node} {world : World} {r : Result Value (Halt EvalFault)} {v : Value} {m : Evaluated} {x y : Workspace} {s t : ℕ} (fault : EvalFault) (n b : Node) → slice_get (children n) 0 ≡ Some b → EvaluatesNode limit bs world (Ok v) (outcome b (promises bs world) world) (size b) x y s t → IsErrAnd r (λ j. j ≡ Fault fault) → m ≡ Err fault → EvaluatesNode limit bs world r m (total_size (children n)) x y s t
input_fails fault n b e j k q =
    let w = child_size (children n) 0 b e in
    fails (Fault fault) (size b) (total_size (children n)) j.progress w k q

-- the output of a place is evaluated after the input
pub output_follows : {limit : ℕ} {bs : List Node} {world : World} {r : Result Value (Halt EvalFault)} {v : Value} {m : Evaluated} {x y z : Workspace} {s t u : ℕ} (n b : Node) (place : ℕ) → slice_get (children n) 0 ≡ Some b → EvaluatesNode limit bs world (Ok v) (outcome b (promises bs world) world) (size b) x y s t → EvaluatesNode limit bs world r (outcome_at (arguments_of n bs world) (place + 1)) (size_in (children n) (place + 1)) y z t u → outcome_at (arguments_of n bs world) (place + 1) ≡ m → EvaluatesNode limit bs world r m (total_size (children n)) x z s u
output_follows {bs = bs} {world} n b place e j i q =
    let cs = children n in
    let a = size_at cs 0 b e in
    let c = first_and_rest cs in
    let d = size_rest cs place in
    let f = size_total (drop 1 cs) place in
    ended (size b) (size_in cs (place + 1)) (total_size cs) j.progress i (omega (arith, a, c, d, f)) q j.stands

first_sized : (ns : List Node) → 1 ≤ length ns → 1 ≤ size_in ns 0
first_sized [] h = absurd (omega arith)
first_sized (n ∷ ns) h = size_pos n

-- the input is there, and its step is counted
pub output_alone : {limit : ℕ} {bs : List Node} {world : World} {r : Result Value (Halt EvalFault)} {m : Evaluated} {x z : Workspace} {s t u : ℕ} (n : Node) (place : ℕ) → IsReady limit bs world x → 1 ≤ length (children n) → t ≡ s + 1 → EvaluatesNode limit bs world r (outcome_at (arguments_of n bs world) (place + 1)) (size_in (children n) (place + 1)) x z t u → outcome_at (arguments_of n bs world) (place + 1) ≡ m → EvaluatesNode limit bs world r m (total_size (children n)) x z s u
output_alone n place f l p i q =
    let cs = children n in
    let b = first_sized cs l in
    let c = first_and_rest cs in
    let d = size_rest cs place in
    let e = size_total (drop 1 cs) place in
    ended 1 (size_in cs (place + 1)) (total_size cs) (ticked f p) i (omega (arith, b, c, d, e)) q refl

-- what an input that was evaluated gives
pub input_gives : {limit cost : ℕ} {bs : List Node} {world : World} {v : Value} {x y : Workspace} {s t : ℕ} (n b : Node) → slice_get (children n) 0 ≡ Some b → EvaluatesNode limit bs world (Ok v) (outcome b (promises bs world) world) cost x y s t → outcome_at (arguments_of n bs world) 0 ≡ Ok (data_of v)
input_gives {bs = bs} {world} n b e j = outcome_here (children n) 0 b (promises bs world) world e ∙ j.gives

-- ---- a ramp

pub ramp_halts : {limit : ℕ} {bs : List Node} {world : World} {r : Result Value (Halt EvalFault)} {v : Value} {h : Halt EvalFault} {z : ℤ} {x y w : Workspace} {s t u : ℕ} (curve : Curve) (inputs : List ℤ) (n b : Node) (want : Want) → 1 ≤ length (children n) → slice_get (children n) 0 ≡ Some b → EvaluatesNode limit bs world (Ok v) (outcome b (promises bs world) world) (size b) x y s t → Ok z ≡ moved_in curve inputs (data_of v) → EvaluatesNode limit bs world (Err h) (at_input inputs (arguments_of n bs world) world z) (total_size (drop 1 (children n))) y w t u → IsErrAnd r (λ j. j ≡ h) → EvaluatesNode limit bs world r (ramp_of curve inputs (known_arguments n bs world) want [] world) (total_size (children n)) x w s u
ramp_halts {bs = bs} {world} {v = v} {h} {z} curve inputs n b want l e j d i k =
    let cs = children n in
    let os = arguments_of n bs world in
    let a = size_at cs 0 b e in
    let c = first_and_rest cs in
    let there = ramp_with curve inputs os want world (data_of v) (Ok z) (let m = count_here n bs world in omega (arith, l, m)) (input_gives n b e j) d in
    halts (size b) (total_size (drop 1 cs)) (total_size cs) j.progress i (omega (arith, a, c)) k
    (subst (GivesValue (Err h)) there (then_halted h (at_input inputs os world z) (fit want) i.gives))

pub ramp_evaluates : {limit : ℕ} {bs : List Node} {world : World} {r : Result Value (Halt EvalFault)} {v o : Value} {z : ℤ} {x y w : Workspace} {s t u : ℕ} (curve : Curve) (inputs : List ℤ) (n b : Node) (want : Want) → 1 ≤ length (children n) → IsReady limit bs world x → slice_get (children n) 0 ≡ Some b → EvaluatesNode limit bs world (Ok v) (outcome b (promises bs world) world) (size b) x y s t → Ok z ≡ moved_in curve inputs (data_of v) → EvaluatesNode limit bs world (Ok o) (at_input inputs (arguments_of n bs world) world z) (total_size (drop 1 (children n))) y w t u → GivesValue r (fit want (data_of o)) → EvaluatesNode limit bs world r (ramp_of curve inputs (known_arguments n bs world) want [] world) (total_size (children n)) x w s u
ramp_evaluates {bs = bs} {world} {r} {v} {o} {z} curve inputs n b want l f e j d i g =
    let cs = children n in
    let os = arguments_of n bs world in
    let a = size_at cs 0 b e in
    let c = first_and_rest cs in
    let there = ramp_with curve inputs os want world (data_of v) (Ok z) (let m = count_here n bs world in omega (arith, l, m)) (input_gives n b e j) d in
    given (size b + total_size (drop 1 cs)) (total_size cs) f (joined (size b) (total_size (drop 1 cs)) j.progress i.progress) (omega (arith, a, c))
    (subst (GivesValue r) (ap (λ y. then_value y (fit want)) (sym i.gives) ∙ there) g)
    (i.stands ∙ j.stands)

-- an output by its place, at an input
stop_output : (n : Node) (bs : List Node) (world : World) (place : ℕ) → outcome_at (arguments_of n bs world) (place + 1) ≡ output_at (drop 1 (known_arguments n bs world)) place wants.Any [] world
stop_output n bs world place = output_place (arguments_of n bs world) place wants.Any world

pub stop_alone : {limit : ℕ} {bs : List Node} {world : World} {r : Result Value (Halt EvalFault)} {m : Evaluated} {x y : Workspace} {s t : ℕ} (n : Node) (place : ℕ) → IsReady limit bs world x → EvaluatesNode limit bs world r (outcome_at (arguments_of n bs world) (place + 1)) (size_in (children n) (place + 1)) x y s t → output_at (drop 1 (known_arguments n bs world)) place wants.Any [] world ≡ m → EvaluatesNode limit bs world r m (total_size (drop 1 (children n))) x y s t
stop_alone {bs = bs} {world} n place i j q =
    let cs = children n in
    let d = size_rest cs place in
    let f = size_total (drop 1 cs) place in
    ended 0 (size_in cs (place + 1)) (total_size (drop 1 cs)) (begun i) j (omega (arith, d, f)) (stop_output n bs world place ∙ q) refl

-- what is between two outputs
abbrev pub between_places : Node → List Node → World → ℤ → ℤ → ℤ → ℕ → Evaluated
between_places n bs world x x0 x1 k = between_values x x0 x1 (output_at (drop 1 (known_arguments n bs world)) k wants.Any [] world) (output_at (drop 1 (known_arguments n bs world)) (k + 1) wants.Any [] world)

pub lower_halts : {limit : ℕ} {bs : List Node} {world : World} {r : Result Value (Halt EvalFault)} {h : Halt EvalFault} {m : Evaluated} {x y : Workspace} {s t : ℕ} (n : Node) (place : ℕ) (a a0 a1 : ℤ) → IsReady limit bs world x → EvaluatesNode limit bs world (Err h) (outcome_at (arguments_of n bs world) (place + 1)) (size_in (children n) (place + 1)) x y s t → IsErrAnd r (λ j. j ≡ h) → between_places n bs world a a0 a1 place ≡ m → EvaluatesNode limit bs world r m (total_size (drop 1 (children n))) x y s t
lower_halts {bs = bs} {world} {h = h} n place a a0 a1 i j k q =
    let cs = children n in
    let d = size_rest cs place in
    let f = size_total (drop 1 cs) place in
    halts 0 (size_in cs (place + 1)) (total_size (drop 1 cs)) (begun i) j (omega (arith, d, f)) k
    (subst (GivesValue (Err h)) q (between_halted_first h a a0 a1 _ _ (subst (GivesValue (Err h)) (stop_output n bs world place) j.gives)))

two_outputs : (cs : List Node) (place : ℕ) → size_in cs (place + 1) + size_in cs (place + 1 + 1) ≤ total_size (drop 1 cs)
two_outputs cs place =
    let d = size_rest cs place in
    let e = size_rest cs (place + 1) in
    let f = two_sizes (drop 1 cs) place in
    omega (arith, d, e, f)

pub upper_halts : {limit : ℕ} {bs : List Node} {world : World} {r : Result Value (Halt EvalFault)} {v : Value} {h : Halt EvalFault} {m : Evaluated} {x y z : Workspace} {s t u : ℕ} (n : Node) (place : ℕ) (a a0 a1 : ℤ) → EvaluatesNode limit bs world (Ok v) (outcome_at (arguments_of n bs world) (place + 1)) (size_in (children n) (place + 1)) x y s t → EvaluatesNode limit bs world (Err h) (outcome_at (arguments_of n bs world) (place + 1 + 1)) (size_in (children n) (place + 1 + 1)) y z t u → IsErrAnd r (λ j. j ≡ h) → between_places n bs world a a0 a1 place ≡ m → EvaluatesNode limit bs world r m (total_size (drop 1 (children n))) x z s u
upper_halts {bs = bs} {world} {v = v} {h} n place a a0 a1 i j k q =
    let cs = children n in
    halts (size_in cs (place + 1)) (size_in cs (place + 1 + 1)) (total_size (drop 1 cs)) i.progress j (two_outputs cs place) k
    (subst (GivesValue (Err h)) q (between_halted_second h a a0 a1 _ _ (data_of v) (sym (stop_output n bs world place) ∙ i.gives) (subst (GivesValue (Err h)) (stop_output n bs world (place + 1)) j.gives)))

pub both_evaluate : {limit : ℕ} {bs : List Node} {world : World} {r : Result Value (Halt EvalFault)} {v w : Value} {m : Evaluated} {x y z : Workspace} {s t u : ℕ} (n : Node) (place : ℕ) (a a0 a1 : ℤ) → IsReady limit bs world x → EvaluatesNode limit bs world (Ok v) (outcome_at (arguments_of n bs world) (place + 1)) (size_in (children n) (place + 1)) x y s t → EvaluatesNode limit bs world (Ok w) (outcome_at (arguments_of n bs world) (place + 1 + 1)) (size_in (children n) (place + 1 + 1)) y z t u → GivesValue r (between_of a a0 (data_of v) a1 (data_of w)) → between_places n bs world a a0 a1 place ≡ m → EvaluatesNode limit bs world r m (total_size (drop 1 (children n))) x z s u
both_evaluate {bs = bs} {world} {r} {v} {w} n place a a0 a1 f i j g q =
    let cs = children n in
    let lower = sym (stop_output n bs world place) ∙ i.gives in
    let upper = sym (stop_output n bs world (place + 1)) ∙ j.gives in
    given (size_in cs (place + 1) + size_in cs (place + 1 + 1)) (total_size (drop 1 cs)) f (joined (size_in cs (place + 1)) (size_in cs (place + 1 + 1)) i.progress j.progress) (two_outputs cs place)
    (subst (GivesValue r) (sym (λ k. between_values a a0 a1 (lower k) (upper k)) ∙ q) g)
    (j.stands ∙ i.stands)

-- both outputs are there, and their steps are counted
count_sized : (ns : List Node) → length ns ≤ total_size ns
count_sized [] = omega arith
count_sized (n ∷ ns) = let a = size_pos n in let b = count_sized ns in omega arith

rest_sized : (ns : List Node) → length ns ≤ 1 + total_size (drop 1 ns)
rest_sized [] = omega arith
rest_sized (n ∷ ns) = let b = count_sized ns in omega arith

pub both_there : {limit : ℕ} {bs : List Node} {world : World} {r : Result Value (Halt EvalFault)} {m : Evaluated} {x : Workspace} {s t u : ℕ} (n : Node) (place : ℕ) (a a0 a1 : ℤ) → IsReady limit bs world x → t ≡ s + 1 → u ≡ t + 1 → place + 2 < length (children n) → GivesValue r (between_values a a0 a1 (outcome_at (arguments_of n bs world) (place + 1)) (outcome_at (arguments_of n bs world) (place + 2))) → between_places n bs world a a0 a1 place ≡ m → EvaluatesNode limit bs world r m (total_size (drop 1 (children n))) x x s u
both_there {bs = bs} {world} {r} n place a a0 a1 f p q l g e =
    let cs = children n in
    let w = rest_sized cs in
    let next : place + 2 ≡ place + 1 + 1 = omega arith in
    let upper = ap (λ (k : ℕ). outcome_at (arguments_of n bs world) k) next ∙ stop_output n bs world (place + 1) in
    given 2 (total_size (drop 1 cs)) f (joined 1 1 (ticked f p) (ticked f q)) (omega (arith, l, w))
    (subst (GivesValue r) ((λ k. between_values a a0 a1 (stop_output n bs world place k) (upper k)) ∙ e) g)
    refl
