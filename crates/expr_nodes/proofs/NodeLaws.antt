-- Nodes and their arguments, by what the program reads of them.
use Rattle.std.proofs.Common.{◌≡◌, ℕ, ◌+◌, ◌<◌, ◌≤◌, zero, suc, List, [], ◌∷◌, length, take, drop, Bool, false, Some, Err, refl, arith, sym, ap, ◌∙◌, subst}
use Rattle.std.specs.List.{slice_get}
use Rattle.prop_values.specs.declared.fault.EvalFault.TheVariants.{WrongType}
use Rattle.prop_values.specs.declared.kinds.Want.{Want}
use Rattle.expr_syntax.specs.declared.expression.Operator.{Operator}
use Rattle.expr_syntax.specs.Names.{row}
use Rattle.expr_syntax.specs.Operators.{operator_name, wanted_by, want_of}
use Rattle.operator_values.specs.Evaluated.{Evaluated}
use Rattle.eval_face.specs.World.{World}
use Rattle.eval_face.specs.Names.{BoundOutcomes}
use Rattle.eval_face.specs.Branches.{output_at}
use Rattle.eval_face.specs.Meanings.{looked_at, is_sequence}
use Rattle.eval_face.specs.Meaning.{node_meaning}
use Rattle.eval_face.specs.Rules.{rule_of}
use Rattle.operator_rules.specs.RuleParts.{argument_at}
use Rattle.expr_nodes.specs.Node.{Node, constant, asked, property, inner, listed, children_of, children, size, children_size, total_size}
use Rattle.expr_nodes.specs.Outcome.{outcome, outcomes, each_outcome, all_known}
use Rattle.expr_nodes.specs.Limits.{AsksBelow, AllAskBelow, EachAsksBelow, has_names}
use Rattle.expr_nodes.specs.EvaluatesNode.{outcome_at, argument_in, size_in}
use Rattle.expr_nodes.proofs.BindingPlaces.{node_or}

-- ---- an operator over its arguments

pub listed_again : (ns : List Node) → listed (children_of ns) ≡ ns
listed_again [] = refl
listed_again (n ∷ ns) = ap (λ xs. n ∷ xs) (listed_again ns)

outcomes_listed : (ns : List Node) (ps : List Evaluated) (world : World) → outcomes (children_of ns) ps world ≡ each_outcome ns ps world
outcomes_listed [] ps world = refl
outcomes_listed (n ∷ ns) ps world = ap (λ os. outcome n ps world ∷ os) (outcomes_listed ns ps world)

sizes_listed : (ns : List Node) → children_size (children_of ns) ≡ total_size ns
sizes_listed [] = refl
sizes_listed (n ∷ ns) = ap (λ x. size n + x) (sizes_listed ns)

below_listed : (m : ℕ) (ns : List Node) → AllAskBelow m (children_of ns) → EachAsksBelow m ns
below_listed m [] h = tt
below_listed m (n ∷ ns) h = (h.0, below_listed m ns h.1)

pub inner_outcome : (n : Node) (op : Operator) (want : Want) (ps : List Evaluated) (world : World) → n ≡ inner op want (children_of (children n)) → outcome n ps world ≡ node_meaning op (all_known (each_outcome (children n) ps world)) want [] world
inner_outcome n op want ps world e =
    ap (λ x. outcome x ps world) e ∙ ap (λ os. node_meaning op (all_known os) want [] world) (outcomes_listed (children n) ps world)

pub inner_size : (n : Node) (op : Operator) (want : Want) → n ≡ inner op want (children_of (children n)) → size n ≡ 1 + total_size (children n)
inner_size n op want e = ap size e ∙ ap (λ x. 1 + x) (sizes_listed (children n))

pub inner_below : (m : ℕ) (n : Node) (op : Operator) (want : Want) → n ≡ inner op want (children_of (children n)) → AsksBelow m n → (has_names (rule_of op) ≡ false) × EachAsksBelow m (children n)
inner_below m n op want e h =
    let P : Node → Type 0 = λ x. AsksBelow m x in
    let k = subst P e h in
    (k.0, below_listed m (children n) k.1)

pub asked_below : (m : ℕ) (n : Node) (slot : ℕ) (want : Want) → n ≡ asked slot want → AsksBelow m n → slot < m
asked_below m n slot want e h = let P : Node → Type 0 = λ x. AsksBelow m x in subst P e h

pub size_pos : (n : Node) → 1 ≤ size n
size_pos (constant x) = omega arith
size_pos (asked j v) = omega arith
size_pos (property key v) = omega arith
size_pos (inner t v ns) = omega arith

-- ---- arguments by their places

pub below_at : (m : ℕ) (ns : List Node) (k : ℕ) (c : Node) → EachAsksBelow m ns → slice_get ns k ≡ Some c → AsksBelow m c
below_at m [] k c h e = absurd (cc)
below_at m (n ∷ ns) zero c h e = let P : Node → Type 0 = λ x. AsksBelow m x in subst P (ap (λ o. node_or o n) e) h.0
below_at m (n ∷ ns) (suc k) c h e = below_at m ns k c h.1 e

pub size_at : (ns : List Node) (k : ℕ) (c : Node) → slice_get ns k ≡ Some c → size_in ns k ≡ size c
size_at [] k c e = absurd (cc)
size_at (n ∷ ns) zero c e = ap (λ o. size (node_or o n)) e
size_at (n ∷ ns) (suc k) c e = size_at ns k c e

pub size_total : (ns : List Node) (k : ℕ) → size_in ns k ≤ total_size ns
size_total [] k = omega arith
size_total (n ∷ ns) zero = omega arith
size_total (n ∷ ns) (suc k) = let r = size_total ns k in omega arith

pub child_size : (ns : List Node) (k : ℕ) (c : Node) → slice_get ns k ≡ Some c → size c ≤ total_size ns
child_size ns k c e = let a = size_at ns k c e in let b = size_total ns k in omega arith

-- the sizes of the arguments before a place
take_none : (k : ℕ) → total_size (take k []) ≡ 0
take_none zero = refl
take_none (suc k) = refl

pub take_total : (ns : List Node) (k : ℕ) → total_size (take (k + 1) ns) ≡ total_size (take k ns) + size_in ns k
take_total [] k = let a = take_none (k + 1) in let b = take_none k in omega arith
take_total (n ∷ ns) zero = omega arith
take_total (n ∷ ns) (suc k) =
    let q : suc k + 1 ≡ suc (k + 1) = omega arith in
    let r = take_total ns k in
    let s = ap (λ (m : ℕ). total_size (take m (n ∷ ns))) q in
    omega arith

pub take_within : (ns : List Node) (k : ℕ) → total_size (take k ns) ≤ total_size ns
take_within [] zero = omega arith
take_within [] (suc k) = omega arith
take_within (n ∷ ns) zero = omega arith
take_within (n ∷ ns) (suc k) = let r = take_within ns k in omega arith

pub take_next : (ns : List Node) (k : ℕ) → total_size (take k ns) + size_in ns k ≤ total_size ns
take_next ns k = let a = take_total ns k in let b = take_within ns (k + 1) in omega arith

-- two and three arguments
pub first_and_rest : (ns : List Node) → size_in ns 0 + total_size (drop 1 ns) ≡ total_size ns
first_and_rest [] = refl
first_and_rest (n ∷ ns) = refl

pub size_rest : (ns : List Node) (k : ℕ) → size_in ns (k + 1) ≡ size_in (drop 1 ns) k
size_rest [] k = refl
size_rest (n ∷ ns) k = let q : k + 1 ≡ suc k = omega arith in ap (λ (m : ℕ). size_in (n ∷ ns) m) q

pub two_sizes : (ns : List Node) (k : ℕ) → size_in ns k + size_in ns (k + 1) ≤ total_size ns
two_sizes ns k = let a = take_total ns k in let b = take_next ns (k + 1) in omega arith

-- ---- what arguments give

pub outcomes_length : (ns : List Node) (ps : List Evaluated) (world : World) → length (all_known (each_outcome ns ps world)) ≡ length ns
outcomes_length [] ps world = refl
outcomes_length (n ∷ ns) ps world = ap suc (outcomes_length ns ps world)

pub outcome_here : (ns : List Node) (k : ℕ) (c : Node) (ps : List Evaluated) (world : World) → slice_get ns k ≡ Some c → outcome_at (each_outcome ns ps world) k ≡ outcome c ps world
outcome_here [] k c ps world e = absurd (cc)
outcome_here (n ∷ ns) zero c ps world e = ap (λ o. outcome (node_or o n) ps world) e
outcome_here (n ∷ ns) (suc k) c ps world e = outcome_here ns k c ps world e

pub outcome_none : (ns : List Node) (k : ℕ) (ps : List Evaluated) (world : World) → length ns ≤ k → outcome_at (each_outcome ns ps world) k ≡ Err WrongType
outcome_none [] zero ps world h = refl
outcome_none [] (suc k) ps world h = refl
outcome_none (n ∷ ns) zero ps world h = absurd (omega arith)
outcome_none (n ∷ ns) (suc k) ps world h = outcome_none ns k ps world (omega arith)

-- an argument that is known is the same under each want
pub output_known : (os : List Evaluated) (k : ℕ) (want : Want) (names : BoundOutcomes) (world : World) → output_at (all_known os) k want names world ≡ outcome_at os k
output_known [] zero want names world = refl
output_known [] (suc k) want names world = refl
output_known (o ∷ os) zero want names world = refl
output_known (o ∷ os) (suc k) want names world = output_known os k want names world

pub argument_known : (op : Operator) (os : List Evaluated) (k : ℕ) (want : Want) (names : BoundOutcomes) (world : World) → argument_in op os k ≡ argument_at op (all_known os) k want names world
argument_known op os k want names world =
    ap (λ o. looked_at (is_sequence (row (operator_name op)).sequence k) o) (sym (output_known os k (want_of (wanted_by op (length (all_known os)) k) want) names world))

-- an argument by what its node gives, and whether it has to be a text or a list
pub argument_is : (op : Operator) (os : List Evaluated) (k : ℕ) (o : Evaluated) (b : Bool) → b ≡ is_sequence (row (operator_name op)).sequence k → outcome_at os k ≡ o → looked_at b o ≡ argument_in op os k
argument_is op os k o b e h = ap (λ x. looked_at x o) e ∙ ap (looked_at (is_sequence (row (operator_name op)).sequence k)) (sym h)
