use Rattle.std.proofs.Common.{◌≡◌, ◌+◌, ◌*◌, [], length, take, drop}
use Rattle.prop_values.specs.declared.kinds.Want.TheVariants.{Any}
use Rattle.eval_face.specs.Branches.{case_of}
use Rattle.operator_rules.specs.ValueStack.{IsBelow, added}
use Rattle.operator_rules.proofs.ArgumentLaws.{after, values_from, decision_from}
use Rattle.expr_nodes.specs.Node.{children, size, total_size}
use Rattle.expr_nodes.specs.Slots.{reach}
use Rattle.expr_nodes.specs.EvaluatesNode.{IsReady, HasProgressed, known_arguments}
use Rattle.expr_nodes.proofs.workspace.Workspace.+nodes.Given as goal

-- An argument has fewer nodes than its node, and a binding asks for earlier ones.

abbrev pub decreases-evaluate_node : goal.decreases-evaluate_node
decreases-evaluate_node g l = 6 * size (g.N.NodeHandle.node l.tree) + reach l.around.now.limit (g.B.Bindings.listed l.around.now.bindings.now)

abbrev pub decreases-evaluate_asked : goal.decreases-evaluate_asked
decreases-evaluate_asked g l = reach l.around.now.limit (g.B.Bindings.listed l.around.now.bindings.now) + 1

abbrev pub decreases-evaluate_inner : goal.decreases-evaluate_inner
decreases-evaluate_inner g l = 6 * total_size (children (g.N.NodeHandle.node l.tree)) + reach l.around.now.limit (g.B.Bindings.listed l.around.now.bindings.now) + 5

abbrev pub decreases-evaluate_each : goal.decreases-evaluate_each
decreases-evaluate_each g l = 6 * total_size (children (g.N.NodeHandle.node l.tree)) + reach l.around.now.limit (g.B.Bindings.listed l.around.now.bindings.now) + 4

abbrev pub decreases-evaluate_many : goal.decreases-evaluate_many
decreases-evaluate_many g l = 6 * total_size (children (g.N.NodeHandle.node l.tree)) + reach l.around.now.limit (g.B.Bindings.listed l.around.now.bindings.now) + 3

abbrev pub decreases-evaluate_among : goal.decreases-evaluate_among
decreases-evaluate_among g l = 6 * total_size (children (g.N.NodeHandle.node l.tree)) + reach l.around.now.limit (g.B.Bindings.listed l.around.now.bindings.now) + 2

abbrev pub decreases-evaluate_values : goal.decreases-evaluate_values
decreases-evaluate_values g l = 6 * total_size (children (g.N.NodeHandle.node l.tree)) + reach l.around.now.limit (g.B.Bindings.listed l.around.now.bindings.now) + 2

abbrev pub decreases-evaluate_argument : goal.decreases-evaluate_argument
decreases-evaluate_argument g l = 6 * total_size (children (g.N.NodeHandle.node l.tree)) + reach l.around.now.limit (g.B.Bindings.listed l.around.now.bindings.now) + 1

abbrev pub decreases-evaluate_deciding : goal.decreases-evaluate_deciding
decreases-evaluate_deciding g l = 6 * total_size (children (g.N.NodeHandle.node l.tree)) + reach l.around.now.limit (g.B.Bindings.listed l.around.now.bindings.now) + 4

abbrev pub decreases-evaluate_until_decided : goal.decreases-evaluate_until_decided
decreases-evaluate_until_decided g l = 6 * total_size (children (g.N.NodeHandle.node l.tree)) + reach l.around.now.limit (g.B.Bindings.listed l.around.now.bindings.now) + 3

abbrev pub decreases-evaluate_case : goal.decreases-evaluate_case
decreases-evaluate_case g l = 6 * total_size (children (g.N.NodeHandle.node l.tree)) + reach l.around.now.limit (g.B.Bindings.listed l.around.now.bindings.now) + 4

abbrev pub decreases-evaluate_match : goal.decreases-evaluate_match
decreases-evaluate_match g l = 6 * total_size (children (g.N.NodeHandle.node l.tree)) + reach l.around.now.limit (g.B.Bindings.listed l.around.now.bindings.now) + 4

abbrev pub decreases-evaluate_step : goal.decreases-evaluate_step
decreases-evaluate_step g l = 6 * total_size (children (g.N.NodeHandle.node l.tree)) + reach l.around.now.limit (g.B.Bindings.listed l.around.now.bindings.now) + 4

abbrev pub decreases-evaluate_ramp : goal.decreases-evaluate_ramp
decreases-evaluate_ramp g l = 6 * total_size (children (g.N.NodeHandle.node l.tree)) + reach l.around.now.limit (g.B.Bindings.listed l.around.now.bindings.now) + 4

abbrev pub decreases-evaluate_stop : goal.decreases-evaluate_stop
decreases-evaluate_stop g l = 6 * total_size (children (g.N.NodeHandle.node l.tree)) + reach l.around.now.limit (g.B.Bindings.listed l.around.now.bindings.now) + 3

abbrev pub decreases-evaluate_output : goal.decreases-evaluate_output
decreases-evaluate_output g l = 6 * total_size (children (g.N.NodeHandle.node l.tree)) + reach l.around.now.limit (g.B.Bindings.listed l.around.now.bindings.now) + 1

-- the values so far and those to come are all values
abbrev pub invariant-evaluate_values-loop-place : goal.invariant-evaluate_values-loop-place
invariant-evaluate_values-loop-place g l =
    let world = g.W.WorldView.world l.around.world.now in
    let bs = g.B.Bindings.listed l.around.bindings.now in
    let n = g.N.NodeHandle.node l.tree in
    record {
      same : after (added l.fn.self.values.items l.self.values.items) (values_from l.op (known_arguments n bs world) l.place Any [] world) ≡ values_from l.op (known_arguments n bs world) 0 Any [] world;
      progress : HasProgressed l.around.limit bs world (total_size (take l.place (children n))) l.fn.self l.self l.fn.steps l.steps;
      ready : IsReady l.around.limit bs world l.self;
      stands : IsBelow l.fn.self.values.items l.self.values.items;
    }

-- no argument so far decides
abbrev pub invariant-evaluate_until_decided-loop-place : goal.invariant-evaluate_until_decided-loop-place
invariant-evaluate_until_decided-loop-place g l =
    let world = g.W.WorldView.world l.around.world.now in
    let bs = g.B.Bindings.listed l.around.bindings.now in
    let n = g.N.NodeHandle.node l.tree in
    record {
      same : decision_from l.op (known_arguments n bs world) l.place l.want [] world ≡ decision_from l.op (known_arguments n bs world) 0 l.want [] world;
      progress : HasProgressed l.around.limit bs world (total_size (take l.place (children n))) l.fn.self l.self l.fn.steps l.steps;
      ready : IsReady l.around.limit bs world l.self;
      stands : l.self.values.items ≡ l.fn.self.values.items;
    }

-- no condition so far is true
abbrev pub invariant-evaluate_case-loop-left : goal.invariant-evaluate_case-loop-left
invariant-evaluate_case-loop-left g l =
    let world = g.W.WorldView.world l.around.world.now in
    let bs = g.B.Bindings.listed l.around.bindings.now in
    let n = g.N.NodeHandle.node l.tree in
    record {
      counted : l.place + l.left ≡ length (children n);
      same : case_of (drop l.place (known_arguments n bs world)) Any [] world ≡ case_of (known_arguments n bs world) Any [] world;
      progress : HasProgressed l.around.limit bs world (total_size (take l.place (children n))) l.fn.self l.self l.fn.steps l.steps;
      ready : IsReady l.around.limit bs world l.self;
      stands : l.self.values.items ≡ l.fn.self.values.items;
    }

abbrev pub decreases-evaluate_case-loop-left : goal.decreases-evaluate_case-loop-left
decreases-evaluate_case-loop-left g l = l.left
