use Rattle.std.proofs.Common.{◌≡◌, ℕ, ◌≤◌, ◌+◌, ◌*◌, length}
use Rattle.expr_syntax.specs.TermSize.{nodes}
use Rattle.expr_syntax.specs.TermView.{term_of}
use Rattle.expr_syntax.specs.TermView.{weight}
use Rattle.eval_face.specs.Branches.{case_of}
use Rattle.operator_rules.specs.ValueStack.{IsBelow, added}
use Rattle.expr_plain.specs.Frames.{IsEntered, scope_size}
use Rattle.expr_plain.specs.Terms.{meanings}
use Rattle.operator_rules.proofs.ArgumentLaws.{after, values_from, decision_from}
use Rattle.expr_plain.proofs.Evaluating.{meant_in, values_in}
use Rattle.expr_plain.proofs.evaluation.Evaluation.+evaluation.Given as goal

-- An argument has fewer nodes than its node, and a binding is asked for in the frames around its own.

abbrev pub decreases-evaluate : goal.decreases-evaluate
decreases-evaluate g l = 6 * nodes (term_of l.expression.now) + scope_size l.environment.now.frames.scope.now

abbrev pub decreases-evaluate_node : goal.decreases-evaluate_node
decreases-evaluate_node g l = 6 * weight l.arguments.now + scope_size l.environment.now.frames.scope.now + 5

abbrev pub decreases-evaluate_each : goal.decreases-evaluate_each
decreases-evaluate_each g l = 6 * weight l.arguments.now + scope_size l.environment.now.frames.scope.now + 4

abbrev pub decreases-evaluate_many : goal.decreases-evaluate_many
decreases-evaluate_many g l = 6 * weight l.arguments.now + scope_size l.environment.now.frames.scope.now + 3

abbrev pub decreases-evaluate_values : goal.decreases-evaluate_values
decreases-evaluate_values g l = 6 * weight l.arguments.now + scope_size l.environment.now.frames.scope.now + 2

abbrev pub decreases-evaluate_argument : goal.decreases-evaluate_argument
decreases-evaluate_argument g l = 6 * weight l.arguments.now + scope_size l.environment.now.frames.scope.now + 1

abbrev pub decreases-evaluate_deciding : goal.decreases-evaluate_deciding
decreases-evaluate_deciding g l = 6 * weight l.arguments.now + scope_size l.environment.now.frames.scope.now + 4

abbrev pub decreases-evaluate_case : goal.decreases-evaluate_case
decreases-evaluate_case g l = 6 * weight l.arguments.now + scope_size l.environment.now.frames.scope.now + 4

abbrev pub decreases-evaluate_match : goal.decreases-evaluate_match
decreases-evaluate_match g l = 6 * weight l.arguments.now + scope_size l.environment.now.frames.scope.now + 4

abbrev pub decreases-evaluate_step : goal.decreases-evaluate_step
decreases-evaluate_step g l = 6 * weight l.arguments.now + scope_size l.environment.now.frames.scope.now + 4

abbrev pub decreases-evaluate_ramp : goal.decreases-evaluate_ramp
decreases-evaluate_ramp g l = 6 * weight l.arguments.now + scope_size l.environment.now.frames.scope.now + 4

abbrev pub decreases-evaluate_stop : goal.decreases-evaluate_stop
decreases-evaluate_stop g l = 6 * weight l.outputs.now + scope_size l.environment.now.frames.scope.now + 2

abbrev pub decreases-evaluate_output : goal.decreases-evaluate_output
decreases-evaluate_output g l = 6 * weight l.outputs.now + scope_size l.environment.now.frames.scope.now + 1

abbrev pub decreases-evaluate_let : goal.decreases-evaluate_let
decreases-evaluate_let g l = 6 * weight l.arguments.now + scope_size l.environment.now.frames.scope.now + 3

abbrev pub decreases-evaluate_var : goal.decreases-evaluate_var
decreases-evaluate_var g l = scope_size l.environment.now.frames.scope.now + 2

-- the values so far and those to come are all values
abbrev pub invariant-evaluate_values-loop-place : goal.invariant-evaluate_values-loop-place
invariant-evaluate_values-loop-place g l =
    let world = g.W.WorldView.world l.environment.world.now in
    let from = λ (place : ℕ). values_in (values_from l.op (meanings l.arguments) place) l.want l.environment.frames world in
    record {
      same : after (added l.fn.self.values.items l.self.values.items) (from l.place) ≡ from 0;
      entered : IsEntered l.environment.frames world l.self;
      stands : IsBelow l.fn.self.values.items l.self.values.items;
    }

-- no argument so far decides
abbrev pub invariant-evaluate_deciding-loop-place : goal.invariant-evaluate_deciding-loop-place
invariant-evaluate_deciding-loop-place g l =
    let world = g.W.WorldView.world l.environment.world.now in
    let from = λ (place : ℕ). meant_in (decision_from l.op (meanings l.arguments) place) l.want l.environment.frames world in
    record {
      same : from l.place ≡ from 0;
      entered : IsEntered l.environment.frames world l.self;
      stands : l.self.values.items ≡ l.fn.self.values.items;
    }

-- no condition so far is true
abbrev pub invariant-evaluate_case-loop-rest : goal.invariant-evaluate_case-loop-rest
invariant-evaluate_case-loop-rest g l =
    let world = g.W.WorldView.world l.environment.world.now in
    record {
      within : weight l.rest ≤ weight l.arguments;
      same : meant_in (case_of (meanings l.rest)) l.want l.environment.frames world ≡ meant_in (case_of (meanings l.arguments)) l.want l.environment.frames world;
      entered : IsEntered l.environment.frames world l.self;
      stands : l.self.values.items ≡ l.fn.self.values.items;
    }

abbrev pub decreases-evaluate_case-loop-rest : goal.decreases-evaluate_case-loop-rest
decreases-evaluate_case-loop-rest g l = length l.rest
