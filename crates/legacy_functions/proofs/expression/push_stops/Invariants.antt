use Rattle.std.proofs.Common.{◌≡◌, ◌++◌, drop}
use Rattle.legacy_functions.specs.FunctionView.{branches_in}
use Rattle.legacy_functions.specs.ToExpression.{branch_elements}
use Rattle.legacy_functions.proofs.expression.push_stops.Given as goal

abbrev pub invariant-loop-stop : goal.invariant-loop-stop
invariant-loop-stop l = l.items ++ branch_elements (branches_in (drop l.stop-index l.stops)) ≡ l.fn.items ++ branch_elements (branches_in l.stops)
