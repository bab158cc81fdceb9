use Rattle.std.proofs.Common.{◌≤◌}
use Rattle.expr_syntax.proofs.reading.argument_count.Given as goal

abbrev pub invariant-loop-at : goal.invariant-loop-at
invariant-loop-at l = l.count ≤ l.at
