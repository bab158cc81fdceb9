use Rattle.std.proofs.Common.{◌≡◌, ◌+◌, ◌*◌, drop}
use Rattle.expr_syntax.specs.TermSize.{nodes}
use Rattle.expr_syntax.specs.TermView.{term_of, weight}
use Rattle.expr_resolving.proofs.node_count.+node_count.Given as goal

abbrev pub decreases-node_count : goal.decreases-node_count
decreases-node_count l = 2 * nodes (term_of l.expression.now)

abbrev pub decreases-total_count : goal.decreases-total_count
decreases-total_count l = 2 * weight l.expressions.now + 1

abbrev pub invariant-total_count-loop-expression : goal.invariant-total_count-loop-expression
invariant-total_count-loop-expression l = l.total + weight (drop l.expression-index l.expressions) ≡ weight l.expressions
