use Rattle.std.proofs.Common.{arith}
use Rattle.expr_resolving.proofs.CountLaws.{count_step, count_end}
use Rattle.expr_resolving.proofs.node_count.+node_count.Goals as goal

pub total_count-loop-expression-preserved : goal.total_count-loop-expression-preserved
total_count-loop-expression-preserved t c =
    count_step c.args.expressions.now c.loop-expression.expression-index c.expression-item.result c.loop-expression.total _ _
    c.expression-item.is (omega arith) c.in-Some.ensures.some (omega arith) c.loop-expression.invariant

pub total_count-returns-clause-some : goal.total_count-returns-clause-some
total_count-returns-clause-some t c =
    count_end c.args.expressions.now c.loop-expression.expression-index c.loop-expression.total (omega arith) c.loop-expression.invariant
