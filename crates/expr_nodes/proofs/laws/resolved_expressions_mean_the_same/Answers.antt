use Rattle.expr_nodes.proofs.ResolveLaws.{resolved_expressions}
use Rattle.expr_nodes.proofs.laws.resolved_expressions_mean_the_same.Goals as goal

pub returns : goal.returns
returns c = resolved_expressions
