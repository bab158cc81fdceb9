use Rattle.expr_nodes.proofs.ResolveLaws.{marked_expressions}
use Rattle.expr_nodes.proofs.laws.marked_expressions_mean_the_same.Goals as goal

pub returns : goal.returns
returns c = marked_expressions
