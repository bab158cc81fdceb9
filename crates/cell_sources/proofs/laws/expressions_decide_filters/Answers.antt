use Rattle.cell_sources.proofs.FilterExpressions.{filters_decide}
use Rattle.cell_sources.proofs.laws.expressions_decide_filters.Goals as goal

pub returns : goal.returns
returns c = filters_decide c.expressions_mean_their_filters.ensures
