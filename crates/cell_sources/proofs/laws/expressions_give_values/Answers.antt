use Rattle.cell_sources.proofs.ValueExpressions.{values_given}
use Rattle.cell_sources.proofs.laws.expressions_give_values.Goals as goal

pub returns : goal.returns
returns c = values_given c.expressions_mean_their_functions.ensures c.token_expressions_mean_their_texts.ensures
