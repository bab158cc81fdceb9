use Rattle.cell_sources.proofs.LayerProperties.{properties_read}
use Rattle.cell_sources.proofs.laws.properties_are_read_by_expressions.Goals as goal

pub returns : goal.returns
returns c = properties_read c.expressions_give_values.ensures c.tables_keep_their_rules.ensures
