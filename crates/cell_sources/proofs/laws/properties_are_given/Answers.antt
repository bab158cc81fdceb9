use Rattle.cell_sources.proofs.LayerProperties.{properties_given}
use Rattle.cell_sources.proofs.laws.properties_are_given.Goals as goal

pub returns : goal.returns
returns c = properties_given c.expressions_give_values.ensures c.tables_keep_their_rules.ensures
