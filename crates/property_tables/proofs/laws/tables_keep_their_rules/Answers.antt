use Rattle.property_tables.proofs.Tables.{table_keeps_rules}
use Rattle.property_tables.proofs.laws.tables_keep_their_rules.Goals as goal

pub returns : goal.returns
returns c = table_keeps_rules
