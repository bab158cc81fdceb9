use Rattle.migrated_sessions.proofs.SameCells.{cells_are_as_many}
use Rattle.migrated_sessions.proofs.laws.migrated_documents_have_as_many_cells.Goals as goal

pub returns : goal.returns
returns c =
    cells_are_as_many c.migrated_values_are_the_same.ensures c.migrated_filters_are_the_same.ensures
    c.tables_keep_their_rules.ensures
