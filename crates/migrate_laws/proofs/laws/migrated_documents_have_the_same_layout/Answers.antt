use Rattle.migrate_laws.proofs.SameLayouts.{layouts_are_the_same}
use Rattle.migrate_laws.proofs.laws.migrated_documents_have_the_same_layout.Goals as goal

pub returns : goal.returns
returns c =
    layouts_are_the_same c.migrated_values_are_the_same.ensures c.migrated_filters_are_the_same.ensures
    c.tables_keep_their_rules.ensures
