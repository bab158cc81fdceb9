use Rattle.migrate_laws.proofs.StayingDocuments.{migrating_twice}
use Rattle.migrate_laws.proofs.laws.migrating_twice_changes_nothing.Goals as goal

pub returns : goal.returns
returns c = migrating_twice c.migrated_filters_stay.ensures
