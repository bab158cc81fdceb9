use Rattle.migrate_laws.proofs.MigratedParts.{globals_kept}
use Rattle.migrate_laws.proofs.laws.migrated_documents_give_the_same_globals.Goals as goal

pub returns : goal.returns
returns c = globals_kept
