use Rattle.migrated_sessions.proofs.SameOpenings.{sessions_begin_alike}
use Rattle.migrated_sessions.proofs.laws.migrated_sessions_begin_alike.Goals as goal

pub returns : goal.returns
returns c = sessions_begin_alike c.migrated_documents_give_the_same_globals.ensures
