use Rattle.migrated_sessions.proofs.SameOpenings.{styles_are_listed_alike}
use Rattle.migrated_sessions.proofs.laws.migrated_styles_are_listed_alike.Goals as goal

pub returns : goal.returns
returns c = styles_are_listed_alike c.migrated_documents_have_the_same_layout.ensures
