use Rattle.migrated_trees.proofs.SoundDocuments.{documents_stay_sound}
use Rattle.migrated_trees.proofs.laws.migrated_documents_are_sound.Goals as goal

pub returns : goal.returns
returns c = documents_stay_sound c.migrated_values_are_sound.ensures
