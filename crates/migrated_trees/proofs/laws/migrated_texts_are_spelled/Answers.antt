use Rattle.migrated_trees.proofs.SoundDocuments.{texts_are_spelled}
use Rattle.migrated_trees.proofs.laws.migrated_texts_are_spelled.Goals as goal

pub returns : goal.returns
returns c = texts_are_spelled c.written_trees_are_spelled.ensures c.migrated_documents_are_sound.ensures
