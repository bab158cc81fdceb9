use Rattle.migrated_trees.proofs.SoundValues.{values_are_sound}
use Rattle.migrated_trees.proofs.laws.migrated_values_are_sound.Goals as goal

pub returns : goal.returns
returns c = values_are_sound
