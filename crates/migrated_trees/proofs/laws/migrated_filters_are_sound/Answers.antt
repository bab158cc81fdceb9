use Rattle.migrated_trees.proofs.SoundFilters.{filter_stays_sound}
use Rattle.migrated_trees.proofs.laws.migrated_filters_are_sound.Goals as goal

pub returns : goal.returns
returns c = filter_stays_sound
