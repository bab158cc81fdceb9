use Rattle.migrate_laws.proofs.SameFilters.{filters_are_the_same}
use Rattle.migrate_laws.proofs.laws.migrated_filters_are_the_same.Goals as goal

pub returns : goal.returns
returns c = filters_are_the_same c.expressions_mean_their_filters.ensures c.expressions_are_not_legacy.ensures
