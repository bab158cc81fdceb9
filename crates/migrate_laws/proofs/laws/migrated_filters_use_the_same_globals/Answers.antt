use Rattle.migrate_laws.proofs.SameGlobals.{filters_use_the_same}
use Rattle.migrate_laws.proofs.laws.migrated_filters_use_the_same_globals.Goals as goal

pub returns : goal.returns
returns c =
    filters_use_the_same c.fixed_expressions_use_no_globals.ensures c.expressions_mean_their_filters.ensures
    c.expressions_are_not_legacy.ensures
