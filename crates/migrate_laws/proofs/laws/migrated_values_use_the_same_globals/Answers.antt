use Rattle.migrate_laws.proofs.SameGlobals.{values_use_the_same}
use Rattle.migrate_laws.proofs.laws.migrated_values_use_the_same_globals.Goals as goal

pub returns : goal.returns
returns c =
    values_use_the_same c.fixed_expressions_use_no_globals.ensures c.expressions_mean_their_functions.ensures
    c.token_expressions_mean_their_texts.ensures
