use Rattle.migrate_laws.proofs.SameValues.{values_are_the_same}
use Rattle.migrate_laws.proofs.laws.migrated_values_are_the_same.Goals as goal

pub returns : goal.returns
returns c =
    values_are_the_same c.expressions_mean_their_functions.ensures c.token_expressions_mean_their_texts.ensures
