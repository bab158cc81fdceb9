use Rattle.simplify_laws.proofs.MeaningLaws.{values_mean_the_same}
use Rattle.simplify_laws.proofs.laws.simplified_values_mean_the_same.Goals as goal

pub returns : goal.returns
returns c = values_mean_the_same
