use Rattle.simplify_laws.proofs.MeaningLaws.{filters_stay_outside}
use Rattle.simplify_laws.proofs.laws.simplified_filters_are_outside_alike.Goals as goal

pub returns : goal.returns
returns c = filters_stay_outside
