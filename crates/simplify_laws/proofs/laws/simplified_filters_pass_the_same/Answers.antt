use Rattle.simplify_laws.proofs.MeaningLaws.{filters_pass_the_same}
use Rattle.simplify_laws.proofs.laws.simplified_filters_pass_the_same.Goals as goal

pub returns : goal.returns
returns c = filters_pass_the_same
