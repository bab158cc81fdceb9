use Rattle.simplify_laws.proofs.NeverPassed.{listed_filters}
use Rattle.simplify_laws.proofs.laws.listed_filters_pass_nothing.Goals as goal

pub returns : goal.returns
returns c = listed_filters
