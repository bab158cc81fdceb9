use Rattle.simplify_laws.proofs.MeaningLaws.{filters_have_no_more}
use Rattle.simplify_laws.proofs.laws.simplified_filters_have_no_more_nodes.Goals as goal

pub returns : goal.returns
returns c = filters_have_no_more
