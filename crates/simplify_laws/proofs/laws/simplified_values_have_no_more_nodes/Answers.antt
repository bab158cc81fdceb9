use Rattle.simplify_laws.proofs.MeaningLaws.{values_have_no_more}
use Rattle.simplify_laws.proofs.laws.simplified_values_have_no_more_nodes.Goals as goal

pub returns : goal.returns
returns c = values_have_no_more
