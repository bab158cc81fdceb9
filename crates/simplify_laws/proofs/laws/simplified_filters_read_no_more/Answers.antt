use Rattle.simplify_laws.proofs.ReadsLess.{filters_read_no_more}
use Rattle.simplify_laws.proofs.laws.simplified_filters_read_no_more.Goals as goal

pub returns : goal.returns
returns c = filters_read_no_more
