use Rattle.simplify_laws.proofs.ReadsLess.{values_read_no_more}
use Rattle.simplify_laws.proofs.laws.simplified_values_read_no_more.Goals as goal

pub returns : goal.returns
returns c = values_read_no_more
