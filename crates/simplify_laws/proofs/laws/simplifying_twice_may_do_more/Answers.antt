use Rattle.simplify_laws.proofs.TwiceSimplified.{twice}
use Rattle.simplify_laws.proofs.laws.simplifying_twice_may_do_more.Goals as goal

pub returns : goal.returns
returns c = twice
