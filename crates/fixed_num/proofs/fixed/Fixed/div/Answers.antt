use Rattle.std.proofs.Common.{rules}
use Rattle.fixed_num.proofs.Signs.{quotient_is}
use Rattle.fixed_num.proofs.fixed.Fixed.div.Goals as goal

pub returns : goal.returns
returns c = search (rules, quotient_is)
