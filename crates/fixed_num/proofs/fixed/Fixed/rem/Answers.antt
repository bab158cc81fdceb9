use Rattle.std.proofs.Common.{rules}
use Rattle.fixed_num.proofs.Signs.{remainder_by_magnitudes}
use Rattle.fixed_num.proofs.fixed.Fixed.rem.Goals as goal

pub returns : goal.returns
returns c = search (rules, remainder_by_magnitudes)
