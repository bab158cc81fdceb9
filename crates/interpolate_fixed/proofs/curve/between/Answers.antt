use Rattle.std.proofs.Common.{arith}
use Rattle.std.proofs.lemmas.Int.{ints}
use Rattle.interpolate_fixed.proofs.MovedInputs.{stays_at_start, first_fault}
use Rattle.interpolate_fixed.proofs.curve.between.Goals as goal

pub returns-then-millionths : goal.returns-then-millionths
returns-then-millionths c = stays_at_start c.args.base c.args.x0 c.args.x1 c.args.x (omega (arith, ints))

pub returns-in-Err : goal.returns-in-Err
returns-in-Err c = first_fault c.args.base c.args.x0 c.args.x1 c.args.x _ c.in-Err.ensures (λ e. omega (arith, ints))
