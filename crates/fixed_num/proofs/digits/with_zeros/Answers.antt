use Rattle.std.proofs.Common.{◌∙◌, ◌≡◌, arith}
use Rattle.std.specs.Prelude.{min}
use Rattle.fixed_num.proofs.Decimals.{zero_step, zeros_enough}
use Rattle.fixed_num.proofs.digits.with_zeros.Goals as goal

pub loop-count-preserved : goal.loop-count-preserved
loop-count-preserved c =
    let step = zero_step c.args.front c.loop-count.number c.loop-count._count c.loop-count.invariant in cc

pub returns : goal.returns
returns c =
    let all : c.loop-count._count ≡ min c.args.zeros 27 = omega arith in
    c.loop-count.invariant ∙ zeros_enough c.args.front c.args.zeros c.loop-count._count all
