use Rattle.std.proofs.Common.{arith}
use Rattle.fixed_num.proofs.Decimals.{extended_step}
use Rattle.fixed_num.proofs.digits.extended.Goals as goal

pub loop-digit-preserved : goal.loop-digit-preserved
loop-digit-preserved c =
    let step = extended_step c.args.front c.loop-digit.number c.args.digits.now c.loop-digit.digit-index (omega arith) c.loop-digit.invariant in cc
