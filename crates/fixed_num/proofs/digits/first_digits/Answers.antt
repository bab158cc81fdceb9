use Rattle.std.proofs.Common.{◌∙◌, ap, arith}
use Rattle.fixed_num.specs.Saturation.{saturated}
use Rattle.fixed_num.proofs.Decimals.{first_digits_is}
use Rattle.fixed_num.proofs.digits.first_digits.Goals as goal

pub returns : goal.returns
returns c = first_digits_is c.args.whole.now c.args.fraction.now c.args.kept _ _ _ _ c.min-in_whole.ensures c.min-in_fraction.ensures (c.saturated_number.ensures ∙ ap saturated (omega arith)) c.extended.ensures
