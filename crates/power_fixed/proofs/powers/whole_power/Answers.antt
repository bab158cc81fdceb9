use Rattle.std.proofs.Common.{◌+◌, ◌-◌, sym, ap, ◌∙◌, arith}
use Rattle.std.specs.Prelude.{Ok}
use Rattle.power_fixed.specs.Power.{whole_of}
use Rattle.power_fixed.proofs.WholePowers.{whole_zero, no_digits, one_digit_less}
use Rattle.power_fixed.proofs.powers.whole_power.Goals as goal

pub loop-taken-init : goal.loop-taken-init
loop-taken-init c = ap Ok c.unit.ensures ∙ sym (whole_zero c.args.base) ∙ ap (whole_of c.args.base) (sym (no_digits c.args.exponent c.ilog2-highest.result (c.ilog2-highest.result + 1 - 0) c.ilog2-highest.ensures.next_power_gt (omega arith)))

pub doubled_power-power-requires : goal.doubled_power-power-requires
doubled_power-power-requires c =
    c.loop-taken.invariant ∙ ap (whole_of c.args.base) (sym (one_digit_less c.args.exponent (c.ilog2-highest.result - c.loop-taken.taken) (c.ilog2-highest.result + 1 - c.loop-taken.taken) (omega arith)))

pub returns-then-exponent-eq0 : goal.returns-then-exponent-eq0
returns-then-exponent-eq0 c = ap Ok c.unit.ensures ∙ sym (whole_zero c.args.base) ∙ ap (whole_of c.args.base) (sym c.if-exponent-eq0.true)
