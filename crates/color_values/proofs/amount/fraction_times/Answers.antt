use Rattle.std.proofs.Common.{◌≡◌, ◌<◌, ◌+◌, ◌-◌, ◌*◌, ◌/◌, ◌^◌, ap, ◌∙◌, ℕ, get_or, drop, length, suc, arith}
use Rattle.fixed_num.specs.Decimal.{number_of}
use Rattle.color_values.proofs.AmountLaws.{carry_step, carry_small}
use Rattle.color_values.proofs.amount.fraction_times.Goals as goal

pub loop-at-preserved : goal.loop-at-preserved
loop-at-preserved c =
    let i = c.loop-at.at - 1 in
    let here : i < length c.args.digits.now = omega arith in
    let next : c.loop-at.at ≡ suc i = omega arith in
    let digit : c.from.result ≡ get_or c.args.digits.now i 0 - 48 = omega arith in
    let byte = c.type_inv.digits i in
    let carried : c.loop-at.carry ≡ c.args.factor * number_of (drop (suc i) c.args.digits.now) / 10 ^ length (drop (suc i) c.args.digits.now) =
    c.loop-at.invariant.value ∙ ap (λ (n : ℕ). c.args.factor * number_of (drop n c.args.digits.now) / 10 ^ length (drop n c.args.digits.now)) next in
    record {
      within = omega arith;
      value = ap (λ (n : ℕ). (c.args.factor * n + c.loop-at.carry) / 10) digit ∙ carry_step c.args.digits.now i c.args.factor c.loop-at.carry here carried;
      small = carry_small c.args.factor c.from.result c.loop-at.carry (omega arith) c.loop-at.invariant.small;
    }
