use Rattle.std.proofs.Common.{◌≡◌, ◌+◌, ◌*◌, ◌/◌, ◌^◌, ap, sym, ◌∙◌, ℕ, length, arith}
use Rattle.std.specs.Prelude.{min}
use Rattle.fixed_num.specs.Decimal.{number_of}
use Rattle.fixed_num.proofs.Decimals.{ten_pow, number_of-append}
use Rattle.color_values.proofs.AmountLaws.{times_is}
use Rattle.color_values.proofs.amount.times.Goals as goal

pub returns-clause-value : goal.returns-clause-value
returns-clause-value c =
    let W = number_of c.args.number.now.whole.now in
    let F = number_of c.args.number.now.fraction.now in
    let t = 10 ^ length c.args.number.now.fraction.now in
    let whole : c.min-whole.result ≡ min W c.args.most = omega (arith, c.saturated_number.ensures) in
    c.min.ensures
    ∙ ap (λ (n : ℕ). min (c.args.factor * c.min-whole.result + n) (c.args.factor * c.args.most)) c.fraction_times.ensures.value
    ∙ times_is c.args.factor W F c.args.most t c.min-whole.result (ten_pow (length c.args.number.now.fraction.now)) whole
    ∙ ap (λ (n : ℕ). c.args.factor * min n (c.args.most * t) / t) (sym (number_of-append c.args.number.now.whole.now c.args.number.now.fraction.now))
