use Rattle.std.proofs.Common.{◌∙◌, ap, sym, ◌≡◌, ◌<◌, ◌*◌, ◌^◌, length, arith}
use Rattle.std.specs.Prelude.{nat_eq, nat_le}
use Rattle.std.proofs.lemmas.Bool.{lt-ltb, ne_eqb}
use Rattle.fixed_num.specs.Decimal.{number_of}
use Rattle.color_values.specs.ColorNumber.{most_units}
use Rattle.fixed_num.proofs.Decimals.{number_of-append, number_of-lt, ten_pow}
use Rattle.color_values.proofs.DecimalLaws.{below_bound, at_bound, past_bound, saturated_zero}
use Rattle.color_values.proofs.number.is_within.Goals as goal

pub returns-then-units-lt-MOST_UNITS : goal.returns-then-units-lt-MOST_UNITS
returns-then-units-lt-MOST_UNITS c =
    let W = number_of c.args.whole.now in
    let F = number_of c.args.fraction.now in
    let t = 10 ^ length c.args.fraction.now in
    let e = number_of-append c.args.whole.now c.args.fraction.now in
    let few : W < most_units = omega (arith, c.saturated_number-units.ensures) in
    lt-ltb c.saturated_number-units.result most_units c.if-units-lt-MOST_UNITS.true
    ∙ sym (ap (λ n. nat_le n (most_units * t)) e ∙ below_bound W F t (number_of-lt c.args.fraction.now c.requires) few)

pub returns-then-units-eq-MOST_UNITS : goal.returns-then-units-eq-MOST_UNITS
returns-then-units-eq-MOST_UNITS c =
    let W = number_of c.args.whole.now in
    let F = number_of c.args.fraction.now in
    let t = 10 ^ length c.args.fraction.now in
    let e = number_of-append c.args.whole.now c.args.fraction.now in
    let same : W ≡ most_units = omega (arith, c.saturated_number-units.ensures) in
    ap (λ n. nat_eq n 0) c.saturated_number.ensures ∙ saturated_zero F ∙ sym (ap (λ n. nat_le n (most_units * t)) e ∙ at_bound W F t same)

pub returns-else-units-eq-MOST_UNITS : goal.returns-else-units-eq-MOST_UNITS
returns-else-units-eq-MOST_UNITS c =
    let W = number_of c.args.whole.now in
    let F = number_of c.args.fraction.now in
    let t = 10 ^ length c.args.fraction.now in
    let e = number_of-append c.args.whole.now c.args.fraction.now in
    let more : most_units < W = omega (arith, c.saturated_number-units.ensures) in
    ne_eqb c.saturated_number-units.result most_units c.if-units-eq-MOST_UNITS.false
    ∙ sym (ap (λ n. nat_le n (most_units * t)) e ∙ past_bound W F t (ten_pow (length c.args.fraction.now)) more)
