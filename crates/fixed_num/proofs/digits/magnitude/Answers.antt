use Rattle.std.proofs.Common.{◌≡◌, ◌+◌, ◌*◌, ◌-◌, ◌^◌, ◌<◌, ◌++◌, ◌∙◌, ℕ, ap, sym, length, length-append, arith, Bool}
use Rattle.fixed_num.specs.Decimal.{number_of, scaled}
use Rattle.fixed_num.specs.Rounding.{nearest}
use Rattle.fixed_num.specs.Saturation.{saturated}
use Rattle.fixed_num.proofs.Decimals.{number_of-lt_both}
use Rattle.fixed_num.proofs.Scales.{scaled-right, scaled-left, scaled-nothing}
use Rattle.fixed_num.proofs.digits.magnitude.Goals as goal

pub returns-then-not-is_down : goal.returns-then-not-is_down
returns-then-not-is_down c =
    let number = number_of (c.args.whole.now ++ c.args.fraction.now) in
    let exponent = number_of c.args.exponent.now in
    let size : c.saturated_number-size.result ≡ saturated exponent = c.saturated_number-size.ensures ∙ ap saturated (omega arith) in
    c.moved.ensures
    ∙ ap (λ (n : ℕ). saturated (nearest (number * 10 ^ (length c.args.whole.now + 6 + c.saturated_number-size.result)) (10 ^ n))) (length-append c.args.whole.now c.args.fraction.now)
    ∙ scaled-right number (length c.args.whole.now) (length c.args.fraction.now) exponent c.saturated_number-size.result (omega arith) size
    ∙ ap (λ (down : Bool). saturated (scaled number (length c.args.fraction.now) down exponent)) (sym c.if-not-is_down.true)

pub returns-then-size-before_point : goal.returns-then-size-before_point
returns-then-size-before_point c =
    let number = number_of (c.args.whole.now ++ c.args.fraction.now) in
    let exponent = number_of c.args.exponent.now in
    let size : c.saturated_number-size.result ≡ saturated exponent = c.saturated_number-size.ensures ∙ ap saturated (omega arith) in
    let below : number < 10 ^ (length c.args.whole.now + length c.args.fraction.now) = number_of-lt_both c.args.whole.now c.args.fraction.now c.requires in
    sym (scaled-nothing number (length c.args.whole.now) (length c.args.fraction.now) exponent c.saturated_number-size.result below size (omega arith))
    ∙ ap (λ (down : Bool). saturated (scaled number (length c.args.fraction.now) down exponent)) (sym c.if-not-is_down.false)

pub returns : goal.returns
returns c =
    let number = number_of (c.args.whole.now ++ c.args.fraction.now) in
    let exponent = number_of c.args.exponent.now in
    let size : c.saturated_number-size.result ≡ saturated exponent = c.saturated_number-size.ensures ∙ ap saturated (omega arith) in
    c.moved-2.ensures
    ∙ ap (λ (n : ℕ). saturated (nearest (number * 10 ^ (length c.args.whole.now + 6 - c.saturated_number-size.result)) (10 ^ n))) (length-append c.args.whole.now c.args.fraction.now)
    ∙ scaled-left number (length c.args.whole.now) (length c.args.fraction.now) exponent c.saturated_number-size.result (omega arith) size (omega arith)
    ∙ ap (λ (down : Bool). saturated (scaled number (length c.args.fraction.now) down exponent)) (sym c.if-not-is_down.false)
