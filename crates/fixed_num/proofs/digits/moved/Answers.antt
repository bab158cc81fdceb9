use Rattle.std.proofs.Common.{◌≡◌, ◌+◌, ◌*◌, ◌-◌, ◌^◌, ◌++◌, ◌∙◌, ℕ, ap, sym, length, length-append, get_or, arith}
use Rattle.fixed_num.specs.Saturation.{saturated}
use Rattle.fixed_num.proofs.Decimals.{moved-up, moved-down, moved-all}
use Rattle.fixed_num.proofs.digits.moved.Goals as goal

pub returns-then-kept-length : goal.returns-then-kept-length
returns-then-kept-length c =
    let digits = c.args.whole.now ++ c.args.fraction.now in
    let long : length digits ≡ length c.args.whole.now + length c.args.fraction.now = length-append c.args.whole.now c.args.fraction.now in
    moved-all digits c.args.kept c.first_digits-front.result c.with_zeros.result (omega arith) c.first_digits-front.ensures
    (c.with_zeros.ensures ∙ ap (λ (n : ℕ). saturated (c.first_digits-front.result * 10 ^ (c.args.kept - n))) (sym long))

pub returns-then-digit_at-ge53 : goal.returns-then-digit_at-ge53
returns-then-digit_at-ge53 c =
    let digits = c.args.whole.now ++ c.args.fraction.now in
    let long : length digits ≡ length c.args.whole.now + length c.args.fraction.now = length-append c.args.whole.now c.args.fraction.now in
    let digit : get_or digits c.args.kept 0 ≡ c.digit_at.result = sym c.digit_at.ensures in
    c.min.ensures ∙ moved-up digits c.args.kept c.first_digits-front.result (omega arith) c.requires (omega arith) c.first_digits-front.ensures

pub returns-else-digit_at-ge53 : goal.returns-else-digit_at-ge53
returns-else-digit_at-ge53 c =
    let digits = c.args.whole.now ++ c.args.fraction.now in
    let long : length digits ≡ length c.args.whole.now + length c.args.fraction.now = length-append c.args.whole.now c.args.fraction.now in
    let digit : get_or digits c.args.kept 0 ≡ c.digit_at.result = sym c.digit_at.ensures in
    moved-down digits c.args.kept c.first_digits-front.result (omega arith) c.requires (omega arith) c.first_digits-front.ensures
