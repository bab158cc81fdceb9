use Rattle.std.proofs.Common.{◌≡◌, ◌+◌, ◌-◌, ◌^◌, suc, arith, ap, sym, ◌∙◌, ◌++◌, take, length-set, []}
use Rattle.fixed_num.proofs.FractionDigits.{fraction, tenth, left_below, next_digit, fraction-none, fraction-zero, all_written}
use Rattle.fixed_num.proofs.text.put_fraction_digits.Goals as goal

pub loop-i-preserved : goal.loop-i-preserved
loop-i-preserved c =
    let k : 6 - c.loop-i.i ≡ suc (6 - (c.loop-i.i + 1)) = omega arith in
    let unit = c.loop-i.invariant.unit ∙ ap (λ n. 10 ^ n) k in
    record {
      unit = tenth _ _ unit;
      long = grind (arith, length-set);
      small = left_below _ _ c.loop-i.left unit;
      within = omega arith;
      text = next_digit c.loop-i.out c.loop-i.at (6 - (c.loop-i.i + 1)) c.loop-i.unit c.loop-i.left _ (omega (arith, c.loop-i.invariant.long)) unit c.if-left-eq0.false (ap (λ n. take c.loop-i.at c.loop-i.out ++ fraction n c.loop-i.left) (sym k) ∙ c.loop-i.invariant.text);
    }

pub returns-after-loop-i-clause-text : goal.returns-after-loop-i-clause-text
returns-after-loop-i-clause-text c =
    let last : 6 - c.loop-i.i ≡ 0 = omega arith in
    let none : fraction (6 - c.loop-i.i) c.loop-i.left ≡ [] = ap (λ k. fraction k c.loop-i.left) last ∙ fraction-none c.loop-i.left in
    all_written _ _ (6 - c.loop-i.i) c.loop-i.left c.args.millionths c.requires.fraction none c.loop-i.invariant.text

pub returns-then-left-eq0-clause-text : goal.returns-then-left-eq0-clause-text
returns-then-left-eq0-clause-text c =
    let none : fraction (6 - c.loop-i.i) c.loop-i.left ≡ [] = ap (λ n. fraction (6 - c.loop-i.i) n) c.if-left-eq0.true ∙ fraction-zero (6 - c.loop-i.i) in
    all_written _ _ (6 - c.loop-i.i) c.loop-i.left c.args.millionths c.requires.fraction none c.loop-i.invariant.text

pub nonzero_div-out : goal.nonzero_div-out
nonzero_div-out c =
    let k : 6 - c.loop-i.i ≡ suc (6 - (c.loop-i.i + 1)) = omega arith in
    omega (arith, left_below c.loop-i.unit _ c.loop-i.left (c.loop-i.invariant.unit ∙ ap (λ n. 10 ^ n) k))

pub nonzero_rem-left : goal.nonzero_rem-left
nonzero_rem-left c =
    let k : 6 - c.loop-i.i ≡ suc (6 - (c.loop-i.i + 1)) = omega arith in
    omega (arith, left_below c.loop-i.unit _ c.loop-i.left (c.loop-i.invariant.unit ∙ ap (λ n. 10 ^ n) k))
