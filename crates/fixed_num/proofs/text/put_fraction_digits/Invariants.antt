use Rattle.std.proofs.Common.{◌≡◌, ◌≤◌, ◌<◌, ◌+◌, ◌-◌, ◌^◌, ◌++◌, length, take}
use Rattle.fixed_num.proofs.FractionDigits.{fraction}
use Rattle.fixed_num.proofs.text.put_fraction_digits.Given as goal

abbrev pub invariant-loop-i : goal.invariant-loop-i
invariant-loop-i l = record {
  unit : l.unit ≡ 10 ^ (6 - l.i);
  long : length l.out ≡ 48;
  small : l.left < l.unit;
  within : l.at ≤ l.fn.from + l.i;
  text : take l.at l.out ++ fraction (6 - l.i) l.left ≡ take l.fn.from l.fn.out ++ fraction 6 l.millionths;
}
