use Rattle.std.proofs.Common.{◌≡◌, ◌≤◌, ◌*◌, ◌/◌, ◌^◌, drop, length}
use Rattle.fixed_num.specs.Decimal.{number_of}
use Rattle.color_values.proofs.amount.fraction_times.Given as goal

-- the carry of the digits from here on
abbrev pub invariant-loop-at : goal.invariant-loop-at
invariant-loop-at l = record {
  within : l.at ≤ length l.digits;
  value : l.carry ≡ l.factor * number_of (drop l.at l.digits) / 10 ^ length (drop l.at l.digits);
  small : l.carry ≤ 23 * l.factor;
}

abbrev pub decreases-loop-at : goal.decreases-loop-at
decreases-loop-at l = l.at
