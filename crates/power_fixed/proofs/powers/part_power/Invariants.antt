use Rattle.std.proofs.Common.{◌≡◌, ◌<◌, pos, ◌≤ℤ◌}
use Rattle.power_fixed.specs.Power.{part_after, rest_after, root_after}
use Rattle.power_fixed.proofs.powers.part_power.Given as goal

abbrev pub invariant-loop-place : goal.invariant-loop-place
invariant-loop-place l = record {
  power : l.power ≡ part_after l.fn.base l.fraction l._place;
  factor : l.factor ≡ root_after l.fn.base l._place;
  rest : l.rest ≡ rest_after l.fraction l._place;
  fraction : l.rest < 1000000;
  not_negative : pos 0 ≤ℤ l.factor;
}
