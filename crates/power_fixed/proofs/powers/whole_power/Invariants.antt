use Rattle.std.proofs.Common.{◌≡◌, ◌+◌, ◌/◌, ◌-◌, ◌^◌}
use Rattle.power_fixed.specs.Power.{whole_of}
use Rattle.power_fixed.proofs.powers.whole_power.Given as goal

-- the power of the digits that were taken
abbrev pub invariant-loop-taken : goal.invariant-loop-taken
invariant-loop-taken l = l.power ≡ whole_of l.base (l.exponent / 2 ^ (l.highest + 1 - l.taken))
