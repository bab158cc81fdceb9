use Rattle.std.proofs.Common.{◌-◌, ◌≤◌, length, take, drop}
use Rattle.std.specs.Prelude.{map}
use Rattle.key_index.specs.Keys.{LacksKey}
use Rattle.key_index.proofs.ascending.ascending_place.Given as goal

abbrev pub invariant-loop-low : goal.invariant-loop-low
invariant-loop-low g l = record {
  order : l.low ≤ l.high;
  within : l.high ≤ length l.entries;
  before : LacksKey l.key (take l.low (map g.T.Keyed.key l.entries));
  behind : LacksKey l.key (drop l.high (map g.T.Keyed.key l.entries));
}

abbrev pub decreases-loop-low : goal.decreases-loop-low
decreases-loop-low g l = l.high - l.low
