use Rattle.std.proofs.Common.{length, ◌-◌, ◌≤◌, take}
use Rattle.decimal_json.specs.Walk.{LeadsTo}
use Rattle.decimal_json.proofs.walk.walk_on.Given as goal

abbrev pub invariant-loop-count : goal.invariant-loop-count
invariant-loop-count l = (l.count ≤ length l.bytes) × LeadsTo (take l.count l.bytes) l.phase

abbrev pub decreases-loop-count : goal.decreases-loop-count
decreases-loop-count l = length l.bytes - l.count
