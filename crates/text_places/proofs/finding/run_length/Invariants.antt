use Rattle.std.proofs.Common.{◌≤◌, ◌-◌, length, take}
use Rattle.text_places.specs.Starts.{AreAlike, first_part, paths_seen}
use Rattle.text_places.proofs.finding.run_length.Given as goal

abbrev pub invariant-loop-count : goal.invariant-loop-count
invariant-loop-count l = record {
  some : 1 ≤ l.count;
  within : l.count ≤ length l.paths;
  alike : AreAlike l.depth (first_part l.depth (paths_seen l.paths)) (paths_seen (take l.count l.paths));
}

abbrev pub decreases-loop-count : goal.decreases-loop-count
decreases-loop-count l = length l.paths - l.count
