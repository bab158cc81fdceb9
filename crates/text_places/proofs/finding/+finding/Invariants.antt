use Rattle.std.proofs.Common.{◌≡◌, ◌≤◌, ◌+◌, ◌-◌, ◌*◌, ◌++◌, drop, length}
use Rattle.decimal_json.specs.TreeSize.{nodes}
use Rattle.decimal_json.specs.View.{tree_of}
use Rattle.text_places.specs.Starts.{lefts_below, paths_seen, placed_seen}
use Rattle.text_places.proofs.finding.+finding.Given as goal

abbrev pub decreases-find_places : goal.decreases-find_places
decreases-find_places l = 3 * nodes (tree_of l.placed.now.json.now) + 2

abbrev pub decreases-find_next : goal.decreases-find_next
decreases-find_next l = 3 * nodes (tree_of l.placed.now.json.now) + 1

abbrev pub decreases-find_run : goal.decreases-find_run
decreases-find_run l = 3 * nodes (tree_of l.placed.now.json.now)

abbrev pub invariant-find_places-loop-at : goal.invariant-find_places-loop-at
invariant-find_places-loop-at l = record {
  within : l.at ≤ length l.paths;
  left : l.found.items ++ lefts_below l.depth (placed_seen l.placed) (paths_seen (drop l.at l.paths))
      ≡ l.fn.found.items ++ lefts_below l.depth (placed_seen l.placed) (paths_seen l.paths);
}

abbrev pub decreases-find_places-loop-at : goal.decreases-find_places-loop-at
decreases-find_places-loop-at l = length l.paths - l.at
