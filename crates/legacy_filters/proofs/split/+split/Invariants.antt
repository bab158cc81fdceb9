use Rattle.std.proofs.Common.{◌≡◌, ◌+◌, ◌*◌, drop}
use Rattle.decimal_json.specs.TreeSize.{nodes, trees_nodes}
use Rattle.decimal_json.specs.View.{tree_of, trees}
use Rattle.legacy_filters.specs.Split.{some_legacy}
use Rattle.legacy_filters.proofs.split.+split.Given as goal

abbrev pub decreases-is_legacy : goal.decreases-is_legacy
decreases-is_legacy l = 4 * nodes (tree_of l.filter.now)

abbrev pub decreases-array_is_legacy : goal.decreases-array_is_legacy
decreases-array_is_legacy l = 4 * trees_nodes (trees l.items.now) + 3

abbrev pub decreases-named_is_legacy : goal.decreases-named_is_legacy
decreases-named_is_legacy l = 4 * trees_nodes (trees l.others.now) + 2

abbrev pub decreases-some_legacy : goal.decreases-some_legacy
decreases-some_legacy l = 4 * trees_nodes (trees l.filters.now) + 1

abbrev pub invariant-some_legacy-loop-filter : goal.invariant-some_legacy-loop-filter
invariant-some_legacy-loop-filter l = some_legacy (trees (drop l.filter-index l.filters)) ≡ some_legacy (trees l.filters)
