use Rattle.std.proofs.Common.{◌≡◌, ◌+◌, ◌*◌, drop}
use Rattle.std.specs.Prelude.{map}
use Rattle.decimal_json.specs.View.{path_of, tree_of, trees}
use Rattle.decimal_json.specs.TreeSize.{nodes, trees_nodes}
use Rattle.legacy_filters.specs.Form.{forms, parts_form}
use Rattle.legacy_filters.specs.View.{part_filter}
use Rattle.legacy_filters.proofs.PartLists.{after_filters}
use Rattle.legacy_filters.proofs.reading.+reading.Given as goal

abbrev pub decreases-read_part : goal.decreases-read_part
decreases-read_part l = 4 * nodes (tree_of l.part.now)

abbrev pub decreases-read_array : goal.decreases-read_array
decreases-read_array l = 4 * trees_nodes (trees l.items.now) + 3

abbrev pub decreases-read_named : goal.decreases-read_named
decreases-read_named l = 4 * trees_nodes (trees l.elements.now) + 2

abbrev pub decreases-read_group : goal.decreases-read_group
decreases-read_group l = 4 * trees_nodes (trees l.elements.now) + 1

abbrev pub invariant-read_group-loop-i : goal.invariant-read_group-loop-i
invariant-read_group-loop-i l = after_filters (map part_filter l.parts.items) (parts_form (l.i + 1) (forms (trees (drop l.i l.elements))) (l.count + 1) (path_of l.here)) ≡ parts_form 1 (forms (trees l.elements)) (l.count + 1) (path_of l.here)
