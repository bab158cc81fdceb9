use Rattle.std.proofs.Common.{◌≡◌, drop, length, ◌+◌, ◌*◌}
use Rattle.prop_values.specs.Data.{pairs_of}
use Rattle.prop_values.specs.DataSize.{nodes, items_nodes, pairs_nodes}
use Rattle.prop_values.specs.View.{data_of}
use Rattle.prop_values.specs.ViewParts.{items, pairs}
use Rattle.prop_values.specs.Equality.{pairs_in, items_equal}
use Rattle.prop_values.proofs.comparing.+equals.Given as goal

abbrev pub decreases-equals : goal.decreases-equals
decreases-equals l = 2 * nodes (data_of l.a.now)

abbrev pub decreases-are_equal : goal.decreases-are_equal
decreases-are_equal l = 2 * items_nodes (items l.a.now) + 1

abbrev pub decreases-has_pairs : goal.decreases-has_pairs
decreases-has_pairs l = 2 * pairs_nodes (pairs l.entries.now) + 1

abbrev pub invariant-has_pairs-loop-entry : goal.invariant-has_pairs-loop-entry
invariant-has_pairs-loop-entry l = pairs_in (pairs (drop l.entry-index l.entries)) (pairs_of l.map) ≡ pairs_in (pairs l.entries) (pairs_of l.map)

abbrev pub invariant-are_equal-loop-i : goal.invariant-are_equal-loop-i
invariant-are_equal-loop-i l = (length l.a ≡ length l.b) × (items_equal (items (drop l.i l.a)) (items (drop l.i l.b)) ≡ items_equal (items l.a) (items l.b))
