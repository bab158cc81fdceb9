use Rattle.std.proofs.Common.{◌≡◌, ◌+◌, ◌*◌, drop, length, false}
use Rattle.decimal_json.specs.TreeSize.{nodes, trees_nodes, fields_nodes}
use Rattle.decimal_json.specs.View.{tree_of, trees, fields}
use Rattle.expr_syntax.specs.Standing.{elements, members, some_element, some_section, some_option}
use Rattle.expr_syntax.proofs.standing.+standing.Given as goal

abbrev pub decreases-stands : goal.decreases-stands
decreases-stands l = 3 * nodes (tree_of l.json.now)

abbrev pub decreases-stands_in_array : goal.decreases-stands_in_array
decreases-stands_in_array l = 3 * trees_nodes (trees l.items.now) + 2

abbrev pub decreases-stands_in_elements : goal.decreases-stands_in_elements
decreases-stands_in_elements l = 3 * trees_nodes (trees l.items.now) + 1

abbrev pub decreases-stands_in_sections : goal.decreases-stands_in_sections
decreases-stands_in_sections l = 3 * trees_nodes (trees l.items.now) + 1

abbrev pub decreases-stands_in_options : goal.decreases-stands_in_options
decreases-stands_in_options l = 3 * fields_nodes (fields l.options.now) + 1

abbrev pub invariant-stands_in_elements-loop-i : goal.invariant-stands_in_elements-loop-i
invariant-stands_in_elements-loop-i l = some_element l.layout (length l.items) l.i (elements (trees (drop l.i l.items))) l.sought l.format ≡ some_element l.layout (length l.items) 0 (elements (trees l.items)) l.sought l.format

abbrev pub invariant-stands_in_sections-loop-i : goal.invariant-stands_in_sections-loop-i
invariant-stands_in_sections-loop-i l = some_section l.i l.follows (elements (trees (drop l.i l.items))) l.sought ≡ some_section 0 false (elements (trees l.items)) l.sought

abbrev pub invariant-stands_in_options-loop-option : goal.invariant-stands_in_options-loop-option
invariant-stands_in_options-loop-option l = some_option (members (fields (drop l.option-index l.options))) l.sought ≡ some_option (members (fields l.options)) l.sought
