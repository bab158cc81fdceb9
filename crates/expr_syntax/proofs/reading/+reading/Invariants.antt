use Rattle.std.proofs.Common.{◌≡◌, ◌+◌, ◌*◌, drop, length, false}
use Rattle.decimal_json.specs.View.{path_of, tree_of, trees, fields}
use Rattle.decimal_json.specs.TreeSize.{nodes, trees_nodes, fields_nodes}
use Rattle.expr_syntax.specs.ReadView.{scope_of}
use Rattle.expr_syntax.specs.Reading.{elements, members, arguments, sections_read, options_read, no_sections}
use Rattle.expr_syntax.proofs.ElementLaws.{after_terms}
use Rattle.expr_syntax.proofs.reading.+reading.Given as goal

abbrev pub decreases-read_json : goal.decreases-read_json
decreases-read_json l = 6 * nodes (tree_of l.json.now)

abbrev pub decreases-read_array : goal.decreases-read_array
decreases-read_array l = 6 * trees_nodes (trees l.items.now) + 5

abbrev pub decreases-read_node : goal.decreases-read_node
decreases-read_node l = 6 * trees_nodes (trees l.items.now) + 4

abbrev pub decreases-read_within : goal.decreases-read_within
decreases-read_within l = 6 * trees_nodes (trees l.items.now) + 3

abbrev pub decreases-read_arguments : goal.decreases-read_arguments
decreases-read_arguments l = 6 * trees_nodes (trees l.items.now) + 2

abbrev pub decreases-read_sections : goal.decreases-read_sections
decreases-read_sections l = 6 * trees_nodes (trees l.items.now) + 3

abbrev pub decreases-read_section : goal.decreases-read_section
decreases-read_section l = 6 * nodes (tree_of l.item.now) + 1

abbrev pub decreases-read_options : goal.decreases-read_options
decreases-read_options l = 6 * fields_nodes (fields l.options.now) + 1

abbrev pub invariant-read_arguments-loop-i : goal.invariant-read_arguments-loop-i
invariant-read_arguments-loop-i l = after_terms l.arguments (arguments l.layout (length l.items) l.i (elements (trees (drop l.i l.items))) (scope_of l.inner) (scope_of l.scope) (path_of l.here)) ≡ arguments l.layout (length l.items) 0 (elements (trees l.items)) (scope_of l.inner) (scope_of l.scope) (path_of l.here)

abbrev pub invariant-read_sections-loop-i : goal.invariant-read_sections-loop-i
invariant-read_sections-loop-i l = sections_read l.i l.follows (elements (trees (drop l.i l.items))) (scope_of l.scope) (path_of l.here) l.found ≡ sections_read 0 false (elements (trees l.items)) (scope_of l.scope) (path_of l.here) no_sections

abbrev pub invariant-read_options-loop-option : goal.invariant-read_options-loop-option
invariant-read_options-loop-option l = options_read l.at (members (fields (drop l.option-index l.options))) (scope_of l.scope) (path_of l.here) l.found ≡ options_read l.at (members (fields l.options)) (scope_of l.scope) (path_of l.here) l.fn.found
