use Rattle.std.proofs.Common.{◌≡◌, ◌+◌, ◌*◌, ◌≤◌, drop, length}
use Rattle.decimal_json.specs.TreeSize.{nodes, trees_nodes}
use Rattle.decimal_json.specs.View.{tree_of, trees}
use Rattle.expr_syntax.specs.ReadView.{row_view}
use Rattle.finding_sentences.specs.MaySentence.{in_elements, misspelled_each}
use Rattle.finding_sentences.proofs.misspelled.+searching.Given as goal

abbrev pub decreases-first_misspelled : goal.decreases-first_misspelled
decreases-first_misspelled l = 3 * nodes (tree_of l.json.now)

abbrev pub decreases-misspelled_item : goal.decreases-misspelled_item
decreases-misspelled_item l = 3 * trees_nodes (trees l.items.now) + 2

abbrev pub decreases-misspelled_element : goal.decreases-misspelled_element
decreases-misspelled_element l = 3 * trees_nodes (trees l.items.now) + 1

abbrev pub invariant-misspelled_element-loop-at : goal.invariant-misspelled_element-loop-at
invariant-misspelled_element-loop-at l = record {
  later : in_elements (row_view l.row) (length l.items) l.arguments l.at l.argument (misspelled_each (trees (drop l.at l.items))) l.want
      ≡ in_elements (row_view l.row) (length l.items) l.arguments 0 0 (misspelled_each (trees l.items)) l.want;
  few : l.argument ≤ l.at;
}
