use Rattle.std.proofs.Common.{◌≡◌, ◌+◌, ◌*◌, drop}
use Rattle.decimal_json.specs.TreeSize.{nodes, trees_nodes, fields_nodes}
use Rattle.decimal_json.specs.View.{tree_of, trees, fields}
use Rattle.text_places.specs.Skipping.{after_more_items, after_more_members}
use Rattle.text_places.proofs.skipping.+skipping.Given as goal

abbrev pub decreases-after_value : goal.decreases-after_value
decreases-after_value l = 2 * nodes (tree_of l.json.now)

abbrev pub decreases-after_items : goal.decreases-after_items
decreases-after_items l = 2 * trees_nodes (trees l.items.now) + 1

abbrev pub decreases-after_members : goal.decreases-after_members
decreases-after_members l = 2 * fields_nodes (fields l.members.now) + 1

abbrev pub invariant-after_items-loop-item : goal.invariant-after_items-loop-item
invariant-after_items-loop-item l = after_more_items (trees (drop l.item-index l.items)) l.rest ≡ after_more_items (trees l.items) l.fn.text

abbrev pub invariant-after_members-loop-member : goal.invariant-after_members-loop-member
invariant-after_members-loop-member l =
    after_more_members (fields (drop l.member-index l.members)) l.rest ≡ after_more_members (fields l.members) l.fn.text
