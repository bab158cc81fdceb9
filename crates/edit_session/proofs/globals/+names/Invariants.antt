use Rattle.std.proofs.Common.{◌≡◌, ◌+◌, ◌*◌, drop}
use Rattle.decimal_json.specs.TreeSize.{nodes, trees_nodes, fields_nodes}
use Rattle.decimal_json.specs.View.{tree_of, trees, fields}
use Rattle.global_laws.specs.GlobalLaw.{items_name_globals, members_name_globals}
use Rattle.edit_session.proofs.globals.+names.Given as goal

abbrev pub decreases-names_globals : goal.decreases-names_globals
decreases-names_globals l = 2 * nodes (tree_of l.json.now)

abbrev pub decreases-items_name_globals : goal.decreases-items_name_globals
decreases-items_name_globals l = 2 * trees_nodes (trees l.items.now) + 1

abbrev pub decreases-members_name_globals : goal.decreases-members_name_globals
decreases-members_name_globals l = 2 * fields_nodes (fields l.members.now) + 1

abbrev pub invariant-items_name_globals-loop-item : goal.invariant-items_name_globals-loop-item
invariant-items_name_globals-loop-item l = items_name_globals (trees (drop l.item-index l.items)) ≡ items_name_globals (trees l.items)

abbrev pub invariant-members_name_globals-loop-member : goal.invariant-members_name_globals-loop-member
invariant-members_name_globals-loop-member l =
    members_name_globals (fields (drop l.member-index l.members)) ≡ members_name_globals (fields l.members)
