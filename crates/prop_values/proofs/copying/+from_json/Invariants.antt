use Rattle.std.proofs.Common.{◌≡◌, take, drop}
use Rattle.decimal_json.specs.Tree.{trees_of, fields_of}
use Rattle.decimal_json.specs.View.{items_view, members_view}
use Rattle.prop_values.specs.JsonData.{trees_data, fields_data}
use Rattle.prop_values.specs.Keys.{keys}
use Rattle.prop_values.proofs.JsonSteps.{items_then, pairs_then}
use Rattle.prop_values.proofs.copying.+from_json.Given as goal

abbrev pub invariant-values_from-loop-item : goal.invariant-values_from-loop-item
invariant-values_from-loop-item l = items_then l.values (trees_of (items_view (drop l.item-index l.item-items))) ≡ trees_data (trees_of l.items)

abbrev pub invariant-entries_from-loop-member : goal.invariant-entries_from-loop-member
invariant-entries_from-loop-member l = (keys l.entries ≡ keys (members_view (take l.member-index l.member-items))) × (pairs_then l.entries (fields_of (members_view (drop l.member-index l.member-items))) ≡ fields_data (fields_of l.members))
