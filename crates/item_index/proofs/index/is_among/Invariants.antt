use Rattle.std.proofs.Common.{◌≡◌, drop}
use Rattle.std.specs.List.{list_any}
use Rattle.prop_values.specs.Equality.{equal}
use Rattle.prop_values.specs.View.{data_of}
use Rattle.prop_values.specs.ViewParts.{values_view}
use Rattle.item_index.proofs.index.is_among.Given as goal

-- none of the items so far is equal
abbrev pub invariant-loop-item : goal.invariant-loop-item
invariant-loop-item l =
    list_any (equal (data_of l.value)) (values_view (drop l.item-index l.items)) ≡ list_any (equal (data_of l.value)) (values_view l.items)
