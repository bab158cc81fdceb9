use Rattle.std.proofs.Common.{◌≡◌, drop}
use Rattle.std.specs.Prelude.{◌||◌}
use Rattle.std.specs.List.{list_any}
use Rattle.prop_values.specs.Data.{Data}
use Rattle.prop_values.specs.Equality.{equal}
use Rattle.prop_values.specs.ViewParts.{values_view}
use Rattle.item_index.specs.Indexed.{indexed}
use Rattle.item_index.proofs.index.index_of.Given as goal

abbrev pub invariant-loop-item : goal.invariant-loop-item
invariant-loop-item l =
    (d : Data) → (indexed l.index d || list_any (equal d) (values_view (drop l.item-index l.items))) ≡ list_any (equal d) (values_view l.items)
