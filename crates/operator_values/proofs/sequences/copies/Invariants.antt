use Rattle.std.proofs.Common.{◌≡◌, take}
use Rattle.prop_values.specs.ViewParts.{values_view}
use Rattle.operator_values.proofs.sequences.copies.Given as goal

abbrev pub invariant-loop-item : goal.invariant-loop-item
invariant-loop-item l = l.copies ≡ values_view (take l.item-index l.items)
