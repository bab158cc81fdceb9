use Rattle.std.proofs.Common.{◌≡◌, take}
use Rattle.prop_values.specs.ViewParts.{values_view}
use Rattle.prop_values.proofs.copying.copy_values.Given as goal

abbrev pub invariant-loop-value : goal.invariant-loop-value
invariant-loop-value l = values_view l.copies.items ≡ values_view (take l.value-index l.values)
