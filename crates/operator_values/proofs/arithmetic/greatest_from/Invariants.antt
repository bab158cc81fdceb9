use Rattle.std.proofs.Common.{◌≡◌, drop}
use Rattle.std.specs.Int.{int_max}
use Rattle.prop_values.specs.ViewParts.{values_view}
use Rattle.operator_values.specs.Arithmetic.{chosen}
use Rattle.operator_values.proofs.arithmetic.greatest_from.Given as goal

abbrev pub invariant-loop-value : goal.invariant-loop-value
invariant-loop-value l = chosen int_max l.greatest (values_view (drop l.value-index l.rest)) ≡ chosen int_max l.fn.first (values_view l.rest)
