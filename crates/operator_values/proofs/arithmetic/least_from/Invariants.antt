use Rattle.std.proofs.Common.{◌≡◌, drop}
use Rattle.std.specs.Int.{int_min}
use Rattle.prop_values.specs.ViewParts.{values_view}
use Rattle.operator_values.specs.Arithmetic.{chosen}
use Rattle.operator_values.proofs.arithmetic.least_from.Given as goal

abbrev pub invariant-loop-value : goal.invariant-loop-value
invariant-loop-value l = chosen int_min l.least (values_view (drop l.value-index l.rest)) ≡ chosen int_min l.fn.first (values_view l.rest)
