use Rattle.std.proofs.Common.{◌≡◌, drop}
use Rattle.fixed_num.specs.Number.{sum}
use Rattle.prop_values.specs.ViewParts.{values_view}
use Rattle.operator_values.specs.Arithmetic.{folded, sum_of}
use Rattle.operator_values.proofs.arithmetic.sum.Given as goal

abbrev pub invariant-loop-value : goal.invariant-loop-value
invariant-loop-value l = folded sum l.sum (values_view (drop l.value-index l.values)) ≡ sum_of (values_view l.values)
