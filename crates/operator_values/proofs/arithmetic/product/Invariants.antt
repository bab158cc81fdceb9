use Rattle.std.proofs.Common.{◌≡◌, drop}
use Rattle.fixed_num.specs.Number.{product}
use Rattle.prop_values.specs.ViewParts.{values_view}
use Rattle.operator_values.specs.Arithmetic.{folded, product_of}
use Rattle.operator_values.proofs.arithmetic.product.Given as goal

abbrev pub invariant-loop-value : goal.invariant-loop-value
invariant-loop-value l = folded product l.product (values_view (drop l.value-index l.values)) ≡ product_of (values_view l.values)
