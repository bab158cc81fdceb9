use Rattle.std.proofs.Common.{◌≡◌, take}
use Rattle.std.specs.Prelude.{map}
use Rattle.legacy_filters.specs.ToExpression.{scalar_tree}
use Rattle.legacy_filters.proofs.expression.scalar_items.Given as goal

abbrev pub invariant-loop-scalar : goal.invariant-loop-scalar
invariant-loop-scalar l = l.items ≡ map scalar_tree (take l.scalar-index l.scalars)
