use Rattle.std.proofs.Common.{◌≡◌, drop}
use Rattle.std.specs.Prelude.{◌||◌}
use Rattle.prop_values.specs.Data.{Data}
use Rattle.legacy_filters.specs.Indexed.{indexed}
use Rattle.legacy_filters.specs.Scalars.{is_one_of}
use Rattle.legacy_filters.proofs.scalars.index_of.Given as goal

abbrev pub invariant-loop-scalar : goal.invariant-loop-scalar
invariant-loop-scalar l = (d : Data) → (indexed l.index d || is_one_of (drop l.scalar-index l.scalars) d) ≡ is_one_of l.scalars d
