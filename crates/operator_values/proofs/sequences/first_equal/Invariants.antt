use Rattle.std.proofs.Common.{◌≡◌, ◌+◌, drop}
use Rattle.std.specs.Option.{option_map}
use Rattle.prop_values.specs.View.{data_of}
use Rattle.prop_values.specs.ViewParts.{values_view}
use Rattle.operator_values.specs.Sequences.{first_equal}
use Rattle.operator_values.proofs.sequences.first_equal.Given as goal

abbrev pub invariant-loop-place : goal.invariant-loop-place
invariant-loop-place l = option_map (λ n. l.place + n) (first_equal (data_of l.needle) (values_view (drop l.place l.items))) ≡ first_equal (data_of l.needle) (values_view l.items)
