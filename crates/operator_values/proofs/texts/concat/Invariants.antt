use Rattle.std.proofs.Common.{◌≡◌, ◌++◌, drop}
use Rattle.std.specs.Prelude.{string_bytes}
use Rattle.prop_values.specs.ViewParts.{values_view}
use Rattle.operator_values.specs.Texts.{joined}
use Rattle.operator_values.proofs.texts.concat.Given as goal

abbrev pub invariant-loop-value : goal.invariant-loop-value
invariant-loop-value l = string_bytes l.texts ++ joined (values_view (drop l.value-index l.values)) ≡ joined (values_view l.values)
