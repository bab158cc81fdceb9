use Rattle.std.proofs.Common.{◌≡◌, drop}
use Rattle.prop_values.specs.ViewParts.{items}
use Rattle.property_tables.specs.Fitting.{are_choices}
use Rattle.property_tables.proofs.fitting.are_choices.Given as goal

abbrev pub invariant-loop-value : goal.invariant-loop-value
invariant-loop-value l = are_choices l.choice (items (drop l.value-index l.values)) ≡ are_choices l.choice (items l.values)
