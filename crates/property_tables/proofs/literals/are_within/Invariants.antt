use Rattle.std.proofs.Common.{◌≡◌, drop}
use Rattle.prop_values.specs.ViewParts.{items}
use Rattle.property_tables.specs.Literals.{items_within}
use Rattle.property_tables.specs.RowView.{limits_seen}
use Rattle.property_tables.proofs.literals.are_within.Given as goal

abbrev pub invariant-loop-value : goal.invariant-loop-value
invariant-loop-value l = items_within (limits_seen l.row) (items (drop l.value-index l.values)) ≡ items_within (limits_seen l.row) (items l.values)
