use Rattle.std.proofs.Common.{◌≡◌, drop}
use Rattle.decimal_json.specs.View.{trees}
use Rattle.legacy_filters.specs.Form.{scalars_form}
use Rattle.legacy_filters.proofs.PartLists.{after_scalars}
use Rattle.legacy_filters.proofs.reading.read_scalars.Given as goal

abbrev pub invariant-loop-element : goal.invariant-loop-element
invariant-loop-element l = after_scalars l.scalars.items (scalars_form l.key (trees (drop l.element-index l.elements))) ≡ scalars_form l.key (trees l.elements)
