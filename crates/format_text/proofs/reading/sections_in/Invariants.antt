use Rattle.std.proofs.Common.{◌≡◌, drop}
use Rattle.prop_values.specs.ViewParts.{items}
use Rattle.format_text.specs.Reading.{sections_in, after}
use Rattle.format_text.proofs.reading.sections_in.Given as goal

abbrev pub invariant-loop-value : goal.invariant-loop-value
invariant-loop-value l = after l.sections (sections_in (items (drop l.value-index l.values))) ≡ sections_in (items l.values)
