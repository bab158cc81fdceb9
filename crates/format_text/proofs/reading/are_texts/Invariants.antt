use Rattle.std.proofs.Common.{◌≡◌, drop}
use Rattle.prop_values.specs.ViewParts.{items}
use Rattle.format_text.specs.SectionLists.{are_texts}
use Rattle.format_text.proofs.reading.are_texts.Given as goal

abbrev pub invariant-loop-value : goal.invariant-loop-value
invariant-loop-value l = are_texts (items (drop l.value-index l.values)) ≡ are_texts (items l.values)
