use Rattle.std.proofs.Common.{◌≡◌, ◌++◌, drop}
use Rattle.format_text.specs.SectionLists.{sections_values}
use Rattle.format_text.proofs.reading.values_of.Given as goal

abbrev pub invariant-loop-section : goal.invariant-loop-section
invariant-loop-section l = l.values ++ sections_values (drop l.section-index l.sections) ≡ sections_values l.sections
