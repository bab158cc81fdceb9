use Rattle.std.proofs.Common.{◌≡◌, ◌++◌, drop}
use Rattle.std.specs.Prelude.{string_bytes}
use Rattle.format_text.specs.SectionLists.{plain_text}
use Rattle.format_text.proofs.contents.plain.Given as goal

abbrev pub invariant-loop-section : goal.invariant-loop-section
invariant-loop-section l = string_bytes l.joined ++ plain_text (drop l.section-index l.section-items) ≡ plain_text l.sections
