use Rattle.std.proofs.Common.{◌≡◌, ◌++◌, drop, flat_map}
use Rattle.lint_texts.specs.LineText.{property_byte}
use Rattle.lint_texts.proofs.writing.write_property.Given as goal

abbrev pub invariant-loop-byte : goal.invariant-loop-byte
invariant-loop-byte l = l.out.items ++ flat_map property_byte (drop l.byte-index l.text) ≡ l.fn.out.items ++ flat_map property_byte l.text
