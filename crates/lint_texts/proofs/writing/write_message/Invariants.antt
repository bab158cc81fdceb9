use Rattle.std.proofs.Common.{◌≡◌, ◌++◌, drop, flat_map}
use Rattle.lint_texts.specs.LineText.{message_byte}
use Rattle.lint_texts.proofs.writing.write_message.Given as goal

abbrev pub invariant-loop-byte : goal.invariant-loop-byte
invariant-loop-byte l = l.out.items ++ flat_map message_byte (drop l.byte-index l.text) ≡ l.fn.out.items ++ flat_map message_byte l.text
