use Rattle.std.proofs.Common.{length}
use Rattle.decimal_json.proofs.Whole.{Reads}
use Rattle.decimal_json.proofs.text_token.read_escaped.Given as goal

abbrev pub invariant-loop-byte : goal.invariant-loop-byte
invariant-loop-byte l = Reads l.fn.cursor l.cursor l.text.items l.due

abbrev pub decreases-loop-byte : goal.decreases-loop-byte
decreases-loop-byte l = length l.cursor
