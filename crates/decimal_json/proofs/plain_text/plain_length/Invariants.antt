use Rattle.std.proofs.Common.{length}
use Rattle.decimal_json.proofs.PlainRuns.{Passed}
use Rattle.decimal_json.proofs.plain_text.plain_length.Given as goal

abbrev pub invariant-loop-byte : goal.invariant-loop-byte
invariant-loop-byte l = Passed l.all l.ahead

abbrev pub decreases-loop-byte : goal.decreases-loop-byte
decreases-loop-byte l = length l.ahead
