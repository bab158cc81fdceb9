use Rattle.std.proofs.Common.{◌≡◌, ◌+◌, ◌≤◌, drop}
use Rattle.generated_runs.specs.Counted.{line_count}
use Rattle.generated_runs.proofs.counting.line_count.Given as goal

abbrev pub invariant-loop-byte : goal.invariant-loop-byte
invariant-loop-byte l = (l.count ≤ l.byte-index) × (l.count + line_count (drop l.byte-index l.text) ≡ line_count l.text)
