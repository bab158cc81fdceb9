use Rattle.std.proofs.Common.{◌≡◌, ◌+◌, drop}
use Rattle.legacy_functions.specs.TokenSize.{plain_size}
use Rattle.legacy_functions.proofs.tokens.plain_length.Given as goal

abbrev pub invariant-loop-i : goal.invariant-loop-i
invariant-loop-i l = l.i + plain_size (drop l.i l.bytes) ≡ plain_size l.bytes
