use Rattle.std.proofs.Common.{◌≡◌, ◌+◌, drop, length}
use Rattle.legacy_functions.specs.Tokens.{before_brace}
use Rattle.legacy_functions.proofs.tokens.name_length.Given as goal

abbrev pub invariant-loop-i : goal.invariant-loop-i
invariant-loop-i l = l.i + length (before_brace (drop l.i l.bytes)) ≡ length (before_brace l.bytes)
