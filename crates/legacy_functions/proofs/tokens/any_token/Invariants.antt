use Rattle.std.proofs.Common.{◌≡◌, drop}
use Rattle.legacy_functions.specs.TokenSize.{any_token}
use Rattle.legacy_functions.proofs.tokens.any_token.Given as goal

abbrev pub invariant-loop-i : goal.invariant-loop-i
invariant-loop-i l = any_token (drop l.i l.bytes) ≡ any_token l.bytes
