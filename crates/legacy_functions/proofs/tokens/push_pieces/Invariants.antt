use Rattle.std.proofs.Common.{◌≡◌, ◌++◌, length}
use Rattle.std.specs.Prelude.{map}
use denote.Shadow.{shadow}
use denote.Text.{Utf8}
use Rattle.shared_text.specs.Ranges.{IsRest}
use Rattle.legacy_functions.specs.Tokens.{pieces, piece_expression}
use Rattle.legacy_functions.proofs.tokens.push_pieces.Given as goal

abbrev pub invariant-loop-rest : goal.invariant-loop-rest
invariant-loop-rest l =
    (l.items ++ map piece_expression (pieces l.rest) ≡ l.fn.items ++ map piece_expression (pieces l.text))
    × IsRest l.rest l.document
    × shadow (Utf8 l.rest)

abbrev pub decreases-loop-rest : goal.decreases-loop-rest
decreases-loop-rest l = length l.rest
