use Rattle.std.proofs.Common.{◌≡◌, take}
use Rattle.std.specs.List.{list_all}
use Rattle.json_tokens.specs.TextToken.{is_unescaped}
use Rattle.decimal_json.proofs.plain.are_unescaped.Given as goal

abbrev pub invariant-loop-byte : goal.invariant-loop-byte
invariant-loop-byte l = l.plain ≡ list_all is_unescaped (take l.byte-index l.block)
