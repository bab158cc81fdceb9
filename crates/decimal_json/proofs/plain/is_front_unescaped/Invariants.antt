use Rattle.std.proofs.Common.{◌≡◌, take}
use Rattle.std.specs.List.{list_all}
use Rattle.json_tokens.specs.TextToken.{is_unescaped}
use Rattle.decimal_json.proofs.plain.is_front_unescaped.Given as goal

abbrev pub invariant-loop-index : goal.invariant-loop-index
invariant-loop-index l = l.plain ≡ list_all is_unescaped (take l.index (take l.fn.count l.block))
