-- Laws. The statements are to be believed; their proofs are in proofs/.
use Rattle.std.specs.Prelude.{◌≡◌, false, Ok}
use Rattle.decimal_json.specs.Tree.{Tree}
use Rattle.legacy_filters.specs.Split.{is_legacy}
use Rattle.legacy_filters.specs.Filter.{Filter}
use Rattle.legacy_filters.specs.Form.{reading}
use Rattle.legacy_filters.specs.ToExpression.{expression}

-- The expression of a filter that was read is no legacy filter, so that it is not rewritten again.
abbrev pub NoExpressionIsLegacy : Type 0
NoExpressionIsLegacy = (t : Tree) (f : Filter) → reading t ≡ Ok f → is_legacy (expression f) ≡ false
