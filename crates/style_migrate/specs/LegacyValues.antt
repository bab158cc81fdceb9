-- The values of properties that may be legacy forms, whatever the property.
use Rattle.std.specs.Prelude.{Bool, true, false}
use Rattle.decimal_json.specs.Tree.{Tree, text, object}
use Rattle.legacy_functions.specs.Tokens.{has_tokens}

abbrev pub may_be_legacy : Tree → Bool
may_be_legacy (object fs) = true
may_be_legacy (text s) = has_tokens s
may_be_legacy _ = false
