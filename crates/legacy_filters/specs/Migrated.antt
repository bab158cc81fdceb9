-- A filter after it was migrated. Source: own.
use Rattle.std.specs.Prelude.{Ok, Err, if◌then◌else◌}
use Rattle.decimal_json.specs.Tree.{Tree}
use Rattle.legacy_filters.specs.Form.{FilterRead, reading}
use Rattle.legacy_filters.specs.Split.{is_legacy}
use Rattle.legacy_filters.specs.ToExpression.{expression}

abbrev pub expression_or_itself : FilterRead → Tree → Tree
expression_or_itself (Ok f) t = expression f
expression_or_itself (Err fault) t = t

-- The expression of a legacy filter. A filter that is an expression stays, and so does one that is
-- ill-formed.
abbrev pub migrated_filter : Tree → Tree
migrated_filter t = if is_legacy t then expression_or_itself (reading t) t else t
