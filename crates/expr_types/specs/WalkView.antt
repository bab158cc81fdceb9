-- What a walk over an expression allows, by its row.
use Rattle.std.specs.Prelude.{option_map}
use Rattle.property_tables.specs.RowView.{row_seen}
use Rattle.expr_types.specs.Allowed.{Allowed, allowed_by}
use Rattle.expr_types.specs.declared.visiting.ExpressionWalk.{ExpressionWalk}

abbrev pub allowed_in : ExpressionWalk → Allowed
allowed_in walk = allowed_by (option_map (λ r. row_seen r.now) walk.row)
