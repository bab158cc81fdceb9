-- The places of the arguments of operators other than `array` and `format`.
use Rattle.std.proofs.Common.{◌≡◌, List, ℕ, refl}
use Rattle.std.specs.Prelude.{Option}
use Rattle.prop_values.specs.declared.kinds.Item.{Item}
use Rattle.expr_syntax.specs.declared.parts.FormatPiece.{FormatPiece}
use Rattle.expr_syntax.specs.declared.expression.Operator.{Operator}
use Rattle.expr_syntax.specs.declared.expression.Operator.TheVariants.{Array, Format}
use Rattle.expr_syntax.specs.Names.{row}
use Rattle.expr_syntax.specs.Operators.{operator_name}
use Rattle.expr_types.specs.ArgumentPaths.{element_of, element_at}

pub element_by_row : (op : Operator) (m k : ℕ) → ((i : Option Item) (n : Option ℕ) → op ≡ Array i n → ⊥) → ((pieces : List FormatPiece) → op ≡ Format pieces → ⊥) → element_of (row (operator_name op)).layout m k ≡ element_at op m k
element_by_row (Array i n) m k array format = absurd (array i n refl)
element_by_row (Format pieces) m k array format = absurd (format pieces refl)
element_by_row _ m k array format = refl
