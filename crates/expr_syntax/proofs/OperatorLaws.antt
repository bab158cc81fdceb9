-- What operators other than `format` want of their arguments.
use Rattle.std.proofs.Common.{◌≡◌, List, ℕ, refl}
use Rattle.expr_syntax.specs.declared.parts.FormatPiece.{FormatPiece}
use Rattle.expr_syntax.specs.declared.expression.Operator.{Operator}
use Rattle.expr_syntax.specs.declared.expression.Operator.TheVariants.{Format}
use Rattle.expr_syntax.specs.Names.{row}
use Rattle.expr_syntax.specs.Rows.{wanted}
use Rattle.expr_syntax.specs.Operators.{operator_name, wanted_by}

pub wanted_by_row : (op : Operator) (m k : ℕ) → ((pieces : List FormatPiece) → op ≡ Format pieces → ⊥) → wanted (row (operator_name op)).wants m k ≡ wanted_by op m k
wanted_by_row (Format pieces) m k other = absurd (other pieces refl)
wanted_by_row _ m k other = refl
