-- Each argument is smaller than its node: what the model of arguments owes.
use Rattle.std.specs.Prelude.{◌≤◌, List, [], ◌∷◌}
use Rattle.std.proofs.Common.{arith}
use denote.Param.Weighed.{most}
use Rattle.expr_syntax.specs.declared.expression.Expr.{Expr}
use Rattle.expr_syntax.specs.declared.expression.Expr.TheVariants.{Literal, Node}
use Rattle.expr_syntax.specs.declared.expression.Arguments.TheDeep.{deep-Expr}
use Rattle.expr_syntax.specs.TermSize.{nodes}
use Rattle.expr_syntax.specs.TermView.{term_of, terms_view, terms_size}

deep_le-nodes : (e : Expr) → deep-Expr e ≤ nodes (term_of e)
deep_le-nodes (Literal v) = omega arith
deep_le-nodes (Node op ts) = omega arith

pub arguments_fall : (es : List Expr) → most deep-Expr es ≤ terms_size (terms_view es)
arguments_fall [] = omega arith
arguments_fall (e ∷ es) = omega (arith, deep_le-nodes e, arguments_fall es)
