-- Slices of expressions, to the meaning.
use Rattle.std.specs.Prelude.{List}
use Rattle.expr_syntax.specs.TermView.{terms}
use Rattle.expr_syntax.specs.declared.expression.Expr.{Expr}
use Rattle.eval_face.specs.Meanings.{Meaning}
use Rattle.eval_face.specs.Meaning.{means}

-- the meanings of a slice of expressions, in order
abbrev pub meanings : List Expr → List Meaning
meanings es = means (terms es)
