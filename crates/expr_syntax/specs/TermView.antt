-- An expression of the program and its term.
use Rattle.std.specs.Prelude.{ℕ, List, map}
use Rattle.prop_values.specs.View.{data_of}
use Rattle.expr_syntax.specs.Term.{Term, literal, node, Terms, terms_of}
use Rattle.expr_syntax.specs.TermSize.{terms_nodes}
use Rattle.expr_syntax.specs.declared.expression.Expr.{Expr}
use Rattle.expr_syntax.specs.declared.expression.Expr.TheVariants.{Literal, Node}

abbrev pub term_of : Expr → Term
term_of (Literal v) = literal (data_of v)
term_of (Node op ts) = node op (terms_of ts)

abbrev pub terms_view : List Expr → List Term
terms_view = map term_of

abbrev pub terms_size : List Term → ℕ
terms_size ts = terms_nodes (terms_of ts)

-- a slice of expressions as the arguments of a term
abbrev pub terms : List Expr → Terms
terms es = terms_of (terms_view es)

-- how many nodes some arguments have
abbrev pub weight : List Expr → ℕ
weight es = terms_nodes (terms_of (terms_view es))
