-- What an expression is to a contract: a literal, or an operator over terms.
use Rattle.std.specs.Prelude.{List, [], ◌∷◌}
use Rattle.prop_values.specs.Data.{Data}
use Rattle.expr_syntax.specs.declared.expression.Operator.{Operator}

mutual
  pub data Term : Type 0 where
    literal : Data → Term
    node : Operator → Terms → Term

  -- the arguments of a node, in order
  pub data Terms : Type 0 where
    no_terms : Terms
    term : Term → Terms → Terms

abbrev pub terms_of : List Term → Terms
terms_of [] = no_terms
terms_of (t ∷ ts) = term t (terms_of ts)
