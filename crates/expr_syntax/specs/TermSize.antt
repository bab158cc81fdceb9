-- How many nodes a term has, literals counted.
use Rattle.std.specs.Prelude.{ℕ, ◌+◌}
use Rattle.expr_syntax.specs.Term.{Term, Terms, literal, no_terms, node, term}

-- How many nodes a term has, literals counted.
abbrev mutual
  pub nodes : Term → ℕ
  nodes (literal d) = 1
  nodes (node op ts) = 1 + terms_nodes ts

  pub terms_nodes : Terms → ℕ
  terms_nodes no_terms = 0
  terms_nodes (term t ts) = nodes t + terms_nodes ts
