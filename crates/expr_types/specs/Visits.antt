-- The nodes of an expression in document order, each with its path, what it reads, and where it is.
use Rattle.std.specs.Prelude.{ℕ, ◌+◌, List, [], ◌∷◌, ◌++◌, nat_eq, if◌then◌else◌}
use Rattle.decimal_json.specs.declared.paths.PathPart.{PathPart}
use Rattle.expr_syntax.specs.declared.expression.Operator.{Operator}
use Rattle.expr_syntax.specs.declared.expression.Operator.TheVariants.{Coalesce, Step, Interpolate, Let}
use Rattle.expr_syntax.specs.declared.world_parts.Mentions.{Mentions}
use Rattle.expr_syntax.specs.Mentioned.{of_operator, count}
use Rattle.expr_syntax.specs.Rows.{is_last}
use Rattle.expr_syntax.specs.Term.{Term, literal, node, Terms, no_terms, term}
use Rattle.expr_types.specs.ArgumentPaths.{argument_path}
use Rattle.expr_types.specs.declared.standing.Standing.{Standing}
use Rattle.expr_types.specs.declared.standing.Standing.TheVariants.{Reached, Input, Elsewhere}

pub record Visit : Type 0 where
  pub reads : Mentions
  pub standing : Standing
  pub path : List PathPart

-- The root is reached, and from a node that is reached the results of `let` and the arguments of `coalesce`
-- are; the input of a `step` or `interpolate` that is reached has the place of its input.
abbrev pub below_reached : Operator → ℕ → ℕ → Standing
below_reached Coalesce m k = Reached
below_reached (Let names) m k = if is_last m k then Reached else Elsewhere
below_reached (Step inputs) m k = if nat_eq k 0 then Input else Elsewhere
below_reached (Interpolate r) m k = if nat_eq k 0 then Input else Elsewhere
below_reached op m k = Elsewhere

abbrev pub standing_of : Standing → Operator → ℕ → ℕ → Standing
standing_of Reached op m k = below_reached op m k
standing_of standing op m k = Elsewhere

-- what is at a place
abbrev pub Visiting : Type 0
Visiting = Standing → List PathPart → List Visit

abbrev pub all_visits : Operator → ℕ → ℕ → List Visiting → Standing → List PathPart → List Visit
all_visits op m k [] standing path = []
all_visits op m k (visiting ∷ visitings) standing path =
    visiting (standing_of standing op m k) (argument_path op m k path)
    ++ all_visits op m (k + 1) visitings standing path

abbrev pub node_visits : Operator → ℕ → List Visiting → Visiting
node_visits op m visitings standing path =
    record { reads = of_operator op m; standing = standing; path = path } ∷ all_visits op m 0 visitings standing path

abbrev mutual
  pub visits : Term → Visiting
  visits (literal d) = λ standing path. []
  visits (node op ts) = λ standing path. node_visits op (count ts) (visitings ts) standing path

  pub visitings : Terms → List Visiting
  visitings no_terms = []
  visitings (term t ts) = visits t ∷ visitings ts
