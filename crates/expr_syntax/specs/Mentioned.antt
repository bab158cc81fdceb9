-- What a term reads of the world. The code is in the crate `dependency_sets`.
use Rattle.std.specs.Prelude.{ℕ, ◌+◌, true, false, ◌||◌, nat_le, if◌then◌else◌}
use Rattle.expr_syntax.specs.declared.expression.Operator.{Operator}
use Rattle.expr_syntax.specs.declared.rows.Reads.{Reads}
use Rattle.expr_syntax.specs.declared.rows.Reads.TheVariants.{Nothing, Zoom, Feature, FeatureAlone, State, Images}
use Rattle.expr_syntax.specs.declared.world_parts.Mentions.{Mentions}
use Rattle.expr_syntax.specs.Names.{row}
use Rattle.expr_syntax.specs.Operators.{operator_name}
use Rattle.expr_syntax.specs.Term.{Term, literal, node, Terms, no_terms, term}

abbrev pub nothing : Mentions
nothing = record { zoom = false; feature = false; state = false; image = false }

abbrev pub either : Mentions → Mentions → Mentions
either m n = record { zoom = m.zoom || n.zoom; feature = m.feature || n.feature; state = m.state || n.state; image = m.image || n.image }

-- what is read where there are so many arguments
abbrev pub reads_of : Reads → ℕ → Mentions
reads_of Nothing arguments = nothing
reads_of Zoom arguments = record nothing { zoom = true }
reads_of Feature arguments = record nothing { feature = true }
reads_of FeatureAlone arguments = if nat_le arguments 1 then record nothing { feature = true } else nothing
reads_of State arguments = record nothing { state = true }
reads_of Images arguments = record nothing { image = true }

-- What an operator itself reads, by its row. Source: own.
abbrev pub of_operator : Operator → ℕ → Mentions
of_operator op arguments = reads_of (row (operator_name op)).reads arguments

abbrev pub count : Terms → ℕ
count no_terms = 0
count (term t ts) = count ts + 1

abbrev mutual
  pub mentions : Term → Mentions
  mentions (literal d) = nothing
  mentions (node op ts) = either (of_operator op (count ts)) (all_mentions ts)

  pub all_mentions : Terms → Mentions
  all_mentions no_terms = nothing
  all_mentions (term t ts) = either (mentions t) (all_mentions ts)
