-- What an expression means under a want, in the names around it and in a world. Source: MapLibre style
-- specification, version 8, expressions, over numbers as whole millionths.
use Rattle.std.specs.Prelude.{List, [], ◌∷◌, length}
use Rattle.property_tables.specs.Fitting.{fit}
use Rattle.expr_syntax.specs.declared.expression.Operator.{Operator}
use Rattle.expr_syntax.specs.Term.{Term, literal, node, Terms, no_terms, term}
use Rattle.operator_values.specs.Evaluated.{then_value}
use Rattle.eval_face.specs.Bindings.{let_of, var_of}
use Rattle.eval_face.specs.Branches.{case_of, match_of, step_of, ramp_of}
use Rattle.eval_face.specs.Decisions.{first_of}
use Rattle.eval_face.specs.Meanings.{Meaning, then_values, values_of}
use Rattle.eval_face.specs.Rules.{Rule, each, deciding, cases, labels, stops, ramp, bindings, variable, rule_of}

-- a node, by the meanings of its arguments
abbrev pub meaning_by : Rule → Operator → List Meaning → Meaning
meaning_by (each apply) op ms want names world =
    then_values (values_of op (length ms) 0 ms want names world) (λ ds. then_value (apply world ds) (fit want))
meaning_by (deciding decides none) op ms want names world =
    then_value (first_of decides none op (length ms) 0 ms want names world) (fit want)
meaning_by cases op ms want names world = case_of ms want names world
meaning_by (labels ls) op ms want names world = match_of ls ms want names world
meaning_by (stops inputs) op ms want names world = step_of inputs ms want names world
meaning_by (ramp curve inputs) op ms want names world = ramp_of curve inputs ms want names world
meaning_by (bindings bs) op ms want names world = let_of bs ms want names world
meaning_by (variable name) op ms want names world = var_of name want names world

abbrev pub node_meaning : Operator → List Meaning → Meaning
node_meaning op ms = meaning_by (rule_of op) op ms

-- A literal is fitted to the want.
abbrev mutual
  pub mean : Term → Meaning
  mean (literal d) = λ want names world. fit want d
  mean (node op ts) = λ want names world. node_meaning op (means ts) want names world

  pub means : Terms → List Meaning
  means no_terms = []
  means (term t ts) = mean t ∷ means ts
