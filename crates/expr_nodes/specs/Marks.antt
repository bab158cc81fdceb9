-- When the tests of marked nodes can be left out.
use Rattle.std.specs.Prelude.{◌≡◌, ℕ, ◌+◌, List, ◌∷◌, [], length, take, drop, Bool}
use Rattle.prop_values.specs.declared.kinds.Want.{Want}
use Rattle.prop_values.specs.declared.kinds.Want.TheVariants as wants
use Rattle.expr_syntax.specs.Term.{Term, literal, node, Terms, no_terms, term}
use Rattle.expr_syntax.specs.TermSize.{nodes}
use Rattle.expr_syntax.specs.declared.expression.Operator.{Operator}
use Rattle.eval_face.specs.Bindings.{outcomes_of}
use Rattle.eval_face.specs.Meaning.{mean, means}
use Rattle.eval_face.specs.Names.{BoundOutcomes, bound}
use Rattle.eval_face.specs.Rules.{Rule, bindings, variable, rule_of}
use Rattle.eval_face.specs.World.{World}
use Rattle.expr_nodes.specs.Resolving.{count_of, argument_want, own_want}

-- what is asked of the arguments of a rule, and of those of a `let` of these names; a `var` has none
abbrev pub HoldsBy : Rule → Type 0 → (List (List ℕ) → Type 0) → Type 0
HoldsBy (bindings bs) arguments as_let = as_let bs
HoldsBy (variable name) arguments as_let = Unit {0}
HoldsBy _ arguments as_let = arguments

abbrev pub HoldsAt : List (List ℕ) → Type 0 → (List (List ℕ) → Type 0) → Type 0
HoldsAt [] body binding = body
HoldsAt (name ∷ later) body binding = binding later

-- Each marked node gives under its want what it gives where anything is wanted, in these names and this world. Own.
abbrev mutual
  pub MarksHold : Term → Want → List Bool → BoundOutcomes → World → Type 0
  MarksHold (literal d) = λ want marks names world. Unit {0}
  MarksHold (node op ts) = λ want marks names world.
      (mean (node op ts) want names world ≡ mean (node op ts) (own_want op marks want) names world)
      × HoldsBy (rule_of op)
      (ArgumentMarksHold ts op (count_of ts) 0 (own_want op marks want) (drop 1 marks) names world)
      (λ bs. LetMarksHold ts bs (own_want op marks want) (drop 1 marks) names
      (bound bs (outcomes_of (take (length bs) (means ts)) names world) ∷ names) world)

  -- the arguments from that of place k on, of m
  pub ArgumentMarksHold : Terms → Operator → ℕ → ℕ → Want → List Bool → BoundOutcomes → World → Type 0
  ArgumentMarksHold no_terms = λ op m k want marks names world. Unit {0}
  ArgumentMarksHold (term t ts) = λ op m k want marks names world.
      MarksHold t (argument_want op m k want) marks names world
      × ArgumentMarksHold ts op m (k + 1) want (drop (nodes t) marks) names world

  -- the bindings of these names, and the body in the names inside
  pub LetMarksHold : Terms → List (List ℕ) → Want → List Bool → BoundOutcomes → BoundOutcomes → World → Type 0
  LetMarksHold no_terms = λ bs want marks names inside world. Unit {0}
  LetMarksHold (term t ts) = λ bs want marks names inside world.
      HoldsAt bs (MarksHold t want marks inside world)
      (λ later. MarksHold t wants.Any marks names world
      × LetMarksHold ts later want (drop (nodes t) marks) names inside world)
