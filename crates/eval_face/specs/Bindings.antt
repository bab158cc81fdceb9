-- `let` and `var`: a binding does not see the other names of its own `let`, and a fault of one counts only
-- where its name is asked for. Source: MapLibre style specification, version 8, expressions.
use Rattle.std.specs.Prelude.{ℕ, List, [], ◌∷◌, length, take, drop, Err}
use Rattle.prop_values.specs.declared.fault.EvalFault.TheVariants.{WrongType}
use Rattle.prop_values.specs.declared.kinds.Want.TheVariants as wants
use Rattle.property_tables.specs.Fitting.{fit}
use Rattle.operator_values.specs.Evaluated.{Evaluated, then_value}
use Rattle.eval_face.specs.Meanings.{Meaning}
use Rattle.eval_face.specs.Names.{BoundOutcomes, bound, named}
use Rattle.eval_face.specs.World.{World}

-- what bindings give, as they are
abbrev pub outcomes_of : List Meaning → BoundOutcomes → World → List Evaluated
outcomes_of [] names world = []
outcomes_of (meaning ∷ meanings) names world = meaning wants.Any names world ∷ outcomes_of meanings names world

abbrev pub body_of : List Meaning → Meaning
body_of (body ∷ []) want names world = body want names world
body_of _ want names world = Err WrongType

-- `let`: the body, in the names of the bindings
abbrev pub let_of : List (List ℕ) → List Meaning → Meaning
let_of bs meanings want names world =
    body_of (drop (length bs) meanings) want
    (bound bs (outcomes_of (take (length bs) meanings) names world) ∷ names) world

-- `var`: what its binding gives, fitted
abbrev pub var_of : List ℕ → Meaning
var_of name want names world = then_value (named names name) (fit want)
