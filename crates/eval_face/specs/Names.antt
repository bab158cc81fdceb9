-- The names that are bound around an expression, and what they represent.
use Rattle.std.specs.Prelude.{ℕ, List, [], ◌∷◌, Option, Some, None, Err, if◌then◌else◌}
use Rattle.prop_values.specs.Equality.{same_text}
use Rattle.prop_values.specs.declared.fault.EvalFault.TheVariants.{WrongType}
use Rattle.operator_values.specs.Evaluated.{Evaluated}

-- a list for each `let`, the innermost first
abbrev pub BoundOutcomes : Type 0
BoundOutcomes = List (List (List ℕ × Evaluated))

-- names, each with the outcome of its binding
abbrev pub bound : List (List ℕ) → List Evaluated → List (List ℕ × Evaluated)
bound [] outcomes = []
bound (name ∷ names) [] = []
bound (name ∷ names) (outcome ∷ outcomes) = (name, outcome) ∷ bound names outcomes

-- a name of the rest counts before one of its own
abbrev pub or_own : Option Evaluated → List ℕ → Evaluated → List ℕ → Option Evaluated
or_own (Some outcome) name own asked = Some outcome
or_own None name own asked = if same_text name asked then Some own else None

-- of a repeated name the last holds
abbrev pub last_named : List (List ℕ × Evaluated) → List ℕ → Option Evaluated
last_named [] asked = None
last_named (b ∷ bs) asked = or_own (last_named bs asked) b.0 b.1 asked

abbrev pub or_outer : Option Evaluated → Evaluated → Evaluated
or_outer (Some outcome) outer = outcome
or_outer None outer = outer

-- What a name represents: in the innermost `let` that has it. An expression that was read asks for no other
-- name.
abbrev pub named : BoundOutcomes → List ℕ → Evaluated
named [] asked = Err WrongType
named (bs ∷ outer) asked = or_outer (last_named bs asked) (named outer asked)
