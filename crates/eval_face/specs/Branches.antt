-- Operators that choose an output. What decides is evaluated, and then the output that it chooses alone,
-- under the want of the node. Source: MapLibre style specification, version 8, expressions.
use Rattle.std.specs.Prelude.{ℕ, ◌+◌, ◌-◌, ℤ, List, [], ◌∷◌, length, true, false, Option, Some, None, Ok, Err}
use Rattle.std.specs.List.{slice_get}
use Rattle.prop_values.specs.Data.{boolean, number}
use Rattle.prop_values.specs.declared.fault.EvalFault.TheVariants.{WrongType}
use Rattle.prop_values.specs.declared.kinds.Want.{Want}
use Rattle.prop_values.specs.declared.kinds.Want.TheVariants as wants
use Rattle.prop_values.specs.declared.outcome.Curve.{Curve}
use Rattle.interpolate_fixed.specs.Places.{input_at, place_of, count_not_above}
use Rattle.interpolate_fixed.specs.Warp.{warp_of}
use Rattle.interpolate_fixed.specs.declared.place.StopPlace.{StopPlace}
use Rattle.interpolate_fixed.specs.declared.place.StopPlace.TheVariants.{First, Last, Between}
use Rattle.property_tables.specs.Fitting.{fit}
use Rattle.expr_syntax.specs.declared.parts.Labelled.{Labelled}
use Rattle.expr_syntax.specs.Chosen.{output_of}
use Rattle.expr_syntax.specs.Operators.{ramp_want}
use Rattle.operator_values.specs.Arithmetic.{then_number}
use Rattle.operator_values.specs.Evaluated.{Evaluated, then_value}
use Rattle.operator_values.specs.Ramps.{between_of}
use Rattle.eval_face.specs.Meanings.{Meaning}
use Rattle.eval_face.specs.Names.{BoundOutcomes}
use Rattle.eval_face.specs.World.{World}

-- ---- `case`: the output after the first condition that is true, else the last

abbrev pub branch : Evaluated → Evaluated → Evaluated → Evaluated
branch (Ok (boolean true)) output later = output
branch (Ok (boolean false)) output later = later
branch (Ok _) output later = Err WrongType
branch (Err fault) output later = Err fault

abbrev pub case_of : List Meaning → Meaning
case_of [] want names world = Err WrongType
case_of (output ∷ []) want names world = output want names world
case_of (condition ∷ output ∷ meanings) want names world =
    branch (condition wants.Boolean names world) (output want names world) (case_of meanings want names world)

-- ---- an output by its number

abbrev pub the_output : Option Meaning → Meaning
the_output (Some output) want names world = output want names world
the_output None want names world = Err WrongType

abbrev pub output_at : List Meaning → ℕ → Meaning
output_at outputs k = the_output (slice_get outputs k)

-- ---- `match`: the output of the label that is equal to the input, else the last

abbrev pub match_of : List Labelled → List Meaning → Meaning
match_of labels [] want names world = Err WrongType
match_of labels (input ∷ outputs) want names world =
    then_value (input wants.Any names world)
    (λ d. output_at outputs (output_of labels d (length outputs - 1)) want names world)

-- ---- `step`: the output of the greatest input that is not above the value, else the first; it has no input

abbrev pub with_number : Evaluated → (ℤ → Evaluated) → Evaluated
with_number (Ok (number z)) go = go z
with_number (Ok _) go = Err WrongType
with_number (Err fault) go = Err fault

abbrev pub step_of : List ℤ → List Meaning → Meaning
step_of inputs [] want names world = Err WrongType
step_of inputs (value ∷ outputs) want names world =
    with_number (value wants.Number names world) (λ x. output_at outputs (count_not_above x inputs) want names world)

-- ---- `interpolate`: its curve moves the value between its neighbours. At or below the first input and at or
-- above the last it is one
-- output, and else what is between two; under Shown the outputs are taken as they are.

abbrev pub between_values : ℤ → ℤ → ℤ → Evaluated → Evaluated → Evaluated
between_values x x0 x1 (Ok d) (Ok e) = between_of x x0 d x1 e
between_values x x0 x1 (Ok d) (Err fault) = Err fault
between_values x x0 x1 (Err fault) later = Err fault

abbrev pub ramp_at : List ℤ → List Meaning → ℤ → StopPlace → Want → BoundOutcomes → World → Evaluated
ramp_at inputs outputs x First want names world = output_at outputs 0 want names world
ramp_at inputs outputs x Last want names world = output_at outputs (length inputs - 1) want names world
ramp_at inputs outputs x (Between i) want names world =
    between_values x (input_at inputs i) (input_at inputs (i + 1)) (output_at outputs i want names world)
    (output_at outputs (i + 1) want names world)

abbrev pub ramp_of : Curve → List ℤ → List Meaning → Meaning
ramp_of curve inputs [] want names world = Err WrongType
ramp_of curve inputs (value ∷ outputs) want names world =
    with_number (value wants.Number names world) (λ v. then_number (warp_of curve inputs v) (λ x.
    then_value (ramp_at inputs outputs x (place_of inputs x) (ramp_want want) names world) (fit want)))
