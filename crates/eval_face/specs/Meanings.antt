-- Meanings of expressions, and of the arguments of an operator.
use Rattle.std.specs.Prelude.{ℕ, ◌+◌, List, [], ◌∷◌, Bool, true, false, nat_eq, Option, Some, None, Result, Ok, Err}
use Rattle.prop_values.specs.Data.{Data, text, list}
use Rattle.prop_values.specs.declared.fault.EvalFault.{EvalFault}
use Rattle.prop_values.specs.declared.fault.EvalFault.TheVariants.{WrongType}
use Rattle.prop_values.specs.declared.kinds.Want.{Want}
use Rattle.expr_syntax.specs.declared.expression.Operator.{Operator}
use Rattle.expr_syntax.specs.Names.{row}
use Rattle.expr_syntax.specs.Operators.{operator_name, wanted_by, want_of}
use Rattle.operator_values.specs.Evaluated.{Evaluated, then_value}
use Rattle.eval_face.specs.Names.{BoundOutcomes}
use Rattle.eval_face.specs.World.{World}

-- what an expression gives where a value of some form is wanted
abbrev pub Meaning : Type 0
Meaning = Want → BoundOutcomes → World → Evaluated

-- an argument that has to be a text or a list is looked at at once
abbrev pub as_sequence : Data → Evaluated
as_sequence (text s) = Ok (text s)
as_sequence (list ds) = Ok (list ds)
as_sequence _ = Err WrongType

abbrev pub is_sequence : Option ℕ → ℕ → Bool
is_sequence (Some place) k = nat_eq place k
is_sequence None k = false

abbrev pub looked_at : Bool → Evaluated → Evaluated
looked_at true outcome = then_value outcome as_sequence
looked_at false outcome = outcome

-- the argument k of m arguments, under the want that its operator's row gives it
abbrev pub argument_of : Operator → ℕ → ℕ → Meaning → Meaning
argument_of op m k meaning want names world =
    looked_at (is_sequence (row (operator_name op)).sequence k) (meaning (want_of (wanted_by op m k) want) names world)

-- goes on with the values, unless there is a fault
abbrev pub then_values : Result (List Data) EvalFault → (List Data → Evaluated) → Evaluated
then_values (Ok ds) go = go ds
then_values (Err fault) go = Err fault

-- a value before others: the first fault is the fault of all
abbrev pub and_values : Evaluated → Result (List Data) EvalFault → Result (List Data) EvalFault
and_values (Ok d) (Ok ds) = Ok (d ∷ ds)
and_values (Ok d) (Err fault) = Err fault
and_values (Err fault) later = Err fault

-- the arguments from left to right, from that of place k on; the first fault is the answer
abbrev pub values_of : Operator → ℕ → ℕ → List Meaning → Want → BoundOutcomes → World → Result (List Data) EvalFault
values_of op m k [] want names world = Ok []
values_of op m k (meaning ∷ meanings) want names world =
    and_values (argument_of op m k meaning want names world) (values_of op m (k + 1) meanings want names world)
