-- What an evaluation gives: a value, or the fault that is in its place.
use Rattle.std.specs.Prelude.{◌≡◌, List, Result, Ok, Err}
use Rattle.fixed_num.specs.declared.fixed.Arith.{Arith}
use Rattle.prop_values.specs.Data.{Data}
use Rattle.prop_values.specs.Faults.{fault_of}
use Rattle.prop_values.specs.View.{data_of}
use Rattle.prop_values.specs.declared.fault.EvalFault.{EvalFault}
use Rattle.prop_values.specs.declared.value.Value.{Value}
use Rattle.halts.specs.declared.halt.Halt.{Halt}
use Rattle.halts.specs.declared.halt.Halt.TheVariants.{Fault, NoMemory}

abbrev pub Evaluated : Type 0
Evaluated = Result Data EvalFault

-- What the program gives is what is meant, unless allocation fails.
abbrev pub GivesValue : Result Value (Halt EvalFault) → Evaluated → Type 0
GivesValue (Ok v) meant = meant ≡ Ok (data_of v)
GivesValue (Err (Fault fault)) meant = meant ≡ Err fault
GivesValue (Err NoMemory) meant = Unit {0}

-- goes on with the value, unless there is a fault
abbrev pub then_value : Evaluated → (Data → Evaluated) → Evaluated
then_value (Ok d) go = go d
then_value (Err fault) go = Err fault

-- what an operation gives, with its fault as one of an evaluation
abbrev pub or_fault : {A : Type 0} → Result A Arith → Result A EvalFault
or_fault (Ok z) = Ok z
or_fault (Err fault) = Err (fault_of fault)
