-- The stack of the values of arguments whose node is not evaluated yet.
use Rattle.std.specs.Prelude.{◌≡◌, List, length, take, drop, Result, Ok, Err}
use Rattle.prop_values.specs.Data.{Data}
use Rattle.prop_values.specs.ViewParts.{values_view}
use Rattle.prop_values.specs.declared.fault.EvalFault.{EvalFault}
use Rattle.prop_values.specs.declared.value.Value.{Value}
use Rattle.halts.specs.declared.halt.Halt.{Halt}
use Rattle.halts.specs.declared.halt.Halt.TheVariants.{Fault, NoMemory}

-- A stack is still there below what was added to it.
abbrev pub IsBelow : List Value → List Value → Type 0
IsBelow old new = take (length old) new ≡ old

-- what was added
abbrev pub added : List Value → List Value → List Data
added old new = values_view (drop (length old) new)

-- values that were to be evaluated have the fault with which the evaluation ended, unless an allocation failed
abbrev pub EndsAll : Halt EvalFault → Result (List Data) EvalFault → Type 0
EndsAll (Fault fault) meant = meant ≡ Err fault
EndsAll NoMemory meant = Unit {0}

-- values that were evaluated are those that are meant
abbrev pub GivesAll : {A : Type 0} → Result A (Halt EvalFault) → List Data → Result (List Data) EvalFault → Type 0
GivesAll (Ok done) ds meant = meant ≡ Ok ds
GivesAll (Err halt) ds meant = EndsAll halt meant
