-- What decides between outputs.
use Rattle.std.specs.Prelude.{ℤ, Bool, Result, Ok, Err}
use Rattle.prop_values.specs.Data.{Data, boolean, number}
use Rattle.prop_values.specs.declared.fault.EvalFault.{EvalFault}
use Rattle.prop_values.specs.declared.fault.EvalFault.TheVariants.{WrongType}

-- the truth value or the number that a value is
abbrev pub condition_in : Data → Result Bool EvalFault
condition_in (boolean b) = Ok b
condition_in _ = Err WrongType

abbrev pub number_in : Data → Result ℤ EvalFault
number_in (number z) = Ok z
number_in _ = Err WrongType
