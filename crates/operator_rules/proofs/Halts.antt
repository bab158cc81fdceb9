-- A halt of a part is one of the whole.
use Rattle.std.proofs.Common.{Err, ap}
use Rattle.prop_values.specs.Data.{Data}
use Rattle.halts.specs.declared.halt.Halt.{Halt}
use Rattle.prop_values.specs.declared.fault.EvalFault.{EvalFault}
use Rattle.halts.specs.declared.halt.Halt.TheVariants.{Fault, NoMemory}
use Rattle.operator_values.specs.Evaluated.{Evaluated, GivesValue, then_value}

pub then_halted : (h : Halt EvalFault) (a : Evaluated) (go : Data → Evaluated) → GivesValue (Err h) a → GivesValue (Err h) (then_value a go)
then_halted (Fault f) a go g = ap (λ x. then_value x go) g
then_halted NoMemory a go g = tt
