-- The input of an `interpolate`.
use Rattle.std.specs.Prelude.{ℤ, List, Result, Err}
use Rattle.prop_values.specs.Data.{Data, number}
use Rattle.prop_values.specs.declared.fault.EvalFault.{EvalFault}
use Rattle.prop_values.specs.declared.fault.EvalFault.TheVariants.{WrongType}
use Rattle.prop_values.specs.declared.outcome.Curve.{Curve}
use Rattle.interpolate_fixed.specs.Warp.{warp_of}
use Rattle.operator_values.specs.Evaluated.{or_fault}

-- the number that a value is, as the curve moves it
abbrev pub moved_in : Curve → List ℤ → Data → Result ℤ EvalFault
moved_in curve inputs (number z) = or_fault (warp_of curve inputs z)
moved_in curve inputs _ = Err WrongType
