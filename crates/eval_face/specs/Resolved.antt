-- What is listed for a property, and which features a filter lets pass.
use Rattle.std.specs.Prelude.{Bool, false, Option, option_map, Ok, Err}
use Rattle.prop_values.specs.Data.{Data, boolean}
use Rattle.prop_values.specs.View.{value_of}
use Rattle.prop_values.specs.declared.outcome.Outcome.{Outcome}
use Rattle.prop_values.specs.declared.outcome.Outcome.TheVariants.{Given, Faulted}
use Rattle.operator_values.specs.Evaluated.{Evaluated}

-- A property is its value. After a fault it is its default, or nothing where it has none, with the fault. Source: own.
abbrev pub resolved : Option Data → Evaluated → Outcome
resolved default (Ok d) = Given (value_of d)
resolved default (Err fault) = Faulted (option_map value_of default) fault

-- A filter lets pass what it is true of; its fault is false. Own.
abbrev pub passes : Evaluated → Bool
passes (Ok (boolean b)) = b
passes _ = false
