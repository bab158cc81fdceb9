-- A fitted value stays: fitting it to the same want again leaves it as it is.
use Rattle.std.specs.Prelude.{◌≡◌, Ok}
use Rattle.prop_values.specs.Data.{Data}
use Rattle.prop_values.specs.declared.kinds.Want.{Want}
use Rattle.property_tables.specs.Fitting.{fit}

abbrev pub FittedValuesStay : Type 0
FittedValuesStay = (want : Want) (d e : Data) → fit want d ≡ Ok e → fit want e ≡ Ok e
