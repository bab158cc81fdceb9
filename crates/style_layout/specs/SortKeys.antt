-- The number that orders a feature in its layer. Source: own.
use Rattle.std.specs.Prelude.{ℤ, Option, Some, None}
use Rattle.prop_values.specs.Data.{Data, number}
use Rattle.prop_values.specs.View.{data_of}
use Rattle.prop_values.specs.declared.outcome.Outcome.{Outcome}
use Rattle.prop_values.specs.declared.outcome.Outcome.TheVariants.{Given, Faulted, Outside}

abbrev pub number_of : Data → Option ℤ
number_of (number z) = Some z
number_of _ = None

-- in millionths; none where the evaluation of the key faulted
abbrev pub key_of : Outcome → Option ℤ
key_of (Given v) = number_of (data_of v)
key_of (Faulted v fault) = None
key_of Outside = None
