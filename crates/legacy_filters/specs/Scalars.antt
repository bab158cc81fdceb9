-- The values that tests compare with. Source: own.
use Rattle.std.specs.Prelude.{List, Bool}
use Rattle.std.specs.List.{list_any}
use Rattle.prop_values.specs.Data.{Data, boolean, number, text}
use Rattle.prop_values.specs.Equality.{equal}
use Rattle.legacy_filters.specs.declared.scalars.Scalar.{Scalar}
use Rattle.legacy_filters.specs.declared.scalars.Scalar.TheVariants.{Flag, Number, Text}

abbrev pub scalar_data : Scalar → Data
scalar_data (Flag b) = boolean b
scalar_data (Number n z) = number z
scalar_data (Text s) = text s

abbrev pub is_equal : Scalar → Data → Bool
is_equal v d = equal d (scalar_data v)

-- equal to one
abbrev pub is_one_of : List Scalar → Data → Bool
is_one_of vs d = list_any (λ v. is_equal v d) vs
