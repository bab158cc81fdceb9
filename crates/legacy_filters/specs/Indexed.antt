-- What the index of values says.
use Rattle.std.specs.Prelude.{◌≡◌, List, Bool, true, false, is_some}
use Rattle.std.specs.BTreeSet.{contains}
use Rattle.std.specs.Ordering.{int_cmp}
use Rattle.prop_values.specs.Data.{Data, boolean, number, text, pairs_of}
use Rattle.prop_values.specs.Equality.{at_key}
use Rattle.legacy_filters.specs.declared.scalars.Scalar.{Scalar}
use Rattle.legacy_filters.specs.declared.scalars.ScalarIndex.{ScalarIndex}
use Rattle.legacy_filters.specs.Scalars.{is_one_of}

abbrev pub flag_in : ScalarIndex → Bool → Bool
flag_in index true = index.has_true
flag_in index false = index.has_false

-- a value that is no boolean, number or text is never there
abbrev pub indexed : ScalarIndex → Data → Bool
indexed index (boolean b) = flag_in index b
indexed index (number z) = contains int_cmp index.numbers z
indexed index (text s) = is_some (at_key s (pairs_of index.texts))
indexed index _ = false

-- The index says of each value whether it is in the list.
abbrev pub IsIndexed : ScalarIndex → List Scalar → Type 0
IsIndexed index scalars = (d : Data) → indexed index d ≡ is_one_of scalars d
