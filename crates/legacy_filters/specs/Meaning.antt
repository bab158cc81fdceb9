-- Which features pass a legacy filter, by cases on the filter itself. Source: own.
use Rattle.std.specs.Prelude.{ℕ, ◌*◌, pos, List, [], ◌∷◌, Bool, true, false, not, Option, Some, None, is_some}
use Rattle.std.specs.Prelude.{option_map}
use Rattle.std.specs.List.{list_all, list_any}
use Rattle.std.specs.declared.cmp.Ordering.{Ordering}
use Rattle.std.specs.declared.cmp.Ordering.TheVariants.{Less, Equal as Same, Greater}
use Rattle.prop_values.specs.Data.{Data, number, text, pairs_of}
use Rattle.prop_values.specs.Equality.{at_key}
use Rattle.prop_values.specs.Forms.{order_of}
use Rattle.tile_reader.specs.ShapeName.{shape_name}
use Rattle.tile_reader.specs.declared.tile.Feature.{Feature}
use Rattle.legacy_filters.specs.declared.filter.Group.{Group}
use Rattle.legacy_filters.specs.declared.filter.Group.TheVariants as groups
use Rattle.legacy_filters.specs.declared.filter.Key.{Key}
use Rattle.legacy_filters.specs.declared.filter.Key.TheVariants as keys
use Rattle.legacy_filters.specs.declared.filter.Order.{Order}
use Rattle.legacy_filters.specs.declared.filter.Order.TheVariants.{Below, AtMost, Above, AtLeast}
use Rattle.legacy_filters.specs.declared.scalars.Scalar.{Scalar}
use Rattle.legacy_filters.specs.declared.filter.Test.{Test}
use Rattle.legacy_filters.specs.declared.filter.Test.TheVariants.{Has, HasNot, Equal, NotEqual, Ordered, Among}
use Rattle.legacy_filters.specs.declared.filter.Test.TheVariants.{NotAmong}
use Rattle.legacy_filters.specs.Filter.{Filter, flag, test, group, Filters, no_filters, filter}
use Rattle.legacy_filters.specs.Scalars.{scalar_data, is_equal, is_one_of}

-- an id as a number, in millionths
abbrev pub id_number : ℕ → Data
id_number id = number (pos (id * 1000000))

-- The value of a key: the shape for `$type`, the id for `$id`, else the property. It may be missing.
abbrev pub value_at : Key → Feature → Option Data
value_at keys.Shape feature = Some (text (shape_name feature.shape))
value_at keys.Id feature = option_map id_number feature.id
value_at (keys.Property name) feature = at_key name (pairs_of feature.properties)

-- there, and so
abbrev pub is_there_and : (Data → Bool) → Option Data → Bool
is_there_and is_so (Some d) = is_so d
is_there_and is_so None = false

abbrev pub takes : Order → Ordering → Bool
takes Below Less = true
takes Below Same = false
takes Below Greater = false
takes AtMost Less = true
takes AtMost Same = true
takes AtMost Greater = false
takes Above Less = false
takes Above Same = false
takes Above Greater = true
takes AtLeast Less = false
takes AtLeast Same = true
takes AtLeast Greater = true

-- both numbers or both texts, and so ordered
abbrev pub takes_order : Order → Option Ordering → Bool
takes_order order (Some o) = takes order o
takes_order order None = false

abbrev pub is_ordered : Order → Scalar → Data → Bool
is_ordered order v d = takes_order order (order_of d (scalar_data v))

-- what a test says of the value of its key
abbrev pub holds : Test → Option Data → Bool
holds Has found = is_some found
holds HasNot found = not (is_some found)
holds (Equal v) found = is_there_and (is_equal v) found
holds (NotEqual v) found = not (is_there_and (is_equal v) found)
holds (Ordered order v) found = is_there_and (is_ordered order v) found
holds (Among vs) found = is_there_and (is_one_of vs) found
holds (NotAmong vs) found = not (is_there_and (is_one_of vs) found)

-- what a group says by what its parts say
abbrev pub decides : Group → List Bool → Bool
decides groups.All bs = list_all (λ b. b) bs
decides groups.Any bs = list_any (λ b. b) bs
decides groups.None bs = not (list_any (λ b. b) bs)

abbrev mutual
  pub passes : Filter → Feature → Bool
  passes (flag b) = λ feature. b
  passes (test key t) = λ feature. holds t (value_at key feature)
  passes (group g fs) = λ feature. decides g (each_passes fs feature)

  pub each_passes : Filters → Feature → List Bool
  each_passes no_filters = λ feature. []
  each_passes (filter f fs) = λ feature. passes f feature ∷ each_passes fs feature
