-- Whether a legacy filter asks for the feature. Source: own.
use Rattle.std.specs.Prelude.{Bool, true, false, ◌||◌}
use Rattle.legacy_filters.specs.declared.filter.Key.{Key}
use Rattle.legacy_filters.specs.declared.filter.Key.TheVariants.{Shape, Id, Property}
use Rattle.legacy_filters.specs.declared.filter.Test.{Test}
use Rattle.legacy_filters.specs.declared.filter.Test.TheVariants.{Has, HasNot, Equal, NotEqual, Ordered, Among}
use Rattle.legacy_filters.specs.declared.filter.Test.TheVariants.{NotAmong}
use Rattle.legacy_filters.specs.declared.scalars.Scalar.{Scalar}
use Rattle.legacy_filters.specs.declared.scalars.Scalar.TheVariants.{Flag, Number, Text}
use Rattle.legacy_filters.specs.Filter.{Filter, flag, test, group, Filters, no_filters, filter}

-- each feature has a shape
abbrev pub may_be_missing : Key → Bool
may_be_missing Shape = false
may_be_missing Id = true
may_be_missing (Property name) = true

-- an order with a number or a text; nothing is ordered with a boolean
abbrev pub is_order_of : Scalar → Bool
is_order_of (Flag b) = false
is_order_of (Number n z) = true
is_order_of (Text s) = true

abbrev pub test_asks_feature : Key → Test → Bool
test_asks_feature key Has = may_be_missing key
test_asks_feature key HasNot = may_be_missing key
test_asks_feature key (Equal v) = true
test_asks_feature key (NotEqual v) = true
test_asks_feature key (Ordered order v) = is_order_of v
test_asks_feature key (Among vs) = true
test_asks_feature key (NotAmong vs) = true

-- A filter that has no such test lets all features pass or none.
abbrev mutual
  pub asks_feature : Filter → Bool
  asks_feature (flag b) = false
  asks_feature (test key t) = test_asks_feature key t
  asks_feature (group g fs) = some_asks_feature fs

  pub some_asks_feature : Filters → Bool
  some_asks_feature no_filters = false
  some_asks_feature (filter f fs) = asks_feature f || some_asks_feature fs
