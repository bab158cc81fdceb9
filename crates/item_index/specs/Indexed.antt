-- What the index of items says.
use Rattle.std.specs.declared.alloc.Global.{Global}
use Rattle.std.specs.Prelude.{◌≡◌, Box, Option, Some, None, List, [], Bool, true, false, is_some}
use Rattle.std.specs.BTreeSet.{contains}
use Rattle.std.specs.List.{list_any}
use Rattle.std.specs.Ordering.{int_cmp}
use Rattle.prop_values.specs.Data.{Data, null, boolean, number, text, color, list, map, items_of, pairs_of}
use Rattle.prop_values.specs.Equality.{at_key, equal}
use Rattle.prop_values.specs.View.{data_of}
use Rattle.prop_values.specs.ViewParts.{values_view}
use Rattle.prop_values.specs.declared.value.Value.{Value}
use Rattle.prop_values.specs.declared.value.Value.TheVariants.{List as ListOf}
use Rattle.item_index.specs.declared.index.ItemIndex.{ItemIndex}

abbrev pub flag_in : ItemIndex → Bool → Bool
flag_in index true = index.has_true
flag_in index false = index.has_false

abbrev pub other_in : ItemIndex → Data → Bool
other_in index d = list_any (equal d) (values_view index.others.items)

abbrev pub indexed : ItemIndex → Data → Bool
indexed index null = index.has_null
indexed index (boolean b) = flag_in index b
indexed index (number z) = contains int_cmp index.numbers z
indexed index (text s) = is_some (at_key s (pairs_of index.texts))
indexed index (color c) = other_in index (color c)
indexed index (list ds) = other_in index (list ds)
indexed index (map ps) = other_in index (map ps)

-- the items of a value that is a list
abbrev pub items_in : Value → List Data
items_in (ListOf ds) = ds
items_in _ = []

-- The index says of each data whether they are equal to one of the items. Few items have none.
abbrev pub IsItemIndex : Option (Box ItemIndex Global) → List Data → Type 0
IsItemIndex None ds = Unit {0}
IsItemIndex (Some boxed) ds = (d : Data) → indexed boxed.value d ≡ list_any (equal d) ds

-- The value is a list, and the index is that of its items.
pub record HasItemIndex (index : Option (Box ItemIndex Global)) (value : Value) : Type 0 where
  pub listed : data_of value ≡ list (items_of (items_in value))
  pub items : IsItemIndex index (items_in value)
