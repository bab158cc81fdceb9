-- The kinds of literals. Source: MapLibre style specification, version 8, types of expressions, as this
-- project takes them.
use Rattle.std.specs.Prelude.{ℕ, Bool, true, false, nat_lt, Option, Some, None, Result, Ok, Err, if◌then◌else◌}
use Rattle.prop_values.specs.Data.{Data, null, boolean, number, text, color, list, map, Items, no_items, item}
use Rattle.prop_values.specs.declared.fault.EvalFault.{EvalFault}
use Rattle.prop_values.specs.declared.kinds.Item.{Item}
use Rattle.prop_values.specs.declared.kinds.Item.TheVariants as items
use Rattle.prop_values.specs.declared.kinds.Kind.{Kind}
use Rattle.prop_values.specs.declared.kinds.Kind.TheVariants as kinds
use Rattle.prop_values.specs.declared.kinds.Want.{Want}
use Rattle.prop_values.specs.declared.kinds.Want.TheVariants as wants
use Rattle.property_tables.specs.Fitting.{fit, item_count}

-- a value that fits
abbrev pub is_value : Result Data EvalFault → Bool
is_value (Ok d) = true
is_value (Err fault) = false

-- whether all items of a list are of a form
abbrev pub are_all : Item → Items → Bool
are_all i ds = is_value (fit (wants.List i None) (list ds))

-- what all the items of a list are, where there are items
abbrev pub some_item : Items → Item
some_item ds =
    if are_all items.Boolean ds then items.Boolean
    else if are_all items.Number ds then items.Number
    else if are_all items.Text ds then items.Text
    else items.Any

abbrev pub item_of : Items → Item
item_of no_items = items.Any
item_of (item d ds) = some_item (item d ds)

-- a number of items, where it is below 2^32
abbrev pub count_of : ℕ → Option ℕ
count_of n = if nat_lt n 4294967296 then Some n else None

-- A literal has the kind of its value; null may be wanted as anything.
abbrev pub literal_kind : Data → Kind
literal_kind null = kinds.Any
literal_kind (boolean b) = kinds.Boolean
literal_kind (number z) = kinds.Number
literal_kind (text s) = kinds.Text
literal_kind (color c) = kinds.Color
literal_kind (list ds) = kinds.List (item_of ds) (count_of (item_count ds))
literal_kind (map ps) = kinds.Object

-- A literal whose kind says no more than that it may fit, and which fits: the text of a color, a text of a
-- set, a list of such texts.
abbrev pub surely_fits : Want → Data → Bool
surely_fits wants.Color (text s) = is_value (fit wants.Color (text s))
surely_fits (wants.Enum c) (text s) = is_value (fit (wants.Enum c) (text s))
surely_fits (wants.EnumList c) (list ds) = is_value (fit (wants.EnumList c) (list ds))
surely_fits want d = false
