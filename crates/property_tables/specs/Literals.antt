-- Which JSON values a property may have as literals, and their values. Source: own.
use Rattle.std.specs.Prelude.{ℤ, int_le, Bool, true, false, ◌&&◌, Option, Some, None, Result, Ok, Err, if◌then◌else◌}
use Rattle.fixed_num.specs.declared.decimal.NumFault.{NumFault}
use Rattle.decimal_json.specs.Tree.{Tree}
use Rattle.prop_values.specs.Data.{Data, number, text, list, Items, no_items, item}
use Rattle.prop_values.specs.JsonData.{json_data}
use Rattle.prop_values.specs.declared.kinds.Want.{Want}
use Rattle.prop_values.specs.declared.kinds.Want.TheVariants as wants
use Rattle.property_tables.specs.Defaults.{fitted}
use Rattle.property_tables.specs.Fitting.{fit}
use Rattle.property_tables.specs.Rows.{RowData, Limits}

abbrev pub is_text : Data → Bool
is_text (text s) = true
is_text _ = false

-- The form that a literal has beside fitting: a shown or image property takes a text alone.
abbrev pub has_form : Want → Data → Bool
has_form wants.Shown d = is_text d
has_form wants.Image d = is_text d
has_form _ d = true

-- the number is not below the least, where there is one
abbrev pub is_at_least : Option ℤ → ℤ → Bool
is_at_least None z = true
is_at_least (Some least) z = int_le least z

-- the number is not above the most, where there is one
abbrev pub is_at_most : Option ℤ → ℤ → Bool
is_at_most None z = true
is_at_most (Some most) z = int_le z most

abbrev pub is_within : Limits → ℤ → Bool
is_within l z = is_at_least l.least z && is_at_most l.most z

-- limits bind numbers
abbrev pub item_within : Limits → Data → Bool
item_within l (number z) = is_within l z
item_within l _ = true

abbrev pub items_within : Limits → Items → Bool
items_within l no_items = true
items_within l (item d ds) = item_within l d && items_within l ds

-- and each item of a list
abbrev pub keeps_limits : Limits → Data → Bool
keeps_limits l (list ds) = items_within l ds
keeps_limits l d = item_within l d

-- The value of a literal of a row, or none where the row does not take it. Null fits no row.
abbrev pub literal_data : RowData → Data → Option Data
literal_data r d = if has_form r.want d && keeps_limits r.limits d then fitted (fit r.want d) else None

-- a number past the bound is no literal
abbrev pub literal_read : RowData → Result Data NumFault → Option Data
literal_read r (Ok d) = literal_data r d
literal_read r (Err fault) = None

abbrev pub literal_of : Tree → RowData → Option Data
literal_of json r = literal_read r (json_data json)
