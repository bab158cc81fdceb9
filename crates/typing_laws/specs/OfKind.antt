-- When a value is of a kind. Source: MapLibre style specification, version 8, types of expressions, as this
-- project takes them.
use Rattle.std.specs.Prelude.{◌≡◌, Bool, true, false, ◌&&◌}
use Rattle.prop_values.specs.Data.{Data, null, boolean, number, text, color, list, map}
use Rattle.prop_values.specs.declared.kinds.Kind.{Kind}
use Rattle.prop_values.specs.declared.kinds.Kind.TheVariants as kinds
use Rattle.property_tables.specs.Fitting.{are_items, has_count}

-- A value is of a kind by its form. One of kind Image is the name of an image, or null where there is none. A
-- list has items of the form that is known, and so many of them where the number is known.
abbrev pub is_of : Kind → Data → Bool
is_of kinds.Any d = true
is_of kinds.Boolean (boolean b) = true
is_of kinds.Number (number z) = true
is_of kinds.Text (text s) = true
is_of kinds.Color (color c) = true
is_of kinds.Object (map ps) = true
is_of kinds.Image (text s) = true
is_of kinds.Image null = true
is_of (kinds.List i n) (list ds) = has_count n ds && are_items i ds
is_of _ _ = false

abbrev pub IsOfKind : Kind → Data → Type 0
IsOfKind k d = is_of k d ≡ true
