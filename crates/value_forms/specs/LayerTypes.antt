-- The types of the layers of a document, and the places of their properties. Source: own.
use Rattle.std.specs.Prelude.{ℕ, List, codes, Bool, true, false, Option, Some, None, if◌then◌else◌}
use Rattle.std.specs.Option.{option_and_then}
use Rattle.std.specs.Str.{bytes_eq}
use Rattle.decimal_json.specs.Accessors.{has, member, text_in}
use Rattle.decimal_json.specs.Tree.{Tree}
use Rattle.property_tables.specs.LayerTypes.{type_named}
use Rattle.property_tables.specs.declared.layer_type.LayerType.{LayerType}
use Rattle.property_tables.specs.declared.layer_type.LayerType.TheVariants.{Background, Hillshade, ColorRelief}
use Rattle.property_tables.specs.declared.property_row.Place.{Place}
use Rattle.property_tables.specs.declared.property_row.Place.TheVariants.{Layout, Paint}

-- the type of a layer that a tree names
abbrev pub type_in : Tree → Option LayerType
type_in t = option_and_then type_named (text_in t)

-- the type of a layer where its type is well formed and it has no `ref`
abbrev pub layer_type : Tree → Option LayerType
layer_type layer = if has (codes "ref") layer then None else option_and_then type_in (member (codes "type") layer)

abbrev pub is_background : LayerType → Bool
is_background Background = true
is_background _ = false

-- the types whose `layout` and `paint` pass unread
abbrev pub is_unread_type : LayerType → Bool
is_unread_type Hillshade = true
is_unread_type ColorRelief = true
is_unread_type _ = false

-- the type of a layer whose layout and paint are tested
abbrev pub tested_type : Option LayerType → Option LayerType
tested_type (Some type) = if is_unread_type type then None else Some type
tested_type None = None

-- the place of the properties at a key of a layer
abbrev pub place_named : List ℕ → Option Place
place_named key =
    if bytes_eq key (codes "layout") then Some Layout else
    if bytes_eq key (codes "paint") then Some Paint else
    None
