-- What a layer of a document is for its layout: how it is shown, its properties, its source and its filter.
use Rattle.std.specs.Prelude.{ℕ, ℤ, int_lt, int_le, List, [], ◌∷◌, flat_map, filter, codes, Bool, true, false, not}
use Rattle.std.specs.Prelude.{◌||◌, ◌&&◌, Option, Some, None, option_map, if◌then◌else◌}
use Rattle.std.specs.Str.{bytes_eq}
use Rattle.std.specs.Option.{option_and_then}
use Rattle.decimal_json.specs.Tree.{Tree, Trees, no_trees, tree}
use Rattle.decimal_json.specs.Accessors.{member, text_at}
use Rattle.prop_values.specs.Data.{Data}
use Rattle.property_tables.specs.Rows.{RowData, rows_of}
use Rattle.property_tables.specs.declared.layer_type.LayerType.{LayerType}
use Rattle.property_tables.specs.declared.layer_type.LayerType.TheVariants.{Background, Fill, Line, Symbol, Circle}
use Rattle.property_tables.specs.declared.layer_type.LayerType.TheVariants.{Raster, Hillshade, ColorRelief}
use Rattle.property_tables.specs.declared.property_row.Place.{Place}
use Rattle.property_tables.specs.declared.property_row.Place.TheVariants.{Layout, Paint}
use Rattle.style_parts.specs.Parts.{is_among, layers_of}
use Rattle.style_parts.specs.Numbers.{number_in}
use Rattle.value_forms.specs.LayerTypes.{is_unread_type, layer_type}
use Rattle.listing_text.specs.declared.show.Show.{Show}
use Rattle.listing_text.specs.declared.show.Show.TheVariants.{Plain, Hidden, Unread, OutsideFilter}
use Rattle.style_layout.specs.Forms.{Property, property_of, LayerFilter, layer_filter, is_outside}

-- ---- how a layer is shown

abbrev pub place_key : Place → List ℕ
place_key Layout = codes "layout"
place_key Paint = codes "paint"

-- the property that says whether a layer is shown
abbrev pub visibility : List ℕ
visibility = codes "visibility"

-- the value of a name in `layout` or `paint`
abbrev pub set_value : Tree → Place → List ℕ → Option Tree
set_value layer place name = option_and_then (member name) (member (place_key place) layer)

-- `visibility` is the text `none`, also of a type whose properties are not read
abbrev pub is_invisible : Tree → Bool
is_invisible layer = is_among (codes "none" ∷ []) (option_and_then (text_at visibility) (member (codes "layout") layer))

-- a zoom is below the least of a layer
abbrev pub is_below_min : ℤ → Option ℤ → Bool
is_below_min zoom (Some min) = int_lt zoom min
is_below_min zoom None = false

-- a zoom is the first at which a layer is hidden again, or above it
abbrev pub is_max_or_above : ℤ → Option ℤ → Bool
is_max_or_above zoom (Some max) = int_le max zoom
is_max_or_above zoom None = false

abbrev pub limit_at : List ℕ → Tree → Option ℤ
limit_at key layer = option_and_then number_in (member key layer)

-- the types that show features of tiles
abbrev pub has_features : LayerType → Bool
has_features Background = false
has_features Raster = false
has_features Hillshade = false
has_features ColorRelief = false
has_features _ = true

-- ---- the properties that are set, in the order of the table

abbrev pub is_visibility : RowData → Bool
is_visibility row = bytes_eq row.name visibility

abbrev pub property_if : RowData → List (List ℕ × Data) → Option Tree → List Property
property_if row globals (Some t) = property_of row globals t ∷ []
property_if row globals None = []

abbrev pub set_property : List (List ℕ × Data) → Tree → RowData → List Property
set_property globals layer row =
    if is_visibility row then [] else property_if row globals (set_value layer row.place row.name)

abbrev pub properties_of : List (List ℕ × Data) → LayerType → Tree → List Property
properties_of globals type layer = flat_map (set_property globals layer) (rows_of type)

abbrev pub layer_properties : List Property → List Property
layer_properties ps = filter (λ (p : Property). not p.is_per_feature) ps

abbrev pub feature_properties : List Property → List Property
feature_properties ps = filter (λ (p : Property). p.is_per_feature) ps

-- ---- the order of features

-- the row by which features of a type are ordered
abbrev pub sort_row : LayerType → Option (List ℕ)
sort_row Fill = Some (codes "fill-sort-key")
sort_row Line = Some (codes "line-sort-key")
sort_row Symbol = Some (codes "symbol-sort-key")
sort_row Circle = Some (codes "circle-sort-key")
sort_row _ = None

abbrev pub property_named : List ℕ → List Property → Option Property
property_named name [] = None
property_named name (p ∷ ps) = if bytes_eq p.row.name name then Some p else property_named name ps

abbrev pub sort_property : LayerType → List Property → Option Property
sort_property type ps = option_and_then (λ name. property_named name ps) (sort_row type)

-- ---- a layer as its layout reads it

pub record StyleLayer : Type 0 where
  pub id : List ℕ
  pub type : LayerType
  -- empty where there is none
  pub source : List ℕ
  pub source_layer : List ℕ
  pub is_invisible : Bool
  -- in millionths
  pub min_zoom : Option ℤ
  pub max_zoom : Option ℤ
  pub filter : LayerFilter
  -- in the order of the table
  pub properties : List Property

abbrev pub text_or_empty : Option (List ℕ) → List ℕ
text_or_empty (Some s) = s
text_or_empty None = []

abbrev pub text_of : List ℕ → Tree → List ℕ
text_of key layer = text_or_empty (text_at key layer)

abbrev pub typed_layer : List (List ℕ × Data) → Tree → LayerType → StyleLayer
typed_layer globals layer type = record {
  id = text_of (codes "id") layer;
  type = type;
  source = text_of (codes "source") layer;
  source_layer = text_of (codes "source-layer") layer;
  is_invisible = is_invisible layer;
  min_zoom = limit_at (codes "minzoom") layer;
  max_zoom = limit_at (codes "maxzoom") layer;
  filter = layer_filter globals (member (codes "filter") layer);
  properties = properties_of globals type layer;
}

-- a layer of a document without findings has a type
abbrev pub layer_of : List (List ℕ × Data) → Tree → Option StyleLayer
layer_of globals layer = option_map (typed_layer globals layer) (layer_type layer)

abbrev pub with_layer : Option StyleLayer → List StyleLayer → List StyleLayer
with_layer (Some layer) layers = layer ∷ layers
with_layer None layers = layers

abbrev pub layers_in : List (List ℕ × Data) → Trees → List StyleLayer
layers_in globals no_trees = []
layers_in globals (tree layer layers) = with_layer (layer_of globals layer) (layers_in globals layers)

-- the layers of a document, by the values of the global state
abbrev pub style_layers : List (List ℕ × Data) → Tree → List StyleLayer
style_layers globals document = layers_in globals (layers_of document)

-- ---- how a layer is shown at a zoom

abbrev pub is_hidden : ℤ → StyleLayer → Bool
is_hidden zoom layer = layer.is_invisible || (is_below_min zoom layer.min_zoom || is_max_or_above zoom layer.max_zoom)

abbrev pub shown_plainly : LayerType → Bool → Show
shown_plainly type outside = if has_features type && outside then OutsideFilter else Plain

abbrev pub show_of : ℤ → StyleLayer → Show
show_of zoom layer =
    if is_hidden zoom layer then Hidden else
    if is_unread_type layer.type then Unread else
    shown_plainly layer.type (is_outside layer.filter)
