-- The listing of a layout, line by line. Source: own.
use Rattle.std.specs.Prelude.{ℕ, ℤ, List, [], ◌∷◌, ◌++◌, flat_map, codes, decimal, Option, Some, None}
use Rattle.fixed_num.specs.NumberText.{number_text}
use Rattle.decimal_json.specs.JsonText.{text_json}
use Rattle.prop_values.specs.Faults.{fault_name}
use Rattle.prop_values.specs.ValueText.{listed_text}
use Rattle.prop_values.specs.View.{data_of}
use Rattle.prop_values.specs.declared.value.Value.{Value}
use Rattle.prop_values.specs.declared.outcome.Outcome.{Outcome}
use Rattle.prop_values.specs.declared.outcome.Outcome.TheVariants.{Given, Faulted, Outside}
use Rattle.property_tables.specs.LayerTypes.{type_name}
use Rattle.property_tables.specs.declared.layer_type.LayerType.{LayerType}
use Rattle.tile_reader.specs.ShapeName.{shape_name}
use Rattle.tile_reader.specs.declared.tile.Shape.{Shape}
use Rattle.listing_text.specs.Layout.{ListedValue, FeatureOut, LayerOut, Layout}
use Rattle.listing_text.specs.declared.show.Show.{Show}
use Rattle.listing_text.specs.declared.show.Show.TheVariants.{Plain, Hidden, Unread, OutsideFilter}

-- A line: its parts one after the other, ended by one LF, which is 10.
abbrev pub line : List (List ℕ) → List ℕ
line [] = 10 ∷ []
line (part ∷ parts) = part ++ line parts

-- The first line: the zoom.
abbrev pub zoom_line : ℤ → List ℕ
zoom_line zoom = line (codes "zoom " ∷ number_text zoom ∷ [])

-- The last line.
abbrev pub end_line : List ℕ
end_line = line (codes "end" ∷ [])

-- How a layer is shown, after its type. A plain layer has no mark.
abbrev pub show_mark : Show → List ℕ
show_mark Plain = []
show_mark Hidden = codes " hidden"
show_mark Unread = codes " unread"
show_mark OutsideFilter = codes " ?"

-- The line of a layer: its id as a JSON string, its type, and how it is shown.
abbrev pub layer_line : List ℕ → LayerType → Show → List ℕ
layer_line id type show = line (codes "layer " ∷ text_json id ∷ codes " " ∷ type_name type ∷ show_mark show ∷ [])

-- The text for a value that faulted: the default of the property, and null where it has none.
abbrev pub stand_in_text : Option Value → List ℕ
stand_in_text None = codes "null"
stand_in_text (Some v) = listed_text (data_of v)

-- What a property is listed as: its value, the text for a fault with the name of the fault after `!`, or `?`
-- where it is outside of what is evaluated.
abbrev pub outcome_text : Outcome → List ℕ
outcome_text (Given v) = listed_text (data_of v)
outcome_text (Faulted v fault) = stand_in_text v ++ (codes "!" ++ fault_name fault)
outcome_text Outside = codes "?"

-- The line of a property after a margin.
abbrev pub value_line : (margin name : List ℕ) → Outcome → List ℕ
value_line margin name outcome = line (margin ∷ name ∷ codes " " ∷ outcome_text outcome ∷ [])

-- The lines of properties, in their order.
abbrev pub value_lines : List ℕ → List ListedValue → List ℕ
value_lines margin = flat_map (λ (v : ListedValue). value_line margin v.name v.outcome)

-- The margins of the properties of a layer, and of those of a feature.
abbrev pub layer_margin : List ℕ
layer_margin = codes "  "

abbrev pub feature_margin : List ℕ
feature_margin = codes "    "

-- The id of a feature, where it has one.
abbrev pub id_text : Option ℕ → List ℕ
id_text None = []
id_text (Some id) = codes " id " ++ decimal id

-- The line of a feature: its place in the layer of the tile, its shape and its id.
abbrev pub feature_line : ℕ → Shape → Option ℕ → List ℕ
feature_line number shape id =
    line (codes "  feature " ∷ decimal number ∷ codes " " ∷ shape_name shape ∷ id_text id ∷ [])

-- A feature and its properties.
abbrev pub feature_lines : FeatureOut → List ℕ
feature_lines f = feature_line f.number f.shape f.id ++ value_lines feature_margin f.values

-- What is below the line of a layer: the properties of the layer and its features. A hidden or unread layer
-- has neither, and where the filter is outside no features are listed.
abbrev pub below_layer : Show → List ListedValue → List FeatureOut → List ℕ
below_layer Plain values features = value_lines layer_margin values ++ flat_map feature_lines features
below_layer Hidden values features = []
below_layer Unread values features = []
below_layer OutsideFilter values features = value_lines layer_margin values

-- A layer and what is below it.
abbrev pub layer_lines : LayerOut → List ℕ
layer_lines layer =
    layer_line layer.id layer.layer_type layer.show ++ below_layer layer.show layer.values layer.features

-- The zoom, each layer in order, and the end.
unfoldable pub listing : Layout → List ℕ
listing layout = zoom_line layout.zoom ++ (flat_map layer_lines layout.layers ++ end_line)
