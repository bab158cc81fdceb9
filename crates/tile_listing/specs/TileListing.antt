-- The listing of a tile, line by line: its layers, their features and the properties of these, each in the order of the
-- tile. Source: own.
use Rattle.std.specs.Prelude.{ℕ, ◌+◌, List, [], ◌∷◌, ◌++◌, flat_map, codes, decimal, get_or}
use Rattle.decimal_json.specs.JsonText.{text_json}
use Rattle.listing_text.specs.Listing.{line, feature_line, feature_margin}
use Rattle.prop_values.specs.Data.{Data}
use Rattle.prop_values.specs.ValueText.{listed_text}
use Rattle.tile_reader.specs.declared.tile.Feature.{Feature}
use Rattle.tile_reader.specs.declared.tile.TileLayer.{TileLayer}
use Rattle.tile_listing.specs.Extents.{default_extent, extents_of}

-- The line of a layer: its name as a JSON string, and its extent.
abbrev pub layer_line : (name : List ℕ) (extent : ℕ) → List ℕ
layer_line name extent = line (codes "layer " ∷ text_json name ∷ codes " extent " ∷ decimal extent ∷ [])

-- The line of a property: its key as a JSON string, and its value as a listing has it.
abbrev pub property_line : List ℕ × Data → List ℕ
property_line p = line (feature_margin ∷ text_json p.0 ∷ codes " " ∷ listed_text p.1 ∷ [])

-- A feature by its place in the layer, from 0, with its shape and id as a listing has them, and its properties.
abbrev pub feature_lines : ℕ → Feature → List ℕ
feature_lines place f = feature_line place f.shape f.id ++ flat_map property_line f.properties

-- Features, of which the first is at this place.
abbrev pub features_lines : ℕ → List Feature → List ℕ
features_lines place [] = []
features_lines place (f ∷ fs) = feature_lines place f ++ features_lines (place + 1) fs

-- A layer and its features.
abbrev pub layer_lines : TileLayer → (extent : ℕ) → List ℕ
layer_lines layer extent = layer_line layer.name extent ++ features_lines 0 layer.features

-- Layers, of which the first is at this place, with their extents.
abbrev pub layers_lines : (extents : List ℕ) → ℕ → List TileLayer → List ℕ
layers_lines extents place [] = []
layers_lines extents place (layer ∷ layers) =
    layer_lines layer (get_or extents place default_extent) ++ layers_lines extents (place + 1) layers

-- The lines of the tile of these layers, which was read from these bytes.
abbrev pub tile_listing : (bytes : List ℕ) → List TileLayer → List ℕ
tile_listing bytes layers = layers_lines (extents_of bytes) 0 layers
