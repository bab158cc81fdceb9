-- The layout of a document without findings, over tiles, and the count of its cells. Own.
use Rattle.std.specs.Prelude.{ℕ, ◌+◌, ◌*◌, List, [], ◌∷◌, map, length}
use Rattle.decimal_json.specs.Tree.{Tree}
use Rattle.prop_values.specs.Data.{Data}
use Rattle.listing_text.specs.Layout.{ListedValue, FeatureOut, LayerOut, Layout}
use Rattle.listing_text.specs.declared.show.Show.{Show}
use Rattle.listing_text.specs.declared.show.Show.TheVariants.{Plain, Hidden, Unread, OutsideFilter}
use Rattle.style_layout.specs.Forms.{Scene}
use Rattle.style_layout.specs.Layers.{StyleLayer, style_layers, show_of, feature_properties}
use Rattle.style_layout.specs.Shown.{SourceTile, layer_features, layer_values, feature_outs}

module _ (scene : Scene) (tiles : List SourceTile) where
  -- hidden and unread layers have no more than their line
  abbrev pub values_shown : Show → StyleLayer → List ListedValue
  values_shown Plain layer = layer_values scene layer
  values_shown OutsideFilter layer = layer_values scene layer
  values_shown Hidden layer = []
  values_shown Unread layer = []

  -- and a layer with an outside filter has no features
  abbrev pub features_shown : Show → StyleLayer → List FeatureOut
  features_shown Plain layer = feature_outs scene layer tiles
  features_shown _ layer = []

  abbrev pub shown_layer : Show → StyleLayer → LayerOut
  shown_layer show layer = record {
    id = layer.id;
    layer_type = layer.type;
    show = show;
    values = values_shown show layer;
    features = features_shown show layer;
  }

  abbrev pub layer_out : StyleLayer → LayerOut
  layer_out layer = shown_layer (show_of scene.zoom layer) layer

  -- The layout of layers, from nothing.
  abbrev pub layers_layout : List StyleLayer → Layout
  layers_layout layers = record { zoom = scene.zoom; layers = map layer_out layers }

  -- The layout of a document, by the values of the global state.
  abbrev pub layout_of : List (List ℕ × Data) → Tree → Layout
  layout_of globals document = layers_layout (style_layers globals document)

-- ---- cells: one for each feature of a layer, and one more for each of its properties that are listed with it,
-- whatever the zoom is

abbrev pub layer_cells : List SourceTile → StyleLayer → ℕ
layer_cells tiles layer = length (layer_features tiles layer) * (1 + length (feature_properties layer.properties))

-- The cells of all layers.
abbrev pub cell_count : List SourceTile → List StyleLayer → ℕ
cell_count tiles [] = 0
cell_count tiles (layer ∷ layers) = layer_cells tiles layer + cell_count tiles layers
