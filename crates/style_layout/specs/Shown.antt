-- What is shown of a layer: its values, and the features that pass, in their order.
use Rattle.std.specs.Prelude.{ℕ, ℤ, ◌+◌, List, [], ◌∷◌, map, flat_map, filter, Bool, Option, Some, None, if◌then◌else◌}
use Rattle.std.specs.Str.{bytes_eq}
use Rattle.fixed_num.specs.Number.{floor_of}
use Rattle.prop_values.specs.Data.{Data}
use Rattle.prop_values.specs.declared.outcome.Outcome.{Outcome}
use Rattle.property_tables.specs.declared.property_row.Place.{Place}
use Rattle.property_tables.specs.declared.property_row.Place.TheVariants.{Layout, Paint}
use Rattle.stable_order.specs.InOrder.{in_order}
use Rattle.stable_order.specs.Keys.{key_before}
use Rattle.tile_reader.specs.declared.tile.Feature.{Feature}
use Rattle.tile_reader.specs.declared.tile.TileLayer.{TileLayer}
use Rattle.tile_reader.specs.Names.{layer_named}
use Rattle.eval_face.specs.World.{World, feature_world, no_feature}
use Rattle.listing_text.specs.Layout.{ListedValue, FeatureOut}
use Rattle.style_layout.specs.Forms.{Scene, Property, outcome_of, lets_pass}
use Rattle.style_layout.specs.Layers.{StyleLayer, has_features, layer_properties, feature_properties, sort_property}
use Rattle.style_layout.specs.SortKeys.{key_of}

-- ---- the features of a layer over tiles

-- the features of a layer of a tile, and none where there is no layer
abbrev pub features_of : Option TileLayer → List Feature
features_of (Some layer) = layer.features
features_of None = []

-- the features of the layer of a tile that has this name, and none where the tile lacks it
abbrev pub features_named : List ℕ → List TileLayer → List Feature
features_named name layers = features_of (layer_named name layers)

-- a tile and the source that it is handed in for
abbrev pub SourceTile : Type 0
SourceTile = List ℕ × List TileLayer

-- the features that a tile has for a layer
abbrev pub tile_features : StyleLayer → SourceTile → List Feature
tile_features layer tile = if bytes_eq tile.0 layer.source then features_named layer.source_layer tile.1 else []

-- The list of the features of a layer, of each tile in its order; none of a type that shows none.
abbrev pub layer_features : List SourceTile → StyleLayer → List Feature
layer_features tiles layer = flat_map (tile_features layer) (if has_features layer.type then tiles else [])

-- features with their numbers, from this number on
abbrev pub numbered : ℕ → List Feature → List (ℕ × Feature)
numbered n [] = []
numbered n (f ∷ fs) = (n, f) ∷ numbered (n + 1) fs

-- a feature of a layer, with its number in the list and the members of its state
pub record LayerFeature : Type 0 where
  pub number : ℕ
  pub feature : Feature
  pub state : List (List ℕ × Data)

-- a paint value sees the zoom, a layout value and a filter its floor
abbrev pub zoom_at : ℤ → Place → ℤ
zoom_at zoom Paint = zoom
zoom_at zoom Layout = floor_of zoom

module _ (scene : Scene) where
  -- what values and filters read at a zoom, of a feature and its state
  abbrev pub world_at : ℤ → Feature → List (List ℕ × Data) → World
  world_at zoom feature state = feature_world zoom feature state scene.has_image scene.is_supported

  abbrev pub outcome_at : Property → Feature → List (List ℕ × Data) → Outcome
  outcome_at p feature state = outcome_of p (world_at (zoom_at scene.zoom p.row.place) feature state)

  abbrev pub listed_value : Feature → List (List ℕ × Data) → Property → ListedValue
  listed_value feature state p = record { name = p.row.name; outcome = outcome_at p feature state }

  -- ---- the order of features: ascending keys, and one whose key faulted first; equal ones keep the order of the list

  abbrev pub sort_key : Property → LayerFeature → Option ℤ
  sort_key p f = key_of (outcome_at p f.feature f.state)

  abbrev pub goes_before : Property → LayerFeature → LayerFeature → Bool
  goes_before p f g = key_before (sort_key p f) (sort_key p g)

  abbrev pub ordered : Option Property → List LayerFeature → List LayerFeature
  ordered (Some p) fs = in_order (goes_before p) fs
  ordered None fs = fs

module _ (scene : Scene) (layer : StyleLayer) where
  -- the members of the state of a feature, which one without an id has not
  abbrev pub state_of : Option ℕ → List (List ℕ × Data)
  state_of (Some id) = scene.states layer.source layer.source_layer id
  state_of None = []

  abbrev pub with_state : ℕ × Feature → LayerFeature
  with_state nf = record { number = nf.0; feature = nf.1; state = state_of nf.1.id }

  abbrev pub is_shown : LayerFeature → Bool
  is_shown f = lets_pass layer.filter (world_at scene (floor_of scene.zoom) f.feature f.state)

  -- those of numbered features that pass
  abbrev pub those_shown : List (ℕ × Feature) → List LayerFeature
  those_shown nfs = filter is_shown (map with_state nfs)

  -- the features of the layer that pass, in the order of the list
  abbrev pub shown_features : List SourceTile → List LayerFeature
  shown_features tiles = those_shown (numbered 0 (layer_features tiles layer))

  -- ---- what is listed

  abbrev pub feature_out : LayerFeature → FeatureOut
  feature_out f = record {
    number = f.number;
    id = f.feature.id;
    shape = f.feature.shape;
    values = map (listed_value scene f.feature f.state) (feature_properties layer.properties);
  }

  -- The features of a layer that pass, in their order.
  abbrev pub feature_outs : List SourceTile → List FeatureOut
  feature_outs tiles =
      map feature_out (ordered scene (sort_property layer.type layer.properties) (shown_features tiles))

  -- The values that are listed with a layer.
  abbrev pub layer_values : List ListedValue
  layer_values = map (listed_value scene no_feature []) (layer_properties layer.properties)
