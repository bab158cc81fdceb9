-- Indexes of the features that layers show. Source: own.
use Rattle.std.specs.Prelude.{◌≡◌, ℕ, List, [], ◌∷◌, map, flat_map, Option, IfSome, if◌then◌else◌}
use Rattle.std.specs.Str.{bytes_eq}
use Rattle.tile_reader.specs.declared.tile.Feature.{Feature}
use Rattle.style_layout.specs.Layers.{StyleLayer}
use Rattle.style_layout.specs.Shown.{SourceTile, features_named}
use Rattle.feature_index.specs.Ids.{IsIndexed}
use Rattle.feature_index.specs.declared.indexes.FeatureIndexes.{FeatureIndexes}
use Rattle.feature_index.specs.declared.indexes.SearchedLayer.{SearchedLayer}

-- the ids of features, in their order
abbrev pub ids_of : List Feature → List (Option ℕ)
ids_of features = map (λ (f : Feature). f.id) features

-- the features that a tile has for a source layer
abbrev pub features_in : (source layer : List ℕ) → SourceTile → List Feature
features_in source layer tile = if bytes_eq tile.0 source then features_named layer tile.1 else []

-- a layer shows the features of this source layer
abbrev pub IsOfLayer : StyleLayer → SearchedLayer → Type 0
IsOfLayer layer entry = (entry.source ≡ layer.source) × (entry.source_layer ≡ layer.source_layer)

-- the index of a source layer, where there is one, is that of its features
abbrev pub IsEntryOf : List SourceTile → SearchedLayer → Type 0
IsEntryOf tiles entry =
    IfSome entry.index
    (λ index. IsIndexed index (ids_of (flat_map (features_in entry.source entry.source_layer) tiles)))

-- so it is with each of them
abbrev pub AreEntries : List SourceTile → List SearchedLayer → Type 0
AreEntries tiles [] = Unit {0}
AreEntries tiles (e ∷ es) = IsEntryOf tiles e × AreEntries tiles es

-- Each index is right over these tiles.
abbrev pub AreIndexed : List SourceTile → FeatureIndexes → Type 0
AreIndexed tiles indexes = AreEntries tiles indexes.layers.items
