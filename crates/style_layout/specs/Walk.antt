-- A walk over the features of a layer.
use Rattle.std.specs.Prelude.{ℕ, ◌+◌, ◌<◌, ◌^◌, List, ◌++◌, flat_map, map, drop, length}
use Rattle.tile_reader.specs.declared.tile.Feature.{Feature}
use Rattle.style_layout.specs.CodeView.{layer_seen, tile_seen}
use Rattle.style_layout.specs.Shown.{numbered, tile_features}
use Rattle.style_layout.specs.declared.features.LayerFeatures.{LayerFeatures}

-- the features that are still to come, without their numbers
abbrev pub unnumbered : LayerFeatures → List Feature
unnumbered walk =
    walk.features.now ++ flat_map (tile_features (layer_seen walk.layer.now))
    (map tile_seen (drop walk.next_tile walk.tiles.now))

abbrev pub features_left : LayerFeatures → List (ℕ × Feature)
features_left walk = numbered walk.number (unnumbered walk)

-- the numbers of all of them have 32 bits
abbrev pub HasFewLeft : LayerFeatures → Type 0
HasFewLeft walk = walk.number + length (unnumbered walk) < 2 ^ 32
