use Rattle.std.proofs.Common.{◌≡◌, drop, map}
use Rattle.std.specs.Prelude.{flat_map}
use Rattle.style_layout.specs.CodeView.{layer_seen, tile_seen}
use Rattle.style_layout.specs.Shown.{tile_features}
use Rattle.style_layout.specs.Walk.{unnumbered}
use Rattle.style_layout.proofs.features.LayerFeatures.split_first.Given as goal

abbrev pub invariant-loop-at : goal.invariant-loop-at
invariant-loop-at l =
    unnumbered l.self ≡ flat_map (tile_features (layer_seen l.self.layer.now)) (map tile_seen (drop l.at l.self.tiles.now))
