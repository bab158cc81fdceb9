use Rattle.std.proofs.Common.{◌≡◌, ◌+◌, ◌-◌, ◌^◌, ◌≤◌, min, drop, map, length}
use Rattle.std.specs.Prelude.{flat_map}
use Rattle.style_layout.specs.CodeView.{layer_seen, tile_seen}
use Rattle.style_layout.specs.Shown.{tile_features}
use Rattle.style_layout.proofs.cells.feature_count.Given as goal

abbrev pub invariant-loop-tile : goal.invariant-loop-tile
invariant-loop-tile l =
    let found = flat_map (tile_features (layer_seen l.layer)) in
    (min (l.count + length (found (map tile_seen (drop l.tile-index l.searched)))) (2 ^ 128 - 1)
    ≡ min (length (found (map tile_seen l.searched))) (2 ^ 128 - 1))
    × (l.count ≤ 2 ^ 128 - 1)
