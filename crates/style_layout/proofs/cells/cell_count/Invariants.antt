use Rattle.std.proofs.Common.{◌≡◌, ◌+◌, ◌-◌, ◌^◌, ◌≤◌, min, drop, map}
use Rattle.style_layout.specs.CodeView.{layer_seen, tile_seen}
use Rattle.style_layout.specs.StyleLayout.{cell_count}
use Rattle.style_layout.proofs.cells.cell_count.Given as goal

abbrev pub invariant-loop-layer : goal.invariant-loop-layer
invariant-loop-layer l =
    let tiles = map tile_seen l.tiles in
    (min (l.count + cell_count tiles (map layer_seen (drop l.layer-index l.style.layers.items))) (2 ^ 128 - 1)
    ≡ min (cell_count tiles (map layer_seen l.style.layers.items)) (2 ^ 128 - 1))
    × (l.count ≤ 2 ^ 128 - 1)
