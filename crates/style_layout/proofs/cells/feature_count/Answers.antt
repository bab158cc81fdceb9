use Rattle.std.proofs.Common.{◌≡◌, ◌∙◌, ◌+◌, ◌-◌, ◌^◌, [], ap, length, drop, map, min, sym, arith}
use Rattle.std.specs.Prelude.{flat_map}
use Rattle.std.proofs.lemmas.List.{drop_all}
use Rattle.style_layout.specs.CodeView.{layer_seen, tile_seen}
use Rattle.style_layout.specs.Shown.{tile_features}
use Rattle.style_layout.proofs.CellLaws.{most_is_kept, tile_counted}
use Rattle.style_layout.proofs.cells.feature_count.Goals as goal

pub loop-tile-preserved : goal.loop-tile-preserved
loop-tile-preserved c =
    let layer = layer_seen c.args.layer.now in
    let tiles = c.searched_tiles-searched.result.now in
    let at = c.loop-tile.tile-index in
    let most = 2 ^ 128 - 1 in
    let later = length (flat_map (tile_features layer) (map tile_seen (drop (at + 1) tiles))) in (
      ap (λ n. min (n + later) most) c.saturating_add-count.ensures
          ∙ (tile_counted layer tiles at c.tile-item.result c.loop-tile-test.true c.tile-item.is c.loop-tile.count most
          c.tile_features.result.now c.tile_features.ensures ∙ c.loop-tile.invariant.0),
      omega (arith, c.saturating_add-count.type_inv),
    )

pub returns : goal.returns
returns c =
    let found = flat_map (tile_features (layer_seen c.args.layer.now)) in
    let tiles = c.searched_tiles-searched.result.now in
    let most = 2 ^ 128 - 1 in
    let count = c.loop-tile.count in
    let all : drop c.loop-tile.tile-index tiles ≡ [] = drop_all c.loop-tile.tile-index tiles c.loop-tile-test.false in
    sym (most_is_kept count most c.loop-tile.invariant.1)
    ∙ (ap (λ ts. min (count + length (found (map tile_seen ts))) most) (sym all)
    ∙ (c.loop-tile.invariant.0 ∙ ap (λ ts. min (length (found ts)) most) c.searched_tiles-searched.ensures))
