use Rattle.std.proofs.Common.{◌≡◌, ◌∙◌, ◌+◌, ◌-◌, ◌^◌, ◌≤◌, [], ap, length, drop, map, min, sym, subst}
use Rattle.std.proofs.lemmas.List.{drop_all}
use Rattle.style_layout.specs.CodeView.{layer_seen, tile_seen}
use Rattle.style_layout.specs.StyleLayout.{cell_count}
use Rattle.style_layout.proofs.CellLaws.{most_is_kept}
use Rattle.style_layout.proofs.cells.cell_count.Goals as goal

pub returns : goal.returns
returns c =
    let tiles = map tile_seen c.args.tiles.now in
    let layers = c.args.style.now.layers.items in
    let most = 2 ^ 128 - 1 in
    let count = c.loop-layer.count in
    let past : length layers ≤ c.loop-layer.layer-index =
    subst (λ ls. length ls ≤ c.loop-layer.layer-index) c.as_slice-layer-items.ensures.value c.loop-layer-test.false in
    let all : drop c.loop-layer.layer-index layers ≡ [] = drop_all c.loop-layer.layer-index layers past in
    sym (most_is_kept count most c.loop-layer.invariant.1)
    ∙ (ap (λ ls. min (count + cell_count tiles (map layer_seen ls)) most) (sym all) ∙ c.loop-layer.invariant.0)
