use Rattle.std.proofs.Common.{◌≡◌, ap, arith, get_or, map}
use Rattle.style_layout.specs.CodeView.{layer_seen, layers_seen, tile_seen}
use Rattle.style_layout.specs.StyleLayout.{layer_cells}
use Rattle.edit_session.proofs.LayerLists.{cells_remove}
use Rattle.edit_session.proofs.layers.PreparedLayers.remove.Goals as goal

pub overflow_sub-self : goal.overflow_sub-self
overflow_sub-self c =
    let tiles = map tile_seen c.args.tiles.now in
    let ls = layers_seen c.args.self.now.style in
    let was = layer_seen c.layer.result.now in
    let all = cells_remove tiles ls c.args.place was c.requires.within in
    let same : layer_cells tiles was ≡ layer_cells tiles (get_or ls c.args.place was) = ap (layer_cells tiles) c.layer.ensures in
    omega (arith, c.layer_cells-cells.ensures, c.requires.counted, all, same)

pub returns-clause-cells : goal.returns-clause-cells
returns-clause-cells c =
    let tiles = map tile_seen c.args.tiles.now in
    let ls = layers_seen c.args.self.now.style in
    let was = layer_seen c.layer.result.now in
    let all = cells_remove tiles ls c.args.place was c.requires.within in
    let same : layer_cells tiles was ≡ layer_cells tiles (get_or ls c.args.place was) = ap (layer_cells tiles) c.layer.ensures in
    omega (arith, c.layer_cells-cells.ensures, c.requires.counted, all, same)
