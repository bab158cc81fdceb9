use Rattle.std.proofs.Common.{◌≡◌, ap, arith, get_or, map}
use Rattle.style_layout.specs.CodeView.{layer_seen, layers_seen, tile_seen}
use Rattle.style_layout.specs.StyleLayout.{layer_cells}
use Rattle.edit_session.proofs.LayerLists.{cells_remove, cells_set}
use Rattle.edit_session.proofs.layers.PreparedLayers.cells_with.Goals as goal

pub overflow_sub-self : goal.overflow_sub-self
overflow_sub-self c =
    let tiles = map tile_seen c.args.tiles.now in
    let ls = layers_seen c.args.self.now.style in
    let was = layer_seen c.layer.result.now in
    let all = cells_remove tiles ls c.args.place was c.requires.within in
    let same : layer_cells tiles was ≡ layer_cells tiles (get_or ls c.args.place was) = ap (layer_cells tiles) c.layer.ensures in
    omega (arith, c.layer_cells-old.ensures, c.requires.counted, all, same)

pub returns : goal.returns
returns c =
    let tiles = map tile_seen c.args.tiles.now in
    let ls = layers_seen c.args.self.now.style in
    let was = layer_seen c.layer.result.now in
    let now = cells_set tiles ls c.args.place (layer_seen c.args.layer.now) was c.requires.within in
    let all = cells_remove tiles ls c.args.place was c.requires.within in
    let same : layer_cells tiles was ≡ layer_cells tiles (get_or ls c.args.place was) = ap (layer_cells tiles) c.layer.ensures in
    omega (arith, c.layer_cells-old.ensures, c.layer_cells-new.ensures, c.requires.counted, all, now, same, c.saturating_add.ensures)
