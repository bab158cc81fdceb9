use Rattle.std.proofs.Common.{arith, map}
use Rattle.style_layout.specs.CodeView.{layer_seen, layers_seen, tile_seen}
use Rattle.edit_session.proofs.LayerLists.{cells_insert}
use Rattle.edit_session.proofs.layers.PreparedLayers.cells_and.Goals as goal

pub returns : goal.returns
returns c =
    let more = cells_insert (map tile_seen c.args.tiles.now) (layers_seen c.args.self.now.style) c.args.place (layer_seen c.args.layer.now) c.requires.within in
    omega (arith, c.layer_cells.ensures, c.requires.counted, more, c.saturating_add.ensures)
