use Rattle.std.proofs.Common.{map}
use Rattle.style_layout.specs.CodeView.{tile_seen}
use Rattle.asked_cells.specs.SeenCells.{layer_at, scene_at}
use Rattle.form_pool.specs.PoolSlots.{pool_slots}
use Rattle.kept_layers.proofs.ListLaws.{failed_asks, layer_counted, layer_listable, layer_slots}
use Rattle.kept_layers.proofs.kept_layers.KeptLayers.list_layer.Goals as goal

pub ask_layer-requires-clause-slots : goal.ask_layer-requires-clause-slots
ask_layer-requires-clause-slots g c =
    let at = c.args.at.now in
    let l = c.requires.layer in
    layer_slots pool_slots (scene_at g.V.TextTests.tests at) (map tile_seen c.args.tiles.now) l.globals l.tree at.number (layer_at at) l.prepared
    c.args.self.now.cells.buckets l.held

pub ask_layer-requires-clause-features : goal.ask_layer-requires-clause-features
ask_layer-requires-clause-features g c =
    let at = c.args.at.now in
    let l = c.requires.layer in
    layer_counted pool_slots (scene_at g.V.TextTests.tests at) (map tile_seen c.args.tiles.now) l.globals l.tree at.number (layer_at at) l.prepared
    c.args.self.now.cells.buckets l.held

pub returns-in_err-number-clause-asks : goal.returns-in_err-number-clause-asks
returns-in_err-number-clause-asks g c =
    let at = c.args.at.now in
    failed_asks pool_slots at.number (scene_at g.V.TextTests.tests at) (map tile_seen c.args.tiles.now) (layer_at at)
    c.args.self.now.cells.buckets c.ask_layer.new.self.buckets c.args.steps.now c.ask_layer.new.steps
    c.ask_layer.result c.from_residual.result c.from_residual.ensures.0 c.ask_layer.ensures.asks

pub write_layer-requires-clause-few : goal.write_layer-requires-clause-few
write_layer-requires-clause-few g c =
    c.requires.layer.few

pub write_layer-requires-clause-listable : goal.write_layer-requires-clause-listable
write_layer-requires-clause-listable g c =
    let at = c.args.at.now in
    let l = c.requires.layer in
    layer_listable pool_slots (scene_at g.V.TextTests.tests at) (map tile_seen c.args.tiles.now) l.globals l.tree at.number (layer_at at) l.prepared
    c.args.self.now.cells.buckets l.held l.right c.filters_are_decided.ensures c.ask_layer.new.self.buckets c.in_ok-number.number
    c.args.steps.now c.ask_layer.new.steps c.in_ok-number.ensures.asks c.ask_layer.ensures.sources
    c.properties_are_given.ensures c.properties_are_read_by_expressions.ensures

pub returns-in_err-write_layer-clause-asks : goal.returns-in_err-write_layer-clause-asks
returns-in_err-write_layer-clause-asks g c =
    let at = c.args.at.now in
    failed_asks pool_slots at.number (scene_at g.V.TextTests.tests at) (map tile_seen c.args.tiles.now) (layer_at at)
    c.args.self.now.cells.buckets c.ask_layer.new.self.buckets c.args.steps.now c.ask_layer.new.steps
    c.ask_layer.result c.from_residual-in_err-write_layer.result c.from_residual-in_err-write_layer.ensures.0 c.ask_layer.ensures.asks

pub returns-clause-asks : goal.returns-clause-asks
returns-clause-asks g c =
    c.in_ok-number.ensures.asks
