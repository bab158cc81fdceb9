use Rattle.std.proofs.Common.{◌≡◌, ◌∙◌, ◌++◌, map, ap}
use Rattle.listing_text.specs.Listing.{layer_line}
use Rattle.style_layout.specs.CodeView.{scene_seen, tile_seen}
use Rattle.asked_cells.specs.SeenCells.{layer_at}
use Rattle.cell_listing.proofs.ListingLaws.{layer_listed, layer_ready, shown_at}
use Rattle.cell_listing.proofs.listing.write_layer.Goals as goal

pub write_below-requires-clause-writable : goal.write_below-requires-clause-writable
write_below-requires-clause-writable g c =
    let at = c.args.at.now in
    let tests = g.V.TextTests.tests in
    let layer = layer_at at in
    let show = c.show-show.result in
    let is = shown_at tests at.scene.now layer c.exact.result show c.exact.ensures c.show-show.ensures in
    layer_ready g.E.CountedEvaluator.slots at.number (scene_seen tests at.scene.now) (map tile_seen c.args.tiles.now) layer c.args.buckets.now
    c.requires.listable show is

pub returns : goal.returns
returns g c =
    let at = c.args.at.now in
    let tests = g.V.TextTests.tests in
    let layer = layer_at at in
    let old = c.args.out.now.items in
    let mid = c.write_layer_line.new.out.items in
    let show = c.show-show.result in
    let is = shown_at tests at.scene.now layer c.exact.result show c.exact.ensures c.show-show.ensures in
    let line : mid ≡ old ++ layer_line layer.id layer.type show =
    c.in_ok-write_layer_line.ensures.ok ∙ ap (λ id. old ++ layer_line id layer.type show) c.as_str.ensures in
    layer_listed g.E.CountedEvaluator.slots at.number (scene_seen tests at.scene.now) (map tile_seen c.args.tiles.now) layer c.args.buckets.now
    c.requires.listable c.write_below.result old mid c.write_below.new.out.items show is line c.write_below.ensures
