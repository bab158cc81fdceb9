use Rattle.std.proofs.Common.{◌∙◌, ◌++◌, [], map, ap, refl, sym}
use Rattle.listing_text.specs.Listing.{layer_line}
use Rattle.style_layout.specs.CodeView.{scene_seen, tile_seen}
use Rattle.asked_cells.specs.Asked.{layer_asked}
use Rattle.cell_listing.proofs.ListingLaws.{shown_at}
use Rattle.asked_cells.specs.SeenCells.{layer_at}
use Rattle.bare_listing.proofs.ListingLaws.{layer_evaluated, layer_text, listable_filter, listable_values, none_evaluated}
use Rattle.text_pieces.proofs.PieceLaws.{begins, begins_as, breaks_off, goes_on, lacks, then_all, waits}
use Rattle.bare_listing.proofs.listing.write_bare_layer.Goals as goal

pub returns-in_err-write_layer_line-clause-evaluates : goal.returns-in_err-write_layer_line-clause-evaluates
returns-in_err-write_layer_line-clause-evaluates g c = λ x sourced.
    let at = c.args.at.now in
    none_evaluated (layer_asked x (scene_seen g.V.TextTests.tests at.scene.now) (map tile_seen c.args.tiles.now) (layer_at at))
    c.from_residual-in_err-write_layer_line.result c.args.steps.now c.from_residual-in_err-write_layer_line.ensures.0

pub write_below-requires-clause-given : goal.write_below-requires-clause-given
write_below-requires-clause-given g c =
    let at = c.args.at.now in
    let slots = g.E.CountedEvaluator.slots in
    let scene = scene_seen g.V.TextTests.tests at.scene.now in
    let layer = layer_at at in
    let b = c.args.cells.now.buckets in
    record {
      values = listable_values slots at.number scene layer b c.requires.listable;
      filter = listable_filter slots at.number scene layer b c.requires.listable;
    }

pub returns-clause-evaluates : goal.returns-clause-evaluates
returns-clause-evaluates g c = λ x sourced.
    let at = c.args.at.now in
    let tests = g.V.TextTests.tests in
    let layer = layer_at at in
    let is = shown_at tests at.scene.now layer c.exact.result c.show-show.result c.exact.ensures c.show-show.ensures in
    layer_evaluated g.E.CountedEvaluator.slots at.number (scene_seen tests at.scene.now) layer c.args.cells.now.buckets x
    (map tile_seen c.args.tiles.now) c.show-show.result c.write_below.result c.args.steps.now c.write_below.new.steps sourced is
    c.write_below.ensures.number c.write_below.ensures.least c.write_below.ensures.most

pub returns-in_err-pour_piece-clause-evaluates : goal.returns-in_err-pour_piece-clause-evaluates
returns-in_err-pour_piece-clause-evaluates g c = λ x sourced.
    let at = c.args.at.now in
    none_evaluated (layer_asked x (scene_seen g.V.TextTests.tests at.scene.now) (map tile_seen c.args.tiles.now) (layer_at at))
    c.from_residual.result c.args.steps.now c.from_residual.ensures.0

pub returns-in_err-pour_piece-clause-text : goal.returns-in_err-pour_piece-clause-text
returns-in_err-pour_piece-clause-text g c =
    breaks_off g.O.Sink.held g.O.Sink.faults c.from_residual.result c.args.pieces.now c.args.pieces.now _ [] _ _
    c.from_residual.ensures.1 c.in_err-pour_piece.ensures (begins g.O.Sink.held g.O.Sink.faults c.args.pieces.now _)

pub returns-in_err-write_layer_line-clause-text : goal.returns-in_err-write_layer_line-clause-text
returns-in_err-write_layer_line-clause-text g c =
    lacks g.O.Sink.held g.O.Sink.faults c.from_residual-in_err-write_layer_line.result c.args.pieces.now c.pour_piece.new.self _ _ _
    c.from_residual-in_err-write_layer_line.ensures.1 refl
    (goes_on g.O.Sink.held g.O.Sink.faults c.args.pieces.now c.args.pieces.now c.pour_piece.new.self [] _ _ c.in_ok-pour_piece.ensures
    (begins g.O.Sink.held g.O.Sink.faults c.args.pieces.now _))

pub returns-clause-text : goal.returns-clause-text
returns-clause-text g c =
    let at = c.args.at.now in
    let tests = g.V.TextTests.tests in
    let layer = layer_at at in
    let scene = scene_seen tests at.scene.now in
    let tiles = map tile_seen c.args.tiles.now in
    let show = c.show-show.result in
    let is = shown_at tests at.scene.now layer c.exact.result show c.exact.ensures c.show-show.ensures in
    let line = c.in_ok-write_layer_line.ensures.ok ∙ ap (λ id. c.pour_piece.new.self.text.items ++ layer_line id layer.type show) c.as_str.ensures in
    then_all g.O.Sink.held g.O.Sink.faults c.write_below.result c.args.pieces.now _ c.write_below.new.pieces _ _ c.write_below.ensures.text
    (waits g.O.Sink.held g.O.Sink.faults c.args.pieces.now c.pour_piece.new.self _ (layer_line layer.id layer.type show) _ _ refl line
    (goes_on g.O.Sink.held g.O.Sink.faults c.args.pieces.now c.args.pieces.now c.pour_piece.new.self [] _ _ c.in_ok-pour_piece.ensures
    (begins_as g.O.Sink.held g.O.Sink.faults c.args.pieces.now _ _ (sym (layer_text scene tiles layer show is)))))
