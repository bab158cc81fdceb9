use Rattle.std.proofs.Common.{◌∙◌, ◌++◌, [], ap, map, refl}
use Rattle.std.specs.Prelude.{flat_map}
use Rattle.listing_text.specs.Listing.{end_line, layer_lines, listing, zoom_line}
use Rattle.style_layout.specs.CodeView.{scene_seen}
use Rattle.style_layout.specs.StyleLayout.{layer_out}
use Rattle.kept_layers.specs.KeptLayers.{prepared_layers}
use Rattle.kept_layers.specs.View.{globals_in, tiles_in, trees_in}
use Rattle.text_pieces.proofs.PieceLaws.{added, begins, breaks_last, breaks_off, ends, goes_on, lacks, lacks_at_first, waits, waits_last}
use Rattle.kept_layers.proofs.kept_layers.KeptLayers.list_last.Goals as goal

pub returns-in_err-write_zoom-clause-text : goal.returns-in_err-write_zoom-clause-text
unfolding listing scene_seen
returns-in_err-write_zoom-clause-text g c =
    lacks_at_first g.O.Sink.held g.O.Sink.faults c.from_residual.result c.args.pieces.now _ _ c.from_residual.ensures.1 refl

pub returns-in_err-number-clause-text : goal.returns-in_err-number-clause-text
unfolding listing scene_seen
returns-in_err-number-clause-text g c =
    let scene = scene_seen g.V.TextTests.tests c.args.scene.now in
    let style = c.args.style.now in
    let old = c.args.pieces.now in
    let layers = flat_map layer_lines (map (layer_out scene (tiles_in style)) (prepared_layers (globals_in style) (trees_in style))) in
    let zoom = c.in_ok-write_zoom.ensures.ok ∙ ap (λ z. old.text.items ++ zoom_line z) c.exact.ensures in
    breaks_off g.O.Sink.held g.O.Sink.faults c.from_residual-in_err-number.result old _ c.list_layers_last.new.pieces layers end_line _
    c.from_residual-in_err-number.ensures.1 c.in_err-number.ensures.text
    (waits g.O.Sink.held g.O.Sink.faults old old _ _ (layers ++ end_line) _ refl zoom (begins g.O.Sink.held g.O.Sink.faults old _))

pub returns-in_err-write_end-clause-text : goal.returns-in_err-write_end-clause-text
unfolding listing scene_seen
returns-in_err-write_end-clause-text g c =
    let scene = scene_seen g.V.TextTests.tests c.args.scene.now in
    let style = c.args.style.now in
    let old = c.args.pieces.now in
    let layers = flat_map layer_lines (map (layer_out scene (tiles_in style)) (prepared_layers (globals_in style) (trees_in style))) in
    let zoom = c.in_ok-write_zoom.ensures.ok ∙ ap (λ z. old.text.items ++ zoom_line z) c.exact.ensures in
    lacks g.O.Sink.held g.O.Sink.faults c.from_residual-in_err-write_end.result old c.list_layers_last.new.pieces _ end_line _
    c.from_residual-in_err-write_end.ensures.1 refl
    (goes_on g.O.Sink.held g.O.Sink.faults old _ c.list_layers_last.new.pieces layers end_line _ c.in_ok-number.ensures.text
    (waits g.O.Sink.held g.O.Sink.faults old old _ _ (layers ++ end_line) _ refl zoom (begins g.O.Sink.held g.O.Sink.faults old _)))

pub returns-in_err-pour-clause-text : goal.returns-in_err-pour-clause-text
unfolding listing scene_seen
returns-in_err-pour-clause-text g c =
    let scene = scene_seen g.V.TextTests.tests c.args.scene.now in
    let style = c.args.style.now in
    let old = c.args.pieces.now in
    let layers = flat_map layer_lines (map (layer_out scene (tiles_in style)) (prepared_layers (globals_in style) (trees_in style))) in
    let zoom = c.in_ok-write_zoom.ensures.ok ∙ ap (λ z. old.text.items ++ zoom_line z) c.exact.ensures in
    breaks_last g.O.Sink.held g.O.Sink.faults c.from_residual-in_err-pour.result old _ c.pour.new.self [] _
    c.from_residual-in_err-pour.ensures.1 c.in_err-pour.ensures.adds
    (waits_last g.O.Sink.held g.O.Sink.faults old c.list_layers_last.new.pieces _ end_line _ refl c.in_ok-write_end.ensures.ok
    (goes_on g.O.Sink.held g.O.Sink.faults old _ c.list_layers_last.new.pieces layers end_line _ c.in_ok-number.ensures.text
    (waits g.O.Sink.held g.O.Sink.faults old old _ _ (layers ++ end_line) _ refl zoom (begins g.O.Sink.held g.O.Sink.faults old _))))

pub returns-clause-text : goal.returns-clause-text
unfolding listing scene_seen
returns-clause-text g c =
    let scene = scene_seen g.V.TextTests.tests c.args.scene.now in
    let style = c.args.style.now in
    let old = c.args.pieces.now in
    let layers = flat_map layer_lines (map (layer_out scene (tiles_in style)) (prepared_layers (globals_in style) (trees_in style))) in
    let zoom = c.in_ok-write_zoom.ensures.ok ∙ ap (λ z. old.text.items ++ zoom_line z) c.exact.ensures in
    ends g.O.Sink.held g.O.Sink.faults old c.pour.new.self _
    (added g.O.Sink.held g.O.Sink.faults old _ c.pour.new.self [] _ c.in_ok-pour.ensures.adds
    (waits_last g.O.Sink.held g.O.Sink.faults old c.list_layers_last.new.pieces _ end_line _ refl c.in_ok-write_end.ensures.ok
    (goes_on g.O.Sink.held g.O.Sink.faults old _ c.list_layers_last.new.pieces layers end_line _ c.in_ok-number.ensures.text
    (waits g.O.Sink.held g.O.Sink.faults old old _ _ (layers ++ end_line) _ refl zoom (begins g.O.Sink.held g.O.Sink.faults old _)))))
