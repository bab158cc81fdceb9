use Rattle.std.proofs.Common.{◌∙◌, ◌++◌, List, [], None, ap, map, refl}
use Rattle.std.specs.Prelude.{flat_map}
use Rattle.listing_text.specs.Listing.{feature_lines, layer_margin, value_lines}
use Rattle.style_layout.specs.Shown.{feature_outs}
use Rattle.style_layout.specs.declared.properties.Property.{Property}
use Rattle.bare_listing.specs.Given.{shown_values}
use Rattle.bare_listing.specs.SeenLayer.{layer_in, property_in, scene_in, tiles_in}
use Rattle.text_pieces.proofs.PieceLaws.{added, begins, breaks_last, ends, lacks, lacks_at_first, waits}
use Rattle.bare_listing.proofs.bare_layer.BareLayer.write_plain.Goals as goal

pub returns-in_err-own-clause-text : goal.returns-in_err-own-clause-text
returns-in_err-own-clause-text g c =
    lacks_at_first g.O.Sink.held g.O.Sink.faults c.from_residual.result c.args.pieces.now _ _ c.from_residual.ensures.1 refl

pub returns-in_err-common-clause-text : goal.returns-in_err-common-clause-text
returns-in_err-common-clause-text g c =
    lacks_at_first g.O.Sink.held g.O.Sink.faults c.from_residual-in_err-common.result c.args.pieces.now _ _ c.from_residual-in_err-common.ensures.1 refl

pub returns-in_err-others-clause-text : goal.returns-in_err-others-clause-text
returns-in_err-others-clause-text g c =
    let l = c.args.self.now in
    let scene = scene_in g.V.TextTests.tests l in
    let old = c.args.pieces.now in
    let values = λ (ps : List Property). value_lines layer_margin (shown_values scene None (map (property_in l) ps)) in
    let own = values l.at.now.layer.prepared.now.properties.items in
    let features = flat_map feature_lines (feature_outs scene (layer_in l) (tiles_in l)) in
    let first = c.in_ok-own.ensures.lines ∙ ap (λ ps. old.text.items ++ values ps) c.as_slice-properties.ensures.value in
    breaks_last g.O.Sink.held g.O.Sink.faults c.from_residual-in_err-others.result old _ c.write_features.new.pieces features _
    c.from_residual-in_err-others.ensures.1 c.in_err-others.ensures.text
    (waits g.O.Sink.held g.O.Sink.faults old old _ own features _ refl first (begins g.O.Sink.held g.O.Sink.faults old _))

pub returns-in_err-sum_of-clause-text : goal.returns-in_err-sum_of-clause-text
returns-in_err-sum_of-clause-text g c =
    let l = c.args.self.now in
    let scene = scene_in g.V.TextTests.tests l in
    let old = c.args.pieces.now in
    let values = λ (ps : List Property). value_lines layer_margin (shown_values scene None (map (property_in l) ps)) in
    let own = values l.at.now.layer.prepared.now.properties.items in
    let features = flat_map feature_lines (feature_outs scene (layer_in l) (tiles_in l)) in
    let first = c.in_ok-own.ensures.lines ∙ ap (λ ps. old.text.items ++ values ps) c.as_slice-properties.ensures.value in
    lacks g.O.Sink.held g.O.Sink.faults c.from_residual-in_err-sum_of.result old c.write_features.new.pieces c.write_features.new.pieces [] _
    c.from_residual-in_err-sum_of.ensures.1 refl
    (added g.O.Sink.held g.O.Sink.faults old _ c.write_features.new.pieces features _ c.in_ok-others.ensures.text
    (waits g.O.Sink.held g.O.Sink.faults old old _ own features _ refl first (begins g.O.Sink.held g.O.Sink.faults old _)))

pub returns-in_err-sum_of-2-clause-text : goal.returns-in_err-sum_of-2-clause-text
returns-in_err-sum_of-2-clause-text g c =
    let l = c.args.self.now in
    let scene = scene_in g.V.TextTests.tests l in
    let old = c.args.pieces.now in
    let values = λ (ps : List Property). value_lines layer_margin (shown_values scene None (map (property_in l) ps)) in
    let own = values l.at.now.layer.prepared.now.properties.items in
    let features = flat_map feature_lines (feature_outs scene (layer_in l) (tiles_in l)) in
    let first = c.in_ok-own.ensures.lines ∙ ap (λ ps. old.text.items ++ values ps) c.as_slice-properties.ensures.value in
    lacks g.O.Sink.held g.O.Sink.faults c.from_residual-in_err-sum_of-2.result old c.write_features.new.pieces c.write_features.new.pieces [] _
    c.from_residual-in_err-sum_of-2.ensures.1 refl
    (added g.O.Sink.held g.O.Sink.faults old _ c.write_features.new.pieces features _ c.in_ok-others.ensures.text
    (waits g.O.Sink.held g.O.Sink.faults old old _ own features _ refl first (begins g.O.Sink.held g.O.Sink.faults old _)))

pub returns-clause-text : goal.returns-clause-text
returns-clause-text g c =
    let l = c.args.self.now in
    let scene = scene_in g.V.TextTests.tests l in
    let old = c.args.pieces.now in
    let values = λ (ps : List Property). value_lines layer_margin (shown_values scene None (map (property_in l) ps)) in
    let own = values l.at.now.layer.prepared.now.properties.items in
    let features = flat_map feature_lines (feature_outs scene (layer_in l) (tiles_in l)) in
    let first = c.in_ok-own.ensures.lines ∙ ap (λ ps. old.text.items ++ values ps) c.as_slice-properties.ensures.value in
    ends g.O.Sink.held g.O.Sink.faults old c.write_features.new.pieces _
    (added g.O.Sink.held g.O.Sink.faults old _ c.write_features.new.pieces features _ c.in_ok-others.ensures.text
    (waits g.O.Sink.held g.O.Sink.faults old old _ own features _ refl first (begins g.O.Sink.held g.O.Sink.faults old _)))
