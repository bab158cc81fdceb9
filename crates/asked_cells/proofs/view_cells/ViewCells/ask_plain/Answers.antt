use Rattle.std.proofs.Common.{◌∙◌, map, None}
use Rattle.style_layout.specs.CodeView.{scene_seen, tile_seen}
use Rattle.asked_cells.proofs.AskLaws.{both_asked, first_stops, meant_first, meant_then, second_right, second_stops}
use Rattle.asked_cells.proofs.SourceLaws.{expressions_on, leaves_then, slots_on}
use Rattle.asked_cells.specs.Asked.{features_asked, values_asked}
use Rattle.asked_cells.specs.Counted.{kept_in}
use Rattle.asked_cells.specs.SeenCells.{layer_at}
use Rattle.asked_cells.proofs.view_cells.ViewCells.ask_plain.Goals as goal

pub ask_features-requires-clause-slots : goal.ask_features-requires-clause-slots
ask_features-requires-clause-slots g c = slots_on g.E.CountedEvaluator.slots c.args.at.now.number
    c.args.self.now.buckets c.ask_values.new.self.buckets c.ask_values.ensures.sources c.requires.slots

pub ask_features-requires-clause-features : goal.ask_features-requires-clause-features
ask_features-requires-clause-features g c = c.ask_values.ensures.sources.features c.args.at.now.number ∙ c.requires.features

pub returns-in_err-own-clause-asks : goal.returns-in_err-own-clause-asks
returns-in_err-own-clause-asks g c = λ x meaning s right decided meant.
    let scene = scene_seen g.V.TextTests.tests c.args.at.now.scene.now in
    let n = c.args.at.now.number in
    let layer = layer_at c.args.at.now in
    let tiles = map tile_seen c.args.tiles.now in
    let xs = values_asked x scene None layer.properties in
    let ys = features_asked x scene tiles layer in
    let old = kept_in c.args.self.now.buckets n in
    let mid = kept_in c.ask_values.new.self.buckets n in
    first_stops meaning xs ys old mid mid c.args.steps.now c.ask_values.new.steps c.ask_values.new.steps right meant c.ask_values.result c.from_residual.result c.from_residual.ensures.0
    (c.ask_values.ensures.asks x meaning s right (meant_first meaning xs ys meant))

pub returns-in_err-others-clause-sources : goal.returns-in_err-others-clause-sources
returns-in_err-others-clause-sources g c =
    leaves_then c.args.at.now.number c.args.self.now.buckets c.ask_values.new.self.buckets
    c.ask_features.new.self.buckets c.ask_values.ensures.sources c.ask_features.ensures.sources

pub returns-in_err-others-clause-asks : goal.returns-in_err-others-clause-asks
returns-in_err-others-clause-asks g c = λ x meaning s right decided meant.
    let scene = scene_seen g.V.TextTests.tests c.args.at.now.scene.now in
    let n = c.args.at.now.number in
    let layer = layer_at c.args.at.now in
    let tiles = map tile_seen c.args.tiles.now in
    let xs = values_asked x scene None layer.properties in
    let ys = features_asked x scene tiles layer in
    let old = kept_in c.args.self.now.buckets n in
    let mid = kept_in c.ask_values.new.self.buckets n in
    let new = kept_in c.ask_features.new.self.buckets n in
    let on = expressions_on g.E.CountedEvaluator.slots n x c.args.self.now.buckets c.ask_values.new.self.buckets c.ask_values.ensures.sources s in
    let a = c.in_ok-own.ensures.asks x meaning s right (meant_first meaning xs ys meant) in
    let mid_right = second_right meaning xs ys old mid mid c.args.steps.now c.ask_values.new.steps c.ask_values.new.steps right meant c.in_ok-own.own a in
    let before = c.args.steps.now in
    let between = c.ask_values.new.steps in
    let after = c.ask_features.new.steps in
    second_stops meaning xs ys old mid new before between after right meant c.in_ok-own.own c.ask_features.result c.from_residual-in_err-others.result
    c.from_residual-in_err-others.ensures.0 a
    (c.ask_features.ensures.asks x meaning on mid_right decided (meant_then meaning xs ys meant))

pub returns-clause-sources : goal.returns-clause-sources
returns-clause-sources g c = leaves_then c.args.at.now.number c.args.self.now.buckets
    c.ask_values.new.self.buckets c.ask_features.new.self.buckets c.ask_values.ensures.sources
    c.ask_features.ensures.sources

pub returns-clause-asks : goal.returns-clause-asks
returns-clause-asks g c = λ x meaning s right decided meant.
    let scene = scene_seen g.V.TextTests.tests c.args.at.now.scene.now in
    let n = c.args.at.now.number in
    let layer = layer_at c.args.at.now in
    let tiles = map tile_seen c.args.tiles.now in
    let xs = values_asked x scene None layer.properties in
    let ys = features_asked x scene tiles layer in
    let old = kept_in c.args.self.now.buckets n in
    let mid = kept_in c.ask_values.new.self.buckets n in
    let new = kept_in c.ask_features.new.self.buckets n in
    let on = expressions_on g.E.CountedEvaluator.slots n x c.args.self.now.buckets c.ask_values.new.self.buckets c.ask_values.ensures.sources s in
    let a = c.in_ok-own.ensures.asks x meaning s right (meant_first meaning xs ys meant) in
    let mid_right = second_right meaning xs ys old mid mid c.args.steps.now c.ask_values.new.steps c.ask_values.new.steps right meant c.in_ok-own.own a in
    let before = c.args.steps.now in
    let between = c.ask_values.new.steps in
    let after = c.ask_features.new.steps in
    both_asked meaning xs ys old mid new before between after right meant c.in_ok-own.own c.in_ok-others.others c.sum_of.result a
    (c.in_ok-others.ensures.asks x meaning on mid_right decided (meant_then meaning xs ys meant)) c.sum_of.ensures
