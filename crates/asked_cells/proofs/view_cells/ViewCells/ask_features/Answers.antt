use Rattle.std.proofs.Common.{◌∙◌, map}
use Rattle.style_layout.specs.CodeView.{scene_seen, tile_seen}
use Rattle.asked_cells.proofs.AskLaws.{both_asked, first_stops, meant_first, meant_then, second_right, second_stops}
use Rattle.asked_cells.proofs.SourceLaws.{expressions_on, leaves_then, slots_on}
use Rattle.style_layout.specs.Shown.{layer_features, numbered}
use Rattle.asked_cells.specs.Asked.{common_asked, each_asked}
use Rattle.asked_cells.specs.Counted.{kept_in}
use Rattle.asked_cells.proofs.FeatureLaws.{common_answer_of, common_shown}
use Rattle.asked_cells.specs.SeenCells.{layer_at}
use Rattle.asked_cells.proofs.view_cells.ViewCells.ask_features.Goals as goal

pub ask_each-requires-clause-slots : goal.ask_each-requires-clause-slots
ask_each-requires-clause-slots g c = slots_on g.E.CountedEvaluator.slots c.args.at.now.number
    c.args.self.now.buckets c.ask_common_filter.new.self.buckets c.ask_common_filter.ensures.sources
    c.requires.slots

pub ask_each-requires-clause-features : goal.ask_each-requires-clause-features
ask_each-requires-clause-features g c = c.ask_common_filter.ensures.sources.features c.args.at.now.number ∙
    c.requires.features

pub returns-in_err-common-clause-asks : goal.returns-in_err-common-clause-asks
returns-in_err-common-clause-asks g c = λ x meaning s right decided meant.
    let scene = scene_seen g.V.TextTests.tests c.args.at.now.scene.now in
    let n = c.args.at.now.number in
    let layer = layer_at c.args.at.now in
    let tiles = map tile_seen c.args.tiles.now in
    let xs = common_asked x scene in
    let ys = each_asked x scene layer (numbered 0 (layer_features tiles layer)) in
    let old = kept_in c.args.self.now.buckets n in
    let mid = kept_in c.ask_common_filter.new.self.buckets n in
    first_stops meaning xs ys old mid mid c.args.steps.now c.ask_common_filter.new.steps c.ask_common_filter.new.steps right meant c.ask_common_filter.result c.from_residual.result c.from_residual.ensures.0
    (c.ask_common_filter.ensures.asks x meaning s right (meant_first meaning xs ys meant))

pub returns-in_err-others-clause-sources : goal.returns-in_err-others-clause-sources
returns-in_err-others-clause-sources g c =
    leaves_then c.args.at.now.number c.args.self.now.buckets c.ask_common_filter.new.self.buckets
    c.ask_each.new.self.buckets c.ask_common_filter.ensures.sources c.ask_each.ensures.sources

pub returns-in_err-others-clause-asks : goal.returns-in_err-others-clause-asks
returns-in_err-others-clause-asks g c = λ x meaning s right decided meant.
    let scene = scene_seen g.V.TextTests.tests c.args.at.now.scene.now in
    let n = c.args.at.now.number in
    let layer = layer_at c.args.at.now in
    let tiles = map tile_seen c.args.tiles.now in
    let xs = common_asked x scene in
    let ys = each_asked x scene layer (numbered 0 (layer_features tiles layer)) in
    let old = kept_in c.args.self.now.buckets n in
    let mid = kept_in c.ask_common_filter.new.self.buckets n in
    let new = kept_in c.ask_each.new.self.buckets n in
    let on = expressions_on g.E.CountedEvaluator.slots n x c.args.self.now.buckets c.ask_common_filter.new.self.buckets c.ask_common_filter.ensures.sources s in
    let a = c.in_ok-common.ensures.asks x meaning s right (meant_first meaning xs ys meant) in
    let mid_right = second_right meaning xs ys old mid mid c.args.steps.now c.ask_common_filter.new.steps c.ask_common_filter.new.steps right meant c.in_ok-common.common a in
    let shown = common_shown x scene layer meaning old mid c.in_ok-common.common c.args.steps.now c.ask_common_filter.new.steps
    decided (meant_first meaning xs ys meant) a.ok in
    let answer = common_answer_of g.E.CountedEvaluator.slots x scene n layer c.ask_common_filter.new.self.buckets c.common_answer-answer.result on shown c.common_answer-answer.ensures in
    let before = c.args.steps.now in
    let between = c.ask_common_filter.new.steps in
    let after = c.ask_each.new.steps in
    second_stops meaning xs ys old mid new before between after right meant c.in_ok-common.common c.ask_each.result c.from_residual-in_err-others.result
    c.from_residual-in_err-others.ensures.0 a
    (c.ask_each.ensures.asks x meaning on mid_right answer (meant_then meaning xs ys meant))

pub returns-clause-sources : goal.returns-clause-sources
returns-clause-sources g c = leaves_then c.args.at.now.number c.args.self.now.buckets
    c.ask_common_filter.new.self.buckets c.ask_each.new.self.buckets c.ask_common_filter.ensures.sources
    c.ask_each.ensures.sources

pub returns-clause-asks : goal.returns-clause-asks
returns-clause-asks g c = λ x meaning s right decided meant.
    let scene = scene_seen g.V.TextTests.tests c.args.at.now.scene.now in
    let n = c.args.at.now.number in
    let layer = layer_at c.args.at.now in
    let tiles = map tile_seen c.args.tiles.now in
    let xs = common_asked x scene in
    let ys = each_asked x scene layer (numbered 0 (layer_features tiles layer)) in
    let old = kept_in c.args.self.now.buckets n in
    let mid = kept_in c.ask_common_filter.new.self.buckets n in
    let new = kept_in c.ask_each.new.self.buckets n in
    let on = expressions_on g.E.CountedEvaluator.slots n x c.args.self.now.buckets c.ask_common_filter.new.self.buckets c.ask_common_filter.ensures.sources s in
    let a = c.in_ok-common.ensures.asks x meaning s right (meant_first meaning xs ys meant) in
    let mid_right = second_right meaning xs ys old mid mid c.args.steps.now c.ask_common_filter.new.steps c.ask_common_filter.new.steps right meant c.in_ok-common.common a in
    let shown = common_shown x scene layer meaning old mid c.in_ok-common.common c.args.steps.now c.ask_common_filter.new.steps
    decided (meant_first meaning xs ys meant) a.ok in
    let answer = common_answer_of g.E.CountedEvaluator.slots x scene n layer c.ask_common_filter.new.self.buckets c.common_answer-answer.result on shown c.common_answer-answer.ensures in
    let before = c.args.steps.now in
    let between = c.ask_common_filter.new.steps in
    let after = c.ask_each.new.steps in
    both_asked meaning xs ys old mid new before between after right meant c.in_ok-common.common c.in_ok-others.others c.sum_of.result a
    (c.in_ok-others.ensures.asks x meaning on mid_right answer (meant_then meaning xs ys meant)) c.sum_of.ensures
