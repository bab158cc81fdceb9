use Rattle.std.proofs.Common.{Option, Bool, subst}
use Rattle.style_layout.specs.CodeView.{feature_seen, scene_seen}
use Rattle.asked_cells.specs.Asked.{feature_asked, passed_asked}
use Rattle.asked_cells.specs.Asking.{IsAnswer}
use Rattle.asked_cells.specs.Counted.{kept_in}
use Rattle.asked_cells.proofs.AskLaws.{asks_same, meant_same}
use Rattle.asked_cells.proofs.FeatureLaws.{common_feature}
use Rattle.asked_cells.specs.SeenCells.{layer_at}
use Rattle.asked_cells.proofs.view_cells.ViewCells.ask_feature.Goals as goal

pub returns-in-Some-clause-asks : goal.returns-in-Some-clause-asks
returns-in-Some-clause-asks g c = λ x meaning s right answer meant.
    let at = c.args.at.now in
    let scene = scene_seen g.V.TextTests.tests at.scene.now in
    let layer = layer_at at in
    let f = feature_seen c.args.feature.now in
    let known = subst (λ (a : Option Bool). IsAnswer x scene layer a f) c.in-Some.is answer in
    let passed = passed_asked x scene c.in-Some.passes f layer.properties in
    let whole = feature_asked x scene layer f in
    let same = common_feature x scene layer f c.in-Some.passes known in
    asks_same meaning passed whole (kept_in c.args.self.now.buckets at.number) (kept_in c.ask_passed.new.self.buckets at.number) c.ask_passed.result
    c.args.steps.now c.ask_passed.new.steps same (c.ask_passed.ensures.asks x meaning s right (meant_same meaning passed whole same meant))

pub returns-in-None-clause-asks : goal.returns-in-None-clause-asks
returns-in-None-clause-asks g c = λ x meaning s right answer meant.
    let at = c.args.at.now in
    let known = subst (λ (a : Option Bool). IsAnswer x (scene_seen g.V.TextTests.tests at.scene.now) (layer_at at) a
    (feature_seen c.args.feature.now)) c.in-None.is answer in
    c.ask_if_passed.ensures.asks x meaning s right known meant
