use Rattle.std.proofs.Common.{◌≡◌, Some, [], ap, sym, if◌then◌else◌}
use Rattle.style_layout.specs.CodeView.{feature_seen, scene_seen}
use Rattle.asked_cells.specs.Asked.{passed_asked, values_asked}
use Rattle.asked_cells.specs.Counted.{kept_in}
use Rattle.asked_cells.proofs.AskLaws.{asks_same, meant_same, none_asked}
use Rattle.asked_cells.specs.SeenCells.{layer_at}
use Rattle.asked_cells.proofs.view_cells.ViewCells.ask_passed.Goals as goal

pub returns-then-passes-clause-asks : goal.returns-then-passes-clause-asks
returns-then-passes-clause-asks g c = λ x meaning s right meant.
    let at = c.args.at.now in
    let scene = scene_seen g.V.TextTests.tests at.scene.now in
    let f = feature_seen c.args.feature.now in
    let ps = (layer_at at).properties in
    let values = values_asked x scene (Some f) ps in
    let passed = passed_asked x scene c.args.passes f ps in
    let same : values ≡ passed = sym (ap (λ b. if b then values else []) c.if-passes.true) in
    asks_same meaning values passed (kept_in c.args.self.now.buckets at.number) (kept_in c.ask_values.new.self.buckets at.number) c.ask_values.result
    c.args.steps.now c.ask_values.new.steps same (c.ask_values.ensures.asks x meaning s right (meant_same meaning values passed same meant))

pub returns-else-passes-clause-asks : goal.returns-else-passes-clause-asks
returns-else-passes-clause-asks g c = λ x meaning s right meant.
    let at = c.args.at.now in
    let scene = scene_seen g.V.TextTests.tests at.scene.now in
    let f = feature_seen c.args.feature.now in
    let ps = (layer_at at).properties in
    let same : [] ≡ passed_asked x scene c.args.passes f ps =
    sym (ap (λ b. if b then values_asked x scene (Some f) ps else []) c.if-passes.false) in
    asks_same meaning [] (passed_asked x scene c.args.passes f ps) (kept_in c.args.self.now.buckets at.number)
    (kept_in c.args.self.now.buckets at.number) _ c.args.steps.now c.args.steps.now same
    (none_asked meaning (kept_in c.args.self.now.buckets at.number) c.args.steps.now)
