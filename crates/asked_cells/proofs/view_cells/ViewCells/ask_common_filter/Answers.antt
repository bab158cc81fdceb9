use Rattle.std.proofs.Common.{◌≡◌, ◌∙◌, None, [], true, false, ap, sym, if◌then◌else◌}
use Rattle.layer_buckets.specs.Seen.{evaluator_of, source_of}
use Rattle.layer_buckets.specs.declared.cell.CellItem.TheVariants.{Filter}
use Rattle.style_layout.specs.CodeView.{scene_seen}
use Rattle.asked_cells.specs.Asked.{common_asked, filter_asked, has_own_cells}
use Rattle.asked_cells.specs.Asking.{has_feature_cells}
use Rattle.asked_cells.specs.Counted.{kept_in}
use Rattle.asked_cells.proofs.AskLaws.{asks_same, meant_same, none_asked}
use Rattle.asked_cells.proofs.SourceLaws.{own_cells_same}
use Rattle.asked_cells.proofs.view_cells.ViewCells.ask_common_filter.Goals as goal

pub returns-then-has_feature_cells-clause-asks : goal.returns-then-has_feature_cells-clause-asks
returns-then-has_feature_cells-clause-asks g c = λ x meaning s right meant.
    let at = c.args.at.now in
    let b = c.args.self.now.buckets in
    let scene = scene_seen g.V.TextTests.tests at.scene.now in
    let own : has_own_cells (x Filter) ≡ true =
    sym (own_cells_same (g.E.CountedEvaluator.slots (evaluator_of b)) Filter (x Filter) (source_of b at.number Filter) (s Filter))
    ∙ (ap has_feature_cells (sym c.source-source.ensures) ∙ (sym c.has_feature_cells.ensures ∙ c.if-has_feature_cells.true)) in
    let same : [] ≡ common_asked x scene = sym (ap (λ b. if b then [] else filter_asked x scene None) own) in
    asks_same meaning [] (common_asked x scene) (kept_in b at.number) (kept_in b at.number) _
    c.args.steps.now c.args.steps.now same (none_asked meaning (kept_in b at.number) c.args.steps.now)

pub returns-clause-asks : goal.returns-clause-asks
returns-clause-asks g c = λ x meaning s right meant.
    let at = c.args.at.now in
    let b = c.args.self.now.buckets in
    let scene = scene_seen g.V.TextTests.tests at.scene.now in
    let own : has_own_cells (x Filter) ≡ false =
    sym (own_cells_same (g.E.CountedEvaluator.slots (evaluator_of b)) Filter (x Filter) (source_of b at.number Filter) (s Filter))
    ∙ (ap has_feature_cells (sym c.source-source.ensures) ∙ (sym c.has_feature_cells.ensures ∙ c.if-has_feature_cells.false)) in
    let one = filter_asked x scene None in
    let common = common_asked x scene in
    let same : one ≡ common = sym (ap (λ b. if b then [] else one) own) in
    asks_same meaning one common (kept_in b at.number) (kept_in c.ask_filter.new.self.buckets at.number) c.ask_filter.result
    c.args.steps.now c.ask_filter.new.steps same (c.ask_filter.ensures.asks x meaning s right (meant_same meaning one common same meant))
