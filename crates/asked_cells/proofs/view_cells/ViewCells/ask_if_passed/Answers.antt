use Rattle.std.proofs.Common.{◌≡◌, ◌∙◌, ◌++◌, Some, Bool, Ok, refl, sym, ap, subst}
use Rattle.style_layout.specs.CodeView.{feature_seen, scene_seen}
use Rattle.asked_cells.proofs.AskLaws.{asks_same, both_asked, first_stops, meant_first, meant_same, meant_then, second_right, second_stops}
use Rattle.asked_cells.proofs.SourceLaws.{expressions_on, feature_on, leaves_then, slots_on}
use Rattle.asked_cells.specs.Asked.{feature_asked, filter_asked, passed_asked}
use Rattle.asked_cells.specs.Asking.{passes_by}
use Rattle.asked_cells.specs.Counted.{AreMeant, Asks, kept_in}
use Rattle.asked_cells.proofs.FeatureLaws.{own_feature, own_shown}
use Rattle.style_layout.specs.Shown.{is_shown}
use Rattle.std.specs.declared.alloc.AllocError.{AllocError}
use Rattle.asked_cells.specs.SeenCells.{layer_at}
use Rattle.asked_cells.proofs.view_cells.ViewCells.ask_if_passed.Goals as goal

pub ask_passed-requires-clause-slots : goal.ask_passed-requires-clause-slots
ask_passed-requires-clause-slots g c = slots_on g.E.CountedEvaluator.slots c.args.at.now.number
    c.args.self.now.buckets c.ask_filter.new.self.buckets c.ask_filter.ensures.sources c.requires.slots

pub ask_passed-requires-clause-feature : goal.ask_passed-requires-clause-feature
ask_passed-requires-clause-feature g c = feature_on c.args.at.now.number c.args.self.now.buckets
    c.ask_filter.new.self.buckets
    (Some c.args.feature.now.number) c.ask_filter.ensures.sources c.requires.feature

pub returns-in_err-first-clause-asks : goal.returns-in_err-first-clause-asks
returns-in_err-first-clause-asks g c = λ x meaning s right answer meant_all.
    let scene = scene_seen g.V.TextTests.tests c.args.at.now.scene.now in
    let n = c.args.at.now.number in
    let layer = layer_at c.args.at.now in
    let f = feature_seen c.args.feature.now in
    let xs = filter_asked x scene (Some f) in
    let ys = passed_asked x scene (is_shown scene layer f) f layer.properties in
    let whole : xs ++ ys ≡ feature_asked x scene layer f = own_feature x scene layer f (is_shown scene layer f) answer.0 refl in
    let meant = meant_same meaning (xs ++ ys) (feature_asked x scene layer f) whole meant_all in
    let old = kept_in c.args.self.now.buckets n in
    let mid = kept_in c.ask_filter.new.self.buckets n in
    asks_same meaning (xs ++ ys) (feature_asked x scene layer f) old mid _ c.args.steps.now c.ask_filter.new.steps whole
    (first_stops meaning xs ys old mid mid c.args.steps.now c.ask_filter.new.steps c.ask_filter.new.steps right meant c.ask_filter.result c.from_residual.result c.from_residual.ensures.0
    (c.ask_filter.ensures.asks x meaning s right (meant_first meaning xs ys meant)))

pub returns-in_err-others-clause-sources : goal.returns-in_err-others-clause-sources
returns-in_err-others-clause-sources g c =
    leaves_then c.args.at.now.number c.args.self.now.buckets c.ask_filter.new.self.buckets
    c.ask_passed.new.self.buckets c.ask_filter.ensures.sources c.ask_passed.ensures.sources

pub returns-in_err-others-clause-asks : goal.returns-in_err-others-clause-asks
returns-in_err-others-clause-asks g c = λ x meaning s right answer meant_all.
    let scene = scene_seen g.V.TextTests.tests c.args.at.now.scene.now in
    let n = c.args.at.now.number in
    let layer = layer_at c.args.at.now in
    let f = feature_seen c.args.feature.now in
    let xs = filter_asked x scene (Some f) in
    let ys = passed_asked x scene (is_shown scene layer f) f layer.properties in
    let whole : xs ++ ys ≡ feature_asked x scene layer f = own_feature x scene layer f (is_shown scene layer f) answer.0 refl in
    let meant = meant_same meaning (xs ++ ys) (feature_asked x scene layer f) whole meant_all in
    let old = kept_in c.args.self.now.buckets n in
    let mid = kept_in c.ask_filter.new.self.buckets n in
    let new = kept_in c.ask_passed.new.self.buckets n in
    let on = expressions_on g.E.CountedEvaluator.slots n x c.args.self.now.buckets c.ask_filter.new.self.buckets c.ask_filter.ensures.sources s in
    let a = c.in_ok-first.ensures.asks x meaning s right (meant_first meaning xs ys meant) in
    let mid_right = second_right meaning xs ys old mid mid c.args.steps.now c.ask_filter.new.steps c.ask_filter.new.steps right meant c.in_ok-first.first a in
    let shown : is_shown scene layer f ≡ c.is_passed-passes.result =
    own_shown x scene layer meaning old mid c.in_ok-first.first c.args.steps.now c.ask_filter.new.steps f answer
    (meant_first meaning xs ys meant) a.ok ∙ sym (c.is_passed-passes.ensures ∙ ap passes_by c.value.ensures) in
    let passed = λ (p : Bool). passed_asked x scene p f layer.properties in
    let passed_meant = subst (λ p. AreMeant meaning (passed p)) shown (meant_then meaning xs ys meant) in
    let before = c.args.steps.now in
    let between = c.ask_filter.new.steps in
    let after = c.ask_passed.new.steps in
    asks_same meaning (xs ++ ys) (feature_asked x scene layer f) old new _ before after whole
    (second_stops meaning xs ys old mid new before between after right meant c.in_ok-first.first c.ask_passed.result c.from_residual-in_err-others.result
    c.from_residual-in_err-others.ensures.0 a
    (subst (λ p. Asks meaning (passed p) mid new c.ask_passed.result between after) (sym shown)
    (c.ask_passed.ensures.asks x meaning on mid_right passed_meant)))

pub returns-clause-sources : goal.returns-clause-sources
returns-clause-sources g c = leaves_then c.args.at.now.number c.args.self.now.buckets
    c.ask_filter.new.self.buckets c.ask_passed.new.self.buckets c.ask_filter.ensures.sources
    c.ask_passed.ensures.sources

pub returns-clause-asks : goal.returns-clause-asks
returns-clause-asks g c = λ x meaning s right answer meant_all.
    let scene = scene_seen g.V.TextTests.tests c.args.at.now.scene.now in
    let n = c.args.at.now.number in
    let layer = layer_at c.args.at.now in
    let f = feature_seen c.args.feature.now in
    let xs = filter_asked x scene (Some f) in
    let ys = passed_asked x scene (is_shown scene layer f) f layer.properties in
    let whole : xs ++ ys ≡ feature_asked x scene layer f = own_feature x scene layer f (is_shown scene layer f) answer.0 refl in
    let meant = meant_same meaning (xs ++ ys) (feature_asked x scene layer f) whole meant_all in
    let old = kept_in c.args.self.now.buckets n in
    let mid = kept_in c.ask_filter.new.self.buckets n in
    let new = kept_in c.ask_passed.new.self.buckets n in
    let on = expressions_on g.E.CountedEvaluator.slots n x c.args.self.now.buckets c.ask_filter.new.self.buckets c.ask_filter.ensures.sources s in
    let a = c.in_ok-first.ensures.asks x meaning s right (meant_first meaning xs ys meant) in
    let mid_right = second_right meaning xs ys old mid mid c.args.steps.now c.ask_filter.new.steps c.ask_filter.new.steps right meant c.in_ok-first.first a in
    let shown : is_shown scene layer f ≡ c.is_passed-passes.result =
    own_shown x scene layer meaning old mid c.in_ok-first.first c.args.steps.now c.ask_filter.new.steps f answer
    (meant_first meaning xs ys meant) a.ok ∙ sym (c.is_passed-passes.ensures ∙ ap passes_by c.value.ensures) in
    let passed = λ (p : Bool). passed_asked x scene p f layer.properties in
    let passed_meant = subst (λ p. AreMeant meaning (passed p)) shown (meant_then meaning xs ys meant) in
    let before = c.args.steps.now in
    let between = c.ask_filter.new.steps in
    let after = c.ask_passed.new.steps in
    asks_same meaning (xs ++ ys) (feature_asked x scene layer f) old new c.sum_of.result before after whole
    (both_asked meaning xs ys old mid new before between after right meant c.in_ok-first.first c.in_ok-others.others c.sum_of.result a
    (subst (λ p. Asks meaning {X = AllocError} (passed p) mid new (Ok c.in_ok-others.others) between after) (sym shown)
    (c.in_ok-others.ensures.asks x meaning on mid_right passed_meant)) c.sum_of.ensures)
