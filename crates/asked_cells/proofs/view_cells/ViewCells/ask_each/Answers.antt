use Rattle.std.proofs.Common.{◌≡◌, ◌∙◌, ◌+◌, ℕ, List, [], ◌∷◌, ◌++◌, length, map, Option, Some, refl, ap, sym, subst, arith}
use Rattle.eval_face.specs.World.{state_of}
use Rattle.tile_reader.specs.declared.tile.Feature.{Feature}
use Rattle.layer_buckets.specs.LaidOut.{feature_count}
use Rattle.layer_buckets.specs.Seen.{HasFeature}
use Rattle.style_layout.specs.CodeView.{scene_seen, tile_seen}
use Rattle.style_layout.specs.Layers.{has_features}
use Rattle.style_layout.specs.Shown.{LayerFeature, layer_features, numbered, with_state}
use Rattle.style_layout.specs.Shown as shown
use Rattle.style_layout.specs.Walk.{features_left}
use Rattle.asked_cells.specs.Asked.{each_asked, feature_asked}
use Rattle.asked_cells.specs.Counted.{kept_in}
use Rattle.asked_cells.proofs.AskLaws.{all_asked, all_remain, first_meant, remain_same, some_asked, stops, stops_within}
use Rattle.asked_cells.proofs.FeatureLaws.{AreBelow, has_some, no_features, numbers_below}
use Rattle.asked_cells.proofs.SourceLaws.{expressions_on, feature_on, leaves_all, leaves_then, slots_on}
use Rattle.asked_cells.specs.SeenCells.{layer_at}
use Rattle.asked_cells.proofs.view_cells.ViewCells.ask_each.Goals as goal

pub new-features-requires : goal.new-features-requires
new-features-requires g c =
    let few = c.requires.sound.laid.rows c.args.at.now.number in
    let same = ap feature_count c.requires.features in
    omega (arith, few, same)

pub loop-found-init : goal.loop-found-init
loop-found-init g c =
    let at = c.args.at.now in
    let scene = scene_seen g.V.TextTests.tests at.scene.now in
    let layer = layer_at at in
    let all = numbered 0 (layer_features (map tile_seen c.args.tiles.now) layer) in
    let fs = layer_features (map tile_seen c.args.tiles.now) layer in
    let left = c.new-features.ensures.left in
    record {
      sound = c.requires.sound;
      sources = leaves_all at.number c.args.self.now.buckets;
      few = c.new-features.ensures.few;
      below = subst (λ nfs. AreBelow (length fs) nfs) (sym left) (numbers_below 0 (length fs) fs (omega arith));
      none = λ e. left ∙ no_features (map tile_seen c.args.tiles.now) layer e;
      asks = λ x meaning s right common meant.
          let asked = λ (nfs : List (ℕ × Feature)). each_asked x scene layer nfs in
          remain_same meaning (asked all) (asked (features_left c.new-features.result)) (asked all) (kept_in c.args.self.now.buckets at.number)
          (kept_in c.args.self.now.buckets at.number) 0 c.args.steps.now c.args.steps.now (sym (ap asked left))
          (all_remain meaning (asked all) (kept_in c.args.self.now.buckets at.number) c.args.steps.now right meant);
    }

pub ask_feature-requires-clause-slots : goal.ask_feature-requires-clause-slots
ask_feature-requires-clause-slots g c = slots_on g.E.CountedEvaluator.slots c.args.at.now.number
    c.args.self.now.buckets c.loop-found.self.buckets c.loop-found.invariant.sources c.requires.slots

pub ask_feature-requires-clause-feature : goal.ask_feature-requires-clause-feature
ask_feature-requires-clause-feature g c =
    let count = length (layer_features (map tile_seen c.args.tiles.now) (layer_at c.args.at.now)) in
    let found = c.in-Some.found in
    let below = (subst (λ nfs. AreBelow count nfs) c.in-Some.ensures.left c.loop-found.invariant.below).0 in
    feature_on c.args.at.now.number c.args.self.now.buckets c.loop-found.self.buckets (Some found.0) c.loop-found.invariant.sources
    (subst (λ (o : Option ℕ). HasFeature o (Some found.0)) (sym c.requires.features) (omega (arith, below)))

pub loop-found-preserved : goal.loop-found-preserved
loop-found-preserved g c =
    let at = c.args.at.now in
    let scene = scene_seen g.V.TextTests.tests at.scene.now in
    let layer = layer_at at in
    let all = numbered 0 (layer_features (map tile_seen c.args.tiles.now) layer) in
    let first = c.args.self.now.buckets in
    let now = c.loop-found.self.buckets in
    let new = c.ask_feature.new.self.buckets in
    let left = features_left c.loop-found.features in
    let later = features_left c.next.new.self in
    let found = c.in-Some.found in
    let split : left ≡ (found.0, found.1.now) ∷ later = c.in-Some.ensures.left in
    let count = length (layer_features (map tile_seen c.args.tiles.now) layer) in
    record {
      sound = c.ask_feature.ensures.sound;
      sources = leaves_then at.number first now new c.loop-found.invariant.sources c.ask_feature.ensures.sources;
      few = c.next.ensures.few;
      below = (subst (λ nfs. AreBelow count nfs) split c.loop-found.invariant.below).1;
      none = λ e. let typed = has_some (has_features layer.type) left later (found.0, found.1.now) c.loop-found.invariant.none split in
          absurd (cc);
      asks = λ x meaning s right common meant.
          let asked = λ (nfs : List (ℕ × Feature)). each_asked x scene layer nfs in
          let f : LayerFeature = record { number = found.0; feature = found.1.now; state = state_of c.state_of.result } in
          let one = feature_asked x scene layer f in
          let here : f ≡ with_state scene layer (found.0, found.1.now) =
          λ i. record { number = found.0; feature = found.1.now; state = (c.state_of.ensures ∙ ap (shown.state_of scene layer) c.get.ensures) i } in
          let next : asked left ≡ one ++ asked later =
          ap asked split ∙ ap (λ (h : LayerFeature). feature_asked x scene layer h ++ asked later) (sym here) in
          let n = c.loop-found.number in
          let before = c.args.steps.now in
          let mid = c.loop-found.steps in
          let after = c.ask_feature.new.steps in
          let remain = remain_same meaning (asked left) (one ++ asked later) (asked all) (kept_in first at.number) (kept_in now at.number) n before mid next
          (c.loop-found.invariant.asks x meaning s right common meant) in
          let on = expressions_on g.E.CountedEvaluator.slots at.number x first now c.loop-found.invariant.sources s in
          let typed = has_some (has_features layer.type) left later (found.0, found.1.now) c.loop-found.invariant.none split in
          let own = first_meant meaning one (asked later) (asked all) (kept_in first at.number) (kept_in now at.number) (kept_in new at.number) n before mid after remain in
          some_asked meaning one (asked later) (asked all) (kept_in first at.number) (kept_in now at.number) (kept_in new at.number) n before mid after remain
          c.in_ok-more.more c.in_ok-number.number
          (c.in_ok-more.ensures.asks x meaning on remain.right (common typed f) own) c.in_ok-number.ensures;
    }

pub returns-in_err-more-clause-sources : goal.returns-in_err-more-clause-sources
returns-in_err-more-clause-sources g c = leaves_then c.args.at.now.number c.args.self.now.buckets
    c.loop-found.self.buckets c.ask_feature.new.self.buckets
    c.loop-found.invariant.sources c.ask_feature.ensures.sources

pub returns-in_err-more-clause-asks : goal.returns-in_err-more-clause-asks
returns-in_err-more-clause-asks g c = λ x meaning s right common meant.
    let at = c.args.at.now in
    let scene = scene_seen g.V.TextTests.tests at.scene.now in
    let layer = layer_at at in
    let all = numbered 0 (layer_features (map tile_seen c.args.tiles.now) layer) in
    let first = c.args.self.now.buckets in
    let now = c.loop-found.self.buckets in
    let new = c.ask_feature.new.self.buckets in
    let left = features_left c.loop-found.features in
    let later = features_left c.next.new.self in
    let found = c.in-Some.found in
    let split : left ≡ (found.0, found.1.now) ∷ later = c.in-Some.ensures.left in
    let asked = λ (nfs : List (ℕ × Feature)). each_asked x scene layer nfs in
    let f : LayerFeature = record { number = found.0; feature = found.1.now; state = state_of c.state_of.result } in
    let one = feature_asked x scene layer f in
    let here : f ≡ with_state scene layer (found.0, found.1.now) =
    λ i. record { number = found.0; feature = found.1.now; state = (c.state_of.ensures ∙ ap (shown.state_of scene layer) c.get.ensures) i } in
    let next : asked left ≡ one ++ asked later =
    ap asked split ∙ ap (λ (h : LayerFeature). feature_asked x scene layer h ++ asked later) (sym here) in
    let n = c.loop-found.number in
    let before = c.args.steps.now in
    let mid = c.loop-found.steps in
    let after = c.ask_feature.new.steps in
    let remain = remain_same meaning (asked left) (one ++ asked later) (asked all) (kept_in first at.number) (kept_in now at.number) n before mid next
    (c.loop-found.invariant.asks x meaning s right common meant) in
    let on = expressions_on g.E.CountedEvaluator.slots at.number x first now c.loop-found.invariant.sources s in
    let typed = has_some (has_features layer.type) left later (found.0, found.1.now) c.loop-found.invariant.none split in
    let own = first_meant meaning one (asked later) (asked all) (kept_in first at.number) (kept_in now at.number) (kept_in new at.number) n before mid after remain in
    stops_within meaning one (asked later) (asked all) (kept_in first at.number) (kept_in now at.number) (kept_in new at.number) n before mid after
    c.ask_feature.result c.from_residual.result c.from_residual.ensures.0 remain (c.ask_feature.ensures.asks x meaning on remain.right (common typed f) own)

pub returns-in_err-number-clause-sources : goal.returns-in_err-number-clause-sources
returns-in_err-number-clause-sources g c = leaves_then c.args.at.now.number c.args.self.now.buckets
    c.loop-found.self.buckets c.ask_feature.new.self.buckets
    c.loop-found.invariant.sources c.ask_feature.ensures.sources

pub returns-in_err-number-clause-asks : goal.returns-in_err-number-clause-asks
returns-in_err-number-clause-asks g c = λ x meaning s right common meant.
    let at = c.args.at.now in
    let scene = scene_seen g.V.TextTests.tests at.scene.now in
    let layer = layer_at at in
    let all = numbered 0 (layer_features (map tile_seen c.args.tiles.now) layer) in
    let first = c.args.self.now.buckets in
    let now = c.loop-found.self.buckets in
    let new = c.ask_feature.new.self.buckets in
    let left = features_left c.loop-found.features in
    let later = features_left c.next.new.self in
    let found = c.in-Some.found in
    let split : left ≡ (found.0, found.1.now) ∷ later = c.in-Some.ensures.left in
    let asked = λ (nfs : List (ℕ × Feature)). each_asked x scene layer nfs in
    let f : LayerFeature = record { number = found.0; feature = found.1.now; state = state_of c.state_of.result } in
    let one = feature_asked x scene layer f in
    let here : f ≡ with_state scene layer (found.0, found.1.now) =
    λ i. record { number = found.0; feature = found.1.now; state = (c.state_of.ensures ∙ ap (shown.state_of scene layer) c.get.ensures) i } in
    let next : asked left ≡ one ++ asked later =
    ap asked split ∙ ap (λ (h : LayerFeature). feature_asked x scene layer h ++ asked later) (sym here) in
    let n = c.loop-found.number in
    let before = c.args.steps.now in
    let mid = c.loop-found.steps in
    let after = c.ask_feature.new.steps in
    let remain = remain_same meaning (asked left) (one ++ asked later) (asked all) (kept_in first at.number) (kept_in now at.number) n before mid next
    (c.loop-found.invariant.asks x meaning s right common meant) in
    let on = expressions_on g.E.CountedEvaluator.slots at.number x first now c.loop-found.invariant.sources s in
    let typed = has_some (has_features layer.type) left later (found.0, found.1.now) c.loop-found.invariant.none split in
    let own = first_meant meaning one (asked later) (asked all) (kept_in first at.number) (kept_in now at.number) (kept_in new at.number) n before mid after remain in
    stops meaning (asked later) (asked all) (kept_in first at.number) (kept_in new at.number) (n + c.in_ok-more.more) before after c.from_residual-in_err-number.result
    c.from_residual-in_err-number.ensures.0 (some_asked meaning one (asked later) (asked all) (kept_in first at.number) (kept_in now at.number) (kept_in new at.number) n before mid after remain
    c.in_ok-more.more (n + c.in_ok-more.more)
    (c.in_ok-more.ensures.asks x meaning on remain.right (common typed f) own) refl)

pub returns-clause-asks : goal.returns-clause-asks
returns-clause-asks g c = λ x meaning s right common meant.
    let at = c.args.at.now in
    let scene = scene_seen g.V.TextTests.tests at.scene.now in
    let layer = layer_at at in
    let all = numbered 0 (layer_features (map tile_seen c.args.tiles.now) layer) in
    let asked = λ (nfs : List (ℕ × Feature)). each_asked x scene layer nfs in
    let left = features_left c.loop-found.features in
    let none : left ≡ [] = c.in_default.ensures.left in
    all_asked meaning (asked all) (kept_in c.args.self.now.buckets at.number) (kept_in c.loop-found.self.buckets at.number) c.loop-found.number
    c.args.steps.now c.loop-found.steps (remain_same meaning (asked left) [] (asked all) (kept_in c.args.self.now.buckets at.number)
    (kept_in c.loop-found.self.buckets at.number) c.loop-found.number c.args.steps.now c.loop-found.steps (ap asked none)
    (c.loop-found.invariant.asks x meaning s right common meant))
