use Rattle.std.proofs.Common.{◌≡◌, ◌∙◌, ◌+◌, List, [], ◌∷◌, ◌++◌, drop, map, refl, ap, sym}
use Rattle.std.proofs.lemmas.List.{drop_all, drop_more}
use Rattle.style_layout.specs.CodeView.{scene_seen}
use Rattle.style_layout.specs.declared.properties.Property.{Property}
use Rattle.asked_cells.specs.Asked.{value_asked, values_asked}
use Rattle.asked_cells.specs.SeenCells.{cell_feature, property_at}
use Rattle.asked_cells.specs.Counted.{kept_in}
use Rattle.asked_cells.proofs.AskLaws.{all_asked, all_remain, first_meant, remain_same, some_asked, stops, stops_within}
use Rattle.asked_cells.proofs.SourceLaws.{expressions_on, feature_on, leaves_all, leaves_then, slots_on}
use Rattle.asked_cells.proofs.view_cells.ViewCells.ask_listed.Goals as goal

pub loop-property-init : goal.loop-property-init
loop-property-init g c = record {
  sound = c.requires.sound;
  sources = leaves_all c.args.at.now.number c.args.self.now.buckets;
  asks = λ x meaning s right meant. all_remain meaning
      (values_asked x (scene_seen g.V.TextTests.tests c.args.at.now.scene.now) (cell_feature c.args.feature)
      (map (property_at c.args.at.now) c.args.properties.now)) (kept_in c.args.self.now.buckets c.args.at.now.number) c.args.steps.now right meant;
}

pub ask_value-requires-clause-slots : goal.ask_value-requires-clause-slots
ask_value-requires-clause-slots g c = slots_on g.E.CountedEvaluator.slots c.args.at.now.number
    c.args.self.now.buckets c.loop-property.self.buckets c.loop-property.invariant.sources c.requires.slots

pub ask_value-requires-clause-feature : goal.ask_value-requires-clause-feature
ask_value-requires-clause-feature g c = feature_on c.args.at.now.number c.args.self.now.buckets
    c.loop-property.self.buckets _
    c.loop-property.invariant.sources c.requires.feature

pub loop-property-preserved : goal.loop-property-preserved
loop-property-preserved g c =
    let scene = scene_seen g.V.TextTests.tests c.args.at.now.scene.now in
    let n = c.args.at.now.number in
    let feature = cell_feature c.args.feature in
    let first = c.args.self.now.buckets in
    let now = c.loop-property.self.buckets in
    let new = c.ask_value.new.self.buckets in
    let i = c.loop-property.property-index in
    let ps = c.args.properties.now in
    let p = c.property-item.result in
    let split : drop i ps ≡ p ∷ drop (i + 1) ps =
    drop_more ps i p c.loop-property-test.true ∙ ap (λ x. x ∷ drop (i + 1) ps) (sym c.property-item.is) in
    record {
      sound = c.ask_value.ensures.sound;
      sources = leaves_then n first now new c.loop-property.invariant.sources c.ask_value.ensures.sources;
      asks = λ x meaning s right meant.
          let asked = λ (xs : List Property). values_asked x scene feature (map (property_at c.args.at.now) xs) in
          let one = value_asked x scene feature (property_at c.args.at.now p) in
          let left = remain_same meaning (asked (drop i ps)) (one ++ asked (drop (i + 1) ps)) (asked ps) (kept_in first n) (kept_in now n)
          c.loop-property.number c.args.steps.now c.loop-property.steps (ap asked split)
          (c.loop-property.invariant.asks x meaning s right meant) in
          some_asked meaning one (asked (drop (i + 1) ps)) (asked ps) (kept_in first n) (kept_in now n) (kept_in new n)
          c.loop-property.number c.args.steps.now c.loop-property.steps c.ask_value.new.steps left c.in_ok-more.more c.in_ok-number.number
          (c.in_ok-more.ensures.asks x meaning (expressions_on g.E.CountedEvaluator.slots n x first now c.loop-property.invariant.sources s) left.right
          (first_meant meaning one (asked (drop (i + 1) ps)) (asked ps) (kept_in first n) (kept_in now n) (kept_in new n)
          c.loop-property.number c.args.steps.now c.loop-property.steps c.ask_value.new.steps left)) c.in_ok-number.ensures;
    }

pub returns-in_err-more-clause-sources : goal.returns-in_err-more-clause-sources
returns-in_err-more-clause-sources g c = leaves_then c.args.at.now.number c.args.self.now.buckets
    c.loop-property.self.buckets c.ask_value.new.self.buckets
    c.loop-property.invariant.sources c.ask_value.ensures.sources

pub returns-in_err-more-clause-asks : goal.returns-in_err-more-clause-asks
returns-in_err-more-clause-asks g c = λ x meaning s right meant.
    let scene = scene_seen g.V.TextTests.tests c.args.at.now.scene.now in
    let n = c.args.at.now.number in
    let feature = cell_feature c.args.feature in
    let first = c.args.self.now.buckets in
    let now = c.loop-property.self.buckets in
    let new = c.ask_value.new.self.buckets in
    let i = c.loop-property.property-index in
    let ps = c.args.properties.now in
    let p = c.property-item.result in
    let split : drop i ps ≡ p ∷ drop (i + 1) ps =
    drop_more ps i p c.loop-property-test.true ∙ ap (λ x. x ∷ drop (i + 1) ps) (sym c.property-item.is) in
    let asked = λ (xs : List Property). values_asked x scene feature (map (property_at c.args.at.now) xs) in
    let one = value_asked x scene feature (property_at c.args.at.now p) in
    let later = asked (drop (i + 1) ps) in
    let number = c.loop-property.number in
    let before = c.args.steps.now in
    let mid = c.loop-property.steps in
    let after = c.ask_value.new.steps in
    let remain = remain_same meaning (asked (drop i ps)) (one ++ later) (asked ps) (kept_in first n) (kept_in now n)
    number before mid (ap asked split) (c.loop-property.invariant.asks x meaning s right meant) in
    let on = expressions_on g.E.CountedEvaluator.slots n x first now c.loop-property.invariant.sources s in
    let own = first_meant meaning one later (asked ps) (kept_in first n) (kept_in now n) (kept_in new n) number before mid after remain in
    stops_within meaning one later (asked ps) (kept_in first n) (kept_in now n) (kept_in new n) number before mid after
    c.ask_value.result c.from_residual.result c.from_residual.ensures.0 remain (c.ask_value.ensures.asks x meaning on remain.right own)

pub returns-in_err-number-clause-sources : goal.returns-in_err-number-clause-sources
returns-in_err-number-clause-sources g c = leaves_then c.args.at.now.number c.args.self.now.buckets
    c.loop-property.self.buckets c.ask_value.new.self.buckets
    c.loop-property.invariant.sources c.ask_value.ensures.sources

pub returns-in_err-number-clause-asks : goal.returns-in_err-number-clause-asks
returns-in_err-number-clause-asks g c = λ x meaning s right meant.
    let scene = scene_seen g.V.TextTests.tests c.args.at.now.scene.now in
    let n = c.args.at.now.number in
    let feature = cell_feature c.args.feature in
    let first = c.args.self.now.buckets in
    let now = c.loop-property.self.buckets in
    let new = c.ask_value.new.self.buckets in
    let i = c.loop-property.property-index in
    let ps = c.args.properties.now in
    let p = c.property-item.result in
    let split : drop i ps ≡ p ∷ drop (i + 1) ps =
    drop_more ps i p c.loop-property-test.true ∙ ap (λ x. x ∷ drop (i + 1) ps) (sym c.property-item.is) in
    let asked = λ (xs : List Property). values_asked x scene feature (map (property_at c.args.at.now) xs) in
    let one = value_asked x scene feature (property_at c.args.at.now p) in
    let later = asked (drop (i + 1) ps) in
    let number = c.loop-property.number in
    let before = c.args.steps.now in
    let mid = c.loop-property.steps in
    let after = c.ask_value.new.steps in
    let remain = remain_same meaning (asked (drop i ps)) (one ++ later) (asked ps) (kept_in first n) (kept_in now n)
    number before mid (ap asked split) (c.loop-property.invariant.asks x meaning s right meant) in
    let on = expressions_on g.E.CountedEvaluator.slots n x first now c.loop-property.invariant.sources s in
    let own = first_meant meaning one later (asked ps) (kept_in first n) (kept_in now n) (kept_in new n) number before mid after remain in
    stops meaning later (asked ps) (kept_in first n) (kept_in new n) (number + c.in_ok-more.more) before after c.from_residual-in_err-number.result
    c.from_residual-in_err-number.ensures.0 (some_asked meaning one later (asked ps) (kept_in first n) (kept_in now n) (kept_in new n) number before mid after remain
    c.in_ok-more.more (number + c.in_ok-more.more) (c.in_ok-more.ensures.asks x meaning on remain.right own) refl)

pub returns-clause-asks : goal.returns-clause-asks
returns-clause-asks g c = λ x meaning s right meant.
    let scene = scene_seen g.V.TextTests.tests c.args.at.now.scene.now in
    let asked = λ (xs : List Property).
    values_asked x scene (cell_feature c.args.feature) (map (property_at c.args.at.now) xs) in
    let ps = c.args.properties.now in
    let i = c.loop-property.property-index in
    let first = kept_in c.args.self.now.buckets c.args.at.now.number in
    let now = kept_in c.loop-property.self.buckets c.args.at.now.number in
    all_asked meaning (asked ps) first now c.loop-property.number c.args.steps.now c.loop-property.steps
    (remain_same meaning (asked (drop i ps)) [] (asked ps) first now c.loop-property.number c.args.steps.now c.loop-property.steps
    (ap asked (drop_all i ps c.loop-property-test.false)) (c.loop-property.invariant.asks x meaning s right meant))
