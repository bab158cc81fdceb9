use Rattle.std.proofs.Common.{◌≡◌, ◌∙◌, List, [], ap, arith, refl, map, subst, sym}
use Rattle.style_layout.specs.Shown.{goes_before, layer_features, numbered, shown_features}
use Rattle.bare_listing.specs.Costs.{keys_cost, nodes_by, one_of, rests_cost}
use Rattle.bare_listing.specs.SeenLayer.{AreKeyed, feature_of, layer_in, lines_of, property_in, scene_in, slots_in, sources_in, tiles_in}
use Rattle.bare_listing.specs.declared.feature_order.PassedFeature.{PassedFeature}
use Rattle.bare_listing.proofs.CostLaws.{sorted_cost}
use Rattle.bare_listing.proofs.OrderLaws.{in_key_order, place_gives, sorted_keyed}
use Rattle.text_pieces.proofs.PieceLaws.{added, begins_as, breaks_last, ends, lacks, lacks_at_first}
use Rattle.bare_listing.proofs.bare_layer.BareLayer.write_in_order.Goals as goal

pub keyed_features-requires-clause-slot : goal.keyed_features-requires-clause-slot
keyed_features-requires-clause-slot g c =
    let l = c.args.self.now in
    let sort = c.args.sort.now in
    (place_gives (scene_in g.V.TextTests.tests l) (slots_in g.E.CountedEvaluator.slots l) (layer_in l) (sources_in l) sort.place
    (property_in l sort.property.now) c.requires.given.values c.requires.sorts.place sort.source c.requires.sorts.source).0

pub returns-in_err-keyed-clause-most : goal.returns-in_err-keyed-clause-most
returns-in_err-keyed-clause-most g c =
    let l = c.args.self.now in
    let scene = scene_in g.V.TextTests.tests l in
    let sort = c.args.sort.now in
    let p = property_in l sort.property.now in
    let all = numbered 0 (layer_features (tiles_in l) (layer_in l)) in
    let whole = sorted_cost (nodes_by (slots_in g.E.CountedEvaluator.slots l)) (sources_in l) scene (layer_in l) sort.source sort.place p
    c.requires.sorts.place c.requires.sorts.own c.requires.sorts.source (goes_before scene p) all in
    let most = c.keyed_features.ensures.most in
    omega (arith, whole, most)

pub returns-in_err-put_in_order-clause-most : goal.returns-in_err-put_in_order-clause-most
returns-in_err-put_in_order-clause-most g c =
    let l = c.args.self.now in
    let scene = scene_in g.V.TextTests.tests l in
    let sort = c.args.sort.now in
    let p = property_in l sort.property.now in
    let all = numbered 0 (layer_features (tiles_in l) (layer_in l)) in
    let whole = sorted_cost (nodes_by (slots_in g.E.CountedEvaluator.slots l)) (sources_in l) scene (layer_in l) sort.source sort.place p
    c.requires.sorts.place c.requires.sorts.own c.requires.sorts.source (goes_before scene p) all in
    let most = c.keyed_features.ensures.most in
    omega (arith, whole, most)

pub write_keyed-requires-clause-keyed : goal.write_keyed-requires-clause-keyed
write_keyed-requires-clause-keyed g c =
    let l = c.args.self.now in
    let scene = scene_in g.V.TextTests.tests l in
    let slots = slots_in g.E.CountedEvaluator.slots l in
    let sort = c.args.sort.now in
    let p = property_in l sort.property.now in
    let gives = place_gives scene slots (layer_in l) (sources_in l) sort.place p c.requires.given.values c.requires.sorts.place
    sort.source c.requires.sorts.source in
    let sorted = c.as_slice.ensures.value ∙ c.in_ok-put_in_order.ensures in
    subst (λ (ks : List PassedFeature). AreKeyed scene slots sort.source ks) (sym sorted)
    (sorted_keyed scene slots sort.source p gives c.in_ok-keyed.keyed.items (shown_features scene (layer_in l) (tiles_in l))
    c.in_ok-keyed.ensures.keyed)

pub returns-in_err-others-clause-most : goal.returns-in_err-others-clause-most
returns-in_err-others-clause-most g c =
    let l = c.args.self.now in
    let scene = scene_in g.V.TextTests.tests l in
    let slots = slots_in g.E.CountedEvaluator.slots l in
    let sort = c.args.sort.now in
    let p = property_in l sort.property.now in
    let all = numbered 0 (layer_features (tiles_in l) (layer_in l)) in
    let gives = place_gives scene slots (layer_in l) (sources_in l) sort.place p c.requires.given.values c.requires.sorts.place
    sort.source c.requires.sorts.source in
    let features = ap (map feature_of) (c.as_slice.ensures.value ∙ c.in_ok-put_in_order.ensures)
    ∙ in_key_order scene slots sort.source p gives c.in_ok-keyed.keyed.items (shown_features scene (layer_in l) (tiles_in l))
    c.in_ok-keyed.ensures.keyed in
    let rests = ap (rests_cost (nodes_by slots) (sources_in l) sort.place (layer_in l).properties) features in
    let whole = sorted_cost (nodes_by slots) (sources_in l) scene (layer_in l) sort.source sort.place p
    c.requires.sorts.place c.requires.sorts.own c.requires.sorts.source (goes_before scene p) all in
    let first = c.keyed_features.ensures.most in
    let most = c.write_keyed.ensures.most in
    omega (arith, whole, rests, first, most)

pub returns-in_err-sum_of-clause-most : goal.returns-in_err-sum_of-clause-most
returns-in_err-sum_of-clause-most g c =
    let l = c.args.self.now in
    let scene = scene_in g.V.TextTests.tests l in
    let slots = slots_in g.E.CountedEvaluator.slots l in
    let sort = c.args.sort.now in
    let p = property_in l sort.property.now in
    let all = numbered 0 (layer_features (tiles_in l) (layer_in l)) in
    let gives = place_gives scene slots (layer_in l) (sources_in l) sort.place p c.requires.given.values c.requires.sorts.place
    sort.source c.requires.sorts.source in
    let features = ap (map feature_of) (c.as_slice.ensures.value ∙ c.in_ok-put_in_order.ensures)
    ∙ in_key_order scene slots sort.source p gives c.in_ok-keyed.keyed.items (shown_features scene (layer_in l) (tiles_in l))
    c.in_ok-keyed.ensures.keyed in
    let rests = ap (rests_cost (nodes_by slots) (sources_in l) sort.place (layer_in l).properties) features in
    let whole = sorted_cost (nodes_by slots) (sources_in l) scene (layer_in l) sort.source sort.place p
    c.requires.sorts.place c.requires.sorts.own c.requires.sorts.source (goes_before scene p) all in
    let first = c.keyed_features.ensures.most in
    let most = c.write_keyed.ensures.most in
    omega (arith, whole, rests, first, most)

pub returns-clause-most : goal.returns-clause-most
returns-clause-most g c =
    let l = c.args.self.now in
    let scene = scene_in g.V.TextTests.tests l in
    let slots = slots_in g.E.CountedEvaluator.slots l in
    let sort = c.args.sort.now in
    let p = property_in l sort.property.now in
    let all = numbered 0 (layer_features (tiles_in l) (layer_in l)) in
    let gives = place_gives scene slots (layer_in l) (sources_in l) sort.place p c.requires.given.values c.requires.sorts.place
    sort.source c.requires.sorts.source in
    let features = ap (map feature_of) (c.as_slice.ensures.value ∙ c.in_ok-put_in_order.ensures)
    ∙ in_key_order scene slots sort.source p gives c.in_ok-keyed.keyed.items (shown_features scene (layer_in l) (tiles_in l))
    c.in_ok-keyed.ensures.keyed in
    let rests = ap (rests_cost (nodes_by slots) (sources_in l) sort.place (layer_in l).properties) features in
    let whole = sorted_cost (nodes_by slots) (sources_in l) scene (layer_in l) sort.source sort.place p
    c.requires.sorts.place c.requires.sorts.own c.requires.sorts.source (goes_before scene p) all in
    let first = c.keyed_features.ensures.most in
    let most = c.write_keyed.ensures.most in
    omega (arith, whole, rests, first, most)

pub returns-clause-number : goal.returns-clause-number
returns-clause-number g c =
    let l = c.args.self.now in
    let scene = scene_in g.V.TextTests.tests l in
    let slots = slots_in g.E.CountedEvaluator.slots l in
    let sort = c.args.sort.now in
    let p = property_in l sort.property.now in
    let all = numbered 0 (layer_features (tiles_in l) (layer_in l)) in
    let gives = place_gives scene slots (layer_in l) (sources_in l) sort.place p c.requires.given.values c.requires.sorts.place
    sort.source c.requires.sorts.source in
    let features = ap (map feature_of) (c.as_slice.ensures.value ∙ c.in_ok-put_in_order.ensures)
    ∙ in_key_order scene slots sort.source p gives c.in_ok-keyed.keyed.items (shown_features scene (layer_in l) (tiles_in l))
    c.in_ok-keyed.ensures.keyed in
    let rests = ap (rests_cost one_of (sources_in l) sort.place (layer_in l).properties) features in
    let whole = sorted_cost one_of (sources_in l) scene (layer_in l) sort.source sort.place p
    c.requires.sorts.place c.requires.sorts.own c.requires.sorts.source (goes_before scene p) all in
    let counted = c.in_ok-keyed.ensures.number in
    let first : c.keyed_features.new.number ≡ keys_cost one_of (sources_in l) scene (layer_in l) sort.source all = omega (arith, counted) in
    let others = c.in_ok-others.ensures.number ∙ rests in
    omega (arith, c.in_ok-sum_of.ensures, first, others, whole)

pub returns-in_err-keyed-clause-text : goal.returns-in_err-keyed-clause-text
returns-in_err-keyed-clause-text g c =
    lacks_at_first g.O.Sink.held g.O.Sink.faults c.from_residual.result c.args.pieces.now _ _ c.from_residual.ensures.1 refl

pub returns-in_err-put_in_order-clause-text : goal.returns-in_err-put_in_order-clause-text
returns-in_err-put_in_order-clause-text g c =
    lacks_at_first g.O.Sink.held g.O.Sink.faults c.from_residual-in_err-put_in_order.result c.args.pieces.now _ _ c.from_residual-in_err-put_in_order.ensures.1 refl

pub returns-in_err-others-clause-text : goal.returns-in_err-others-clause-text
returns-in_err-others-clause-text g c =
    let l = c.args.self.now in
    let scene = scene_in g.V.TextTests.tests l in
    let slots = slots_in g.E.CountedEvaluator.slots l in
    let sort = c.args.sort.now in
    let p = property_in l sort.property.now in
    let gives = place_gives scene slots (layer_in l) (sources_in l) sort.place p c.requires.given.values c.requires.sorts.place
    sort.source c.requires.sorts.source in
    let features = ap (map feature_of) (c.as_slice.ensures.value ∙ c.in_ok-put_in_order.ensures)
    ∙ in_key_order scene slots sort.source p gives c.in_ok-keyed.keyed.items (shown_features scene (layer_in l) (tiles_in l))
    c.in_ok-keyed.ensures.keyed in
    let lines = ap (lines_of scene (layer_in l)) features in
    breaks_last g.O.Sink.held g.O.Sink.faults c.from_residual-in_err-others.result c.args.pieces.now c.args.pieces.now c.write_keyed.new.pieces _ _
    c.from_residual-in_err-others.ensures.1 c.in_err-others.ensures.text (begins_as g.O.Sink.held g.O.Sink.faults c.args.pieces.now _ _ lines)

pub returns-in_err-sum_of-clause-text : goal.returns-in_err-sum_of-clause-text
returns-in_err-sum_of-clause-text g c =
    let l = c.args.self.now in
    let scene = scene_in g.V.TextTests.tests l in
    let slots = slots_in g.E.CountedEvaluator.slots l in
    let sort = c.args.sort.now in
    let p = property_in l sort.property.now in
    let gives = place_gives scene slots (layer_in l) (sources_in l) sort.place p c.requires.given.values c.requires.sorts.place
    sort.source c.requires.sorts.source in
    let features = ap (map feature_of) (c.as_slice.ensures.value ∙ c.in_ok-put_in_order.ensures)
    ∙ in_key_order scene slots sort.source p gives c.in_ok-keyed.keyed.items (shown_features scene (layer_in l) (tiles_in l))
    c.in_ok-keyed.ensures.keyed in
    let lines = ap (lines_of scene (layer_in l)) features in
    lacks g.O.Sink.held g.O.Sink.faults c.from_residual-in_err-sum_of.result c.args.pieces.now c.write_keyed.new.pieces c.write_keyed.new.pieces [] _
    c.from_residual-in_err-sum_of.ensures.1 refl
    (added g.O.Sink.held g.O.Sink.faults c.args.pieces.now c.args.pieces.now c.write_keyed.new.pieces _ _ c.in_ok-others.ensures.text
    (begins_as g.O.Sink.held g.O.Sink.faults c.args.pieces.now _ _ lines))

pub returns-clause-text : goal.returns-clause-text
returns-clause-text g c =
    let l = c.args.self.now in
    let scene = scene_in g.V.TextTests.tests l in
    let slots = slots_in g.E.CountedEvaluator.slots l in
    let sort = c.args.sort.now in
    let p = property_in l sort.property.now in
    let gives = place_gives scene slots (layer_in l) (sources_in l) sort.place p c.requires.given.values c.requires.sorts.place
    sort.source c.requires.sorts.source in
    let features = ap (map feature_of) (c.as_slice.ensures.value ∙ c.in_ok-put_in_order.ensures)
    ∙ in_key_order scene slots sort.source p gives c.in_ok-keyed.keyed.items (shown_features scene (layer_in l) (tiles_in l))
    c.in_ok-keyed.ensures.keyed in
    let lines = ap (lines_of scene (layer_in l)) features in
    ends g.O.Sink.held g.O.Sink.faults c.args.pieces.now c.write_keyed.new.pieces _
    (added g.O.Sink.held g.O.Sink.faults c.args.pieces.now c.args.pieces.now c.write_keyed.new.pieces _ _ c.in_ok-others.ensures.text
    (begins_as g.O.Sink.held g.O.Sink.faults c.args.pieces.now _ _ lines))
