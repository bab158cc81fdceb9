use Rattle.std.proofs.Common.{rules, ◌≡◌, ◌∙◌, ◌∷◌, ℕ, [], ap, arith, refl, sym}
use Rattle.style_layout.specs.CodeView.{feature_seen}
use Rattle.style_layout.specs.Shown.{those_shown, with_state}
use Rattle.style_layout.specs.Walk.{features_left}
use Rattle.tile_reader.specs.declared.tile.Feature.{Feature}
use Rattle.bare_listing.specs.Costs.{each_cost, feature_cost, nodes_by, one_of}
use Rattle.bare_listing.specs.SeenLayer.{layer_in, lines_of, scene_in, slots_in, sources_in}
use Rattle.bare_listing.proofs.ListingLaws.{lines_left}
use Rattle.text_pieces.proofs.PieceLaws.{begins_as, breaks_off, ends, goes_on, lacks, left_is, waits}
use Rattle.bare_listing.proofs.bare_layer.BareLayer.write_as_listed.Goals as goal

pub loop-found-preserved : goal.loop-found-preserved
loop-found-preserved g c =
    let l = c.args.self.now in
    let scene = scene_in g.V.TextTests.tests l in
    let layer = layer_in l in
    let nodes = nodes_by (slots_in g.E.CountedEvaluator.slots l) in
    let i = c.loop-found.invariant in
    let left = features_left c.loop-found.features in
    let rest = features_left c.next.new.self in
    let nf : ℕ × Feature = (c.in-Some.found.0, c.in-Some.found.1.now) in
    let is : left ≡ nf ∷ rest = c.in-Some.ensures.left in
    let f = feature_seen c.with_state-feature.result in
    let same : f ≡ with_state scene layer nf = c.with_state-feature.ensures in
    let e = c.in_ok-more.ensures in
    let own_number = e.number ∙ ap (feature_cost one_of (sources_in l) scene layer) same in
    let own_nodes = ap (feature_cost nodes (sources_in l) scene layer) same in
    let all_number = ap (each_cost one_of (sources_in l) scene layer) is in
    let all_nodes = ap (each_cost nodes (sources_in l) scene layer) is in
    record {
      text = goes_on g.O.Sink.held g.O.Sink.faults c.args.pieces.now _ _ [] _ _ c.in_ok-pour_piece.ensures
          (waits g.O.Sink.held g.O.Sink.faults c.args.pieces.now c.loop-found.pieces _ _ _ _ refl e.lines
          (left_is g.O.Sink.held g.O.Sink.faults c.args.pieces.now c.loop-found.pieces _ _ _
          (lines_left scene layer nf left rest f is same) i.text));
      few = c.next.ensures.few;
      typed = λ h. absurd (let none = sym is ∙ i.typed h in cc);
      number = omega (arith, c.in_ok-number.ensures, own_number, all_number, i.number);
      least = omega (arith, c.in_ok-number.ensures, e.least, i.least);
      most = omega (arith, own_nodes, all_nodes, e.most, i.most);
    }

pub returns-in_err-more-clause-text : goal.returns-in_err-more-clause-text
returns-in_err-more-clause-text g c =
    lacks g.O.Sink.held g.O.Sink.faults c.from_residual.result c.args.pieces.now c.loop-found.pieces _ _ _
    c.from_residual.ensures.1 refl c.loop-found.invariant.text

pub returns-in_err-number-clause-text : goal.returns-in_err-number-clause-text
returns-in_err-number-clause-text g c =
    lacks g.O.Sink.held g.O.Sink.faults c.from_residual-in_err-number.result c.args.pieces.now c.loop-found.pieces _ _ _
    c.from_residual-in_err-number.ensures.1 refl c.loop-found.invariant.text

pub returns-in_err-pour_piece-clause-text : goal.returns-in_err-pour_piece-clause-text
returns-in_err-pour_piece-clause-text g c =
    let l = c.args.self.now in
    let scene = scene_in g.V.TextTests.tests l in
    let layer = layer_in l in
    let i = c.loop-found.invariant in
    let left = features_left c.loop-found.features in
    let rest = features_left c.next.new.self in
    let nf : ℕ × Feature = (c.in-Some.found.0, c.in-Some.found.1.now) in
    let is : left ≡ nf ∷ rest = c.in-Some.ensures.left in
    let f = feature_seen c.with_state-feature.result in
    let same : f ≡ with_state scene layer nf = c.with_state-feature.ensures in
    let e = c.in_ok-more.ensures in
    breaks_off g.O.Sink.held g.O.Sink.faults c.from_residual-in_err-pour_piece.result c.args.pieces.now _ c.pour_piece.new.self [] _ _
    c.from_residual-in_err-pour_piece.ensures.1 c.in_err-pour_piece.ensures
    (waits g.O.Sink.held g.O.Sink.faults c.args.pieces.now c.loop-found.pieces _ _ _ _ refl e.lines
    (left_is g.O.Sink.held g.O.Sink.faults c.args.pieces.now c.loop-found.pieces _ _ _
    (lines_left scene layer nf left rest f is same) i.text))

pub returns-clause-text : goal.returns-clause-text
returns-clause-text g c =
    let l = c.args.self.now in
    let scene = scene_in g.V.TextTests.tests l in
    let layer = layer_in l in
    ends g.O.Sink.held g.O.Sink.faults c.args.pieces.now c.loop-found.pieces _
    (left_is g.O.Sink.held g.O.Sink.faults c.args.pieces.now c.loop-found.pieces _ [] _
    (ap (λ nfs. lines_of scene layer (those_shown scene layer nfs)) c.in_default.ensures.left) c.loop-found.invariant.text)

pub loop-found-init : goal.loop-found-init
loop-found-init g c =
    let l = c.args.self.now in
    let scene = scene_in g.V.TextTests.tests l in
    let layer = layer_in l in
    let first = c.new-features.ensures.left in
    let nodes = ap (each_cost (nodes_by (slots_in g.E.CountedEvaluator.slots l)) (sources_in l) scene layer) first in
    let number = ap (each_cost one_of (sources_in l) scene layer) first in
    record {
      text = begins_as g.O.Sink.held g.O.Sink.faults c.args.pieces.now _ _
          (ap (λ nfs. lines_of scene layer (those_shown scene layer nfs)) first);
      few = c.new-features.ensures.few;
      typed = search rules;
      number = omega (arith, number);
      least = omega arith;
      most = omega (arith, nodes);
    }
