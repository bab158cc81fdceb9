use Rattle.std.proofs.Common.{◌≡◌, ◌+◌, ◌≤◌, List, drop, map}
use Rattle.bare_listing.specs.Costs.{nodes_by, one_of, rests_cost}
use Rattle.bare_listing.specs.SeenLayer.{AreKeyed, feature_of, layer_in, lines_of, scene_in, slots_in, sources_in}
use Rattle.bare_listing.specs.declared.feature_order.PassedFeature.{PassedFeature}
use Rattle.text_pieces.proofs.PieceLaws.{IsAdding}
use Rattle.bare_listing.proofs.bare_layer.BareLayer.write_keyed.Given as goal

abbrev pub invariant-loop-one : goal.invariant-loop-one
invariant-loop-one g l =
    let scene = scene_in g.V.TextTests.tests l.self in
    let layer = layer_in l.self in
    let slots = slots_in g.E.CountedEvaluator.slots l.self in
    let lines = λ (ks : List PassedFeature). lines_of scene layer (map feature_of ks) in
    let nodes = λ (ks : List PassedFeature).
    rests_cost (nodes_by slots) (sources_in l.self) l.sort.place layer.properties (map feature_of ks) in
    let number = λ (ks : List PassedFeature). rests_cost one_of (sources_in l.self) l.sort.place layer.properties (map feature_of ks) in
    let left = drop l.one-index l.keyed in
    record {
      text : IsAdding g.O.Sink.held g.O.Sink.faults l.fn.pieces l.pieces (lines left) (lines l.keyed);
      keyed : AreKeyed scene slots l.sort.source left;
      number : l.number + number left ≡ number l.keyed;
      least : l.fn.steps + l.number ≤ l.steps;
      most : l.steps + nodes left ≤ l.fn.steps + nodes l.keyed;
    }
