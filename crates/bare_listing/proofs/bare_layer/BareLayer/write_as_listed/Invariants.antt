use Rattle.std.proofs.Common.{◌≡◌, ◌+◌, ◌≤◌, [], false, length}
use Rattle.style_layout.specs.Layers.{has_features}
use Rattle.style_layout.specs.Shown.{layer_features, numbered, shown_features, those_shown}
use Rattle.style_layout.specs.Walk.{HasFewLeft, features_left}
use Rattle.bare_listing.specs.Costs.{each_cost, nodes_by, one_of}
use Rattle.bare_listing.specs.SeenLayer.{layer_in, lines_of, scene_in, slots_in, sources_in, tiles_in}
use Rattle.text_pieces.proofs.PieceLaws.{IsAdding}
use Rattle.bare_listing.proofs.bare_layer.BareLayer.write_as_listed.Given as goal

abbrev pub invariant-loop-found : goal.invariant-loop-found
invariant-loop-found g l =
    let scene = scene_in g.V.TextTests.tests l.self in
    let layer = layer_in l.self in
    let nodes = each_cost (nodes_by (slots_in g.E.CountedEvaluator.slots l.self)) (sources_in l.self) scene layer in
    let number = each_cost one_of (sources_in l.self) scene layer in
    let all = numbered 0 (layer_features (tiles_in l.self) layer) in
    let left = features_left l.features in
    record {
      text : IsAdding g.O.Sink.held g.O.Sink.faults l.fn.pieces l.pieces (lines_of scene layer (those_shown scene layer left))
          (lines_of scene layer (shown_features scene layer (tiles_in l.self)));
      few : HasFewLeft l.features;
      typed : has_features layer.type ≡ false → left ≡ [];
      number : l.number + number left ≡ number all;
      least : l.fn.steps + l.number ≤ l.steps;
      most : l.steps + nodes left ≤ l.fn.steps + nodes all;
    }

abbrev pub decreases-loop-found : goal.decreases-loop-found
decreases-loop-found g l = length (features_left l.features)
