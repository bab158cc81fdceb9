use Rattle.std.proofs.Common.{◌≡◌, ◌++◌, ◌+◌, ◌≤◌, [], false, length, map}
use Rattle.style_layout.specs.Layers.{has_features}
use Rattle.style_layout.specs.Shown.{layer_features, numbered, shown_features, those_shown}
use Rattle.style_layout.specs.Walk.{HasFewLeft, features_left}
use Rattle.bare_listing.specs.Costs.{keys_cost, nodes_by, one_of}
use Rattle.bare_listing.specs.SeenLayer.{keyed_seen, layer_in, scene_in, slots_in, sources_in, tiles_in, with_given}
use Rattle.bare_listing.proofs.bare_layer.BareLayer.keyed_features.Given as goal

abbrev pub invariant-loop-found : goal.invariant-loop-found
invariant-loop-found g l =
    let scene = scene_in g.V.TextTests.tests l.self in
    let layer = layer_in l.self in
    let slots = slots_in g.E.CountedEvaluator.slots l.self in
    let s = l.sort.source in
    let nodes = keys_cost (nodes_by slots) (sources_in l.self) scene layer s in
    let number = keys_cost one_of (sources_in l.self) scene layer s in
    let all = numbered 0 (layer_features (tiles_in l.self) layer) in
    let left = features_left l.features in
    record {
      keyed : map keyed_seen l.keyed.items ++ map (with_given scene slots s) (those_shown scene layer left)
          ≡ map (with_given scene slots s) (shown_features scene layer (tiles_in l.self));
      few : HasFewLeft l.features;
      typed : has_features layer.type ≡ false → left ≡ [];
      number : l.number + number left ≡ l.fn.number + number all;
      least : l.fn.steps + l.number ≤ l.steps + l.fn.number;
      most : l.steps + nodes left ≤ l.fn.steps + nodes all;
    }

abbrev pub decreases-loop-found : goal.decreases-loop-found
decreases-loop-found g l = length (features_left l.features)
