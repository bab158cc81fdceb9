use Rattle.std.proofs.Common.{◌≡◌, ◌+◌, length, map}
use Rattle.style_layout.specs.CodeView.{layer_seen, tile_seen}
use Rattle.style_layout.specs.Shown.{layer_features}
use Rattle.style_layout.specs.Walk.{HasFewLeft, features_left}
use Rattle.asked_cells.proofs.view_cells.feature_count.Given as goal

abbrev pub invariant-loop-found : goal.invariant-loop-found
invariant-loop-found l = record {
  few : HasFewLeft l.features;
  counted : l.count + length (features_left l.features) ≡ length (layer_features (map tile_seen l.fn.tiles) (layer_seen l.fn.layer));
}

abbrev pub decreases-loop-found : goal.decreases-loop-found
decreases-loop-found l = length (features_left l.features)
