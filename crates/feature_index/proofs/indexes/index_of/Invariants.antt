use Rattle.std.proofs.Common.{◌≡◌, drop, length, map, take}
use Rattle.style_layout.specs.CodeView.{layer_seen, tile_seen}
use Rattle.style_layout.specs.Shown.{layer_features}
use Rattle.style_layout.specs.Walk.{HasFewLeft, features_left}
use Rattle.feature_index.specs.Ids.{IsIndexed}
use Rattle.feature_index.specs.Indexes.{ids_of}
use Rattle.feature_index.proofs.IndexLaws.{ids_left}
use Rattle.feature_index.proofs.indexes.index_of.Given as goal

abbrev pub invariant-loop-next : goal.invariant-loop-next
invariant-loop-next l = record {
  few : HasFewLeft l.features;
  indexed : IsIndexed l.index (take (length l.index.before.items) (ids_of (layer_features (map tile_seen l.fn.tiles) (layer_seen l.fn.layer))));
  left : ids_left (features_left l.features) ≡ drop (length l.index.before.items) (ids_of (layer_features (map tile_seen l.fn.tiles) (layer_seen l.fn.layer)));
}

abbrev pub decreases-loop-next : goal.decreases-loop-next
decreases-loop-next l = length (features_left l.features)
