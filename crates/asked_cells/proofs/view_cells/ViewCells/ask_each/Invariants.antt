use Rattle.std.proofs.Common.{◌≡◌, ℕ, List, [], length, map, false}
use Rattle.operator_values.specs.Evaluated.{Evaluated}
use Rattle.tile_reader.specs.declared.tile.Feature.{Feature}
use Rattle.layer_buckets.specs.Seen.{IsSound}
use Rattle.style_layout.specs.CodeView.{scene_seen, tile_seen}
use Rattle.style_layout.specs.Layers.{has_features}
use Rattle.style_layout.specs.Shown.{layer_features, numbered}
use Rattle.style_layout.specs.Walk.{HasFewLeft, features_left}
use Rattle.asked_cells.specs.Asked.{LayerCell, each_asked}
use Rattle.asked_cells.specs.Asking.{IsCommonAnswer, LeavesSources}
use Rattle.asked_cells.specs.Counted.{AreMeant, AreRight, kept_in}
use Rattle.asked_cells.specs.Expressions.{HasExpressions, LayerExpressions}
use Rattle.asked_cells.proofs.AskLaws.{Remain}
use Rattle.asked_cells.proofs.FeatureLaws.{AreBelow}
use Rattle.asked_cells.specs.SeenCells.{layer_at}
use Rattle.asked_cells.proofs.view_cells.ViewCells.ask_each.Given as goal

abbrev pub invariant-loop-found : goal.invariant-loop-found
invariant-loop-found g l =
    let scene = scene_seen g.V.TextTests.tests l.at.scene.now in
    let layer = layer_at l.at in
    let all = layer_features (map tile_seen l.fn.tiles) layer in
    let asked = λ (x : LayerExpressions) (nfs : List (ℕ × Feature)). each_asked x scene layer nfs in
    record {
      sound : IsSound l.self.buckets;
      sources : LeavesSources l.at.number l.fn.self.buckets l.self.buckets;
      few : HasFewLeft l.features;
      below : AreBelow (length all) (features_left l.features);
      none : has_features layer.type ≡ false → features_left l.features ≡ [];
      asks : (x : LayerExpressions) (meaning : LayerCell → Evaluated) → HasExpressions g.E.CountedEvaluator.slots l.at.number x l.fn.self.buckets
          → AreRight meaning (kept_in l.fn.self.buckets l.at.number) → IsCommonAnswer x scene layer l.answer
          → AreMeant meaning (asked x (numbered 0 all))
          → Remain meaning (asked x (features_left l.features)) (asked x (numbered 0 all))
          (kept_in l.fn.self.buckets l.at.number) (kept_in l.self.buckets l.at.number) l.number l.fn.steps l.steps;
    }

abbrev pub decreases-loop-found : goal.decreases-loop-found
decreases-loop-found g l = length (features_left l.features)
