use Rattle.std.proofs.Common.{List, drop, map}
use Rattle.operator_values.specs.Evaluated.{Evaluated}
use Rattle.layer_buckets.specs.Seen.{IsSound}
use Rattle.style_layout.specs.CodeView.{scene_seen}
use Rattle.style_layout.specs.declared.properties.Property.{Property}
use Rattle.asked_cells.specs.Asked.{LayerCell, values_asked}
use Rattle.asked_cells.specs.Asking.{LeavesSources}
use Rattle.asked_cells.specs.Counted.{AreMeant, AreRight, kept_in}
use Rattle.asked_cells.specs.Expressions.{HasExpressions, LayerExpressions}
use Rattle.asked_cells.specs.SeenCells.{cell_feature, property_at}
use Rattle.asked_cells.proofs.AskLaws.{Remain}
use Rattle.asked_cells.proofs.view_cells.ViewCells.ask_listed.Given as goal

abbrev pub invariant-loop-property : goal.invariant-loop-property
invariant-loop-property g l =
    let asked = λ (x : LayerExpressions) (ps : List Property).
    values_asked x (scene_seen g.V.TextTests.tests l.at.scene.now) (cell_feature l.feature) (map (property_at l.at) ps) in
    record {
      sound : IsSound l.self.buckets;
      sources : LeavesSources l.at.number l.fn.self.buckets l.self.buckets;
      asks : (x : LayerExpressions) (meaning : LayerCell → Evaluated) → HasExpressions g.E.CountedEvaluator.slots l.at.number x l.fn.self.buckets
          → AreRight meaning (kept_in l.fn.self.buckets l.at.number) → AreMeant meaning (asked x l.properties)
          → Remain meaning (asked x (drop l.property-index l.properties)) (asked x l.properties)
          (kept_in l.fn.self.buckets l.at.number) (kept_in l.self.buckets l.at.number) l.number l.fn.steps l.steps;
    }
