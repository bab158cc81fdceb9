use Rattle.std.proofs.Common.{List, map, subst}
use Rattle.style_layout.specs.CodeView.{scene_seen}
use Rattle.style_layout.specs.declared.properties.Property.{Property}
use Rattle.asked_cells.specs.Asked.{values_asked}
use Rattle.asked_cells.specs.Asking.{AsksAll}
use Rattle.asked_cells.specs.SeenCells.{cell_feature, property_at}
use Rattle.asked_cells.proofs.view_cells.ViewCells.ask_values.Goals as goal

pub returns-clause-asks : goal.returns-clause-asks
returns-clause-asks g c =
    subst (λ (ps : List Property). AsksAll g.E.CountedEvaluator.slots c.args.at.now.number (λ x. values_asked x
    (scene_seen g.V.TextTests.tests c.args.at.now.scene.now) (cell_feature c.args.feature) (map (property_at c.args.at.now) ps))
    c.args.self.now.buckets c.ask_listed.new.self.buckets c.ask_listed.result c.args.steps.now c.ask_listed.new.steps)
    c.as_slice.ensures.value c.ask_listed.ensures.asks
