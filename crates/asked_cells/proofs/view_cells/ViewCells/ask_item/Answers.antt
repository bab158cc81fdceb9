use Rattle.std.proofs.Common.{◌≡◌, ◌∙◌, ℕ, ℤ, Option, ap, sym, subst, if◌then◌else◌}
use Rattle.fixed_num.specs.Number.{floor_of}
use Rattle.expr_nodes.specs.Evaluators.{nodes_at}
use Rattle.layer_buckets.specs.Seen.{evaluator_of, given_at, slot_in_source, source_of}
use Rattle.style_layout.specs.CodeView.{scene_seen}
use Rattle.asked_cells.specs.Asked.{LayerCell, cell_world}
use Rattle.asked_cells.specs.Counted.{kept_in}
use Rattle.asked_cells.specs.SeenCells.{cell_feature}
use Rattle.asked_cells.proofs.CellLaws.{Refreshes, item_refreshed, layer_kept, layer_stays, none_there, others_stay, source_zoom}
use Rattle.asked_cells.proofs.SceneLaws.{scene_zoom}
use Rattle.asked_cells.proofs.view_cells.ViewCells.ask_item.Goals as goal

pub returns-in-None-clause-asks : goal.returns-in-None-clause-asks
returns-in-None-clause-asks g c = λ x meaning s right meant.
    let at = c.args.at.now in
    let b = c.args.self.now.buckets in
    let item = c.args.item in
    none_there (g.E.CountedEvaluator.slots (evaluator_of b)) (scene_seen g.V.TextTests.tests at.scene.now) (cell_feature c.args.feature) item
    meaning (kept_in b at.number) c.args.steps.now (x item) (source_of b at.number item) (s item) (sym c.source.ensures ∙ c.in-None.is)

pub returns-in-Some-clause-sources : goal.returns-in-Some-clause-sources
returns-in-Some-clause-sources g c =
    let n = c.args.at.now.number in
    let b = c.args.self.now.buckets in
    let source = source_of b n c.args.item in
    let world = cell_world (scene_seen g.V.TextTests.tests c.args.at.now.scene.now) c.zoom_for.result (cell_feature c.args.feature) in
    record {
      evaluator = c.refresh.ensures.evaluator;
      source = c.refresh.ensures.sources;
      features = c.refresh.ensures.features;
      kept = others_stay n (record { feature = c.number_of.result; item = c.args.item })
          (given_at (g.E.CountedEvaluator.slots (evaluator_of b)) (slot_in_source source) world) b c.refresh.new.self
          c.refresh.result c.refresh.ensures.kept c.refresh.ensures.err;
    }

pub returns-in-Some-clause-asks : goal.returns-in-Some-clause-asks
returns-in-Some-clause-asks g c = λ x meaning s right meant.
    let at = c.args.at.now in
    let n = at.number in
    let b = c.args.self.now.buckets in
    let item = c.args.item in
    let source = source_of b n item in
    let slots = g.E.CountedEvaluator.slots (evaluator_of b) in
    let scene = scene_seen g.V.TextTests.tests at.scene.now in
    let feature = cell_feature c.args.feature in
    let old = kept_in b n in
    let new = kept_in c.refresh.new.self n in
    let before = c.args.steps.now in
    let after = c.refresh.new.steps in
    let cell : LayerCell = record { feature = c.number_of.result; item = item } in
    let given = λ (zoom : ℤ). given_at slots (slot_in_source source) (cell_world scene zoom feature) in
    let count = nodes_at slots (slot_in_source source) in
    let zoom : c.zoom_for.result ≡ source_zoom scene c.in-Some.source =
    c.zoom_for.ensures ∙ ap (λ z. if c.in-Some.source.paint then z else floor_of z) (sym (scene_zoom g.V.TextTests.tests at.scene.now)) in
    item_refreshed slots scene feature item meaning old new before after c.refresh.result (x item) source c.in-Some.source right (s item)
    (sym c.source.ensures ∙ c.in-Some.is)
    (subst (λ (o : Option ℕ). Refreshes (record { feature = o; item = item }) (given (source_zoom scene c.in-Some.source)) count old new
    c.refresh.result before after) c.number_of.ensures
    (subst (λ (z : ℤ). Refreshes cell (given z) count old new c.refresh.result before after) zoom
    (record {
      kept = layer_kept n cell (given c.zoom_for.result) b c.refresh.new.self c.refresh.result c.refresh.ensures.kept;
      err = layer_stays n cell (given c.zoom_for.result) b c.refresh.new.self c.refresh.result c.refresh.ensures.err;
      number = c.refresh.ensures.number;
      still = c.refresh.ensures.still;
      least = c.refresh.ensures.least;
      most = c.refresh.ensures.most;
    }))) meant
