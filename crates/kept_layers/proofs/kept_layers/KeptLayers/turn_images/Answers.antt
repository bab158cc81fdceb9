use Rattle.std.proofs.Common.{ℕ, ◌∙◌, None, refl, ap, if◌then◌else◌}
use Rattle.layer_buckets.specs.Seen.{source_of}
use Rattle.layer_buckets.specs.declared.cell.Stale.TheVariants.{Images}
use Rattle.asked_cells.specs.Asked.{cell_in}
use Rattle.asked_cells.specs.Counted.{kept_in}
use Rattle.decimal_json.specs.Tree.{Tree}
use Rattle.form_pool.specs.PoolSlots.{pool_slots}
use Rattle.kept_layers.specs.Holding.{HasLayer, Still}
use Rattle.kept_layers.specs.KeptLayers.{is_stale_image, layer_expressions}
use Rattle.kept_layers.proofs.DropLaws.{AreDropped, all_dropped, all_kept, all_right, all_still, images_stale}
use Rattle.kept_layers.proofs.NumberedLaws.{dropped_numbered}
use Rattle.kept_layers.proofs.SceneLaws.{images_mean}
use Rattle.kept_layers.proofs.kept_layers.KeptLayers.turn_images.Goals as goal

pub returns-clause-numbered : goal.returns-clause-numbered
returns-clause-numbered c =
    let old = c.args.self.now.cells.buckets in
    let new = c.drop_cells.new.self in
    let still : Still old new = record {
      evaluator = c.drop_cells.ensures.evaluator;
      source = c.drop_cells.ensures.sources;
      features = c.drop_cells.ensures.features;
    } in
    dropped_numbered c.args.self.now _ refl refl refl c.drop_cells.ensures.sound Images still c.drop_cells.ensures.kept c.requires.numbered

pub returns-clause-drops : goal.returns-clause-drops
returns-clause-drops c = λ tiles globals ts held.
    let old = c.args.self.now.cells.buckets in
    let new = c.drop_cells.new.self in
    let ns = c.args.self.now.numbers.items in
    let still : Still old new = record {
      evaluator = c.drop_cells.ensures.evaluator;
      source = c.drop_cells.ensures.sources;
      features = c.drop_cells.ensures.features;
    } in
    let each : (n : ℕ) (t : Tree) → HasLayer pool_slots tiles globals old n t → AreDropped pool_slots tiles globals old new (is_stale_image globals) n t =
    λ n t held cell. c.drop_cells.ensures.kept (cell_in n cell)
    ∙ ap (λ b. if b then None else kept_in old n cell)
    (images_stale (pool_slots old.evaluator) cell.item (layer_expressions globals t cell.item) (source_of old n cell.item) (held.sources cell.item)) in
    let drops = all_dropped pool_slots tiles globals old new (is_stale_image globals) each ns ts held in
    record {
      kept = all_kept pool_slots tiles globals old new (is_stale_image globals) ns ts drops;
      holds = all_still pool_slots tiles globals old new still ns ts held;
      right = λ before after turns right. all_right pool_slots tiles globals old new (is_stale_image globals) before after
          (λ t cell fresh. images_mean c.agreeing_worlds_give_one_meaning.ensures tiles globals before after turns t cell fresh) ns ts drops right;
    }
