use Rattle.std.proofs.Common.{◌≡◌, ℕ, ◌∙◌, None, true, false, refl, ap, sym, not, if◌then◌else◌}
use Rattle.std.specs.Ordering.{int_eq}
use Rattle.fixed_num.specs.Number.{floor_of}
use Rattle.layer_buckets.specs.Cells.{is_zoomed}
use Rattle.layer_buckets.specs.Seen.{source_of}
use Rattle.layer_buckets.specs.declared.cell.Stale.TheVariants.{Zoom}
use Rattle.asked_cells.specs.Asked.{cell_in}
use Rattle.asked_cells.specs.Counted.{kept_in}
use Rattle.decimal_json.specs.Tree.{Tree}
use Rattle.form_pool.specs.PoolSlots.{pool_slots}
use Rattle.kept_layers.specs.Holding.{HasLayer, Still}
use Rattle.kept_layers.specs.KeptLayers.{is_stale_zoom, layer_expressions}
use Rattle.kept_layers.proofs.DropLaws.{AreDropped, all_dropped, all_kept, all_right, all_still, is_not, same_zoom, zoom_stale}
use Rattle.kept_layers.proofs.NumberedLaws.{dropped_numbered}
use Rattle.kept_layers.proofs.SceneLaws.{zoom_means}
use Rattle.kept_layers.proofs.kept_layers.KeptLayers.turn_zoom.Goals as goal

pub returns-then-ne-clause-numbered : goal.returns-then-ne-clause-numbered
returns-then-ne-clause-numbered c =
    let old = c.args.self.now.cells.buckets in
    let new = c.drop_cells.new.self in
    let still : Still old new = record {
      evaluator = c.drop_cells.ensures.evaluator;
      source = c.drop_cells.ensures.sources;
      features = c.drop_cells.ensures.features;
    } in
    dropped_numbered c.args.self.now _ refl refl refl c.drop_cells.ensures.sound (Zoom c.ne-floor.result) still c.drop_cells.ensures.kept c.requires.numbered

pub returns-then-ne-clause-drops : goal.returns-then-ne-clause-drops
returns-then-ne-clause-drops c = λ tiles globals ts held.
    let old = c.args.self.now.cells.buckets in
    let new = c.drop_cells.new.self in
    let ns = c.args.self.now.numbers.items in
    let still : Still old new = record {
      evaluator = c.drop_cells.ensures.evaluator;
      source = c.drop_cells.ensures.sources;
      features = c.drop_cells.ensures.features;
    } in
    let apart : int_eq c.args.old c.args.new ≡ false =
    (λ i. int_eq (sym c.exact.ensures i) (sym c.exact-2.ensures i)) ∙ is_not (int_eq c.exact.result c.exact-2.result) true c.if-ne.ensures in
    let flag : c.ne-floor.result ≡ not (int_eq (floor_of c.args.old) (floor_of c.args.new)) =
    c.ne-floor.ensures ∙ (λ i. not (int_eq (c.floor.ensures i) (c.floor-then-ne.ensures i))) in
    let each : (n : ℕ) (t : Tree) → HasLayer pool_slots tiles globals old n t → AreDropped pool_slots tiles globals old new (is_stale_zoom globals c.args.old c.args.new) n t =
    λ n t held cell. c.drop_cells.ensures.kept (cell_in n cell)
    ∙ ap (λ b. if b then None else kept_in old n cell) (ap (λ f. is_zoomed f (source_of old n cell.item)) flag
    ∙ zoom_stale (pool_slots old.evaluator) cell.item (layer_expressions globals t cell.item) (source_of old n cell.item) c.args.old c.args.new apart (held.sources cell.item)) in
    let drops = all_dropped pool_slots tiles globals old new (is_stale_zoom globals c.args.old c.args.new) each ns ts held in
    record {
      kept = all_kept pool_slots tiles globals old new (is_stale_zoom globals c.args.old c.args.new) ns ts drops;
      holds = all_still pool_slots tiles globals old new still ns ts held;
      right = λ before after turns right. all_right pool_slots tiles globals old new (is_stale_zoom globals c.args.old c.args.new) before after
          (λ t cell fresh. zoom_means c.agreeing_worlds_give_one_meaning.ensures tiles globals c.args.old c.args.new before after turns t cell fresh) ns ts drops right;
    }

pub returns-else-ne-clause-drops : goal.returns-else-ne-clause-drops
returns-else-ne-clause-drops c = λ tiles globals ts held.
    let b = c.args.self.now.cells.buckets in
    let ns = c.args.self.now.numbers.items in
    let same : int_eq c.args.old c.args.new ≡ true =
    (λ i. int_eq (sym c.exact.ensures i) (sym c.exact-2.ensures i)) ∙ is_not (int_eq c.exact.result c.exact-2.result) false c.if-ne.ensures in
    let stale = is_stale_zoom globals c.args.old c.args.new in
    let drops = all_dropped pool_slots tiles globals b b stale
    (λ n t here cell. sym (ap (λ e. if e then None else kept_in b n cell) (same_zoom c.args.old c.args.new (layer_expressions globals t cell.item) same))) ns ts held in
    record {
      kept = all_kept pool_slots tiles globals b b stale ns ts drops;
      holds = held;
      right = λ before after turns right. all_right pool_slots tiles globals b b stale before after
          (λ t cell fresh. zoom_means c.agreeing_worlds_give_one_meaning.ensures tiles globals c.args.old c.args.new before after turns t cell fresh) ns ts drops right;
    }
