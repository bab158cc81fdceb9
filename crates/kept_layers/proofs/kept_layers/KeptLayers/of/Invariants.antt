use Rattle.std.proofs.Common.{◌≡◌, length, take}
use Rattle.style_layout.specs.Forms.{Scene}
use Rattle.form_pool.specs.PoolSlots.{pool_slots}
use Rattle.kept_layers.specs.Changes.{nothing_kept}
use Rattle.kept_layers.specs.View.{AreNumbered, HoldsLayers, IsRightIn, globals_in, kept_seen, tiles_in, trees_in}
use Rattle.kept_layers.proofs.kept_layers.KeptLayers.of.Given as goal

abbrev pub invariant-loop-place : goal.invariant-loop-place
invariant-loop-place l = record {
  numbered : AreNumbered l.kept;
  counted : length l.kept.numbers.items ≡ l.place;
  kept : kept_seen l.kept ≡ nothing_kept (take l.place (trees_in l.fn.style));
  holds : HoldsLayers pool_slots (tiles_in l.fn.style) (globals_in l.fn.style) (take l.place (trees_in l.fn.style)) l.kept;
  right : (scene : Scene) → IsRightIn pool_slots (tiles_in l.fn.style) (globals_in l.fn.style) scene (take l.place (trees_in l.fn.style)) l.kept;
}
