use Rattle.std.proofs.Common.{◌≡◌}
use Rattle.layer_buckets.specs.Seen.{IsSound}
use Rattle.cell_sources.specs.Sourced.{KeepsSources}
use Rattle.form_pool.specs.PoolSlots.{pool_slots}
use Rattle.kept_layers.specs.Tidying.{AreRenewed}
use Rattle.kept_layers.specs.View.{globals_in, trees_in}
use Rattle.kept_layers.proofs.kept_layers.KeptLayers.put_anew.Given as goal

abbrev pub invariant-loop-place : goal.invariant-loop-place
invariant-loop-place l = record {
  numbers : l.self.numbers ≡ l.fn.self.numbers;
  reads : l.self.reads_globals ≡ l.fn.self.reads_globals;
  states : l.self.state_places ≡ l.fn.self.state_places;
  sound : IsSound l.self.cells.buckets;
  sources : KeepsSources l.fn.self.cells.buckets l.self.cells.buckets;
  renewed : AreRenewed pool_slots (globals_in l.fn.style) l.fn.self.numbers.items (trees_in l.fn.style) l.place
      l.fn.self.cells.buckets l.self.cells.buckets;
}
