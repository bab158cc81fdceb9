use Rattle.std.proofs.Common.{◌≡◌}
use Rattle.feature_index.specs.Indexes.{AreIndexed}
use Rattle.form_pool.specs.PoolSlots.{pool_slots}
use Rattle.layer_buckets.specs.Seen.{IsSound}
use Rattle.noted_places.specs.Places.{places_in}
use Rattle.kept_layers.specs.View.{globals_in, tiles_in, trees_in}
use Rattle.kept_layers.proofs.TurnLaws.{AreTurned}
use Rattle.kept_layers.proofs.kept_layers.KeptLayers.turn_state.Given as goal

abbrev pub invariant-loop-index : goal.invariant-loop-index
invariant-loop-index l = record {
  numbers : l.self.numbers ≡ l.fn.self.numbers;
  reads : l.self.reads_globals ≡ l.fn.self.reads_globals;
  states : l.self.state_places ≡ l.fn.self.state_places;
  sound : IsSound l.self.cells.buckets;
  indexed : AreIndexed (tiles_in l.fn.style) l.indexes;
  turned : AreTurned pool_slots (tiles_in l.fn.style) (globals_in l.fn.style) l.fn.source l.fn.source_layer l.fn.id
      l.fn.self.cells.buckets l.fn.self.numbers.items (trees_in l.fn.style) (places_in l.fn.self.state_places) l.index l.self.cells.buckets;
}
