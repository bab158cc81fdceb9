use Rattle.std.proofs.Common.{◌≡◌}
use Rattle.layer_buckets.specs.Seen.{IsSound}
use Rattle.form_pool.specs.PoolSlots.{pool_slots}
use Rattle.kept_layers.specs.Holding.{AbsentAreBare}
use Rattle.kept_layers.specs.View.{globals_in, trees_in}
use Rattle.noted_places.specs.Places.{places_in}
use Rattle.kept_layers.proofs.GlobalLaws.{LayersAreTurned}
use Rattle.kept_layers.proofs.StateNotes.{FirstAreNoted}
use Rattle.kept_layers.proofs.kept_layers.KeptLayers.turn_layers.Given as goal

abbrev pub invariant-loop-place : goal.invariant-loop-place
invariant-loop-place l = record {
  numbers : l.self.numbers ≡ l.fn.self.numbers;
  reads : l.self.reads_globals ≡ l.fn.self.reads_globals;
  states : FirstAreNoted l.fn.self.numbers.items (trees_in l.fn.style) l.place l.self.cells.buckets (places_in l.self.state_places);
  sound : IsSound l.self.cells.buckets;
  bare : AbsentAreBare l.self.cells.buckets;
  turned : LayersAreTurned pool_slots (globals_in l.fn.style) l.fn.self.cells.buckets l.fn.self.numbers.items (trees_in l.fn.style) l.place l.self.cells.buckets;
}
