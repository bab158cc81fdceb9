use Rattle.std.proofs.Common.{◌≡◌}
use Rattle.decimal_json.specs.Tree.{object, fields_of}
use Rattle.layer_buckets.specs.Seen.{IsSound}
use Rattle.cell_sources.specs.CellExpressions.{item_expression}
use Rattle.cell_sources.specs.Sourced.{LeavesOthers}
use Rattle.form_pool.specs.PoolSlots.{pool_slots}
use Rattle.kept_layers.proofs.GlobalLaws.{FirstAreTurned}
use Rattle.kept_layers.proofs.kept_layers.KeptLayers.turn_layer.Given as goal

abbrev pub invariant-loop-row : goal.invariant-loop-row
invariant-loop-row l = record {
  numbers : l.self.numbers ≡ l.fn.self.numbers;
  reads : l.self.reads_globals ≡ l.fn.self.reads_globals;
  states : l.self.state_places ≡ l.fn.self.state_places;
  sound : IsSound l.self.cells.buckets;
  others : LeavesOthers pool_slots l.number l.fn.self.cells.buckets l.self.cells.buckets;
  turned : FirstAreTurned pool_slots l.number l.row
      (item_expression l.values.globals.now l.values.layer_type (object (fields_of l.values.members.now))) l.fn.self.cells.buckets l.self.cells.buckets;
}
