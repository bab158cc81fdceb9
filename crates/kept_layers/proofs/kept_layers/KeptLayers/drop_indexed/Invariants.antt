use Rattle.std.proofs.Common.{◌≡◌, length}
use Rattle.std.specs.Prelude.{nat_eq}
use Rattle.feature_index.specs.Ids.{IsIdWalk, numbers_left, numbers_of}
use Rattle.layer_buckets.specs.Cells.{reads_state}
use Rattle.layer_buckets.specs.Seen.{IsSound, kept_at, source_of}
use Rattle.layer_buckets.specs.declared.cell.Cell.{Cell}
use Rattle.kept_layers.specs.Holding.{Still}
use Rattle.kept_layers.specs.Turning.{is_listed}
use Rattle.kept_layers.proofs.StateLaws.{left_by}
use Rattle.kept_layers.proofs.kept_layers.KeptLayers.drop_indexed.Given as goal

abbrev pub invariant-loop-feature : goal.invariant-loop-feature
invariant-loop-feature l = record {
  walk : IsIdWalk l.found;
  numbers : l.self.numbers ≡ l.fn.self.numbers;
  reads : l.self.reads_globals ≡ l.fn.self.reads_globals;
  states : l.self.state_places ≡ l.fn.self.state_places;
  sound : IsSound l.self.cells.buckets;
  still : Still l.fn.self.cells.buckets l.self.cells.buckets;
  kept : (cell : Cell) → left_by (nat_eq l.fn.number cell.layer) (is_listed (numbers_left l.found) cell.feature)
      (reads_state (source_of l.fn.self.cells.buckets cell.layer cell.item)) (kept_at l.self.cells.buckets cell)
      ≡ left_by (nat_eq l.fn.number cell.layer) (is_listed (numbers_of l.fn.index l.fn.id) cell.feature)
      (reads_state (source_of l.fn.self.cells.buckets cell.layer cell.item)) (kept_at l.fn.self.cells.buckets cell);
}

abbrev pub decreases-loop-feature : goal.decreases-loop-feature
decreases-loop-feature l = length (numbers_left l.found)
