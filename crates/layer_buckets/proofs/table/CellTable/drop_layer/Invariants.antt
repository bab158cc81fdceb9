use Rattle.std.proofs.Common.{◌≡◌, ◌&&◌, None, nat_eq, nat_lt, if◌then◌else◌}
use Rattle.layer_buckets.specs.Drops.{AreKept}
use Rattle.layer_buckets.specs.LaidOut.{IsCellTable, item_number, kept_in_table}
use Rattle.layer_buckets.specs.declared.cell.Cell.{Cell}
use Rattle.layer_buckets.proofs.table.CellTable.drop_layer.Given as goal

abbrev pub invariant-loop-number : goal.invariant-loop-number
invariant-loop-number l = record {
  table : IsCellTable l.self;
  kept : AreKept l.fn.self l.self;
  dropped : (cell : Cell) → kept_in_table l.self cell ≡ (if nat_eq l.layer cell.layer && nat_lt (item_number cell.item) l.number then None else kept_in_table l.fn.self cell);
}
