use Rattle.std.proofs.Common.{◌≡◌, ℕ, ◌&&◌, None, nat_eq, nat_lt, if◌then◌else◌}
use Rattle.layer_buckets.specs.LaidOut.{IsCellTable, item_number, kept_in_table, source_in_table}
use Rattle.layer_buckets.specs.Sources.{IsCleared}
use Rattle.layer_buckets.specs.declared.cell.Cell.{Cell}
use Rattle.layer_buckets.specs.declared.cell.CellItem.{CellItem}
use Rattle.layer_buckets.proofs.table.CellTable.clear.Given as goal

abbrev pub invariant-loop-number : goal.invariant-loop-number
invariant-loop-number l = record {
  table : IsCellTable l.self;
  layers : l.self.layers.items ≡ l.fn.self.layers.items;
  kept : (cell : Cell) → kept_in_table l.self cell ≡ (if nat_eq l.layer cell.layer && nat_lt (item_number cell.item) l.number then None else kept_in_table l.fn.self cell);
  sources : (m : ℕ) (i : CellItem) → source_in_table l.self m i ≡ (if nat_eq l.layer m && nat_lt (item_number i) l.number then None else source_in_table l.fn.self m i);
  cleared : IsCleared l.self l.layer l.number;
}
