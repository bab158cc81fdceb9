use Rattle.std.proofs.Common.{◌≡◌, ℕ, ◌≤◌, length}
use Rattle.layer_buckets.specs.LaidOut.{column_of}
use Rattle.layer_buckets.specs.Sources.{StayLayers}
use Rattle.layer_buckets.specs.declared.cell.CellItem.{CellItem}
use Rattle.layer_buckets.proofs.layers.grow_layers.Given as goal

abbrev pub invariant-loop-number : goal.invariant-loop-number
invariant-loop-number l = record {
  stay : StayLayers l.fn.layers.items l.layers.items;
  columns : (n : ℕ) (i : CellItem) → column_of l.layers.items n i ≡ column_of l.fn.layers.items n i;
  count : l._number ≤ length l.layers.items;
}
