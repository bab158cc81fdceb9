-- What a call that drops cells leaves.
use Rattle.std.specs.Prelude.{◌≡◌, ℕ, List, Bool, false, Option, Some, None, if◌then◌else◌}
use Rattle.layer_buckets.specs.Cells.{names}
use Rattle.layer_buckets.specs.Keeping.{lists_at}
use Rattle.layer_buckets.specs.Listing.{AreAlike, is_in}
use Rattle.layer_buckets.specs.LaidOut.{column_of, kept_in_table, row_of, source_in_table}
use Rattle.layer_buckets.specs.declared.cell.Cell.{Cell}
use Rattle.layer_buckets.specs.declared.cell.Stale.{Stale}
use Rattle.layer_buckets.specs.declared.columns.Column.{Column}
use Rattle.layer_buckets.specs.declared.lists.ListName.{ListName}
use Rattle.layer_buckets.specs.declared.table.CellTable.{CellTable}

-- whether the cells of a row are in a list
abbrev pub listed_by : ListName → List Column → Option ℕ → ℕ → Bool
listed_by name columns (Some column) row = is_in name (lists_at columns (record { column = column; row = row }))
listed_by name columns None row = false

abbrev pub is_listed : ListName → CellTable → Cell → Bool
is_listed name t cell =
    listed_by name t.cells.columns.items (column_of t.layers.items cell.layer cell.item) (row_of cell.feature)

-- layers, columns and the numbers of lists stay
pub record AreKept (old new : CellTable) : Type 0 where
  pub layers : new.layers.items ≡ old.layers.items
  pub columns : new.cells.columns.items ≡ old.cells.columns.items
  pub alike : AreAlike old.cells.lists new.cells.lists

-- the cells of a list are dropped
abbrev pub DropsList : ListName → CellTable → CellTable → Type 0
DropsList name old new =
    (cell : Cell) → kept_in_table new cell ≡ (if is_listed name old cell then None else kept_in_table old cell)

-- the cells that a cause names are dropped, and no other
abbrev pub Drops : Stale → CellTable → CellTable → Type 0
Drops stale old new = (cell : Cell) → kept_in_table new cell
    ≡ (if names stale cell (source_in_table old cell.layer cell.item) then None else kept_in_table old cell)
