-- What stays where slots and rows are made.
use Rattle.std.specs.Prelude.{◌≡◌, ℕ, ◌<◌, ◌≤◌, length, true, Some, is_some, vec_capacity}
use Rattle.layer_buckets.specs.Keeping.{kept_outcome, slot_named}
use Rattle.layer_buckets.specs.KeptSlots.{SeenColumn}
use Rattle.layer_buckets.specs.LaidOut.{column_of, kept_in_table, row_of, source_in_table}
use Rattle.layer_buckets.specs.Listing.{HaveSlots}
use Rattle.layer_buckets.specs.declared.cell.Cell.{Cell}
use Rattle.layer_buckets.specs.declared.cell.CellItem.{CellItem}
use Rattle.layer_buckets.specs.declared.kept_cells.KeptCells.{KeptCells}
use Rattle.layer_buckets.specs.declared.slots.CellPlace.{CellPlace}
use Rattle.layer_buckets.specs.declared.table.CellTable.{CellTable}

-- columns are seen as before, and each place keeps what it kept and names the slot that it named
pub record StaySeen (old new : KeptCells) : Type 0 where
  pub columns : new.columns.items ≡ old.columns.items
  pub items : new.lists.item_lists ≡ old.lists.item_lists
  pub states : new.lists.state_lists ≡ old.lists.state_lists
  pub kept_outcome : (p : CellPlace) → kept_outcome new p ≡ kept_outcome old p

-- room for so many slots in all
pub record HasRoom (c : KeptCells) (slots : ℕ) : Type 0 where
  pub kept : slots ≤ vec_capacity c.slots
  pub free : slots ≤ vec_capacity c.free
  pub lists : HaveSlots c.lists slots

-- one column has no fewer rows, and no more than these where it has more
pub record HasRows (old new : SeenColumn) (rows : ℕ) : Type 0 where
  pub source : new.source ≡ old.source
  pub first : new.first_state ≡ old.first_state
  pub most : (n : ℕ) → rows ≤ n → old.rows ≤ n → new.rows ≤ n

-- the place of a cell whose item has a column
pub record IsPlaceOf (t : CellTable) (cell : Cell) (p : CellPlace) : Type 0 where
  pub column : column_of t.layers.items cell.layer cell.item ≡ Some p.column
  pub row : row_of cell.feature ≡ p.row

-- the place of a cell that can be kept
pub record IsPlaceFor (t : CellTable) (cell : Cell) (p : CellPlace) : Type 0 where
  pub column : column_of t.layers.items cell.layer cell.item ≡ Some p.column
  pub row : row_of cell.feature ≡ p.row
  pub slot_named : is_some (slot_named t.cells p) ≡ true
  pub free : 0 < length t.cells.free.items

-- what is kept, the sources and the layers stay
pub record IsSame (old new : CellTable) : Type 0 where
  pub layers : new.layers.items ≡ old.layers.items
  pub kept : (cell : Cell) → kept_in_table new cell ≡ kept_in_table old cell
  pub source : (l : ℕ) (i : CellItem) → source_in_table new l i ≡ source_in_table old l i
