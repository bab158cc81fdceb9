-- The cells of layers, by the columns of their items.
use Rattle.std.specs.Prelude.{◌≡◌, ℕ, ◌+◌, ◌<◌, ◌≤◌, List, length, true, Option, Some, None, nat_lt, if◌then◌else◌}
use Rattle.std.proofs.Common.{zero, suc}
use Rattle.std.specs.List.{slice_get}
use Rattle.operator_values.specs.Evaluated.{Evaluated}
use Rattle.layer_buckets.specs.Cells.{reads_state}
use Rattle.layer_buckets.specs.KeptSlots.{SeenColumn, column_at}
use Rattle.layer_buckets.specs.Keeping.{IsKeeping, kept_outcome}
use Rattle.layer_buckets.specs.declared.cell.Cell.{Cell}
use Rattle.layer_buckets.specs.declared.cell.CellItem.{CellItem}
use Rattle.layer_buckets.specs.declared.cell.CellItem.TheVariants.{Filter, Property}
use Rattle.layer_buckets.specs.declared.cell.Source.{Source}
use Rattle.layer_buckets.specs.declared.kept_cells.KeptCells.{KeptCells}
use Rattle.layer_buckets.specs.declared.layers.LayerColumns.{LayerColumns}
use Rattle.layer_buckets.specs.declared.table.CellTable.{CellTable}

-- an item's place among those of its layer
abbrev pub item_number : CellItem → ℕ
item_number Filter = 0
item_number (Property n) = n + 1

-- the item of a number
abbrev pub item_of : ℕ → CellItem
item_of zero = Filter
item_of (suc n) = Property n

abbrev pub row_of : Option ℕ → ℕ
row_of None = 0
row_of (Some feature) = feature + 1

abbrev pub flat : Option (Option ℕ) → Option ℕ
flat (Some o) = o
flat None = None

abbrev pub column_in : CellItem → Option LayerColumns → Option ℕ
column_in item (Some l) = flat (slice_get l.columns.items (item_number item))
column_in item None = None

-- the column of an item
abbrev pub column_of : List LayerColumns → ℕ → CellItem → Option ℕ
column_of layers layer item = column_in item (slice_get layers layer)

abbrev pub features_in : Option LayerColumns → Option ℕ
features_in (Some l) = l.features
features_in None = None

abbrev pub source_seen : Option SeenColumn → Option Source
source_seen (Some c) = c.source
source_seen None = None

-- the columns by their numbers, as they are seen
abbrev pub Columns : Type 0
Columns = ℕ → Option SeenColumn

abbrev pub source_by : Columns → Option ℕ → Option Source
source_by columns (Some column) = source_seen (columns column)
source_by columns None = None

abbrev pub held_by : KeptCells → Option ℕ → ℕ → Option Evaluated
held_by cells (Some column) row = kept_outcome cells (record { column = column; row = row })
held_by cells None row = None

-- The outcome that is kept for a cell.
abbrev pub kept_in_table : CellTable → Cell → Option Evaluated
kept_in_table t cell = held_by t.cells (column_of t.layers.items cell.layer cell.item) (row_of cell.feature)

-- The source of an item.
abbrev pub source_in_table : CellTable → ℕ → CellItem → Option Source
source_in_table t layer item = source_by (column_at t.cells.columns.items) (column_of t.layers.items layer item)

-- The number of a layer's features; none where the layer is not there.
abbrev pub features_in_table : CellTable → ℕ → Option ℕ
features_in_table t layer = features_in (slice_get t.layers.items layer)

-- ---- soundness

abbrev pub first_state_in : Option LayerColumns → ℕ
first_state_in (Some l) = l.first_state
first_state_in None = 0

abbrev pub states_in : Option LayerColumns → ℕ
states_in (Some l) = l.states
states_in None = 0

abbrev pub items_in : Option LayerColumns → ℕ
items_in (Some l) = length l.columns.items
items_in None = 0

-- the list of a feature among those of states
abbrev pub state_of_feature : Option LayerColumns → ℕ → Option ℕ
state_of_feature (Some l) feature = if nat_lt feature l.states then Some (l.first_state + feature) else None
state_of_feature None feature = None

abbrev pub feature_count : Option ℕ → ℕ
feature_count (Some n) = n
feature_count None = 0

-- what a column has of its layer
pub record IsColumnOf (l : Option LayerColumns) (c : SeenColumn) : Type 0 where
  pub rows : c.rows ≤ 1 + feature_count (features_in l)
  pub first : reads_state c.source ≡ true → c.first_state ≡ first_state_in l
  pub states : reads_state c.source ≡ true → feature_count (features_in l) ≤ states_in l

-- No column has two items, and no list of states two features. There are so many columns and lists of states.
pub record AreLaidOut (layers : List LayerColumns) (seen : Columns) (count total : ℕ) : Type 0 where
  pub below : (l : ℕ) (i : CellItem) (c : ℕ) → column_of layers l i ≡ Some c → c < count
  pub apart : (l m : ℕ) (i j : CellItem) (c : ℕ) → column_of layers l i ≡ Some c
      → column_of layers m j ≡ Some c → (l ≡ m) × (i ≡ j)
  pub columns : (l : ℕ) (i : CellItem) (c : ℕ) (s : SeenColumn) → column_of layers l i ≡ Some c
      → seen c ≡ Some s → IsColumnOf (slice_get layers l) s
  pub absent : (l : ℕ) (i : CellItem) → features_in (slice_get layers l) ≡ None
      → source_by seen (column_of layers l i) ≡ None
  pub states : (l m f g : ℕ) → f < states_in (slice_get layers l) → g < states_in (slice_get layers m)
      → first_state_in (slice_get layers l) + f ≡ first_state_in (slice_get layers m) + g → l ≡ m
  pub ends : (l : ℕ) → first_state_in (slice_get layers l) + states_in (slice_get layers l) ≤ total
  pub small : total < 4294967296
  pub rows : (l : ℕ) → feature_count (features_in (slice_get layers l)) < 4294967295

pub record IsCellTable (t : CellTable) : Type 0 where
  pub cells : IsKeeping t.cells
  pub listed : length t.cells.columns.items ≡ t.cells.lists.item_lists
  pub laid : AreLaidOut t.layers.items (column_at t.cells.columns.items)
      t.cells.lists.item_lists t.cells.lists.state_lists
