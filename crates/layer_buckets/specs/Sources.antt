-- What sources are changed to.
use Rattle.std.specs.Prelude.{◌≡◌, ℕ, ◌<◌, ◌≤◌, List, Bool, false, Option, Some, None, nat_eq, if◌then◌else◌}
use Rattle.std.specs.List.{slice_get}
use Rattle.layer_buckets.specs.Cells.{is_item}
use Rattle.layer_buckets.specs.KeptSlots.{SeenColumn, column_at}
use Rattle.layer_buckets.specs.LaidOut.{column_of, feature_count, features_in, features_in_table, first_state_in}
use Rattle.layer_buckets.specs.LaidOut.{item_number, kept_in_table, source_in_table, states_in}
use Rattle.layer_buckets.specs.declared.cell.Cell.{Cell}
use Rattle.layer_buckets.specs.declared.cell.CellItem.{CellItem}
use Rattle.layer_buckets.specs.declared.cell.Source.{Source}
use Rattle.layer_buckets.specs.declared.layers.LayerColumns.{LayerColumns}
use Rattle.layer_buckets.specs.declared.table.CellTable.{CellTable}

-- what is kept, the sources and the numbers of features stay; columns and lists may come
pub record StayShown (old new : CellTable) : Type 0 where
  pub kept : (cell : Cell) → kept_in_table new cell ≡ kept_in_table old cell
  pub source : (l : ℕ) (i : CellItem) → source_in_table new l i ≡ source_in_table old l i
  pub features : (l : ℕ) → features_in_table new l ≡ features_in_table old l

-- one item has this source, and none of its cells is kept; all else stays
pub record HasSource (old new : CellTable) (layer : ℕ) (item : CellItem) (given : Option Source) : Type 0 where
  pub kept : (cell : Cell) → kept_in_table new cell
      ≡ (if is_item layer item cell.layer cell.item then None else kept_in_table old cell)
  pub source : (l : ℕ) (i : CellItem) → source_in_table new l i
      ≡ (if is_item layer item l i then given else source_in_table old l i)
  pub features : (l : ℕ) → features_in_table new l ≡ features_in_table old l

-- what layers have beside their columns
pub record StayLayers (old new : List LayerColumns) : Type 0 where
  pub features : (l : ℕ) → features_in (slice_get new l) ≡ features_in (slice_get old l)
  pub first : (l : ℕ) → first_state_in (slice_get new l) ≡ first_state_in (slice_get old l)
  pub states : (l : ℕ) → states_in (slice_get new l) ≡ states_in (slice_get old l)

-- the layer has lists of states for its features, from this number on
abbrev pub HasStates : Option LayerColumns → ℕ → Type 0
HasStates own first = (first ≡ first_state_in own) × (feature_count (features_in own) ≤ states_in own)

abbrev pub no_source_column : SeenColumn
no_source_column = record { source = None; first_state = 0; rows = 0 }

abbrev pub is_column : ℕ → Option ℕ → Bool
is_column c (Some d) = nat_eq c d
is_column c None = false

-- the columns of a layer's items of smaller numbers have no source and no rows
abbrev pub IsCleared : CellTable → ℕ → ℕ → Type 0
IsCleared t layer number = (i : CellItem) (c : ℕ) → item_number i < number → column_of t.layers.items layer i ≡ Some c
    → column_at t.cells.columns.items c ≡ Some no_source_column
