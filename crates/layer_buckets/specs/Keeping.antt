-- Kept cells by their places, and that the lists have just these.
use Rattle.std.specs.Prelude.{◌≡◌, ℕ, ◌+◌, ◌-◌, ◌<◌, ◌≤◌, List, length, Bool, true, false, Option, Some, None, is_some}
use Rattle.std.specs.Prelude.{nat_eq, nat_le, vec_capacity, if◌then◌else◌}
use Rattle.index_lists.specs.SlotLists.{times_in}
use Rattle.index_lists.specs.Holds.{one_of}
use Rattle.operator_values.specs.Evaluated.{Evaluated}
use Rattle.layer_buckets.specs.KeptSlots.{Kept, SeenColumn, kept_of, place_in, full_count, column_at, slot_of}
use Rattle.layer_buckets.specs.KeptSlots.{outcome_at}
use Rattle.layer_buckets.specs.Listing.{no_lists, AreThere, HoldAll, HaveSlots, AreCounted}
use Rattle.layer_buckets.specs.declared.cell.Source.{Source}
use Rattle.layer_buckets.specs.declared.columns.Column.{Column}
use Rattle.layer_buckets.specs.declared.kept_cells.KeptCells.{KeptCells}
use Rattle.layer_buckets.specs.declared.lists.ListNumbers.{ListNumbers}
use Rattle.layer_buckets.specs.declared.slots.CellPlace.{CellPlace}

abbrev pub zoom_list : Bool → Bool → Option ℕ
zoom_list true paint = Some (if paint then 0 else 1)
zoom_list false paint = None

abbrev pub image_list : Bool → Bool → Option ℕ
image_list true globals = Some (if globals then 1 else 0)
image_list false globals = if globals then Some 2 else None

-- row 0 has no feature
abbrev pub state_list : ℕ → ℕ → Option ℕ
state_list first row =
    if nat_eq row 0 then None else (if nat_le (row - 1) (4294967295 - first) then Some (first + (row - 1)) else None)

-- the lists of a cell of a source
abbrev pub lists_by : ℕ → ℕ → ℕ → Option Source → ListNumbers
lists_by column row first (Some s) = record {
  item = Some column;
  zoom = zoom_list s.mentions.zoom s.paint;
  image = image_list s.mentions.image s.globals;
  state = if s.mentions.state then state_list first row else None;
}
lists_by column row first None = record no_lists { item = Some column }

abbrev pub lists_in_column : CellPlace → Option SeenColumn → ListNumbers
lists_in_column place (Some c) = lists_by place.column place.row c.first_state c.source
lists_in_column place None = no_lists

-- The lists of a place.
abbrev pub lists_at : List Column → CellPlace → ListNumbers
lists_at columns place = lists_in_column place (column_at columns place.column)

-- the lists of what is kept
abbrev pub lists_of : (CellPlace → ListNumbers) → Option Kept → ListNumbers
lists_of numbers (Some k) = numbers k.place
lists_of numbers None = no_lists

-- The outcome that is kept for a place.
abbrev pub kept_outcome : KeptCells → CellPlace → Option Evaluated
kept_outcome c place = outcome_at c.columns.items c.slots.items place

-- the slot that a place names
abbrev pub slot_named : KeptCells → CellPlace → Option ℕ
slot_named c place = slot_of c.columns.items place

-- The lists have just the slots that keep something, a kept cell names the slot that keeps it, and each slot that
-- keeps nothing is free at most once.
pub record IsKeeping (c : KeptCells) : Type 0 where
  pub hold : HoldAll c.lists (λ s. lists_of (lists_at c.columns.items) (kept_of c.slots.items s))
  pub have : HaveSlots c.lists (length c.slots.items)
  pub counted : AreCounted c.lists
  pub there : (place : CellPlace) (slot : ℕ) → slot_named c place ≡ Some slot
      → AreThere c.lists (lists_at c.columns.items place)
  pub back : (slot : ℕ) (place : CellPlace) → place_in (kept_of c.slots.items slot) ≡ Some place
      → slot_named c place ≡ Some slot
  pub free : (slot : ℕ) → times_in slot c.free.items + one_of (is_some (kept_of c.slots.items slot)) ≤ 1
  pub within : (slot : ℕ) → 0 < times_in slot c.free.items → slot < length c.slots.items
  pub full : length c.free.items + full_count c.slots.items ≤ length c.slots.items
  pub room : length c.slots.items ≤ vec_capacity c.free
