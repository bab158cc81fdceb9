-- What slots keep, and where.
use Rattle.std.specs.Prelude.{ℕ, ◌+◌, List, [], ◌∷◌, Bool, false, ◌&&◌, Option, Some, None, Ok, Err, is_some, nat_eq}
use Rattle.std.specs.Prelude.{length, if◌then◌else◌}
use Rattle.std.specs.List.{slice_get}
use Rattle.prop_values.specs.View.{data_of}
use Rattle.prop_values.specs.declared.value.Value.{Value}
use Rattle.prop_values.specs.declared.value.Value.TheVariants.{Null}
use Rattle.operator_values.specs.Evaluated.{Evaluated}
use Rattle.index_lists.specs.Holds.{one_of}
use Rattle.layer_buckets.specs.declared.cell.Source.{Source}
use Rattle.layer_buckets.specs.declared.slots.CellPlace.{CellPlace}
use Rattle.layer_buckets.specs.declared.slots.SlotMark.{SlotMark}
use Rattle.layer_buckets.specs.declared.slots.SlotMark.TheVariants.{Empty, Given, Failed}
use Rattle.layer_buckets.specs.declared.slots.ValueSlot.{ValueSlot}
use Rattle.layer_buckets.specs.declared.columns.Column.{Column}

-- an outcome with the place of its cell
pub record Kept : Type 0 where
  pub place : CellPlace
  pub outcome : Evaluated

abbrev pub marked : SlotMark → CellPlace → Value → Option Kept
marked Empty place value = None
marked Given place value = Some (record { place = place; outcome = Ok (data_of value) })
marked (Failed fault) place value = Some (record { place = place; outcome = Err fault })

-- a slot that keeps nothing
abbrev pub no_slot : ValueSlot
no_slot = record { value = Null; place = record { column = 0; row = 0 }; mark = Empty }

-- what a slot keeps
abbrev pub kept_in : Option ValueSlot → Option Kept
kept_in (Some s) = marked s.mark s.place s.value
kept_in None = None

-- what the slot of a number keeps
abbrev pub kept_of : List ValueSlot → ℕ → Option Kept
kept_of slots s = kept_in (slice_get slots s)

abbrev pub place_in : Option Kept → Option CellPlace
place_in (Some k) = Some k.place
place_in None = None

abbrev pub same_place : CellPlace → CellPlace → Bool
same_place a b = nat_eq a.column b.column && nat_eq a.row b.row

abbrev pub is_place : CellPlace → Option CellPlace → Bool
is_place place (Some other) = same_place other place
is_place place None = false

abbrev pub outcome_for : CellPlace → Option Kept → Option Evaluated
outcome_for place (Some k) = if same_place k.place place then Some k.outcome else None
outcome_for place None = None

-- how many slots keep something
abbrev pub full_count : List ValueSlot → ℕ
full_count [] = 0
full_count (s ∷ slots) = one_of (is_some (kept_in (Some s))) + full_count slots

-- ---- columns

-- what is seen of a column
pub record SeenColumn : Type 0 where
  pub source : Option Source
  pub first_state : ℕ
  pub rows : ℕ

abbrev pub seen_column : Option Column → Option SeenColumn
seen_column (Some c) = Some (record { source = c.source; first_state = c.first_state; rows = length c.slots.items })
seen_column None = None

abbrev pub column_at : List Column → ℕ → Option SeenColumn
column_at columns n = seen_column (slice_get columns n)

abbrev pub slot_in : ℕ → Option Column → Option ℕ
slot_in row (Some c) = slice_get c.slots.items row
slot_in row None = None

-- the slot that a place names
abbrev pub slot_of : List Column → CellPlace → Option ℕ
slot_of columns place = slot_in place.row (slice_get columns place.column)

abbrev pub outcome_by : (ℕ → Option Kept) → CellPlace → Option ℕ → Option Evaluated
outcome_by kept place (Some s) = outcome_for place (kept s)
outcome_by kept place None = None

-- The outcome of a place: of the slot that it names, where that slot keeps this place.
abbrev pub outcome_at : List Column → List ValueSlot → CellPlace → Option Evaluated
outcome_at columns slots place = outcome_by (kept_of slots) place (slot_of columns place)
