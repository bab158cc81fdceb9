-- Ranges of zooms that are still to be set of layers. Source: own.
use Rattle.std.specs.Prelude.{◌≡◌, ◌<◌, ◌≤◌, ℕ, ℤ, List, slice_index_or, Bool, true, Option, Some, None, is_some}
use Rattle.style_edits.specs.Faults.{is_zoom_or_none}

-- the least and the greatest zoom of a layer, in millionths, where they are given
abbrev pub ZoomRange : Type 0
ZoomRange = Option ℤ × Option ℤ

-- a slot for each layer, with the range that is to be set of it
abbrev pub Pending : Type 0
Pending = List (Option ZoomRange)

-- whether a range is to be set of the layer at a place
abbrev pub is_pending : Pending → ℕ → Bool
is_pending slots place = is_some (slice_index_or slots place None)

-- every range that is to be set is of a layer from one place on and before another
abbrev pub AreBetween : (start end : ℕ) → Pending → Type 0
AreBetween start end slots = (place : ℕ) → is_pending slots place ≡ true → (start ≤ place) × (place < end)

-- the zooms of a range are from 0 to 24
abbrev pub IsZoomRange : Option ZoomRange → Type 0
IsZoomRange (Some range) = (is_zoom_or_none range.0 ≡ true) × (is_zoom_or_none range.1 ≡ true)
IsZoomRange None = Unit {0}

abbrev pub AreZoomRanges : Pending → Type 0
AreZoomRanges slots = (place : ℕ) → IsZoomRange (slice_index_or slots place None)
