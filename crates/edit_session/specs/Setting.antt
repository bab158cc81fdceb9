-- Ranges that are set in the document, and what they follow. Only contracts of private functions and proofs use it.
use Rattle.std.specs.Prelude.{◌≡◌, ℕ, ◌+◌, List, length, insert, remove, slice_index_or, slice_set, Bool, true, false}
use Rattle.std.specs.Prelude.{Option, Some, None, if◌then◌else◌}
use Rattle.decimal_json.specs.Tree.{Tree}
use Rattle.decimal_json.specs.View.{tree_of}
use Rattle.edit_script.specs.Edit as edits
use Rattle.edit_script.specs.Edit.{Edit}
use Rattle.pending_ranges.specs.Pending.{Pending, ZoomRange, is_pending}
use Rattle.style_edits.specs.ByPlace.{is_own_place, place_moved_to}
use Rattle.style_edits.specs.Layers.{layer_list}
use Rattle.style_edits.specs.Places.{places_of}
use Rattle.style_edits.specs.declared.places.EditPlaces.{EditPlaces}
use Rattle.edit_session.specs.PlainView.{plain_state}
use Rattle.edit_session.specs.Ranges.{ranged_document}
use Rattle.edit_session.specs.View.{IsReady, session_state, tiles_of}
use Rattle.edit_session.specs.declared.ranges.BeforeRanges.{BeforeRanges}
use Rattle.edit_session.specs.declared.session.Session.{Session}

abbrev pub is_range : Edit → Bool
is_range (edits.set_range layer min max) = true
is_range edit = false

-- no range is still to be set
abbrev pub NonePending : Pending → Type 0
NonePending slots = (place : ℕ) → is_pending slots place ≡ false

-- ---- a range is set in the document

-- The range of the layer at a place is set in a document: with the other ranges it is the same as before.
abbrev pub SettlesAt : (place : ℕ) → ZoomRange → (before after : Tree) → Type 0
SettlesAt place range before after =
    (slots : Pending) → slice_index_or slots place None ≡ Some range
    → ranged_document (slice_set slots place None) after ≡ ranged_document slots before

-- a session has another document, of as many layers, and else represents what it did
pub record HasSettled (old new : Session) : Type 0 where
  pub ready : IsReady new
  pub state : (has_image : List ℕ → Bool) →
      plain_state new has_image ≡ record (plain_state old has_image) { document = tree_of new.document }
  pub count : length (layer_list (tree_of new.document)) ≡ length (layer_list (tree_of old.document))
  pub tiles : tiles_of new ≡ tiles_of old
  pub kept : new.kept ≡ old.kept

-- it represents the same, in another document
pub record RepresentsSame (old new : Session) : Type 0 where
  pub ready : IsReady new
  pub state : (has_image : List ℕ → Bool) → session_state new has_image ≡ session_state old has_image
  pub tiles : tiles_of new ≡ tiles_of old
  pub kept : new.kept ≡ old.kept

-- ---- slots before and after a command

-- so many slots there are before a command, by the number of layers
abbrev pub slots_for : Edit → ℕ → ℕ
slots_for (edits.add_layer layer before) count = count + 1
slots_for edit count = count

-- where the layers are that a command names, and how many there are
pub record IsBeforeRanges (document : Tree) (edit : Edit) (before : BeforeRanges) : Type 0 where
  pub places : before.places ≡ places_of document edit
  pub count : before.count ≡ length (layer_list document)

abbrev pub removed_slot : Option ℕ → Pending → Pending
removed_slot (Some place) slots = remove slots place
removed_slot None slots = slots

abbrev pub moved_slots : (from to : ℕ) → Pending → Pending
moved_slots from to slots = insert (remove slots from) to (slice_index_or slots from None)

-- of so many layers
abbrev pub moved_slot : Option ℕ → Option ℕ → (count : ℕ) → Pending → Pending
moved_slot (Some from) before count slots =
    if is_own_place from before then slots else moved_slots from (place_moved_to from before count) slots
moved_slot None before count slots = slots

-- The slots after a command that was done: a layer that goes takes its range along, and one that moves keeps it.
abbrev pub slots_done : EditPlaces → (count : ℕ) → Edit → Pending → Pending
slots_done places count (edits.remove_layer id) slots = removed_slot places.layer slots
slots_done places count (edits.move_layer id before) slots = moved_slot places.layer places.before count slots
slots_done places count edit slots = slots

-- after one that was not: the room for a layer that did not come is given back
abbrev pub slots_left : (count : ℕ) → Edit → Pending → Pending
slots_left count (edits.add_layer layer before) slots = remove slots count
slots_left count edit slots = slots

abbrev pub slots_after : EditPlaces → (count : ℕ) → Edit → Bool → Pending → Pending
slots_after places count edit is_done slots =
    if is_done then slots_done places count edit slots else slots_left count edit slots
