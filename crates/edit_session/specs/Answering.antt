-- What a command gives before what is kept follows it. Only contracts of private functions and proofs use it.
use Rattle.std.specs.Prelude.{◌≡◌, ℕ, List, [], ◌∷◌, Bool, true, false, if◌then◌else◌}
use Rattle.decimal_json.specs.JsonText.{json_text}
use Rattle.decimal_json.specs.Tree.{Tree}
use Rattle.edit_script.specs.Edit as edits
use Rattle.edit_script.specs.Edit.{Edit}
use Rattle.kept_layers.specs.View.{kept_seen}
use Rattle.kept_layers.specs.declared.kept_layers.KeptLayers.{KeptLayers}
use Rattle.prop_values.specs.Data.{Data}
use Rattle.style_edits.specs.Edited.{edited, edited_layers}
use Rattle.style_edits.specs.Layers.{layer_list}
use Rattle.style_edits.specs.Places.{places_of}
use Rattle.style_layout.specs.Shown.{SourceTile}
use Rattle.edit_session.specs.Applied.{Reply, done, counted, styled, refused, applied, changed_by, is_of_view}
use Rattle.edit_session.specs.Applied.{kept_left, presented_after, refusal, unless_refused, with_image}
use Rattle.edit_session.specs.OpenViews.{shown_in}
use Rattle.edit_session.specs.SessionState.{SessionState}
use Rattle.edit_session.specs.View.{IsKept, reply_seen, view_seen}
use Rattle.edit_session.specs.declared.answer.Answer.{Answer}
use Rattle.edit_session.specs.declared.answer.Refusal.TheVariants.{FixedImages}
use Rattle.edit_session.specs.declared.following.BeforeEdit.{BeforeEdit}
use Rattle.edit_session.specs.declared.session.Session.{Session}
use Rattle.edit_session.specs.declared.view.View.{View}

-- ---- an answer

-- what a command gives, where what is kept has not followed an edit yet
abbrev pub unfollowed : List SourceTile → (List ℕ → Bool) → Bool → SessionState → Edit → SessionState × Reply
unfollowed tiles scripts can_change p edits.list = applied tiles scripts can_change p edits.list
unfollowed tiles scripts can_change p edits.stats = (p, counted p.last)
unfollowed tiles scripts can_change p edits.style = (p, styled (json_text p.document))
unfollowed tiles scripts can_change p edit =
    unless_refused (refusal tiles scripts can_change p edit) p (changed_by edit p)

-- a command turns what a session represents into this, and has this answer
abbrev pub IsAnswer : List SourceTile → (List ℕ → Bool) → Bool → SessionState → SessionState → Edit → Answer → Type 0
IsAnswer tiles scripts can_change before after edit answer =
    (after, reply_seen answer) ≡ unfollowed tiles scripts can_change before edit

abbrev pub is_list : Edit → Bool
is_list edits.list = true
is_list edit = false

abbrev pub is_done : Reply → Bool
is_done done = true
is_done reply = false

-- the edits whose document may be another, and none whose zoom, states, images or values of the global state are
abbrev pub is_of_document : Edit → Bool
is_of_document (edits.set_zoom zoom) = false
is_of_document (edits.set_state source layer id members) = false
is_of_document (edits.remove_state source layer id key) = false
is_of_document (edits.add_image name) = false
is_of_document (edits.remove_image name) = false
is_of_document (edits.set_global name d) = false
is_of_document edit = true

-- the test of images after a name was reported to it, and the answer
abbrev pub told : Bool → List ℕ → Bool → (List ℕ → Bool) → (List ℕ → Bool) × Reply
told can_change name present has_image =
    if can_change then (with_image name present has_image, done) else (has_image, refused FixedImages)

-- the commands in which no allocation has to succeed, of a document in which no range is still to be set
abbrev pub spares_memory : Edit → Bool
spares_memory edits.stats = true
spares_memory (edits.set_zoom zoom) = true
spares_memory (edits.remove_state source layer id key) = true
spares_memory (edits.remove_layer id) = true
spares_memory (edits.move_layer id before) = true
spares_memory _ = false

-- ---- following an edit

-- over tiles, by the values of the global state and the layers that there are after an edit
module _ (tiles : List SourceTile) (globals : List (List ℕ × Data)) (ts : List Tree) where
  -- An edit was accepted by what represented this before it; and what is kept is of that.
  pub record IsAccepted (scripts : List ℕ → Bool) (p : SessionState) (edit : Edit) (before : BeforeEdit)
      (kept : KeptLayers) : Type 0 where
    pub layers : ts ≡ layer_list (changed_by edit p).document
    pub edited : layer_list (edited p.document edit) ≡ edited_layers edit (layer_list p.document)
    pub values : globals ≡ (changed_by edit p).globals
    pub places : before.places ≡ places_of p.document edit
    pub zoom : is_of_view edit ≡ true → before.zoom ≡ p.zoom
    pub seen : kept_seen kept ≡ p.kept
    pub right : IsKept tiles scripts p kept

  -- There is something that represents so.
  abbrev pub IsOfAccepted : Edit → BeforeEdit → KeptLayers → Type 0
  IsOfAccepted edit before kept =
      (scripts : List ℕ → Bool) × (p : SessionState) × IsAccepted scripts p edit before kept

  -- So it is with what is kept of each view of a style.
  abbrev pub AreAccepted : (scripts : List ℕ → Bool) → SessionState → Edit → BeforeEdit → List View → Type 0
  AreAccepted scripts p edit before [] = Unit {0}
  AreAccepted scripts p edit before (v ∷ vs) =
      IsAccepted scripts (shown_in p (view_seen v)) edit before v.kept × AreAccepted scripts p edit before vs

  abbrev pub AreOfAccepted : Edit → BeforeEdit → List View → Type 0
  AreOfAccepted edit before vs =
      (scripts : List ℕ → Bool) × (p : SessionState) × AreAccepted scripts p edit before vs

-- what is kept has followed an edit
pub record FollowsEdit (tiles : List SourceTile) (scripts : List ℕ → Bool) (p : SessionState) (edit : Edit)
    (kept : KeptLayers) : Type 0 where
  pub seen : kept_seen kept ≡ kept_left tiles p edit
  pub right : IsKept tiles scripts (presented_after tiles p edit) kept

-- what is kept of a view has followed an edit of its style
pub record IsFollowed (tiles : List SourceTile) (scripts : List ℕ → Bool) (p : SessionState) (edit : Edit)
    (old new : View) : Type 0 where
  pub seen : view_seen new ≡ record (view_seen old) { kept = kept_left tiles (shown_in p (view_seen old)) edit }
  pub right : IsKept tiles scripts (presented_after tiles (shown_in p (view_seen old)) edit) new.kept

-- ---- a session through a view

-- a session with what is of a view in the place of its own, and the view with what is of the session
abbrev pub through : Session → View → Session
through s v = record s { zoom = v.zoom; states = v.states; kept = v.kept; last = v.last }

abbrev pub with_own : View → Session → View
with_own v s = record v { zoom = s.zoom; states = s.states; kept = s.kept; last = s.last }
