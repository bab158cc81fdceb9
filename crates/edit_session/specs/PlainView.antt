-- What a session represents by its document as it is, without the ranges that are still to be set. Only contracts of
-- private functions and proofs use it.
use Rattle.std.specs.Prelude.{◌≡◌, ℕ, List, [], ◌∷◌, Bool, false}
use Rattle.decimal_json.specs.View.{tree_of}
use Rattle.edit_session.specs.OpenViews.{shown_in}
use Rattle.edit_session.specs.SessionState.{SessionState}
use Rattle.edit_session.specs.View.{IsKept, IsReady, lacks_memory, session_state, tiles_of, view_seen}
use Rattle.edit_session.specs.declared.session.Session.{Session}
use Rattle.edit_session.specs.declared.view.View.{View}

abbrev pub plain_state : Session → (List ℕ → Bool) → SessionState
plain_state session has_image = record (session_state session has_image) { document = tree_of session.document }

abbrev pub plain_state_in : Session → View → (List ℕ → Bool) → SessionState
plain_state_in session view has_image = shown_in (plain_state session has_image) (view_seen view)

-- A session can be used: a fact that says nothing of what is kept.
abbrev pub IsPlainUsable : Session → Type 0
IsPlainUsable session = lacks_memory session ≡ false → IsReady session

-- What holds of a session from its opening on, by the tests of images and scripts that are handed in to each call.
pub record IsPlainSound (session : Session) (has_image scripts : List ℕ → Bool) : Type 0 where
  pub ready : IsPlainUsable session
  pub kept : lacks_memory session ≡ false →
      IsKept (tiles_of session) scripts (plain_state session has_image) session.kept

-- What holds of a view of it from its opening on.
abbrev pub IsPlainSoundView : Session → (has_image scripts : List ℕ → Bool) → View → Type 0
IsPlainSoundView session has_image scripts view =
    lacks_memory session ≡ false → IsKept (tiles_of session) scripts (plain_state_in session view has_image) view.kept

-- So it is with each of several views.
abbrev pub ArePlainSoundViews : Session → (has_image scripts : List ℕ → Bool) → List View → Type 0
ArePlainSoundViews session has_image scripts [] = Unit {0}
ArePlainSoundViews session has_image scripts (v ∷ vs) =
    IsPlainSoundView session has_image scripts v × ArePlainSoundViews session has_image scripts vs
