-- What holds of each of several views, where one comes, goes or changes.
use Rattle.std.proofs.Common.{◌≡◌, ◌<◌, ℕ, zero, suc, List, [], ◌∷◌, ◌++◌, length, get_or, set, refl, sym, subst, arith, ◌∙◌, Bool, true, false}
use Rattle.std.specs.Prelude.{is_err, remove, Result, Ok, Err, IsErr, OnOk}
use Rattle.style_layout.specs.Shown.{SourceTile}
use Rattle.edit_session.proofs.ViewLaws.{had_memory}
use Rattle.edit_session.specs.OpenViews.{shown_in}
use Rattle.edit_session.specs.SessionState.{SessionState}
use Rattle.edit_session.specs.View.{lacks_memory, session_state, tiles_of, view_seen, AreSoundViews, IsKept, IsSoundView}
use Rattle.edit_session.specs.declared.session.Session.{Session}
use Rattle.edit_session.specs.declared.view.View.{View}

module _ (session : Session) (has_image scripts : List ℕ → Bool) where
  abbrev IsSound : View → Type 0
  IsSound v = IsSoundView session has_image scripts v

  abbrev AreSound : List View → Type 0
  AreSound vs = AreSoundViews session has_image scripts vs

  pub sound_at : (vs : List View) (i : ℕ) (d : View) → i < length vs → AreSound vs → IsSound (get_or vs i d)
  sound_at [] i d within sound = absurd (omega arith)
  sound_at (v ∷ vs) zero d within sound = sound.0
  sound_at (v ∷ vs) (suc i) d within sound = sound_at vs i d (omega arith) sound.1

  pub one_more : (vs : List View) (v : View) → AreSound vs → IsSound v → AreSound (vs ++ v ∷ [])
  one_more [] v sound one = (one, tt)
  one_more (u ∷ us) v sound one = (sound.0, one_more us v sound.1 one)

  pub one_less : (vs : List View) (i : ℕ) → AreSound vs → AreSound (remove vs i)
  one_less [] zero sound = sound
  one_less [] (suc i) sound = sound
  one_less (v ∷ vs) zero sound = sound.1
  one_less (v ∷ vs) (suc i) sound = (sound.0, one_less vs i sound.1)

-- Something was done in one of the views of a session, which leaves what the session represents.
module _ (before after : Session) (images_before images_after scripts : List ℕ → Bool) where
  abbrev Stays : View → Type 0
  Stays v = IsSoundView before images_before scripts v → IsSoundView after images_after scripts v

  others_stay : ((v : View) → Stays v) → (vs : List View) → AreSoundViews before images_before scripts vs
      → AreSoundViews after images_after scripts vs
  others_stay stays [] sound = tt
  others_stay stays (v ∷ vs) sound = (stays v sound.0, others_stay stays vs sound.1)

  one_changed : ((v : View) → Stays v) → (vs : List View) (i : ℕ) (u : View) → AreSoundViews before images_before scripts vs
      → IsSoundView after images_after scripts u → AreSoundViews after images_after scripts (set vs i u)
  one_changed stays [] i u sound one = tt
  one_changed stays (v ∷ vs) zero u sound one = (one, others_stay stays vs sound.1)
  one_changed stays (v ∷ vs) (suc i) u sound one = (stays v sound.0, one_changed stays vs i u sound.1 one)

  stay_by : {T E : Type 0} (r : Result T E) → tiles_of after ≡ tiles_of before → lacks_memory after ≡ is_err r
      → (lacks_memory before ≡ true → IsErr r) → OnOk r (session_state after images_after ≡ session_state before images_before)
      → (v : View) → Stays v
  stay_by (Err none) tiles lacks memory own v sound usable = absurd (let q : true ≡ false = sym lacks ∙ usable in cc)
  stay_by {T} {E} (Ok x) tiles lacks memory own v sound usable =
      subst (λ (ts : List SourceTile). IsKept ts scripts (shown_in (session_state after images_after) (view_seen v)) v.kept) (sym tiles)
      (subst (λ (p : SessionState). IsKept (tiles_of before) scripts (shown_in p (view_seen v)) v.kept) (sym own)
      (sound (had_memory {E = E} (Ok x) (lacks_memory before) memory refl)))

  -- So it is with all views after something was done in the one at a place.
  pub done_sound : {T E : Type 0} (r : Result T E) → tiles_of after ≡ tiles_of before → lacks_memory after ≡ is_err r
      → (lacks_memory before ≡ true → IsErr r) → OnOk r (session_state after images_after ≡ session_state before images_before)
      → (vs : List View) (i : ℕ) (u : View) → AreSoundViews before images_before scripts vs
      → IsSoundView after images_after scripts u → AreSoundViews after images_after scripts (set vs i u)
  done_sound r tiles lacks memory own = one_changed (stay_by r tiles lacks memory own)
