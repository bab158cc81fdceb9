-- What a desk represents after something was done in a view, and the steps of it.
use Rattle.std.proofs.Common.{◌≡◌, ◌∙◌, ℕ, List, set, map, ap, sym, Bool, Some}
use Rattle.edit_script.specs.Edit.{Edit}
use Rattle.edit_session.specs.Applied.{Reply, applied, least_steps, most_steps}
use Rattle.edit_session.specs.OpenViews.{OpenView, shown_in, view_left}
use Rattle.edit_session.specs.SessionState.{SessionState}
use Rattle.edit_session.specs.View.{session_state, state_in, view_seen}
use Rattle.edit_session.specs.declared.session.Session.{Session}
use Rattle.edit_session.specs.declared.view.View.{View}
use Rattle.style_layout.specs.Shown.{SourceTile}
use Rattle.view_desk.specs.DeskState.{DeskState, done_if, least_in, left_by, most_in, view_named, view_reply, with_view}
use Rattle.view_desk.proofs.ViewPlaces.{IsAt}

module _ (tiles : List SourceTile) (scripts : List ℕ → Bool) (can_change : Bool) (before after : Session) (vs : List View)
    (place : ℕ) (name shared : List ℕ) (old new : View) (images_before images_after : List ℕ → Bool) (e : Edit) (reply : Reply) where
  abbrev pub desk_before : DeskState
  desk_before = record { style = session_state before images_before; views = map view_seen vs }

  abbrev pub desk_after : DeskState
  desk_after = record { style = session_state after images_after; views = map view_seen (set vs place new) }

  pub done_in_view : (at : IsAt name vs place) → view_seen old ≡ at.view → new.name ≡ old.name
      → session_state after images_after ≡ session_state before images_before → shared ≡ name
      → (state_in after new images_after, reply) ≡ applied tiles scripts can_change (state_in before old images_before) e
      → (desk_after, view_reply shared reply) ≡ done_if tiles scripts can_change desk_before name e (view_named name desk_before.views)
  done_in_view at seen named own same given =
      let put : List OpenView → OpenView → List OpenView = λ us u. with_view name u us in
      let views : desk_after.views ≡ put desk_before.views (view_left (view_seen old) (state_in after new images_after)) =
      at.changed new ∙ (λ k. put desk_before.views (record (view_seen new) { name = named k })) in
      let left : (desk_after, view_reply shared reply)
      ≡ left_by tiles scripts can_change desk_before name (view_seen old) (state_in after new images_after, reply) =
      λ k. (record { style = own k; views = views k }, view_reply (same k) reply) in
      let middle : left_by tiles scripts can_change desk_before name (view_seen old) (state_in after new images_after, reply)
      ≡ done_if tiles scripts can_change desk_before name e (Some (view_seen old)) =
      ap (left_by tiles scripts can_change desk_before name (view_seen old)) given in
      left ∙ (middle ∙ ap (done_if tiles scripts can_change desk_before name e) (ap Some seen ∙ sym at.named))

-- ---- the steps of it

module _ (tiles : List SourceTile) (scripts : List ℕ → Bool) (p : SessionState) (e : Edit) (vs : List View) (place : ℕ) (name : List ℕ)
    (old : View) (at : IsAt name vs place) (seen : view_seen old ≡ at.view) where
  found : view_named name (map view_seen vs) ≡ Some (view_seen old)
  found = at.named ∙ ap Some (sym seen)

  pub least_there : least_in tiles scripts p e (view_named name (map view_seen vs)) ≡ least_steps tiles scripts (shown_in p (view_seen old)) e
  least_there = ap (least_in tiles scripts p e) found

  pub most_there : most_in tiles scripts p e (view_named name (map view_seen vs)) ≡ most_steps tiles scripts (shown_in p (view_seen old)) e
  most_there = ap (most_in tiles scripts p e) found
