-- A session after an edit, before what is kept follows it and after that.
use Rattle.std.proofs.Common.{◌≡◌, ◌∙◌, ℕ, List, ap, sym, subst, Bool, true, false}
use Rattle.decimal_json.specs.View.{tree_of}
use Rattle.edit_script.specs.Edit.{Edit}
use Rattle.host_ops.specs.Change.{IsSameTest}
use Rattle.kept_layers.specs.View.{kept_seen}
use Rattle.kept_layers.specs.declared.kept_layers.KeptLayers.{KeptLayers}
use Rattle.style_edits.specs.Edited.{edited_layers}
use Rattle.style_edits.specs.Layers.{layer_list}
use Rattle.style_edits.specs.Places.{places_of}
use Rattle.style_edits.specs.Taking.{HasLayers}
use Rattle.style_layout.specs.Shown.{SourceTile}
use Rattle.edit_session.specs.Answering.{IsAccepted, is_done, is_list, unfollowed}
use Rattle.edit_session.specs.Applied.{Reply, applied, changed_by, kept_left, presented_after, tells_image}
use Rattle.edit_session.specs.SessionState.{SessionState}
use Rattle.edit_session.specs.View.{IsKept, tiles_of}
use Rattle.edit_session.specs.PlainView.{plain_state}
use Rattle.edit_session.specs.declared.following.BeforeEdit.{BeforeEdit}
use Rattle.edit_session.specs.declared.session.Session.{Session}
use Rattle.edit_session.proofs.AnswerLaws.{done_after, images_stay, is_changed, is_left, not_done}
use Rattle.edit_session.proofs.FollowLaws.{changed_list}

module _ (s mid : Session) (images₀ images₁ scripts : List ℕ → Bool) (can_change : Bool) (e : Edit) (r : Reply)
    (given : (plain_state mid images₁, r) ≡ unfollowed (tiles_of s) scripts can_change (plain_state s images₀) e)
    (tiles : tiles_of mid ≡ tiles_of s) (kept : mid.kept ≡ s.kept) where
  abbrev before : SessionState
  before = plain_state s images₀

  -- it was not done
  pub other_answered : is_done r ≡ false → (plain_state mid images₁, r) ≡ applied (tiles_of s) scripts can_change (plain_state s images₀) e
  other_answered h = not_done (tiles_of s) scripts can_change before e (plain_state mid images₁) r given h

  pub other_kept : is_list e ≡ false → is_done r ≡ false → IsKept (tiles_of s) scripts (plain_state s images₀) s.kept
      → IsKept (tiles_of mid) scripts (plain_state mid images₁) mid.kept
  other_kept l h k =
      subst (λ (q : SessionState). IsKept (tiles_of mid) scripts q mid.kept)
      (sym (is_left (tiles_of s) scripts can_change before e (plain_state mid images₁) r given l h))
      (subst (λ (x : List SourceTile × KeptLayers). IsKept x.0 scripts before x.1) (λ i. (sym tiles i, sym kept i)) k)

  -- it reports nothing to the test of images
  pub same_images : tells_image e ≡ false → IsSameTest images₀ images₁
  same_images h = λ text k. images_stay (tiles_of s) scripts can_change before e (plain_state mid images₁) r given h k text

  module _ (is_so : is_done r ≡ true) where
    changes : plain_state mid images₁ ≡ changed_by e (plain_state s images₀)
    changes = is_changed (tiles_of s) scripts can_change before e (plain_state mid images₁) r given is_so

    -- it was accepted
    pub accepted : (b : BeforeEdit) → HasLayers (tree_of s.document) (layer_list (tree_of s.document))
        → b.places ≡ places_of (tree_of s.document) e → b.zoom ≡ s.zoom
        → IsKept (tiles_of s) scripts (plain_state s images₀) s.kept
        → IsAccepted (tiles_of mid) mid.globals (layer_list (tree_of mid.document)) scripts (plain_state s images₀) e b mid.kept
    accepted b there places zoom k = record {
      layers = ap (λ (q : SessionState). layer_list q.document) changes;
      edited = changed_list (tree_of s.document) (layer_list (tree_of s.document)) there (edited_layers e);
      values = ap (λ (q : SessionState). q.globals) changes;
      places = places;
      zoom = λ h. zoom;
      seen = ap kept_seen kept;
      right = subst (λ (x : List SourceTile × KeptLayers). IsKept x.0 scripts before x.1) (λ i. (sym tiles i, sym kept i)) k;
    }

    module _ (new : Session) (others : new ≡ record mid { indexes = new.indexes; kept = new.kept })
        (seen : kept_seen new.kept ≡ kept_left (tiles_of mid) (plain_state s images₀) e) where
      pub done_answered : (plain_state new images₁, r) ≡ applied (tiles_of s) scripts can_change (plain_state s images₀) e
      done_answered =
          (λ k. (plain_state (others k) images₁, r))
          ∙ done_after (tiles_of s) scripts can_change before e (plain_state mid images₁) r given (kept_seen new.kept) is_so
          (seen ∙ (λ k. kept_left (tiles k) before e))

      pub done_kept : IsKept (tiles_of mid) scripts (presented_after (tiles_of mid) (plain_state s images₀) e) new.kept
          → IsKept (tiles_of new) scripts (plain_state new images₁) new.kept
      done_kept followed =
          let state : plain_state new images₁ ≡ presented_after (tiles_of mid) before e =
          (λ k. plain_state (others k) images₁) ∙ (λ k. record (changes k) { kept = seen k }) in
          subst (λ (x : List SourceTile × SessionState). IsKept x.0 scripts x.1 new.kept)
          (λ k. (tiles_of (sym others k), sym state k)) followed
