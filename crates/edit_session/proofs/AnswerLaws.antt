-- From what a command gives before what is kept follows it to what it gives.
use Rattle.std.proofs.Common.{◌≡◌, ◌∙◌, ◌+◌, ◌≤◌, ℕ, List, refl, ap, sym, arith, Bool, true, false, Option, Some, None, Result, Ok, Err}
use Rattle.std.specs.Prelude.{OnOk}
use Rattle.edit_script.specs.Edit as edits
use Rattle.edit_script.specs.View.{command_seen}
use Rattle.edit_script.specs.declared.command.Command.{Command}
use Rattle.edit_script.specs.declared.command.Command.TheVariants as commands
use Rattle.edit_script.specs.Edit.{Edit}
use Rattle.kept_layers.specs.KeptLayers.{StyleKept}
use Rattle.style_layout.specs.Shown.{SourceTile}
use Rattle.edit_session.specs.Answering.{is_done, is_list, unfollowed}
use Rattle.edit_session.specs.Applied.{Reply, done, listed, counted, styled, refused, applied, changed_by, kept_left, least_steps, most_steps, refusal, tells_image, unless_refused}
use Rattle.edit_session.specs.SessionState.{SessionState}
use Rattle.edit_session.specs.declared.answer.Refusal.{Refusal}

-- what is kept follows an edit that is done
abbrev kept_if : StyleKept → SessionState → Reply → SessionState × Reply
kept_if ks q done = (record q { kept = ks }, done)
kept_if ks q reply = (q, reply)

unless_kept : (ks : StyleKept) (o : Option Refusal) (p q : SessionState)
    → unless_refused o p (record q { kept = ks }) ≡ kept_if ks (unless_refused o p q).0 (unless_refused o p q).1
unless_kept ks None p q = refl
unless_kept ks (Some r) p q = refl

if_other : (ks : StyleKept) (q : SessionState) (r : Reply) → is_done r ≡ false → (q, r) ≡ kept_if ks q r
if_other ks q done h = absurd (cc)
if_other ks q (listed text) h = refl
if_other ks q (counted n) h = refl
if_other ks q (styled text) h = refl
if_other ks q (refused refusal) h = refl

if_done : (ks : StyleKept) (q : SessionState) (r : Reply) → is_done r ≡ true → (record q { kept = ks }, r) ≡ kept_if ks q r
if_done ks q done h = refl
if_done ks q (listed text) h = absurd (cc)
if_done ks q (counted n) h = absurd (cc)
if_done ks q (styled text) h = absurd (cc)
if_done ks q (refused refusal) h = absurd (cc)

-- an edit that is done is not refused
done_changes : (o : Option Refusal) (p q : SessionState) → is_done (unless_refused o p q).1 ≡ true → (unless_refused o p q).0 ≡ q
done_changes None p q h = refl
done_changes (Some r) p q h = absurd (cc)

-- one that is not done is refused
refused_stays : (o : Option Refusal) (p q : SessionState) → is_done (unless_refused o p q).1 ≡ false → (unless_refused o p q).0 ≡ p
refused_stays None p q h = absurd (cc)
refused_stays (Some r) p q h = refl

-- what a refusal leaves, or an edit that leaves images
pub images_left : (o : Option Refusal) (p q : SessionState) → q.has_image ≡ p.has_image → (unless_refused o p q).0.has_image ≡ p.has_image
images_left None p q h = h
images_left (Some r) p q h = refl

module _ (tiles : List SourceTile) (scripts : List ℕ → Bool) (can_change : Bool) (p : SessionState) where
  followed : (e : Edit) → applied tiles scripts can_change p e ≡ kept_if (kept_left tiles p e)
      (unfollowed tiles scripts can_change p e).0 (unfollowed tiles scripts can_change p e).1
  followed edits.list = refl
  followed edits.stats = refl
  followed edits.style = refl
  followed (edits.set_paint layer name value) = unless_kept (kept_left tiles p (edits.set_paint layer name value)) (refusal tiles scripts can_change p (edits.set_paint layer name value)) p (changed_by (edits.set_paint layer name value) p)
  followed (edits.set_layout layer name value) = unless_kept (kept_left tiles p (edits.set_layout layer name value)) (refusal tiles scripts can_change p (edits.set_layout layer name value)) p (changed_by (edits.set_layout layer name value) p)
  followed (edits.set_filter layer filter) = unless_kept (kept_left tiles p (edits.set_filter layer filter)) (refusal tiles scripts can_change p (edits.set_filter layer filter)) p (changed_by (edits.set_filter layer filter) p)
  followed (edits.set_range layer min max) = unless_kept (kept_left tiles p (edits.set_range layer min max)) (refusal tiles scripts can_change p (edits.set_range layer min max)) p (changed_by (edits.set_range layer min max) p)
  followed (edits.add_layer layer before) = unless_kept (kept_left tiles p (edits.add_layer layer before)) (refusal tiles scripts can_change p (edits.add_layer layer before)) p (changed_by (edits.add_layer layer before) p)
  followed (edits.remove_layer id) = unless_kept (kept_left tiles p (edits.remove_layer id)) (refusal tiles scripts can_change p (edits.remove_layer id)) p (changed_by (edits.remove_layer id) p)
  followed (edits.move_layer id before) = unless_kept (kept_left tiles p (edits.move_layer id before)) (refusal tiles scripts can_change p (edits.move_layer id before)) p (changed_by (edits.move_layer id before) p)
  followed (edits.set_zoom zoom) = unless_kept (kept_left tiles p (edits.set_zoom zoom)) (refusal tiles scripts can_change p (edits.set_zoom zoom)) p (changed_by (edits.set_zoom zoom) p)
  followed (edits.set_state source layer id members) =
      unless_kept (kept_left tiles p (edits.set_state source layer id members)) (refusal tiles scripts can_change p (edits.set_state source layer id members)) p (changed_by (edits.set_state source layer id members) p)
  followed (edits.remove_state source layer id key) =
      unless_kept (kept_left tiles p (edits.remove_state source layer id key)) (refusal tiles scripts can_change p (edits.remove_state source layer id key)) p (changed_by (edits.remove_state source layer id key) p)
  followed (edits.add_image name) = unless_kept (kept_left tiles p (edits.add_image name)) (refusal tiles scripts can_change p (edits.add_image name)) p (changed_by (edits.add_image name) p)
  followed (edits.remove_image name) = unless_kept (kept_left tiles p (edits.remove_image name)) (refusal tiles scripts can_change p (edits.remove_image name)) p (changed_by (edits.remove_image name) p)
  followed (edits.set_global name d) = unless_kept (kept_left tiles p (edits.set_global name d)) (refusal tiles scripts can_change p (edits.set_global name d)) p (changed_by (edits.set_global name d) p)

  -- an edit that is done changes what it should
  changed : (e : Edit) → is_done (unfollowed tiles scripts can_change p e).1 ≡ true
      → (unfollowed tiles scripts can_change p e).0 ≡ changed_by e p
  changed edits.list h = absurd (cc)
  changed edits.stats h = absurd (cc)
  changed edits.style h = absurd (cc)
  changed (edits.set_paint layer name value) h = done_changes (refusal tiles scripts can_change p (edits.set_paint layer name value)) p (changed_by (edits.set_paint layer name value) p) h
  changed (edits.set_layout layer name value) h = done_changes (refusal tiles scripts can_change p (edits.set_layout layer name value)) p (changed_by (edits.set_layout layer name value) p) h
  changed (edits.set_filter layer filter) h = done_changes (refusal tiles scripts can_change p (edits.set_filter layer filter)) p (changed_by (edits.set_filter layer filter) p) h
  changed (edits.set_range layer min max) h = done_changes (refusal tiles scripts can_change p (edits.set_range layer min max)) p (changed_by (edits.set_range layer min max) p) h
  changed (edits.add_layer layer before) h = done_changes (refusal tiles scripts can_change p (edits.add_layer layer before)) p (changed_by (edits.add_layer layer before) p) h
  changed (edits.remove_layer id) h = done_changes (refusal tiles scripts can_change p (edits.remove_layer id)) p (changed_by (edits.remove_layer id) p) h
  changed (edits.move_layer id before) h = done_changes (refusal tiles scripts can_change p (edits.move_layer id before)) p (changed_by (edits.move_layer id before) p) h
  changed (edits.set_zoom zoom) h = done_changes (refusal tiles scripts can_change p (edits.set_zoom zoom)) p (changed_by (edits.set_zoom zoom) p) h
  changed (edits.set_state source layer id members) h =
      done_changes (refusal tiles scripts can_change p (edits.set_state source layer id members)) p (changed_by (edits.set_state source layer id members) p) h
  changed (edits.remove_state source layer id key) h =
      done_changes (refusal tiles scripts can_change p (edits.remove_state source layer id key)) p (changed_by (edits.remove_state source layer id key) p) h
  changed (edits.add_image name) h = done_changes (refusal tiles scripts can_change p (edits.add_image name)) p (changed_by (edits.add_image name) p) h
  changed (edits.remove_image name) h = done_changes (refusal tiles scripts can_change p (edits.remove_image name)) p (changed_by (edits.remove_image name) p) h
  changed (edits.set_global name d) h = done_changes (refusal tiles scripts can_change p (edits.set_global name d)) p (changed_by (edits.set_global name d) p) h

  -- an edit that reports nothing to the test of images leaves it
  leaves_images : (e : Edit) → tells_image e ≡ false → (unfollowed tiles scripts can_change p e).0.has_image ≡ p.has_image
  leaves_images edits.list h = refl
  leaves_images edits.stats h = refl
  leaves_images edits.style h = refl
  leaves_images (edits.set_paint layer name value) h = images_left (refusal tiles scripts can_change p (edits.set_paint layer name value)) p (changed_by (edits.set_paint layer name value) p) refl
  leaves_images (edits.set_layout layer name value) h = images_left (refusal tiles scripts can_change p (edits.set_layout layer name value)) p (changed_by (edits.set_layout layer name value) p) refl
  leaves_images (edits.set_filter layer filter) h = images_left (refusal tiles scripts can_change p (edits.set_filter layer filter)) p (changed_by (edits.set_filter layer filter) p) refl
  leaves_images (edits.set_range layer min max) h = images_left (refusal tiles scripts can_change p (edits.set_range layer min max)) p (changed_by (edits.set_range layer min max) p) refl
  leaves_images (edits.add_layer layer before) h = images_left (refusal tiles scripts can_change p (edits.add_layer layer before)) p (changed_by (edits.add_layer layer before) p) refl
  leaves_images (edits.remove_layer id) h = images_left (refusal tiles scripts can_change p (edits.remove_layer id)) p (changed_by (edits.remove_layer id) p) refl
  leaves_images (edits.move_layer id before) h = images_left (refusal tiles scripts can_change p (edits.move_layer id before)) p (changed_by (edits.move_layer id before) p) refl
  leaves_images (edits.set_zoom zoom) h = images_left (refusal tiles scripts can_change p (edits.set_zoom zoom)) p (changed_by (edits.set_zoom zoom) p) refl
  leaves_images (edits.set_state source layer id members) h =
      images_left (refusal tiles scripts can_change p (edits.set_state source layer id members)) p (changed_by (edits.set_state source layer id members) p) refl
  leaves_images (edits.remove_state source layer id key) h =
      images_left (refusal tiles scripts can_change p (edits.remove_state source layer id key)) p (changed_by (edits.remove_state source layer id key) p) refl
  leaves_images (edits.add_image name) h = absurd (cc)
  leaves_images (edits.remove_image name) h = absurd (cc)
  leaves_images (edits.set_global name d) h = images_left (refusal tiles scripts can_change p (edits.set_global name d)) p (changed_by (edits.set_global name d) p) refl

  -- a command that is neither done nor a listing changes nothing
  stays : (e : Edit) → is_list e ≡ false → is_done (unfollowed tiles scripts can_change p e).1 ≡ false
      → (unfollowed tiles scripts can_change p e).0 ≡ p
  stays edits.list l h = absurd (cc)
  stays edits.stats l h = refl
  stays edits.style l h = refl
  stays (edits.set_paint layer name value) l h = refused_stays (refusal tiles scripts can_change p (edits.set_paint layer name value)) p (changed_by (edits.set_paint layer name value) p) h
  stays (edits.set_layout layer name value) l h = refused_stays (refusal tiles scripts can_change p (edits.set_layout layer name value)) p (changed_by (edits.set_layout layer name value) p) h
  stays (edits.set_filter layer filter) l h = refused_stays (refusal tiles scripts can_change p (edits.set_filter layer filter)) p (changed_by (edits.set_filter layer filter) p) h
  stays (edits.set_range layer min max) l h = refused_stays (refusal tiles scripts can_change p (edits.set_range layer min max)) p (changed_by (edits.set_range layer min max) p) h
  stays (edits.add_layer layer before) l h = refused_stays (refusal tiles scripts can_change p (edits.add_layer layer before)) p (changed_by (edits.add_layer layer before) p) h
  stays (edits.remove_layer id) l h = refused_stays (refusal tiles scripts can_change p (edits.remove_layer id)) p (changed_by (edits.remove_layer id) p) h
  stays (edits.move_layer id before) l h = refused_stays (refusal tiles scripts can_change p (edits.move_layer id before)) p (changed_by (edits.move_layer id before) p) h
  stays (edits.set_zoom zoom) l h = refused_stays (refusal tiles scripts can_change p (edits.set_zoom zoom)) p (changed_by (edits.set_zoom zoom) p) h
  stays (edits.set_state source layer id members) l h = refused_stays (refusal tiles scripts can_change p (edits.set_state source layer id members)) p (changed_by (edits.set_state source layer id members) p) h
  stays (edits.remove_state source layer id key) l h = refused_stays (refusal tiles scripts can_change p (edits.remove_state source layer id key)) p (changed_by (edits.remove_state source layer id key) p) h
  stays (edits.add_image name) l h = refused_stays (refusal tiles scripts can_change p (edits.add_image name)) p (changed_by (edits.add_image name) p) h
  stays (edits.remove_image name) l h = refused_stays (refusal tiles scripts can_change p (edits.remove_image name)) p (changed_by (edits.remove_image name) p) h
  stays (edits.set_global name d) l h = refused_stays (refusal tiles scripts can_change p (edits.set_global name d)) p (changed_by (edits.set_global name d) p) h

  module _ (e : Edit) (q : SessionState) (r : Reply) (given : (q, r) ≡ unfollowed tiles scripts can_change p e) where
    by_given : kept_if (kept_left tiles p e) q r ≡ applied tiles scripts can_change p e
    by_given = (λ k. kept_if (kept_left tiles p e) (given k).0 (given k).1) ∙ sym (followed e)

    -- a command that is not done gives what it gives
    pub not_done : is_done r ≡ false → (q, r) ≡ applied tiles scripts can_change p e
    not_done h = if_other (kept_left tiles p e) q r h ∙ by_given

    -- one that is done changes what it should, and gives this once what is kept has followed
    pub is_changed : is_done r ≡ true → q ≡ changed_by e p
    is_changed h =
        ap (λ (a : SessionState × Reply). a.0) given
        ∙ changed e (sym (ap (λ (a : SessionState × Reply). is_done a.1) given) ∙ h)

    pub done_after : (ks : StyleKept) → is_done r ≡ true → ks ≡ kept_left tiles p e
        → (record q { kept = ks }, r) ≡ applied tiles scripts can_change p e
    done_after ks h same =
        (λ k. (record q { kept = same k }, r)) ∙ (if_done (kept_left tiles p e) q r h ∙ by_given)

    pub is_left : is_list e ≡ false → is_done r ≡ false → q ≡ p
    is_left l h =
        ap (λ (a : SessionState × Reply). a.0) given
        ∙ stays e l (sym (ap (λ (a : SessionState × Reply). is_done a.1) given) ∙ h)

    pub images_stay : tells_image e ≡ false → q.has_image ≡ p.has_image
    images_stay h = ap (λ (a : SessionState × Reply). a.0.has_image) given ∙ leaves_images e h

-- what is so always is so after success
pub on_ok_always : {T E P : Type 0} (r : Result T E) → P → OnOk r P
on_ok_always (Ok x) p = p
on_ok_always (Err e) p = tt

-- a command that lists nothing takes no steps
module _ (tiles : List SourceTile) (scripts : List ℕ → Bool) (p : SessionState) where
  no_least : (command : Command) → (command ≡ commands.List → ⊥) → least_steps tiles scripts p (command_seen command) ≡ 0
  no_least commands.List other = absurd (other refl)
  no_least _ other = refl

  pub quiet_least : (command : Command) → (command ≡ commands.List → ⊥) → (n : ℕ)
      → n + least_steps tiles scripts p (command_seen command) ≤ n
  quiet_least command other n = let none = no_least command other in omega (arith, none)

  pub quiet_most : (command : Command) (n : ℕ) → n ≤ n + most_steps tiles scripts p (command_seen command)
  quiet_most command n = omega arith
