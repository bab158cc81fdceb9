-- A session through a view: what is of the view is exchanged for what is of the session, and back.
use Rattle.std.proofs.Common.{◌≡◌, ◌∙◌, ℕ, List, refl, ap, sym, subst, Bool, true, false, Option, Some, None}
use Rattle.std.specs.Prelude.{Result, Ok, Err, IfOk, IsErr, OnErr, OnOk, is_err}
use Rattle.edit_script.specs.Edit as edits
use Rattle.edit_script.specs.Edit.{Edit}
use Rattle.style_layout.specs.Shown.{SourceTile}
use Rattle.edit_session.specs.Answering.{through, with_own}
use Rattle.edit_session.specs.Applied.{Reply, applied, is_of_view, refusal, unless_refused}
use Rattle.edit_session.specs.SessionState.{SessionState}
use Rattle.edit_session.specs.View.{IsKept, lacks_memory, reply_seen, tiles_of}
use Rattle.edit_session.specs.PlainView.{IsPlainSound, IsPlainSoundView, IsPlainUsable, plain_state, plain_state_in}
use Rattle.edit_session.specs.declared.answer.Answer.{Answer}
use Rattle.edit_session.specs.declared.answer.Refusal.{Refusal}
use Rattle.edit_session.specs.declared.session.Session.{Session}
use Rattle.edit_session.specs.declared.view.View.{View}

-- ---- an edit of a view leaves the style

-- what is of a view, by that of another
abbrev pub seen_as : SessionState → SessionState → SessionState
seen_as q w = record q { zoom = w.zoom; states = w.states; kept = w.kept; last = w.last }

unless_stays : (o : Option Refusal) (p q w : SessionState) → seen_as q w ≡ seen_as p w → seen_as (unless_refused o p q).0 w ≡ seen_as p w
unless_stays None p q w h = h
unless_stays (Some r) p q w h = refl

pub style_stays : (tiles : List SourceTile) (scripts : List ℕ → Bool) (can_change : Bool) (p w : SessionState) (e : Edit)
    → is_of_view e ≡ true → seen_as (applied tiles scripts can_change p e).0 w ≡ seen_as p w
style_stays tiles scripts can_change p w edits.list h = refl
style_stays tiles scripts can_change p w edits.stats h = refl
style_stays tiles scripts can_change p w (edits.set_zoom zoom) h =
    unless_stays (refusal tiles scripts can_change p (edits.set_zoom zoom)) p _ w refl
style_stays tiles scripts can_change p w (edits.set_state source layer id members) h =
    unless_stays (refusal tiles scripts can_change p (edits.set_state source layer id members)) p _ w refl
style_stays tiles scripts can_change p w (edits.remove_state source layer id key) h =
    unless_stays (refusal tiles scripts can_change p (edits.remove_state source layer id key)) p _ w refl
style_stays tiles scripts can_change p w edits.style h = absurd (cc)
style_stays tiles scripts can_change p w (edits.set_paint layer name value) h = absurd (cc)
style_stays tiles scripts can_change p w (edits.set_layout layer name value) h = absurd (cc)
style_stays tiles scripts can_change p w (edits.set_filter layer filter) h = absurd (cc)
style_stays tiles scripts can_change p w (edits.set_range layer min max) h = absurd (cc)
style_stays tiles scripts can_change p w (edits.add_layer layer before) h = absurd (cc)
style_stays tiles scripts can_change p w (edits.remove_layer id) h = absurd (cc)
style_stays tiles scripts can_change p w (edits.move_layer id before) h = absurd (cc)
style_stays tiles scripts can_change p w (edits.add_image name) h = absurd (cc)
style_stays tiles scripts can_change p w (edits.remove_image name) h = absurd (cc)
style_stays tiles scripts can_change p w (edits.set_global name d) h = absurd (cc)

-- ---- a call that was answered

pub of_fine : {A E : Type 0} {P : Type 0} (r : Result A E) → is_err r ≡ false → OnOk r P → P
of_fine (Ok a) f h = h
of_fine (Err e) f h = absurd (cc)

-- and one that was not
pub of_fault : {A E : Type 0} {P : Type 0} (r : Result A E) → is_err r ≡ true → OnErr r P → P
of_fault (Ok a) f h = absurd (cc)
of_fault (Err e) f h = h

-- what holds of what was made
pub of_ok : {A E : Type 0} (P : A → Type 0) (r : Result A E) (a : A) → r ≡ Ok a → IfOk r P → P a
of_ok P r a is h = subst (λ x. IfOk x P) is h

-- ---- there

pub sound_through : (s t : Session) (v : View) (images scripts : List ℕ → Bool) → t ≡ through s v
    → IsPlainSound s images scripts → IsPlainSoundView s images scripts v → IsPlainSound t images scripts
sound_through s t v images scripts is sound view =
    subst (λ (x : Session). IsPlainSound x images scripts) (sym is) (record { ready = sound.ready; kept = view })

-- ---- and back

-- a call that was answered had memory
pub had_memory : {A E : Type 0} (r : Result A E) (b : Bool) → (b ≡ true → IsErr r) → is_err r ≡ false → b ≡ false
had_memory (Ok a) true h e = absurd (let no = h refl in cc)
had_memory (Ok a) false h e = refl
had_memory (Err x) b h e = absurd (cc)

module _ {E : Type 0} (r : Result Answer E) (s₀ s₁ s₂ s₃ : Session) (v₀ v₁ v₂ : View) (images₀ images₁ scripts : List ℕ → Bool) (can_change : Bool) (e : Edit)
    (first : s₁ ≡ through s₀ v₀) (own : v₁ ≡ with_own v₀ s₀) (last : s₃ ≡ through s₂ v₁) (view : v₂ ≡ with_own v₁ s₂) where
  abbrev pub Answers : Type 0
  Answers = IfOk r (λ a. (plain_state s₂ images₁, reply_seen a) ≡ applied (tiles_of s₁) scripts can_change (plain_state s₁ images₀) e)

  -- what a session answers in between is answered through the view
  pub answered_through : Answers
      → IfOk r (λ a. (plain_state_in s₃ v₂ images₁, reply_seen a) ≡ applied (tiles_of s₀) scripts can_change (plain_state_in s₀ v₀ images₀) e)
  answered_through given = by r given
    where
      by : (x : Result Answer E)
          → IfOk x (λ a. (plain_state s₂ images₁, reply_seen a) ≡ applied (tiles_of s₁) scripts can_change (plain_state s₁ images₀) e)
          → IfOk x (λ a. (plain_state_in s₃ v₂ images₁, reply_seen a) ≡ applied (tiles_of s₀) scripts can_change (plain_state_in s₀ v₀ images₀) e)
      by (Ok a) h =
          (λ k. (plain_state_in (last k) (view k) images₁, reply_seen a))
          ∙ (h ∙ (λ k. applied (tiles_of (first k)) scripts can_change (plain_state (first k) images₀) e))
      by (Err x) h = h

  -- what the session itself represents stays
  own_in_between : (a : Answer)
      → (plain_state s₂ images₁, reply_seen a) ≡ applied (tiles_of s₁) scripts can_change (plain_state s₁ images₀) e
      → is_of_view e ≡ true → plain_state s₃ images₁ ≡ plain_state s₀ images₀
  own_in_between a h of_view =
      let w = plain_state s₀ images₀ in
      let there : plain_state s₃ images₁ ≡ seen_as (plain_state s₂ images₁) w =
      (λ k. plain_state (last k) images₁) ∙ (λ k. plain_state (through s₂ (own k)) images₁) in
      let middle : seen_as (plain_state s₂ images₁) w ≡ seen_as (applied (tiles_of s₁) scripts can_change (plain_state s₁ images₀) e).0 w =
      ap (λ (x : SessionState × Reply). seen_as x.0 w) h in
      let back : seen_as (plain_state s₁ images₀) w ≡ w = λ k. seen_as (plain_state (first k) images₀) w in
      there ∙ (middle ∙ (style_stays (tiles_of s₁) scripts can_change (plain_state s₁ images₀) w e of_view ∙ back))

  pub own_stays : Answers → is_of_view e ≡ true → OnOk r (plain_state s₃ images₁ ≡ plain_state s₀ images₀)
  own_stays given of_view = by r given
    where
      by : (x : Result Answer E)
          → IfOk x (λ a. (plain_state s₂ images₁, reply_seen a) ≡ applied (tiles_of s₁) scripts can_change (plain_state s₁ images₀) e)
          → OnOk x (plain_state s₃ images₁ ≡ plain_state s₀ images₀)
      by (Ok a) h = own_in_between a h of_view
      by (Err x) h = tt

  module _ (sound : IsPlainSound s₂ images₁ scripts) where
    pub view_sound : IsPlainSoundView s₃ images₁ scripts v₂
    view_sound = λ off. subst (λ (x : Session × View). IsKept (tiles_of x.0) scripts (plain_state_in x.0 x.1 images₁) x.1.kept)
        (λ k. (sym last k, sym view k)) (sound.kept (sym (ap lacks_memory last) ∙ off))

    -- its own view is sound as it was before
    pub own_sound : OnOk r (plain_state s₃ images₁ ≡ plain_state s₀ images₀) → tiles_of s₂ ≡ tiles_of s₁
        → lacks_memory s₂ ≡ is_err r → (lacks_memory s₁ ≡ true → IsErr r) → IsPlainSound s₀ images₀ scripts
        → IsPlainSound s₃ images₁ scripts
    own_sound same tiles lacks memory before = record {
      ready = subst IsPlainUsable (sym last) sound.ready;
      kept = λ off. kept_own off;
    }
      where
        kept_own : lacks_memory s₃ ≡ false → IsKept (tiles_of s₃) scripts (plain_state s₃ images₁) s₃.kept
        kept_own off =
            let fine : is_err r ≡ false = sym lacks ∙ (sym (ap lacks_memory last) ∙ off) in
            let had : lacks_memory s₀ ≡ false = sym (ap lacks_memory first) ∙ had_memory r (lacks_memory s₁) memory fine in
            let over : tiles_of s₃ ≡ tiles_of s₀ = ap tiles_of last ∙ (tiles ∙ ap tiles_of first) in
            let what : s₃.kept ≡ s₀.kept = ap (λ (x : Session). x.kept) last ∙ ap (λ (x : View). x.kept) own in
            let stays : plain_state s₃ images₁ ≡ plain_state s₀ images₀ = of_fine r fine same in
            subst (λ ts. IsKept ts scripts (plain_state s₃ images₁) s₃.kept) (sym over)
            (subst (λ p. IsKept (tiles_of s₀) scripts p s₃.kept) (sym stays)
            (subst (λ x. IsKept (tiles_of s₀) scripts (plain_state s₀ images₀) x) (sym what) (before.kept had)))
