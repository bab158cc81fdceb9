-- An edit of the style in each of several views.
use Rattle.std.proofs.Common.{◌≡◌, ◌∙◌, ℕ, List, [], ◌∷◌, map, refl, ap, sym, subst, Bool, true, false, Option, Some, None}
use Rattle.edit_script.specs.Edit as edits
use Rattle.edit_script.specs.Edit.{Edit}
use Rattle.decimal_json.specs.View.{tree_of}
use Rattle.host_ops.specs.Change.{IsSameTest}
use Rattle.kept_layers.specs.Holding.{Pairwise}
use Rattle.style_edits.specs.Edited.{edited, edited_layers}
use Rattle.style_edits.specs.Layers.{layer_list}
use Rattle.style_edits.specs.Places.{places_of}
use Rattle.style_layout.specs.Shown.{SourceTile}
use Rattle.edit_session.specs.Answering.{AreAccepted, IsFollowed, is_done}
use Rattle.edit_session.specs.Applied.{Reply, applied, changed_by, is_of_view, kept_left, least_steps, most_steps, presented_after, refusal, tells_image, unless_refused}
use Rattle.edit_session.specs.OpenViews.{OpenView, after_edit, in_each, shown_in, view_left}
use Rattle.edit_session.specs.SessionState.{SessionState}
use Rattle.edit_session.specs.View.{IsKept, lacks_memory, tiles_of, view_seen}
use Rattle.edit_session.specs.PlainView.{ArePlainSoundViews, plain_state, plain_state_in}
use Rattle.edit_session.specs.declared.answer.Refusal.{Refusal}
use Rattle.edit_session.specs.declared.following.BeforeEdit.{BeforeEdit}
use Rattle.edit_session.specs.declared.session.Session.{Session}
use Rattle.edit_session.specs.declared.view.View.{View}

module _ (v : OpenView) where
  left_done : (o : Option Refusal) (p q x y : SessionState) → is_done (unless_refused o p q).1 ≡ true
      → view_left v (unless_refused o x y).0 ≡ view_left v y
  left_done None p q x y h = refl
  left_done (Some r) p q x y h = absurd (cc)

  left_refused : (o : Option Refusal) (p q x y : SessionState) → is_done (unless_refused o p q).1 ≡ false
      → view_left v (unless_refused o x y).0 ≡ view_left v x
  left_refused None p q x y h = absurd (cc)
  left_refused (Some r) p q x y h = refl

state_done : (o : Option Refusal) (p q : SessionState) → is_done (unless_refused o p q).1 ≡ true → (unless_refused o p q).0 ≡ q
state_done None p q h = refl
state_done (Some r) p q h = absurd (cc)

state_refused : (o : Option Refusal) (p q : SessionState) → is_done (unless_refused o p q).1 ≡ false → (unless_refused o p q).0 ≡ p
state_refused None p q h = absurd (cc)
state_refused (Some r) p q h = refl

module _ (tiles : List SourceTile) (scripts : List ℕ → Bool) (can_change : Bool) (p : SessionState) where
  -- ---- what an edit of the style makes of a view

  each_done : (v : OpenView) (e : Edit) → is_of_view e ≡ false → is_done (applied tiles scripts can_change p e).1 ≡ true
      → after_edit tiles scripts can_change p e v ≡ record v { kept = kept_left tiles (shown_in p v) e }
  each_done v (edits.set_paint layer name value) h so =
      left_done v (refusal tiles scripts can_change p (edits.set_paint layer name value)) p (presented_after tiles p (edits.set_paint layer name value)) (shown_in p v) (presented_after tiles (shown_in p v) (edits.set_paint layer name value)) so
  each_done v (edits.set_layout layer name value) h so =
      left_done v (refusal tiles scripts can_change p (edits.set_layout layer name value)) p (presented_after tiles p (edits.set_layout layer name value)) (shown_in p v) (presented_after tiles (shown_in p v) (edits.set_layout layer name value)) so
  each_done v (edits.set_filter layer filter) h so =
      left_done v (refusal tiles scripts can_change p (edits.set_filter layer filter)) p (presented_after tiles p (edits.set_filter layer filter)) (shown_in p v) (presented_after tiles (shown_in p v) (edits.set_filter layer filter)) so
  each_done v (edits.set_range layer min max) h so =
      left_done v (refusal tiles scripts can_change p (edits.set_range layer min max)) p (presented_after tiles p (edits.set_range layer min max)) (shown_in p v) (presented_after tiles (shown_in p v) (edits.set_range layer min max)) so
  each_done v (edits.add_layer layer before) h so =
      left_done v (refusal tiles scripts can_change p (edits.add_layer layer before)) p (presented_after tiles p (edits.add_layer layer before)) (shown_in p v) (presented_after tiles (shown_in p v) (edits.add_layer layer before)) so
  each_done v (edits.remove_layer id) h so =
      left_done v (refusal tiles scripts can_change p (edits.remove_layer id)) p (presented_after tiles p (edits.remove_layer id)) (shown_in p v) (presented_after tiles (shown_in p v) (edits.remove_layer id)) so
  each_done v (edits.move_layer id before) h so =
      left_done v (refusal tiles scripts can_change p (edits.move_layer id before)) p (presented_after tiles p (edits.move_layer id before)) (shown_in p v) (presented_after tiles (shown_in p v) (edits.move_layer id before)) so
  each_done v (edits.add_image name) h so =
      left_done v (refusal tiles scripts can_change p (edits.add_image name)) p (presented_after tiles p (edits.add_image name)) (shown_in p v) (presented_after tiles (shown_in p v) (edits.add_image name)) so
  each_done v (edits.remove_image name) h so =
      left_done v (refusal tiles scripts can_change p (edits.remove_image name)) p (presented_after tiles p (edits.remove_image name)) (shown_in p v) (presented_after tiles (shown_in p v) (edits.remove_image name)) so
  each_done v (edits.set_global name d) h so =
      left_done v (refusal tiles scripts can_change p (edits.set_global name d)) p (presented_after tiles p (edits.set_global name d)) (shown_in p v) (presented_after tiles (shown_in p v) (edits.set_global name d)) so
  each_done v edits.style h so = absurd (cc)
  each_done v (edits.set_zoom zoom) h so = absurd (cc)
  each_done v (edits.set_state source layer id members) h so = absurd (cc)
  each_done v (edits.remove_state source layer id key) h so = absurd (cc)
  each_done v edits.list h so = absurd (cc)
  each_done v edits.stats h so = absurd (cc)

  each_other : (v : OpenView) (e : Edit) → is_of_view e ≡ false → is_done (applied tiles scripts can_change p e).1 ≡ false
      → after_edit tiles scripts can_change p e v ≡ v
  each_other v (edits.set_paint layer name value) h so =
      left_refused v (refusal tiles scripts can_change p (edits.set_paint layer name value)) p (presented_after tiles p (edits.set_paint layer name value)) (shown_in p v) (presented_after tiles (shown_in p v) (edits.set_paint layer name value)) so
  each_other v (edits.set_layout layer name value) h so =
      left_refused v (refusal tiles scripts can_change p (edits.set_layout layer name value)) p (presented_after tiles p (edits.set_layout layer name value)) (shown_in p v) (presented_after tiles (shown_in p v) (edits.set_layout layer name value)) so
  each_other v (edits.set_filter layer filter) h so =
      left_refused v (refusal tiles scripts can_change p (edits.set_filter layer filter)) p (presented_after tiles p (edits.set_filter layer filter)) (shown_in p v) (presented_after tiles (shown_in p v) (edits.set_filter layer filter)) so
  each_other v (edits.set_range layer min max) h so =
      left_refused v (refusal tiles scripts can_change p (edits.set_range layer min max)) p (presented_after tiles p (edits.set_range layer min max)) (shown_in p v) (presented_after tiles (shown_in p v) (edits.set_range layer min max)) so
  each_other v (edits.add_layer layer before) h so =
      left_refused v (refusal tiles scripts can_change p (edits.add_layer layer before)) p (presented_after tiles p (edits.add_layer layer before)) (shown_in p v) (presented_after tiles (shown_in p v) (edits.add_layer layer before)) so
  each_other v (edits.remove_layer id) h so =
      left_refused v (refusal tiles scripts can_change p (edits.remove_layer id)) p (presented_after tiles p (edits.remove_layer id)) (shown_in p v) (presented_after tiles (shown_in p v) (edits.remove_layer id)) so
  each_other v (edits.move_layer id before) h so =
      left_refused v (refusal tiles scripts can_change p (edits.move_layer id before)) p (presented_after tiles p (edits.move_layer id before)) (shown_in p v) (presented_after tiles (shown_in p v) (edits.move_layer id before)) so
  each_other v (edits.add_image name) h so =
      left_refused v (refusal tiles scripts can_change p (edits.add_image name)) p (presented_after tiles p (edits.add_image name)) (shown_in p v) (presented_after tiles (shown_in p v) (edits.add_image name)) so
  each_other v (edits.remove_image name) h so =
      left_refused v (refusal tiles scripts can_change p (edits.remove_image name)) p (presented_after tiles p (edits.remove_image name)) (shown_in p v) (presented_after tiles (shown_in p v) (edits.remove_image name)) so
  each_other v (edits.set_global name d) h so =
      left_refused v (refusal tiles scripts can_change p (edits.set_global name d)) p (presented_after tiles p (edits.set_global name d)) (shown_in p v) (presented_after tiles (shown_in p v) (edits.set_global name d)) so
  each_other v edits.style h so = refl
  each_other v (edits.set_zoom zoom) h so = absurd (cc)
  each_other v (edits.set_state source layer id members) h so = absurd (cc)
  each_other v (edits.remove_state source layer id key) h so = absurd (cc)
  each_other v edits.list h so = absurd (cc)
  each_other v edits.stats h so = absurd (cc)

  -- ---- what it makes of the style

  style_done : (e : Edit) → is_of_view e ≡ false → is_done (applied tiles scripts can_change p e).1 ≡ true
      → (applied tiles scripts can_change p e).0 ≡ presented_after tiles p e
  style_done (edits.set_paint layer name value) h so = state_done (refusal tiles scripts can_change p (edits.set_paint layer name value)) p (presented_after tiles p (edits.set_paint layer name value)) so
  style_done (edits.set_layout layer name value) h so = state_done (refusal tiles scripts can_change p (edits.set_layout layer name value)) p (presented_after tiles p (edits.set_layout layer name value)) so
  style_done (edits.set_filter layer filter) h so = state_done (refusal tiles scripts can_change p (edits.set_filter layer filter)) p (presented_after tiles p (edits.set_filter layer filter)) so
  style_done (edits.set_range layer min max) h so = state_done (refusal tiles scripts can_change p (edits.set_range layer min max)) p (presented_after tiles p (edits.set_range layer min max)) so
  style_done (edits.add_layer layer before) h so = state_done (refusal tiles scripts can_change p (edits.add_layer layer before)) p (presented_after tiles p (edits.add_layer layer before)) so
  style_done (edits.remove_layer id) h so = state_done (refusal tiles scripts can_change p (edits.remove_layer id)) p (presented_after tiles p (edits.remove_layer id)) so
  style_done (edits.move_layer id before) h so = state_done (refusal tiles scripts can_change p (edits.move_layer id before)) p (presented_after tiles p (edits.move_layer id before)) so
  style_done (edits.add_image name) h so = state_done (refusal tiles scripts can_change p (edits.add_image name)) p (presented_after tiles p (edits.add_image name)) so
  style_done (edits.remove_image name) h so = state_done (refusal tiles scripts can_change p (edits.remove_image name)) p (presented_after tiles p (edits.remove_image name)) so
  style_done (edits.set_global name d) h so = state_done (refusal tiles scripts can_change p (edits.set_global name d)) p (presented_after tiles p (edits.set_global name d)) so
  style_done edits.style h so = absurd (cc)
  style_done (edits.set_zoom zoom) h so = absurd (cc)
  style_done (edits.set_state source layer id members) h so = absurd (cc)
  style_done (edits.remove_state source layer id key) h so = absurd (cc)
  style_done edits.list h so = absurd (cc)
  style_done edits.stats h so = absurd (cc)

  style_other : (e : Edit) → is_of_view e ≡ false → is_done (applied tiles scripts can_change p e).1 ≡ false
      → (applied tiles scripts can_change p e).0 ≡ p
  style_other (edits.set_paint layer name value) h so = state_refused (refusal tiles scripts can_change p (edits.set_paint layer name value)) p (presented_after tiles p (edits.set_paint layer name value)) so
  style_other (edits.set_layout layer name value) h so = state_refused (refusal tiles scripts can_change p (edits.set_layout layer name value)) p (presented_after tiles p (edits.set_layout layer name value)) so
  style_other (edits.set_filter layer filter) h so = state_refused (refusal tiles scripts can_change p (edits.set_filter layer filter)) p (presented_after tiles p (edits.set_filter layer filter)) so
  style_other (edits.set_range layer min max) h so = state_refused (refusal tiles scripts can_change p (edits.set_range layer min max)) p (presented_after tiles p (edits.set_range layer min max)) so
  style_other (edits.add_layer layer before) h so = state_refused (refusal tiles scripts can_change p (edits.add_layer layer before)) p (presented_after tiles p (edits.add_layer layer before)) so
  style_other (edits.remove_layer id) h so = state_refused (refusal tiles scripts can_change p (edits.remove_layer id)) p (presented_after tiles p (edits.remove_layer id)) so
  style_other (edits.move_layer id before) h so = state_refused (refusal tiles scripts can_change p (edits.move_layer id before)) p (presented_after tiles p (edits.move_layer id before)) so
  style_other (edits.add_image name) h so = state_refused (refusal tiles scripts can_change p (edits.add_image name)) p (presented_after tiles p (edits.add_image name)) so
  style_other (edits.remove_image name) h so = state_refused (refusal tiles scripts can_change p (edits.remove_image name)) p (presented_after tiles p (edits.remove_image name)) so
  style_other (edits.set_global name d) h so = state_refused (refusal tiles scripts can_change p (edits.set_global name d)) p (presented_after tiles p (edits.set_global name d)) so
  style_other edits.style h so = refl
  style_other (edits.set_zoom zoom) h so = absurd (cc)
  style_other (edits.set_state source layer id members) h so = absurd (cc)
  style_other (edits.remove_state source layer id key) h so = absurd (cc)
  style_other edits.list h so = absurd (cc)
  style_other edits.stats h so = absurd (cc)

  -- the same, through a view
  through_view : (v : OpenView) (e : Edit) → is_of_view e ≡ false
      → shown_in (presented_after tiles p e) (record v { kept = kept_left tiles (shown_in p v) e }) ≡ presented_after tiles (shown_in p v) e
  through_view v (edits.set_paint layer name value) h = refl
  through_view v (edits.set_layout layer name value) h = refl
  through_view v (edits.set_filter layer filter) h = refl
  through_view v (edits.set_range layer min max) h = refl
  through_view v (edits.add_layer layer before) h = refl
  through_view v (edits.remove_layer id) h = refl
  through_view v (edits.move_layer id before) h = refl
  through_view v (edits.add_image name) h = refl
  through_view v (edits.remove_image name) h = refl
  through_view v (edits.set_global name d) h = refl
  through_view v edits.style h = refl
  through_view v (edits.set_zoom zoom) h = absurd (cc)
  through_view v (edits.set_state source layer id members) h = absurd (cc)
  through_view v (edits.remove_state source layer id key) h = absurd (cc)
  through_view v edits.list h = absurd (cc)
  through_view v edits.stats h = absurd (cc)

  document_through : (v : OpenView) (e : Edit) → (changed_by e (shown_in p v)).document ≡ (changed_by e p).document
  document_through v (edits.set_paint layer name value) = refl
  document_through v (edits.set_layout layer name value) = refl
  document_through v (edits.set_filter layer filter) = refl
  document_through v (edits.set_range layer min max) = refl
  document_through v (edits.add_layer layer before) = refl
  document_through v (edits.remove_layer id) = refl
  document_through v (edits.move_layer id before) = refl
  document_through v (edits.add_image name) = refl
  document_through v (edits.remove_image name) = refl
  document_through v (edits.set_global name d) = refl
  document_through v (edits.set_zoom zoom) = refl
  document_through v (edits.set_state source layer id members) = refl
  document_through v (edits.remove_state source layer id key) = refl
  document_through v edits.list = refl
  document_through v edits.stats = refl
  document_through v edits.style = refl

  globals_through : (v : OpenView) (e : Edit) → (changed_by e (shown_in p v)).globals ≡ (changed_by e p).globals
  globals_through v (edits.set_paint layer name value) = refl
  globals_through v (edits.set_layout layer name value) = refl
  globals_through v (edits.set_filter layer filter) = refl
  globals_through v (edits.set_range layer min max) = refl
  globals_through v (edits.add_layer layer before) = refl
  globals_through v (edits.remove_layer id) = refl
  globals_through v (edits.move_layer id before) = refl
  globals_through v (edits.add_image name) = refl
  globals_through v (edits.remove_image name) = refl
  globals_through v (edits.set_global name d) = refl
  globals_through v (edits.set_zoom zoom) = refl
  globals_through v (edits.set_state source layer id members) = refl
  globals_through v (edits.remove_state source layer id key) = refl
  globals_through v edits.list = refl
  globals_through v edits.stats = refl
  globals_through v edits.style = refl

  -- an edit of the style counts no steps
  pub no_least : (e : Edit) → is_of_view e ≡ false → least_steps tiles scripts p e ≡ 0
  no_least (edits.set_paint layer name value) h = refl
  no_least (edits.set_layout layer name value) h = refl
  no_least (edits.set_filter layer filter) h = refl
  no_least (edits.set_range layer min max) h = refl
  no_least (edits.add_layer layer before) h = refl
  no_least (edits.remove_layer id) h = refl
  no_least (edits.move_layer id before) h = refl
  no_least (edits.set_global name d) h = refl
  no_least (edits.add_image name) h = refl
  no_least (edits.remove_image name) h = refl
  no_least edits.style h = refl
  no_least (edits.set_zoom zoom) h = absurd (cc)
  no_least (edits.set_state source layer id members) h = absurd (cc)
  no_least (edits.remove_state source layer id key) h = absurd (cc)
  no_least edits.list h = absurd (cc)
  no_least edits.stats h = absurd (cc)

  pub no_most : (e : Edit) → is_of_view e ≡ false → most_steps tiles scripts p e ≡ 0
  no_most (edits.set_paint layer name value) h = refl
  no_most (edits.set_layout layer name value) h = refl
  no_most (edits.set_filter layer filter) h = refl
  no_most (edits.set_range layer min max) h = refl
  no_most (edits.add_layer layer before) h = refl
  no_most (edits.remove_layer id) h = refl
  no_most (edits.move_layer id before) h = refl
  no_most (edits.set_global name d) h = refl
  no_most (edits.add_image name) h = refl
  no_most (edits.remove_image name) h = refl
  no_most edits.style h = refl
  no_most (edits.set_zoom zoom) h = absurd (cc)
  no_most (edits.set_state source layer id members) h = absurd (cc)
  no_most (edits.remove_state source layer id key) h = absurd (cc)
  no_most edits.list h = absurd (cc)
  no_most edits.stats h = absurd (cc)

  images_after : (e : Edit) → tells_image e ≡ false → (changed_by e p).has_image ≡ p.has_image
  images_after (edits.set_paint layer name value) h = refl
  images_after (edits.set_layout layer name value) h = refl
  images_after (edits.set_filter layer filter) h = refl
  images_after (edits.set_range layer min max) h = refl
  images_after (edits.add_layer layer before) h = refl
  images_after (edits.remove_layer id) h = refl
  images_after (edits.move_layer id before) h = refl
  images_after (edits.set_global name d) h = refl
  images_after (edits.set_zoom zoom) h = refl
  images_after (edits.set_state source layer id members) h = refl
  images_after (edits.remove_state source layer id key) h = refl
  images_after edits.list h = refl
  images_after edits.stats h = refl
  images_after edits.style h = refl
  images_after (edits.add_image name) h = absurd (cc)
  images_after (edits.remove_image name) h = absurd (cc)

  -- ---- several views, after an edit that a session answered so

  module _ (s₀ s₂ : Session) (images₀ images₁ : List ℕ → Bool) (r : Reply) (e : Edit) (of_style : is_of_view e ≡ false)
      (first : plain_state s₀ images₀ ≡ p) (over : tiles_of s₀ ≡ tiles) (still : tiles_of s₂ ≡ tiles_of s₀)
      (given : (plain_state s₂ images₁, r) ≡ applied tiles scripts can_change p e) where
    replied : is_done r ≡ is_done (applied tiles scripts can_change p e).1
    replied = ap (λ (a : SessionState × Reply). is_done a.1) given

    state : plain_state s₂ images₁ ≡ (applied tiles scripts can_change p e).0
    state = ap (λ (a : SessionState × Reply). a.0) given

    after_done : is_done r ≡ true → plain_state s₂ images₁ ≡ presented_after tiles p e
    after_done d = state ∙ style_done e of_style (sym replied ∙ d)

    -- where it was done and reports nothing to the test of images, that is as it was
    pub images_same : is_done r ≡ true → tells_image e ≡ false → IsSameTest images₀ images₁
    images_same d h = λ text k.
        (ap (λ (q : SessionState). q.has_image) (after_done d) ∙ (images_after e h ∙ ap (λ (q : SessionState). q.has_image) (sym first))) k text

    -- where it was done, it was accepted in each view
    pub accepted : (b : BeforeEdit) → is_done r ≡ true → lacks_memory s₀ ≡ false
        → layer_list (edited p.document e) ≡ edited_layers e (layer_list p.document) → b.places ≡ places_of p.document e
        → (vs : List View) → ArePlainSoundViews s₀ images₀ scripts vs
        → AreAccepted (tiles_of s₂) s₂.globals (layer_list (tree_of s₂.document)) scripts p e b vs
    accepted b d off made places [] sound = tt
    accepted b d off made places (v ∷ vs) sound = (
      record {
        layers = ap (λ (q : SessionState). layer_list q.document) (after_done d) ∙ ap layer_list (sym (document_through (view_seen v) e));
        edited = made;
        values = ap (λ (q : SessionState). q.globals) (after_done d) ∙ sym (globals_through (view_seen v) e);
        places = places;
        zoom = λ of_view. absurd (let no = sym of_view ∙ of_style in cc);
        seen = refl;
        right = subst (λ (ts : List SourceTile). IsKept ts scripts (shown_in p (view_seen v)) v.kept) (sym still)
            (subst (λ (q : SessionState). IsKept (tiles_of s₀) scripts (shown_in q (view_seen v)) v.kept) first (sound.0 off));
      },
      accepted b d off made places vs sound.1,
    )

    pub views_done : is_done r ≡ true → (vs ws : List View) → Pairwise (IsFollowed (tiles_of s₂) scripts p e) vs ws
        → map view_seen ws ≡ in_each tiles scripts can_change p e (map view_seen vs)
    views_done d [] [] h = refl
    views_done d (v ∷ vs) (w ∷ ws) h = λ k.
        (h.0.seen ∙ ((λ i. record (view_seen v) { kept = kept_left ((still ∙ over) i) (shown_in p (view_seen v)) e })
        ∙ sym (each_done (view_seen v) e of_style (sym replied ∙ d)))) k
        ∷ views_done d vs ws h.1 k
    views_done d [] (w ∷ ws) h = absurd h
    views_done d (v ∷ vs) [] h = absurd h

    pub sound_done : is_done r ≡ true → (vs ws : List View) → Pairwise (IsFollowed (tiles_of s₂) scripts p e) vs ws
        → ArePlainSoundViews s₂ images₁ scripts ws
    sound_done d [] [] h = tt
    sound_done d (v ∷ vs) (w ∷ ws) h = (
      λ off. subst (λ (q : SessionState). IsKept (tiles_of s₂) scripts q w.kept) (same v w h.0.seen) h.0.right,
      sound_done d vs ws h.1,
    )
      where
        same : (v w : View) → view_seen w ≡ record (view_seen v) { kept = kept_left (tiles_of s₂) (shown_in p (view_seen v)) e }
            → presented_after (tiles_of s₂) (shown_in p (view_seen v)) e ≡ plain_state_in s₂ w images₁
        same v w seen =
            (λ i. presented_after ((still ∙ over) i) (shown_in p (view_seen v)) e)
            ∙ (sym (through_view (view_seen v) e of_style)
            ∙ (λ i. shown_in (sym (after_done d) i)
            (sym (seen ∙ (λ k. record (view_seen v) { kept = kept_left ((still ∙ over) k) (shown_in p (view_seen v)) e })) i)))
    sound_done d [] (w ∷ ws) h = absurd h
    sound_done d (v ∷ vs) [] h = absurd h

    -- where it was not done, nothing changed
    pub views_stay : is_done r ≡ false → (vs : List View)
        → map view_seen vs ≡ in_each tiles scripts can_change p e (map view_seen vs)
    views_stay d [] = refl
    views_stay d (v ∷ vs) = λ k. sym (each_other (view_seen v) e of_style (sym replied ∙ d)) k ∷ views_stay d vs k

    pub sound_stays : is_done r ≡ false → lacks_memory s₀ ≡ false → (vs : List View) → ArePlainSoundViews s₀ images₀ scripts vs
        → ArePlainSoundViews s₂ images₁ scripts vs
    sound_stays d off [] sound = tt
    sound_stays d off (v ∷ vs) sound = (
      λ still_off. subst (λ (ts : List SourceTile). IsKept ts scripts (plain_state_in s₂ v images₁) v.kept) (sym still)
          (subst (λ (q : SessionState). IsKept (tiles_of s₀) scripts (shown_in q (view_seen v)) v.kept)
          (first ∙ sym (state ∙ style_other e of_style (sym replied ∙ d))) (sound.0 off)),
      sound_stays d off vs sound.1,
    )

-- views of a session after a failed allocation
pub sound_without : (s : Session) (images scripts : List ℕ → Bool) (vs : List View) → lacks_memory s ≡ true
    → ArePlainSoundViews s images scripts vs
sound_without s images scripts [] lacks = tt
sound_without s images scripts (v ∷ vs) lacks =
    (λ off. absurd (let no = sym lacks ∙ off in cc), sound_without s images scripts vs lacks)

-- views of a session that notes whether it has memory
pub sound_noted : (s t : Session) (images scripts : List ℕ → Bool) (vs : List View)
    → t ≡ record s { lacks_memory = t.lacks_memory } → lacks_memory s ≡ false → ArePlainSoundViews s images scripts vs
    → ArePlainSoundViews t images scripts vs
sound_noted s t images scripts [] is has sound = tt
sound_noted s t images scripts (v ∷ vs) is has sound = (
  λ off. subst (λ (x : Session). IsKept (tiles_of x) scripts (plain_state_in x v images) v.kept) (sym is) (sound.0 has),
  sound_noted s t images scripts vs is has sound.1,
)
