-- What is kept after each command that was done.
use Rattle.std.proofs.Common.{◌≡◌, ◌∙◌, ℕ, ℤ, List, refl, ap, sym, subst, Bool, true, false}
use Rattle.std.specs.Prelude.{[], None, OnErr, Result, Ok, Err, if◌then◌else◌}
use Rattle.decimal_json.specs.Tree.{Tree}
use Rattle.edit_script.specs.Edit as edits
use Rattle.edit_script.specs.Edit.{Edit}
use Rattle.feature_states.specs.Features.{same_feature}
use Rattle.kept_layers.specs.EditedKept.{edited_kept}
use Rattle.kept_layers.specs.Following as following
use Rattle.kept_layers.specs.Changes.{Drops, TurnsGlobals, TurnsImages, TurnsState, TurnsZoom}
use Rattle.kept_layers.specs.KeptLayers.{is_stale_global, is_stale_image, is_stale_state, is_stale_zoom, kept_of_each}
use Rattle.kept_layers.specs.View.{AreNumbered, HoldsLayers, IsRightIn, globals_in, kept_seen, tiles_in, trees_in}
use Rattle.kept_layers.specs.declared.kept_layers.KeptLayers.{KeptLayers}
use Rattle.kept_layers.specs.declared.style_layers.StyleLayers.{StyleLayers}
use Rattle.prop_values.specs.Data.{Data}
use Rattle.style_edits.specs.Edited.{edited}
use Rattle.style_edits.specs.Layers.{layer_list}
use Rattle.style_edits.specs.Places.{places_of}
use Rattle.style_layout.specs.Shown.{SourceTile}
use Rattle.edit_session.specs.Answering.{FollowsEdit, IsAccepted, is_of_document}
use Rattle.edit_session.specs.Applied.{changed_by, changed_state, kept_left, tells_image}
use Rattle.edit_session.specs.SessionState.{SessionState, scene_of}
use Rattle.edit_session.specs.View.{IsKept, slots_of}
use Rattle.edit_session.specs.declared.following.BeforeEdit.{BeforeEdit}

document_changed : (p : SessionState) (e : Edit) → is_of_document e ≡ true → changed_by e p ≡ record p { document = edited p.document e }
document_changed p (edits.set_paint layer name value) h = refl
document_changed p (edits.set_layout layer name value) h = refl
document_changed p (edits.set_filter layer filter) h = refl
document_changed p (edits.set_range layer min max) h = refl
document_changed p (edits.add_layer layer before) h = refl
document_changed p (edits.remove_layer id) h = refl
document_changed p (edits.move_layer id before) h = refl
document_changed p (edits.set_zoom zoom) h = absurd (cc)
document_changed p (edits.set_state source layer id members) h = absurd (cc)
document_changed p (edits.remove_state source layer id key) h = absurd (cc)
document_changed p (edits.add_image name) h = absurd (cc)
document_changed p (edits.remove_image name) h = absurd (cc)
document_changed p (edits.set_global name d) h = absurd (cc)
document_changed p edits.list h = refl
document_changed p edits.stats h = refl
document_changed p edits.style h = refl

kept_of_document : (tiles : List SourceTile) (p : SessionState) (e : Edit) → is_of_document e ≡ true
    → edited_kept (places_of p.document e) e (layer_list p.document) p.kept ≡ kept_left tiles p e
kept_of_document tiles p (edits.set_paint layer name value) h = refl
kept_of_document tiles p (edits.set_layout layer name value) h = refl
kept_of_document tiles p (edits.set_filter layer filter) h = refl
kept_of_document tiles p (edits.set_range layer min max) h = refl
kept_of_document tiles p (edits.add_layer layer before) h = refl
kept_of_document tiles p (edits.remove_layer id) h = refl
kept_of_document tiles p (edits.move_layer id before) h = refl
kept_of_document tiles p (edits.set_zoom zoom) h = absurd (cc)
kept_of_document tiles p (edits.set_state source layer id members) h = absurd (cc)
kept_of_document tiles p (edits.remove_state source layer id key) h = absurd (cc)
kept_of_document tiles p (edits.add_image name) h = absurd (cc)
kept_of_document tiles p (edits.remove_image name) h = absurd (cc)
kept_of_document tiles p (edits.set_global name d) h = absurd (cc)
kept_of_document tiles p edits.list h = refl
kept_of_document tiles p edits.stats h = refl
kept_of_document tiles p edits.style h = refl

pub tells_nothing : (e : Edit) → is_of_document e ≡ true → tells_image e ≡ false
tells_nothing (edits.set_paint layer name value) h = refl
tells_nothing (edits.set_layout layer name value) h = refl
tells_nothing (edits.set_filter layer filter) h = refl
tells_nothing (edits.set_range layer min max) h = refl
tells_nothing (edits.add_layer layer before) h = refl
tells_nothing (edits.remove_layer id) h = refl
tells_nothing (edits.move_layer id before) h = refl
tells_nothing (edits.set_zoom zoom) h = refl
tells_nothing (edits.set_state source layer id members) h = refl
tells_nothing (edits.remove_state source layer id key) h = refl
tells_nothing (edits.add_image name) h = absurd (cc)
tells_nothing (edits.remove_image name) h = absurd (cc)
tells_nothing (edits.set_global name d) h = refl
tells_nothing edits.list h = refl
tells_nothing edits.stats h = refl
tells_nothing edits.style h = refl

-- what is so at all is so where a call answers a fault
pub on_err_so : {A E : Type 0} {P : Type 0} (r : Result A E) → P → OnErr r P
on_err_so (Ok a) h = tt
on_err_so (Err e) h = h

-- the state of every other feature stays
other_states : {A : Type 0} (same : Bool) (a b : A) → same ≡ false → (if same then a else b) ≡ b
other_states true a b h = absurd (cc)
other_states false a b h = refl

module _ (tiles : List SourceTile) (globals : List (List ℕ × Data)) (ts : List Tree) (scripts : List ℕ → Bool)
    (p : SessionState) (b : BeforeEdit) (old new : KeptLayers) where
  abbrev pub Accepts : Edit → Type 0
  Accepts e = IsAccepted tiles globals ts scripts p e b old

  pub after_zoom : (zoom : ℤ) → Accepts (edits.set_zoom zoom) → AreNumbered new
      → Drops slots_of (is_stale_zoom p.globals b.zoom zoom) (TurnsZoom b.zoom zoom) tiles p.globals
      (layer_list p.document) old new
      → FollowsEdit tiles scripts p (edits.set_zoom zoom) new
  after_zoom zoom a numbered d = record {
    seen = d.kept
        ∙ (λ k. kept_left tiles (record p { zoom = a.zoom refl k; kept = a.seen k }) (edits.set_zoom zoom));
    right = record {
      numbered = numbered;
      holds = d.holds;
      right = d.right (scene_of scripts p) (scene_of scripts (record p { zoom = zoom }))
          (record { was = sym (a.zoom refl); is = refl }) a.right.right;
    };
  }

  pub after_images : (e : Edit) (images : List ℕ → Bool) → Accepts e → changed_by e p ≡ record p { has_image = images }
      → kept_left tiles p e ≡ kept_left tiles p (edits.add_image []) → AreNumbered new
      → Drops slots_of (is_stale_image p.globals) TurnsImages tiles p.globals (layer_list p.document) old new
      → FollowsEdit tiles scripts p e new
  after_images e images a changes drops numbered d = record {
    seen = d.kept
        ∙ ((λ k. kept_left tiles (record p { kept = a.seen k }) (edits.add_image [])) ∙ sym drops);
    right = subst (λ (q : SessionState). IsKept tiles scripts (record q { kept = kept_left tiles p e }) new) (sym changes) (record {
      numbered = numbered;
      holds = d.holds;
      right = d.right (scene_of scripts p) (scene_of scripts (record p { has_image = images }))
          (record { zoom = refl; states = refl; scripts = refl }) a.right.right;
    });
  }

  pub after_state : (e : Edit) (source layer : List ℕ) (id : ℕ) (change : List (List ℕ × Data) → List (List ℕ × Data))
      → Accepts e → changed_by e p ≡ record p { states = changed_state source layer id change p.states }
      → kept_left tiles p e ≡ kept_left tiles p (edits.remove_state source layer id None) → AreNumbered new
      → Drops slots_of (is_stale_state tiles p.globals source layer id) (TurnsState source layer id) tiles p.globals
      (layer_list p.document) old new
      → FollowsEdit tiles scripts p e new
  after_state e source layer id change a changes drops numbered d = record {
    seen = d.kept
        ∙ ((λ k. kept_left tiles (record p { kept = a.seen k }) (edits.remove_state source layer id None)) ∙ sym drops);
    right = subst (λ (q : SessionState). IsKept tiles scripts (record q { kept = kept_left tiles p e }) new) (sym changes) (record {
      numbered = numbered;
      holds = d.holds;
      right = d.right (scene_of scripts p)
          (scene_of scripts (record p { states = changed_state source layer id change p.states }))
          (record {
            zoom = refl;
            images = refl;
            scripts = refl;
            states = λ s l i h. other_states (same_feature source layer id s l i) (change (p.states s l i)) (p.states s l i) h;
          }) a.right.right;
    });
  }

  pub after_globals : (name : List ℕ) (d : Data) → Accepts (edits.set_global name d)
      → TurnsGlobals slots_of tiles p.globals globals ts old new
      → FollowsEdit tiles scripts p (edits.set_global name d) new
  after_globals name d a turned = record {
    seen = turned.kept ∙ (λ k. kept_of_each (is_stale_global p.globals) (a.layers k) (a.seen k));
    right = record {
      numbered = turned.numbered;
      holds = subst (λ us. HoldsLayers slots_of tiles (changed_by (edits.set_global name d) p).globals us new) a.layers
          (subst (λ gs. HoldsLayers slots_of tiles gs ts new) a.values turned.holds);
      right = subst (λ us. IsRightIn slots_of tiles (changed_by (edits.set_global name d) p).globals (scene_of scripts p) us new) a.layers
          (subst (λ gs. IsRightIn slots_of tiles gs (scene_of scripts p) ts new) a.values
          (turned.right (scene_of scripts p) (subst (λ us. IsRightIn slots_of tiles p.globals (scene_of scripts p) us old) (sym a.layers) a.right.right)));
    };
  }

-- an edit that leaves the document and the values of the global state
module _ (style : StyleLayers) (scripts : List ℕ → Bool) (p : SessionState) (b : BeforeEdit) (old new : KeptLayers)
    (e : Edit) (same_document : (changed_by e p).document ≡ p.document) (same_values : (changed_by e p).globals ≡ p.globals)
    (a : Accepts (tiles_in style) (globals_in style) (trees_in style) scripts p b old new e) where
  same_parts : ◌≡◌ {A = List (List ℕ × Data) × List Tree} (globals_in style, trees_in style) (p.globals, layer_list p.document)
  same_parts = λ k. ((a.values ∙ same_values) k, (a.layers ∙ ap layer_list same_document) k)

  pub left_held : HoldsLayers slots_of (tiles_in style) (globals_in style) (trees_in style) old
  left_held =
      subst (λ (x : List (List ℕ × Data) × List Tree). HoldsLayers slots_of (tiles_in style) x.0 x.1 old) (sym same_parts) a.right.holds

  pub left_drops : (source layer : List ℕ) (id : ℕ)
      → Drops slots_of (is_stale_state (tiles_in style) (globals_in style) source layer id) (TurnsState source layer id)
      (tiles_in style) (globals_in style) (trees_in style) old new
      → Drops slots_of (is_stale_state (tiles_in style) p.globals source layer id) (TurnsState source layer id)
      (tiles_in style) p.globals (layer_list p.document) old new
  left_drops source layer id d =
      subst (λ (x : List (List ℕ × Data) × List Tree). Drops slots_of (is_stale_state (tiles_in style) x.0 source layer id)
      (TurnsState source layer id) (tiles_in style) x.0 x.1 old new) same_parts d

module _ (style : StyleLayers) (scripts : List ℕ → Bool) (p : SessionState) (b : BeforeEdit) (old new : KeptLayers)
    (e : Edit) (of_document : is_of_document e ≡ true)
    (a : Accepts (tiles_in style) (globals_in style) (trees_in style) scripts p b old new e) where
  same_globals : globals_in style ≡ p.globals
  same_globals = a.values ∙ ap (λ (q : SessionState). q.globals) (document_changed p e of_document)

  -- what following an edit of layers asks
  pub is_edit_of : following.IsEditOf slots_of style b.places e old (layer_list p.document)
  is_edit_of = record {
    placed = a.places;
    edited = a.layers
        ∙ (ap (λ (q : SessionState). layer_list q.document) (document_changed p e of_document) ∙ a.edited);
    holds = subst (λ gs. HoldsLayers slots_of (tiles_in style) gs (layer_list p.document) old) (sym same_globals) a.right.holds;
  }

  -- and what it gives
  pub after_document : following.HasFollowed slots_of style (layer_list p.document)
      (edited_kept b.places e (layer_list p.document) (kept_seen old)) old new
      → FollowsEdit (tiles_in style) scripts p e new
  after_document f =
      let q = changed_by e p in
      let scene : scene_of scripts p ≡ scene_of scripts q =
      ap (scene_of scripts) (sym (document_changed p e of_document)) in
      record {
        seen = f.kept
            ∙ ((λ k. edited_kept (a.places k) e (layer_list p.document) (a.seen k))
            ∙ kept_of_document (tiles_in style) p e of_document);
        right = record {
          numbered = f.numbered;
          holds = subst (λ gs. HoldsLayers slots_of (tiles_in style) gs (layer_list q.document) new) a.values
              (subst (λ us. HoldsLayers slots_of (tiles_in style) (globals_in style) us new) a.layers f.holds);
          right =
              let before = subst (λ gs. IsRightIn slots_of (tiles_in style) gs (scene_of scripts p) (layer_list p.document) old) (sym same_globals) a.right.right in
              let after = f.right (scene_of scripts p) before in
              subst (λ sc. IsRightIn slots_of (tiles_in style) q.globals sc (layer_list q.document) new) scene
              (subst (λ gs. IsRightIn slots_of (tiles_in style) gs (scene_of scripts p) (layer_list q.document) new) a.values
              (subst (λ us. IsRightIn slots_of (tiles_in style) (globals_in style) (scene_of scripts p) us new) a.layers after));
        };
      }
