-- What is kept of layers is of them with the ranges that are to be set of them, and what drops of it is the same.
use Rattle.std.proofs.Common.{◌≡◌, ℕ, ℤ, List, [], ◌∷◌, refl, sym, ap, subst, ◌∙◌, Bool, true, ◌&&◌, Option, Some, None}
use Rattle.decimal_json.specs.Tree.{Tree}
use Rattle.edit_script.specs.Edit as edits
use Rattle.edit_script.specs.Edit.{Edit}
use Rattle.expr_nodes.specs.Evaluators.{Sized}
use Rattle.form_pool.specs.declared.form_pool.FormPool.{FormPool}
use Rattle.kept_layers.specs.EditedKept.{edited_kept}
use Rattle.kept_layers.specs.Holding.{AreHeld, AreRightIn}
use Rattle.kept_layers.specs.KeptLayers.{LayerKept, StyleKept, id_at, is_feature, is_stale_at, is_stale_image, is_stale_state, is_stale_zoom, kept_but, kept_of_each, prepared_layer, reads_images, reads_state}
use Rattle.kept_layers.specs.declared.kept_layers.KeptLayers.{KeptLayers}
use Rattle.kept_layers.proofs.ItemLaws.{ChangesNoItem, range_item, still_held, still_right}
use Rattle.pending_ranges.specs.Pending.{Pending, ZoomRange}
use Rattle.prop_values.specs.Data.{Data}
use Rattle.style_edits.specs.Layers.{layer_list}
use Rattle.style_edits.specs.Taking.{HasLayers}
use Rattle.style_layout.specs.Forms.{Scene}
use Rattle.style_layout.specs.Shown.{SourceTile}
use Rattle.edit_session.specs.Applied.{kept_left}
use Rattle.edit_session.specs.Ranges.{lets_ranges_be, ranged_document, ranged_layer, ranged_layers}
use Rattle.edit_session.specs.SessionState.{SessionState, scene_of}
use Rattle.edit_session.specs.View.{IsKept, slots_of}
use Rattle.edit_session.proofs.RangedDocuments.{ranged_list, ranged_places}

-- what represents a document, with ranges that are to be set of its layers
abbrev pub with_ranges : Pending → SessionState → SessionState
with_ranges rs p = record p { document = ranged_document rs p.document }

-- ---- a range changes no item of a layer

module _ (globals : List (List ℕ × Data)) where
  items_same : (r : Option ZoomRange) (t : Tree) → ChangesNoItem globals t (ranged_layer r t)
  items_same (Some r) t = range_item globals r.0 r.1 t
  items_same None t = record { all = λ item. refl; type = refl; source = refl; source_layer = refl }

  items_back : (r : Option ZoomRange) (t : Tree) → ChangesNoItem globals (ranged_layer r t) t
  items_back r t =
      let same = items_same r t in
      record { all = λ item. sym (same.all item); type = sym same.type; source = sym same.source; source_layer = sym same.source_layer }

  module _ (slots : FormPool → List Sized) (tiles : List SourceTile) (k : KeptLayers) where
    held_ranged : (rs : Pending) (ns : List ℕ) (ts : List Tree) → AreHeld slots tiles globals k.cells.buckets ns ts → AreHeld slots tiles globals k.cells.buckets ns (ranged_layers rs ts)
    held_ranged [] ns ts h = h
    held_ranged (r ∷ rs) [] [] h = h
    held_ranged (r ∷ rs) (n ∷ ns) [] h = h
    held_ranged (r ∷ rs) [] (t ∷ ts) h = h
    held_ranged (r ∷ rs) (n ∷ ns) (t ∷ ts) h =
        (still_held globals t (ranged_layer r t) (items_same r t) tiles slots k.cells.buckets n h.0, held_ranged rs ns ts h.1)

    held_plain : (rs : Pending) (ns : List ℕ) (ts : List Tree) → AreHeld slots tiles globals k.cells.buckets ns (ranged_layers rs ts) → AreHeld slots tiles globals k.cells.buckets ns ts
    held_plain [] ns ts h = h
    held_plain (r ∷ rs) [] [] h = h
    held_plain (r ∷ rs) (n ∷ ns) [] h = h
    held_plain (r ∷ rs) [] (t ∷ ts) h = h
    held_plain (r ∷ rs) (n ∷ ns) (t ∷ ts) h =
        (still_held globals (ranged_layer r t) t (items_back r t) tiles slots k.cells.buckets n h.0, held_plain rs ns ts h.1)

    right_ranged : (scene : Scene) (rs : Pending) (ns : List ℕ) (ts : List Tree) → AreRightIn slots tiles globals k.cells.buckets scene ns ts
        → AreRightIn slots tiles globals k.cells.buckets scene ns (ranged_layers rs ts)
    right_ranged scene [] ns ts h = h
    right_ranged scene (r ∷ rs) [] [] h = h
    right_ranged scene (r ∷ rs) (n ∷ ns) [] h = h
    right_ranged scene (r ∷ rs) [] (t ∷ ts) h = h
    right_ranged scene (r ∷ rs) (n ∷ ns) (t ∷ ts) h =
        (still_right globals t (ranged_layer r t) (items_same r t) tiles slots k.cells.buckets n scene h.0, right_ranged scene rs ns ts h.1)

    right_plain : (scene : Scene) (rs : Pending) (ns : List ℕ) (ts : List Tree) → AreRightIn slots tiles globals k.cells.buckets scene ns (ranged_layers rs ts)
        → AreRightIn slots tiles globals k.cells.buckets scene ns ts
    right_plain scene [] ns ts h = h
    right_plain scene (r ∷ rs) [] [] h = h
    right_plain scene (r ∷ rs) (n ∷ ns) [] h = h
    right_plain scene (r ∷ rs) [] (t ∷ ts) h = h
    right_plain scene (r ∷ rs) (n ∷ ns) (t ∷ ts) h =
        (still_right globals (ranged_layer r t) t (items_back r t) tiles slots k.cells.buckets n scene h.0, right_plain scene rs ns ts h.1)

-- ---- so what is kept is of the document with the ranges as of that without

module _ (tiles : List SourceTile) (scripts : List ℕ → Bool) (p : SessionState) (rs : Pending) (kept : KeptLayers)
    (there : HasLayers p.document (layer_list p.document)) where
  abbrev layers : List Tree
  layers = layer_list p.document

  pub kept_ranged : IsKept tiles scripts p kept → IsKept tiles scripts (with_ranges rs p) kept
  kept_ranged h =
      let b = kept.cells.buckets in
      let ns = kept.numbers.items in
      let same = sym (ranged_list rs p.document there) in
      record {
        numbered = h.numbered;
        holds = subst (AreHeld slots_of tiles p.globals b ns) same (held_ranged p.globals slots_of tiles kept rs ns layers h.holds);
        right = subst (AreRightIn slots_of tiles p.globals b (scene_of scripts p) ns) same
            (right_ranged p.globals slots_of tiles kept (scene_of scripts p) rs ns layers h.right);
      }

  pub kept_plain : IsKept tiles scripts (with_ranges rs p) kept → IsKept tiles scripts p kept
  kept_plain h =
      let b = kept.cells.buckets in
      let ns = kept.numbers.items in
      let same = ranged_list rs p.document there in
      record {
        numbered = h.numbered;
        holds = held_plain p.globals slots_of tiles kept rs ns layers (subst (AreHeld slots_of tiles p.globals b ns) same h.holds);
        right = right_plain p.globals slots_of tiles kept (scene_of scripts p) rs ns layers
            (subst (AreRightIn slots_of tiles p.globals b (scene_of scripts p) ns) same h.right);
      }

-- ---- what drops of it

each_same : (stale : Tree → LayerKept) → ((r : Option ZoomRange) (t : Tree) → stale (ranged_layer r t) ≡ stale t)
    → (rs : Pending) (ts : List Tree) (ks : StyleKept) → kept_of_each stale (ranged_layers rs ts) ks ≡ kept_of_each stale ts ks
each_same stale same [] ts ks = refl
each_same stale same (r ∷ rs) [] ks = refl
each_same stale same (r ∷ rs) (t ∷ ts) [] = refl
each_same stale same (r ∷ rs) (t ∷ ts) (k ∷ ks) = λ i. kept_but k (same r t i) ∷ each_same stale same rs ts ks i

module _ (tiles : List SourceTile) (globals : List (List ℕ × Data)) (r : Option ZoomRange) (t : Tree) where
  zoom_same : (old new : ℤ) → is_stale_zoom globals old new (ranged_layer r t) ≡ is_stale_zoom globals old new t
  zoom_same old new = λ i c. is_stale_at old new ((items_same globals r t).all c.item i)

  image_same : is_stale_image globals (ranged_layer r t) ≡ is_stale_image globals t
  image_same = λ i c. reads_images ((items_same globals r t).all c.item i)

  state_same : (source layer : List ℕ) (id : ℕ) → is_stale_state tiles globals source layer id (ranged_layer r t) ≡ is_stale_state tiles globals source layer id t
  state_same source layer id =
      let same = items_same globals r t in
      λ i c. reads_state (same.all c.item i) && is_feature source layer id
      (record (prepared_layer globals (ranged_layer r t)) { type = same.type i; source = same.source i; source_layer = same.source_layer i })
      (id_at tiles (record (prepared_layer globals (ranged_layer r t)) { type = same.type i; source = same.source i; source_layer = same.source_layer i }) c.feature)

module _ (tiles : List SourceTile) (p : SessionState) (rs : Pending) (there : HasLayers p.document (layer_list p.document)) where
  abbrev q : SessionState
  q = with_ranges rs p

  same_of_each : (stale : Tree → LayerKept) → ((r : Option ZoomRange) (t : Tree) → stale (ranged_layer r t) ≡ stale t)
      → kept_of_each stale (layer_list q.document) p.kept ≡ kept_of_each stale (layer_list p.document) p.kept
  same_of_each stale same =
      ap (λ ts. kept_of_each stale ts p.kept) (ranged_list rs p.document there) ∙ each_same stale same rs (layer_list p.document) p.kept

  pub kept_left_same : (e : Edit) → lets_ranges_be e ≡ true → kept_left tiles q e ≡ kept_left tiles p e
  kept_left_same edits.stats h = refl
  kept_left_same (edits.set_zoom zoom) h =
      same_of_each (is_stale_zoom p.globals p.zoom zoom) (λ r t. zoom_same tiles p.globals r t p.zoom zoom)
  kept_left_same (edits.remove_state source layer id key) h =
      same_of_each (is_stale_state tiles p.globals source layer id) (λ r t. state_same tiles p.globals r t source layer id)
  kept_left_same (edits.add_image name) h = same_of_each (is_stale_image p.globals) (λ r t. image_same tiles p.globals r t)
  kept_left_same (edits.remove_image name) h = same_of_each (is_stale_image p.globals) (λ r t. image_same tiles p.globals r t)
  kept_left_same (edits.remove_layer id) h =
      ap (λ places. edited_kept places (edits.remove_layer id) (layer_list p.document) p.kept) (ranged_places rs p.document there (edits.remove_layer id))
  kept_left_same (edits.move_layer id before) h =
      ap (λ places. edited_kept places (edits.move_layer id before) (layer_list p.document) p.kept) (ranged_places rs p.document there (edits.move_layer id before))
  kept_left_same e h = absurd (cc)
