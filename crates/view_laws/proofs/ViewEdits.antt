-- What an edit makes of a view, and of what is shown in it.
use Rattle.std.proofs.Common.{◌≡◌, ◌∙◌, refl, sym, ap, ℕ, ℤ, List, [], ◌∷◌, Bool, true, not, Option, Some, None, if◌then◌else◌}
use Rattle.std.specs.Prelude.{option_map}
use Rattle.std.specs.Option.{option_or}
use Rattle.decimal_json.specs.Tree.{Tree}
use Rattle.decimal_json.specs.declared.paths.PathPart.{PathPart}
use Rattle.edit_script.specs.Edit as edits
use Rattle.edit_script.specs.Edit.{Edit}
use Rattle.asked_cells.specs.Asked.{LayerCell}
use Rattle.kept_layers.specs.EditedKept.{edited_kept}
use Rattle.kept_layers.specs.Changes.{nothing_kept}
use Rattle.kept_layers.specs.KeptLayers.{StyleKept, is_stale_global, is_stale_image, kept_of_each}
use Rattle.style_edits.specs.Edited.{edited}
use Rattle.style_edits.specs.Faults.{edit_fault}
use Rattle.style_edits.specs.Layers.{layer_list}
use Rattle.style_edits.specs.Places.{places_of}
use Rattle.style_layout.specs.Layers.{style_layers}
use Rattle.style_layout.specs.Shown.{SourceTile}
use Rattle.style_layout.specs.StyleLayout.{cell_count}
use Rattle.style_rules.specs.Findings.{findings}
use Rattle.edit_session.specs.Applied.{Reply, applied, changed_by, document_refusal, edits_layers, first_finding, images_refusal, is_of_view, limit_refusal, presented_after, refusal, refusal_of, unless_refused, whole_refusal}
use Rattle.edit_session.specs.OpenViews.{OpenView, after_edit, fresh_view, shown_in, view_left}
use Rattle.edit_session.specs.SessionState.{SessionState}
use Rattle.edit_session.specs.declared.answer.Refusal.{Refusal}
use Rattle.view_laws.proofs.LayersThere.{layers_edited}
use Rattle.view_laws.proofs.NothingKept.{edited_nothing, none_stale}

-- ---- of the document that an accepted edit makes nothing is found

neither : {A : Type 0} (a b : Option A) → option_or a b ≡ None → (a ≡ None) × (b ≡ None)
neither None b h = (refl, h)
neither (Some x) b h = absurd (cc)

none_found : (fs : List (List PathPart × ℕ)) → first_finding fs ≡ None → fs ≡ []
none_found [] h = refl
none_found (f ∷ fs) h = absurd (cc)

-- over tiles, with the test on texts that can be shown; `can_change` says whether the test of images can change
module _ (tiles : List SourceTile) (scripts : List ℕ → Bool) (can_change : Bool) where
  abbrev gives : SessionState → Edit → SessionState × Reply
  gives p edit = applied tiles scripts can_change p edit

  abbrev cause : SessionState → Edit → Option Refusal
  cause p edit = refusal tiles scripts can_change p edit

  abbrev next : SessionState → Edit → SessionState
  next p edit = presented_after tiles p edit

  abbrev leaves : SessionState → Edit → OpenView → OpenView
  leaves p edit v = after_edit tiles scripts can_change p edit v

  nothing_found : (p : SessionState) (edit : Edit) → edits_layers edit ≡ true → cause p edit ≡ None
      → findings (edited p.document edit) ≡ []
  nothing_found p edit layers none =
      let fault : Option Refusal = option_map refusal_of (edit_fault p.document edit) in
      let images : Option Refusal = option_or (images_refusal can_change edit) None in
      let document : Option Refusal = document_refusal tiles p edit in
      let whole : Option Refusal = whole_refusal p.limit tiles p.globals (edited p.document edit) in
      let first : Option Refusal = first_finding (findings (edited p.document edit)) in
      let limit : Option Refusal = limit_refusal p.limit (cell_count tiles (style_layers p.globals (edited p.document edit))) in
      let refused : document ≡ None = (neither document images (neither fault (option_or document images) none).1).0 in
      let found : whole ≡ None = sym (ap (λ (b : Bool). if b then whole else None) layers) ∙ refused in
      none_found (findings (edited p.document edit)) (neither first limit found).0

  -- ---- an edit of the style

  shown_if : (r : Option Refusal) (p after seen : SessionState) (v : OpenView) → shown_in after (view_left v seen) ≡ seen
      → shown_in (unless_refused r p after).0 (view_left v (unless_refused r (shown_in p v) seen).0)
      ≡ (unless_refused r (shown_in p v) seen).0
  shown_if None p after seen v h = h
  shown_if (Some r) p after seen v h = refl

  by_cause : (p : SessionState) (v : OpenView) (edit : Edit)
      → shown_in (next p edit) (view_left v (next (shown_in p v) edit)) ≡ next (shown_in p v) edit
      → shown_in (unless_refused (cause p edit) p (next p edit)).0
      (view_left v (unless_refused (cause p edit) (shown_in p v) (next (shown_in p v) edit)).0)
      ≡ (unless_refused (cause p edit) (shown_in p v) (next (shown_in p v) edit)).0
  by_cause p v edit h = shown_if (cause p edit) p (next p edit) (next (shown_in p v) edit) v h

  -- What a view then shows is what the edit makes of what it showed.
  pub style_shown : (p : SessionState) (v : OpenView) (edit : Edit) → not (is_of_view edit) ≡ true
      → shown_in (gives p edit).0 (leaves p edit v) ≡ (gives (shown_in p v) edit).0
  style_shown p v (edits.set_paint layer name value) h = by_cause p v (edits.set_paint layer name value) refl
  style_shown p v (edits.set_layout layer name value) h = by_cause p v (edits.set_layout layer name value) refl
  style_shown p v (edits.set_filter layer filter) h = by_cause p v (edits.set_filter layer filter) refl
  style_shown p v (edits.set_range layer min max) h = by_cause p v (edits.set_range layer min max) refl
  style_shown p v (edits.add_layer layer before) h = by_cause p v (edits.add_layer layer before) refl
  style_shown p v (edits.remove_layer id) h = by_cause p v (edits.remove_layer id) refl
  style_shown p v (edits.move_layer id before) h = by_cause p v (edits.move_layer id before) refl
  style_shown p v (edits.set_zoom zoom) h = absurd (cc)
  style_shown p v (edits.set_state source layer id members) h = absurd (cc)
  style_shown p v (edits.remove_state source layer id key) h = absurd (cc)
  style_shown p v (edits.add_image name) h = by_cause p v (edits.add_image name) refl
  style_shown p v (edits.remove_image name) h = by_cause p v (edits.remove_image name) refl
  style_shown p v (edits.set_global name d) h = by_cause p v (edits.set_global name d) refl
  style_shown p v edits.list h = absurd (cc)
  style_shown p v edits.stats h = absurd (cc)
  style_shown p v edits.style h = refl

  -- ---- an edit of a view: the style stays

  seen_if : (r : Option Refusal) (p seen : SessionState) (v : OpenView) → shown_in p (view_left v seen) ≡ seen
      → shown_in p (view_left v (unless_refused r (shown_in p v) seen).0) ≡ (unless_refused r (shown_in p v) seen).0
  seen_if None p seen v h = h
  seen_if (Some r) p seen v h = refl

  by_view : (p : SessionState) (v : OpenView) (edit : Edit)
      → shown_in p (view_left v (next (shown_in p v) edit)) ≡ next (shown_in p v) edit
      → shown_in p (view_left v (unless_refused (cause (shown_in p v) edit) (shown_in p v) (next (shown_in p v) edit)).0)
      ≡ (unless_refused (cause (shown_in p v) edit) (shown_in p v) (next (shown_in p v) edit)).0
  by_view p v edit h = seen_if (cause (shown_in p v) edit) p (next (shown_in p v) edit) v h

  pub view_shown : (p : SessionState) (v : OpenView) (edit : Edit) → is_of_view edit ≡ true
      → shown_in p (leaves p edit v) ≡ (gives (shown_in p v) edit).0
  view_shown p v (edits.set_zoom zoom) h = by_view p v (edits.set_zoom zoom) refl
  view_shown p v (edits.set_state source layer id members) h = by_view p v (edits.set_state source layer id members) refl
  view_shown p v (edits.remove_state source layer id key) h = by_view p v (edits.remove_state source layer id key) refl
  view_shown p v edits.list h = refl
  view_shown p v edits.stats h = refl
  view_shown p v _ h = absurd (cc)

  -- ---- an edit of the style, in a view in which nothing was done

  module _ (p : SessionState) (name : List ℕ) (zoom : ℤ) where
    abbrev fresh : OpenView
    fresh = fresh_view p name zoom

    -- what is kept in it after the edit
    abbrev seen_kept : Edit → StyleKept
    seen_kept edit = (next (shown_in p fresh) edit).kept

    fresh_if : (r : Option Refusal) (after seen : SessionState) → (r ≡ None → view_left fresh seen ≡ fresh_view after name zoom)
        → view_left fresh (unless_refused r (shown_in p fresh) seen).0 ≡ fresh_view (unless_refused r p after).0 name zoom
    fresh_if None after seen h = h refl
    fresh_if (Some r) after seen h = refl

    -- where the edit leaves all but what is kept, and that is nothing
    still_fresh : (edit : Edit) → view_left fresh (next (shown_in p fresh) edit) ≡ record fresh { kept = seen_kept edit }
        → (cause p edit ≡ None → seen_kept edit ≡ nothing_kept (layer_list (changed_by edit p).document))
        → view_left fresh (unless_refused (cause p edit) (shown_in p fresh) (next (shown_in p fresh) edit)).0
        ≡ fresh_view (unless_refused (cause p edit) p (next p edit)).0 name zoom
    still_fresh edit same kept = fresh_if (cause p edit) (next p edit) (next (shown_in p fresh) edit)
        (λ none. same ∙ (λ i. record fresh { kept = kept none i }))

    of_layers : (edit : Edit) → edits_layers edit ≡ true → cause p edit ≡ None
        → edited_kept (places_of p.document edit) edit (layer_list p.document) (nothing_kept (layer_list p.document))
        ≡ nothing_kept (layer_list (edited p.document edit))
    of_layers edit layers none =
        edited_nothing edit (layer_list p.document)
        ∙ ap nothing_kept (sym (layers_edited p.document edit (nothing_found p edit layers none)))

    of_each_layer : (stale : Tree → LayerCell → Bool)
        → kept_of_each stale (layer_list p.document) (nothing_kept (layer_list p.document)) ≡ nothing_kept (layer_list p.document)
    of_each_layer stale = none_stale stale (layer_list p.document)

    -- Nothing is done in the view after the edit either.
    pub fresh_stays : (edit : Edit) → not (is_of_view edit) ≡ true → leaves p edit fresh ≡ fresh_view (gives p edit).0 name zoom
    fresh_stays (edits.set_paint layer property value) h =
        let edit : Edit = edits.set_paint layer property value in still_fresh edit refl (of_layers edit refl)
    fresh_stays (edits.set_layout layer property value) h =
        let edit : Edit = edits.set_layout layer property value in still_fresh edit refl (of_layers edit refl)
    fresh_stays (edits.set_filter layer filter) h =
        let edit : Edit = edits.set_filter layer filter in still_fresh edit refl (of_layers edit refl)
    fresh_stays (edits.set_range layer min max) h =
        let edit : Edit = edits.set_range layer min max in still_fresh edit refl (of_layers edit refl)
    fresh_stays (edits.add_layer layer before) h =
        let edit : Edit = edits.add_layer layer before in still_fresh edit refl (of_layers edit refl)
    fresh_stays (edits.remove_layer id) h =
        let edit : Edit = edits.remove_layer id in still_fresh edit refl (of_layers edit refl)
    fresh_stays (edits.move_layer id before) h =
        let edit : Edit = edits.move_layer id before in still_fresh edit refl (of_layers edit refl)
    fresh_stays (edits.set_zoom other) h = absurd (cc)
    fresh_stays (edits.set_state source layer id members) h = absurd (cc)
    fresh_stays (edits.remove_state source layer id key) h = absurd (cc)
    fresh_stays (edits.add_image image) h =
        still_fresh (edits.add_image image) refl (λ none. of_each_layer (is_stale_image p.globals))
    fresh_stays (edits.remove_image image) h =
        still_fresh (edits.remove_image image) refl (λ none. of_each_layer (is_stale_image p.globals))
    fresh_stays (edits.set_global key d) h =
        still_fresh (edits.set_global key d) refl (λ none. of_each_layer (is_stale_global p.globals))
    fresh_stays edits.list h = absurd (cc)
    fresh_stays edits.stats h = absurd (cc)
    fresh_stays edits.style h = refl
