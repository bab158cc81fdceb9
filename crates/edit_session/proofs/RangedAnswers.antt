-- What commands answer where ranges are still to be set in the document.
use Rattle.std.proofs.Common.{◌≡◌, ◌∙◌, ℕ, ℤ, ◌+◌, ◌-◌, ◌<◌, ◌≤◌, List, [], ◌∷◌, length, get_or, set, refl, ap, sym, subst, arith, Bool, true, false, Option, Some, None}
use Rattle.std.proofs.lemmas.Bool.{le-leb, leb-true, ltb-false, ltb-true, true≢false}
use Rattle.std.proofs.lemmas.List.Edits.{get_or-insert_above, get_or-insert_at, get_or-insert_below, get_or-remove_above, get_or-remove_below}
use Rattle.std.specs.Bool.{then_some}
use Rattle.std.specs.List.{list_all}
use Rattle.std.specs.Option.{option_and_then, option_or}
use Rattle.std.specs.Prelude.{codes, is_some, nat_lt, not, ◌&&◌, option_map, insert, remove, IfSome, if◌then◌else◌}
use Rattle.decimal_json.specs.Accessors.{member, text_at}
use Rattle.decimal_json.specs.Sound.{HasDistinctKeys}
use Rattle.decimal_json.specs.Tree.{Tree, null, boolean, number, text, list, object, members_of, trees_of}
use Rattle.edit_script.specs.Edit as edits
use Rattle.edit_script.specs.Edit.{Edit}
use Rattle.edit_findings.proofs.AfterLaws.{after_edit, keys_for}
use Rattle.edit_findings.proofs.FieldLaws.{distinct_replaced}
use Rattle.edit_findings.specs.FoundAfter.{AreKeyed, found_by_edit}
use Rattle.pending_ranges.proofs.MoveLaws.{moved_each}
use Rattle.pending_ranges.specs.Pending.{AreZoomRanges, IsZoomRange, Pending, ZoomRange, is_pending}
use Rattle.style_edits.specs.ByPlace.{fault_at, is_missing, is_own_place, place_moved_to}
use Rattle.style_edits.specs.Causes.{first_cause}
use Rattle.style_edits.specs.Edited.{edited, edited_layers}
use Rattle.style_edits.specs.Faults.{edit_fault, is_zoom_or_none, named_zooms}
use Rattle.style_edits.specs.Layer.{with_range}
use Rattle.style_edits.specs.Layers.{layer_list, with_layers, with_list}
use Rattle.style_edits.specs.Places.{layer_place, places_in, places_of}
use Rattle.style_edits.specs.Taking.{HasLayers}
use Rattle.style_edits.specs.declared.faults.EditFault.{EditFault}
use Rattle.style_edits.specs.declared.faults.EditFault.TheVariants.{UnknownLayer, UnknownBefore, UnknownSource, ZoomRange as BadZoom, UnknownProperty}
use Rattle.style_edits.specs.declared.places.EditPlaces.{EditPlaces}
use Rattle.style_edits.proofs.EditLaws.{fault_by_place}
use Rattle.style_edits.proofs.ObjectLaws.{members_fields}
use Rattle.style_edits.proofs.PlaceLaws.{placed_within}
use Rattle.style_layout.specs.Layers.{style_layers}
use Rattle.style_layout.specs.Shown.{SourceTile}
use Rattle.style_layout.specs.StyleLayout.{cell_count}
use Rattle.style_rules.specs.Findings.{findings}
use Rattle.style_rules.specs.Levels.{HasDistinctMembers}
use Rattle.prop_values.specs.Data.{Data}
use Rattle.value_forms.specs.LayerTypes.{layer_type}
use Rattle.edit_session.specs.Answering.{is_done}
use Rattle.edit_session.specs.Applied.{Reply, applied, document_refusal, done, images_refusal, kept_left, limit_refusal, presented_after, refusal, refusal_of, refused, unless_refused, whole_refusal}
use Rattle.edit_session.specs.Opening.{within_limit}
use Rattle.edit_session.specs.OpenViews.{OpenView, fresh_view, shown_in, view_left}
use Rattle.edit_session.specs.Ranges.{lets_ranges_be, ranged_document, ranged_layers}
use Rattle.edit_session.specs.SessionState.{SessionState}
use Rattle.edit_session.specs.Setting.{NonePending, moved_slot, moved_slots, removed_slot, slots_after, slots_done, slots_for, slots_left}
use Rattle.edit_session.specs.declared.answer.Refusal.{Refusal}
use Rattle.edit_session.specs.declared.answer.Refusal.TheVariants.{CellLimit}
use Rattle.edit_session.proofs.AppliedLaws.{accepted_is_sound, whole_by_cells}
use Rattle.edit_findings.proofs.DocumentLaws.{layers_are_there}
use Rattle.decimal_json.specs.View.{tree_of}
use Rattle.edit_session.specs.PlainView.{IsPlainSound, plain_state}
use Rattle.edit_session.specs.View.{HasSlots, IsReady, IsSoundSession, tiles_of}
use Rattle.edit_session.specs.declared.session.Session.{Session}
use Rattle.edit_session.proofs.RangedCells.{changed_same, document_by, moved_same, range_same, ranged_count, total, without_less}
use Rattle.edit_session.proofs.RangedDocuments.{asks_property, changed_once, moved_within, none_changed, ranged_edited, ranged_fault, ranged_list, range_put, rearranges}
use Rattle.edit_session.proofs.RangedFindings.{ranged_findings}
use Rattle.edit_session.proofs.LayerLists.{typed_at}
use Rattle.kept_layers.specs.Changes.{nothing_kept}
use Rattle.kept_layers.specs.KeptLayers.{none_kept}
use Rattle.kept_layers.specs.View.{AreTyped}
use Rattle.std.proofs.lemmas.Slice.Eq.{bytes_eq-Decides}
use Rattle.style_parts.specs.Parts.{equals_id, is_id_of}
use Rattle.edit_session.proofs.RangedKept.{kept_left_same, kept_plain, kept_ranged, with_ranges}
use Rattle.pending_ranges.proofs.SetLaws.{zooms_set}

-- ---- a document that breaks no rule and has few cells

few_refused : (limit count : ℕ) → count ≤ limit → limit_refusal limit count ≡ None
few_refused limit count few = λ i. if le-leb count limit few i then None else Some CellLimit

whole_accepted : (limit : ℕ) (tiles : List SourceTile) (globals : List (List ℕ × Data)) (d : Tree) → findings d ≡ []
    → cell_count tiles (style_layers globals d) ≤ limit → whole_refusal limit tiles globals d ≡ None
whole_accepted limit tiles globals d none few =
    whole_by_cells limit tiles globals d none ∙ few_refused limit (cell_count tiles (style_layers globals d)) few

within_few : (limit count : ℕ) (within : Bool) → within_limit limit count ≡ within → (if within then None else Some CellLimit) ≡ None → count ≤ limit
within_few limit count true is h = leb-true count limit is
within_few limit count false is h = absurd (cc)

-- the cells of a document that is accepted
pub accepted_few : (limit : ℕ) (tiles : List SourceTile) (globals : List (List ℕ × Data)) (d : Tree) → findings d ≡ []
    → whole_refusal limit tiles globals d ≡ None → cell_count tiles (style_layers globals d) ≤ limit
accepted_few limit tiles globals d none h =
    let count = cell_count tiles (style_layers globals d) in
    within_few limit count (within_limit limit count) refl (sym (whole_by_cells limit tiles globals d none) ∙ h)

-- no two members of its root have one name, whatever its layers are
distinct_with : (d : Tree) (us : List Tree) → HasDistinctMembers d → HasDistinctMembers (with_list us d)
distinct_with (object fs) us distinct =
    subst HasDistinctKeys (sym (members_fields _)) (distinct_replaced (codes "layers") (list (trees_of us)) (members_of fs) distinct)
distinct_with null us distinct = tt
distinct_with (boolean b) us distinct = tt
distinct_with (number n) us distinct = tt
distinct_with (text s) us distinct = tt
distinct_with (list ts) us distinct = tt

-- ---- the zooms of ranges stay in range

zooms_removed : (rs : Pending) (i : ℕ) → i < length rs → AreZoomRanges rs → AreZoomRanges (remove rs i)
zooms_removed rs i within fit p = by (nat_lt p i) refl
  where
    by : (less : Bool) → nat_lt p i ≡ less → IsZoomRange (get_or (remove rs i) p None)
    by true e = subst IsZoomRange (sym (get_or-remove_below rs i None p (ltb-true p i e) within)) (fit p)
    by false e = subst IsZoomRange (sym (get_or-remove_above rs i None p (ltb-false p i e) within)) (fit (p + 1))

zooms_moved : (rs : Pending) (from to : ℕ) → from < length rs → to < length rs → AreZoomRanges rs → AreZoomRanges (moved_slots from to rs)
zooms_moved rs from to within there fit p = moved_each rs from to within there IsZoomRange fit p

zooms_done : (rs : Pending) (ts : List Tree) → length rs ≡ length ts → AreZoomRanges rs → (e : Edit) → rearranges e ≡ true
    → AreZoomRanges (slots_done (places_in ts e) (length ts) e rs)
zooms_done rs ts same fit (edits.remove_layer id) is = by (layer_place ts id) (placed_within ts (Some id))
  where
    by : (o : Option ℕ) → IfSome o (λ i. i < length ts) → AreZoomRanges (removed_slot o rs)
    by None within = fit
    by (Some i) within = zooms_removed rs i (omega (arith, within, same)) fit
zooms_done rs ts same fit (edits.move_layer id before) is =
    by (layer_place ts id) (option_and_then (layer_place ts) before) (placed_within ts (Some id)) (placed_within ts before)
  where
    moved : (from : ℕ) (b : Option ℕ) (own : Bool) → from < length ts → IfSome b (λ i. i < length ts)
        → AreZoomRanges (if own then rs else moved_slots from (place_moved_to from b (length ts)) rs)
    moved from b true within there = fit
    moved from b false within there =
        zooms_moved rs from (place_moved_to from b (length ts)) (omega (arith, within, same))
        (let k = moved_within (length ts) from b within there in omega (arith, k, same)) fit

    by : (o b : Option ℕ) → IfSome o (λ i. i < length ts) → IfSome b (λ i. i < length ts) → AreZoomRanges (moved_slot o b (length ts) rs)
    by None b within there = fit
    by (Some from) b within there = moved from b (is_own_place from b) within there
zooms_done rs ts same fit e is = absurd (cc)

-- ---- where no range is to be set

pub with_none : (rs : Pending) (p : SessionState) → HasLayers p.document (layer_list p.document) → NonePending rs → with_ranges rs p ≡ p
with_none rs p there none = λ i. record p { document = none_changed p.document (layer_list p.document) there rs none i }

none_removed : (rs : Pending) (i : ℕ) → i < length rs → NonePending rs → NonePending (remove rs i)
none_removed rs i within none p = by (nat_lt p i) refl
  where
    by : (less : Bool) → nat_lt p i ≡ less → is_pending (remove rs i) p ≡ false
    by true e = ap is_some (get_or-remove_below rs i None p (ltb-true p i e) within) ∙ none p
    by false e = ap is_some (get_or-remove_above rs i None p (ltb-false p i e) within) ∙ none (p + 1)

-- one slot more, which is empty
pub none_inserted : (rs : Pending) (i : ℕ) → i ≤ length rs → NonePending rs → NonePending (insert rs i None)
none_inserted rs i within none p = by (nat_lt p i) (nat_lt i p) refl refl
  where
    by : (less more : Bool) → nat_lt p i ≡ less → nat_lt i p ≡ more → is_pending (insert rs i None) p ≡ false
    by true more e f = ap is_some (get_or-insert_below rs i None None p (ltb-true p i e) within) ∙ none p
    by false false e f =
        let is : i ≡ p = let a = ltb-false p i e in let b = ltb-false i p f in omega (arith, a, b) in
        ap (λ k. is_pending (insert rs i None) k) (sym is) ∙ ap is_some (get_or-insert_at rs i None None within)
    by false true e f =
        let h = ltb-true i p f in
        let back : (p - 1) + 1 ≡ p = omega (arith, h) in
        ap (λ k. is_pending (insert rs i None) k) (sym back)
        ∙ (ap is_some (get_or-insert_above rs i None None (p - 1) (omega (arith, h)) within) ∙ none (p - 1))

none_after : (rs : Pending) (places : EditPlaces) (count : ℕ) (e : Edit) (b : Bool) → lets_ranges_be e ≡ false → length rs ≡ slots_for e count
    → NonePending rs → NonePending (slots_after places count e b rs)
none_after rs places count (edits.add_layer layer before) true is slots none = none
none_after rs places count (edits.add_layer layer before) false is slots none = none_removed rs count (omega (arith, slots)) none
none_after rs places count (edits.set_paint layer name value) true is slots none = none
none_after rs places count (edits.set_paint layer name value) false is slots none = none
none_after rs places count (edits.set_layout layer name value) true is slots none = none
none_after rs places count (edits.set_layout layer name value) false is slots none = none
none_after rs places count (edits.set_filter layer filter) true is slots none = none
none_after rs places count (edits.set_filter layer filter) false is slots none = none
none_after rs places count (edits.set_range layer min max) true is slots none = none
none_after rs places count (edits.set_range layer min max) false is slots none = none
none_after rs places count (edits.set_state source layer id members) true is slots none = none
none_after rs places count (edits.set_state source layer id members) false is slots none = none
none_after rs places count (edits.set_global name value) true is slots none = none
none_after rs places count (edits.set_global name value) false is slots none = none
none_after rs places count edits.list true is slots none = none
none_after rs places count edits.list false is slots none = none
none_after rs places count edits.style true is slots none = none
none_after rs places count edits.style false is slots none = none
none_after rs places count edits.stats b is slots none = absurd (true≢false is)
none_after rs places count (edits.set_zoom zoom) b is slots none = absurd (true≢false is)
none_after rs places count (edits.remove_state source layer id key) b is slots none = absurd (true≢false is)
none_after rs places count (edits.add_image name) b is slots none = absurd (true≢false is)
none_after rs places count (edits.remove_image name) b is slots none = absurd (true≢false is)
none_after rs places count (edits.remove_layer id) b is slots none = absurd (true≢false is)
none_after rs places count (edits.move_layer id before) b is slots none = absurd (true≢false is)

-- as many slots as layers, before a command that lets the ranges be
slots_same : (rs : Pending) (count : ℕ) (e : Edit) → lets_ranges_be e ≡ true → length rs ≡ slots_for e count → length rs ≡ count
slots_same rs count edits.stats is h = h
slots_same rs count (edits.set_zoom zoom) is h = h
slots_same rs count (edits.remove_state source layer id key) is h = h
slots_same rs count (edits.add_image name) is h = h
slots_same rs count (edits.remove_image name) is h = h
slots_same rs count (edits.remove_layer id) is h = h
slots_same rs count (edits.move_layer id before) is h = h
slots_same rs count e is h = absurd (cc)

-- what is known of what a session represents by its document, and of the ranges that are to be set in it
pub record IsRangeable (tiles : List SourceTile) (p : SessionState) : Type 0 where
  pub there : HasLayers p.document (layer_list p.document)
  pub distinct : HasDistinctMembers p.document
  pub keyed : AreKeyed (layer_list p.document)
  pub none : findings p.document ≡ []
  pub few : cell_count tiles (style_layers p.globals p.document) ≤ p.limit

module _ (tiles : List SourceTile) (scripts : List ℕ → Bool) (can_change : Bool) (p : SessionState) (known : IsRangeable tiles p) where
  abbrev d : Tree
  d = p.document

  -- ---- layers go and move

  nothing_found : (e : Edit) → rearranges e ≡ true → edit_fault d e ≡ None → findings (edited d e) ≡ []
  nothing_found e is fault = sym (after_edit d e (places_of d e) known.distinct (keys_for e (layer_list d) known.keyed) known.none fault refl) ∙ quiet e is
    where
      quiet : (e : Edit) → rearranges e ≡ true → found_by_edit d (places_of d e) e ≡ []
      quiet (edits.remove_layer id) h = refl
      quiet (edits.move_layer id before) h = refl
      quiet e h = absurd (cc)

  no_cell : (e : Edit) → rearranges e ≡ true → cell_count tiles (style_layers p.globals (edited d e)) ≤ cell_count tiles (style_layers p.globals d)
  no_cell (edits.remove_layer id) is =
      document_by tiles p.globals (edited_layers (edits.remove_layer id)) (without_less tiles p.globals id) d (member (codes "layers") d) refl
  no_cell (edits.move_layer id before) is =
      document_by tiles p.globals (edited_layers (edits.move_layer id before))
      (λ ts. subst (λ n. n ≤ total tiles p.globals ts) (sym (moved_same tiles p.globals id before ts)) (omega arith)) d (member (codes "layers") d) refl
  no_cell e is = absurd (cc)

  distinct_after : (change : List Tree → List Tree) → HasDistinctMembers (with_layers change d)
  distinct_after change =
      subst HasDistinctMembers (sym (changed_once d (layer_list d) known.there change)) (distinct_with d (change (layer_list d)) known.distinct)

  module _ (rs : Pending) where
    abbrev q : SessionState
    q = with_ranges rs p

    -- the slots after an edit that is done
    abbrev after : Edit → Pending
    after e = slots_done (places_of d e) (length (layer_list d)) e rs

    module _ (slots : length rs ≡ length (layer_list d)) (fit : AreZoomRanges rs) where
      after_fits : (e : Edit) → rearranges e ≡ true → AreZoomRanges (after e)
      after_fits e is = zooms_done rs (layer_list d) slots fit e is

      -- no cause on the whole document refuses such an edit, with the ranges or without
      same_refusal : (e : Edit) → rearranges e ≡ true → edit_fault d e ≡ None
          → whole_refusal p.limit tiles p.globals (edited q.document e) ≡ whole_refusal p.limit tiles p.globals (edited d e)
      same_refusal e is fault =
          let none = nothing_found e is fault in
          let fewer = no_cell e is in
          let few : cell_count tiles (style_layers p.globals (edited d e)) ≤ p.limit = omega (arith, fewer, known.few) in
          let ranged = ranged_count tiles p.globals (after e) (edited d e) in
          ap (whole_refusal p.limit tiles p.globals) (ranged_edited rs d known.there slots e is)
          ∙ (whole_accepted p.limit tiles p.globals (ranged_document (after e) (edited d e))
          (ranged_findings (after e) (edited d e) (after_fits e is) (distinct_after (edited_layers e)) none) (omega (arith, ranged, few))
          ∙ sym (whole_accepted p.limit tiles p.globals (edited d e) none few))

      first_same : (f : Option EditFault) (a b c : Option Refusal) → (f ≡ None → a ≡ b)
          → first_cause (option_map refusal_of f ∷ a ∷ c ∷ []) ≡ first_cause (option_map refusal_of f ∷ b ∷ c ∷ [])
      first_same (Some f) a b c h = refl
      first_same None a b c h = λ i. option_or (h refl i) (option_or c None)

      asks_none : (e : Edit) → lets_ranges_be e ≡ true → asks_property e ≡ false
      asks_none edits.stats h = refl
      asks_none (edits.set_zoom zoom) h = refl
      asks_none (edits.remove_state source layer id key) h = refl
      asks_none (edits.add_image name) h = refl
      asks_none (edits.remove_image name) h = refl
      asks_none (edits.remove_layer id) h = refl
      asks_none (edits.move_layer id before) h = refl
      asks_none e h = absurd (cc)

      document_same : (e : Edit) → lets_ranges_be e ≡ true → edit_fault d e ≡ None → document_refusal tiles q e ≡ document_refusal tiles p e
      document_same edits.stats h fault = refl
      document_same (edits.set_zoom zoom) h fault = refl
      document_same (edits.remove_state source layer id key) h fault = refl
      document_same (edits.add_image name) h fault = refl
      document_same (edits.remove_image name) h fault = refl
      document_same (edits.remove_layer id) h fault = same_refusal (edits.remove_layer id) refl fault
      document_same (edits.move_layer id before) h fault = same_refusal (edits.move_layer id before) refl fault
      document_same e h fault = absurd (cc)

      -- the same causes refuse a command that lets the ranges be
      refusal_same : (e : Edit) → lets_ranges_be e ≡ true → refusal tiles scripts can_change q e ≡ refusal tiles scripts can_change p e
      refusal_same e is =
          ap (λ f. first_cause (option_map refusal_of f ∷ document_refusal tiles q e ∷ images_refusal can_change e ∷ []))
          (ranged_fault rs d known.there e (asks_none e is))
          ∙ first_same (edit_fault d e) (document_refusal tiles q e) (document_refusal tiles p e) (images_refusal can_change e) (document_same e is)

      kept_same : (e : Edit) → lets_ranges_be e ≡ true → kept_left tiles q e ≡ kept_left tiles p e
      kept_same e is = kept_left_same tiles p rs known.there e is

      abbrev is_stats : Edit → Bool
      is_stats edits.stats = true
      is_stats e = false

      -- what is represented after it is what is without the ranges, with those that are still to be set then
      presented_same : (e : Edit) → lets_ranges_be e ≡ true → is_stats e ≡ false → presented_after tiles q e ≡ with_ranges (after e) (presented_after tiles p e)
      presented_same edits.stats h other = absurd (true≢false other)
      presented_same (edits.set_zoom zoom) h other = λ i. record (presented_after tiles q (edits.set_zoom zoom)) { kept = kept_same (edits.set_zoom zoom) refl i }
      presented_same (edits.remove_state source layer id key) h other =
          λ i. record (presented_after tiles q (edits.remove_state source layer id key)) { kept = kept_same (edits.remove_state source layer id key) refl i }
      presented_same (edits.add_image name) h other = λ i. record (presented_after tiles q (edits.add_image name)) { kept = kept_same (edits.add_image name) refl i }
      presented_same (edits.remove_image name) h other =
          λ i. record (presented_after tiles q (edits.remove_image name)) { kept = kept_same (edits.remove_image name) refl i }
      presented_same (edits.remove_layer id) h other = λ i. record q {
        document = ranged_edited rs d known.there slots (edits.remove_layer id) refl i;
        kept = kept_same (edits.remove_layer id) refl i;
      }
      presented_same (edits.move_layer id before) h other = λ i. record q {
        document = ranged_edited rs d known.there slots (edits.move_layer id before) refl i;
        kept = kept_same (edits.move_layer id before) refl i;
      }
      presented_same e h other = absurd (cc)

      -- the answer, by whether a cause refuses it
      by_refusal : (e : Edit) → lets_ranges_be e ≡ true → (r : Option Refusal) (made : SessionState)
          → unless_refused r q (with_ranges (after e) made)
          ≡ (with_ranges (slots_after (places_of d e) (length (layer_list d)) e (is_done (unless_refused r p made).1) rs) (unless_refused r p made).0, (unless_refused r p made).1)
      by_refusal e is None made = refl
      by_refusal e is (Some x) made = λ i. (with_ranges (sym (left_same e is) i) p, refused x)
        where
          left_same : (e : Edit) → lets_ranges_be e ≡ true → slots_left (length (layer_list d)) e rs ≡ rs
          left_same edits.stats h = refl
          left_same (edits.set_zoom zoom) h = refl
          left_same (edits.remove_state source layer id key) h = refl
          left_same (edits.add_image name) h = refl
          left_same (edits.remove_image name) h = refl
          left_same (edits.remove_layer id) h = refl
          left_same (edits.move_layer id before) h = refl
          left_same e h = absurd (cc)

      abbrev Beside : Edit → Type 0
      Beside e = applied tiles scripts can_change q e
          ≡ (
            with_ranges (slots_after (places_of d e) (length (layer_list d)) e (is_done (applied tiles scripts can_change p e).1) rs)
                (applied tiles scripts can_change p e).0,
            (applied tiles scripts can_change p e).1,
          )

      edit_beside : (e : Edit) → lets_ranges_be e ≡ true → is_stats e ≡ false
          → unless_refused (refusal tiles scripts can_change q e) q (presented_after tiles q e)
          ≡ (
            with_ranges (slots_after (places_of d e) (length (layer_list d)) e (is_done (unless_refused (refusal tiles scripts can_change p e) p (presented_after tiles p e)).1) rs)
                (unless_refused (refusal tiles scripts can_change p e) p (presented_after tiles p e)).0,
            (unless_refused (refusal tiles scripts can_change p e) p (presented_after tiles p e)).1,
          )
      edit_beside e is other =
          (λ i. unless_refused (refusal_same e is i) q (presented_same e is other i))
          ∙ by_refusal e is (refusal tiles scripts can_change p e) (presented_after tiles p e)

      -- A command that lets the ranges be is answered as without them, and the slots follow it.
      pub beside : (e : Edit) → lets_ranges_be e ≡ true → Beside e
      beside edits.stats h = refl
      beside (edits.set_zoom zoom) h = edit_beside (edits.set_zoom zoom) refl refl
      beside (edits.remove_state source layer id key) h = edit_beside (edits.remove_state source layer id key) refl refl
      beside (edits.add_image name) h = edit_beside (edits.add_image name) refl refl
      beside (edits.remove_image name) h = edit_beside (edits.remove_image name) refl refl
      beside (edits.remove_layer id) h = edit_beside (edits.remove_layer id) refl refl
      beside (edits.move_layer id before) h = edit_beside (edits.move_layer id before) refl refl
      beside e h = absurd (cc)

    -- ---- any command but one that sets a range

    module _ (e : Edit) (slots : length rs ≡ slots_for e (length (layer_list d))) (fit : AreZoomRanges rs)
        (none : lets_ranges_be e ≡ false → NonePending rs) where
      -- What is answered by the document as it is is answered by the ranges too, and these follow the command.
      pub answered : (p' : SessionState) (r : Reply) → (p', r) ≡ applied tiles scripts can_change p e → HasLayers p'.document (layer_list p'.document)
          → (rs' : Pending) → rs' ≡ slots_after (places_of d e) (length (layer_list d)) e (is_done r) rs
          → (with_ranges rs' p', r) ≡ applied tiles scripts can_change q e
      answered p' r given there' rs' made = by (lets_ranges_be e) refl
        where
          by : (lets : Bool) → lets_ranges_be e ≡ lets → (with_ranges rs' p', r) ≡ applied tiles scripts can_change q e
          by true is =
              ap (λ xs. (with_ranges xs p', r)) made
              ∙ ((λ i. (with_ranges (slots_after (places_of d e) (length (layer_list d)) e (is_done (given i).1) rs) (given i).0, (given i).1))
              ∙ sym (beside (slots_same rs (length (layer_list d)) e is slots) fit e is))
          by false is =
              (λ i. (
                with_none rs' p' there' (subst NonePending (sym made)
                    (none_after rs (places_of d e) (length (layer_list d)) e (is_done r) is slots (none is))) i,
                r,
              ))
              ∙ (given ∙ ap (λ s. applied tiles scripts can_change s e) (sym (with_none rs p known.there (none is))))

      -- so is what it leaves of a view
      pub view_answered : (v : OpenView) → view_left v (applied tiles scripts can_change q e).0 ≡ view_left v (applied tiles scripts can_change p e).0
      view_answered v = by (lets_ranges_be e) refl
        where
          by : (lets : Bool) → lets_ranges_be e ≡ lets → view_left v (applied tiles scripts can_change q e).0 ≡ view_left v (applied tiles scripts can_change p e).0
          by true is = ap (λ (a : SessionState × Reply). view_left v a.0) (beside (slots_same rs (length (layer_list d)) e is slots) fit e is)
          by false is = ap (λ s. view_left v (applied tiles scripts can_change s e).0) (with_none rs p known.there (none is))

    -- ---- a command that sets a range

    module _ (id : List ℕ) (r : ZoomRange) where
      abbrev setting : Edit
      setting = edits.set_range id r.0 r.1

      pub range_refused : (f : EditFault) → edit_fault d setting ≡ Some f → (q, refused (refusal_of f)) ≡ applied tiles scripts can_change q setting
      range_refused f is =
          let fault = ranged_fault rs d known.there setting refl ∙ is in
          sym (λ k. unless_refused (first_cause (option_map refusal_of (fault k) ∷ document_refusal tiles q setting ∷ None ∷ [])) q (presented_after tiles q setting))

      pub range_set : length rs ≡ length (layer_list d) → AreZoomRanges rs → edit_fault d setting ≡ None
          → (i : ℕ) → layer_place (layer_list d) id ≡ Some i → i < length (layer_list d)
          → HasDistinctMembers (get_or (layer_list d) i null) → is_some (layer_type (get_or (layer_list d) i null)) ≡ true → IsZoomRange (Some r)
          → (with_ranges (set rs i (Some r)) p, done) ≡ applied tiles scripts can_change q setting
      range_set slots fit is i placed within distinct typed zooms =
          let rs' = set rs i (Some r) in
          let fault = ranged_fault rs d known.there setting refl ∙ is in
          let document : edited q.document setting ≡ ranged_document rs' d = range_put rs d known.there id r i placed within slots distinct typed in
          let fits : AreZoomRanges rs' = zooms_set rs i (Some r) (omega (arith, within, slots)) zooms fit in
          let ranged = ranged_count tiles p.globals rs' d in
          let whole = ap (whole_refusal p.limit tiles p.globals) document
          ∙ whole_accepted p.limit tiles p.globals (ranged_document rs' d) (ranged_findings rs' d fits known.distinct known.none) (omega (arith, ranged, known.few)) in
          sym (λ k. unless_refused (first_cause (option_map refusal_of (fault k) ∷ whole k ∷ None ∷ [])) q (record q { document = document k }))

      -- a view keeps what it had
      pub range_view : (v : OpenView) → view_left v (applied tiles scripts can_change (shown_in q v) setting).0 ≡ v
      range_view v = by (refusal tiles scripts can_change (shown_in q v) setting)
        where
          by : (o : Option Refusal) → view_left v (unless_refused o (shown_in q v) (presented_after tiles (shown_in q v) setting)).0 ≡ v
          by None = refl
          by (Some x) = refl

    -- ---- a range is set in the document

    module _ (id : List ℕ) (r : ZoomRange) (i : ℕ) (placed : layer_place (layer_list d) id ≡ Some i) (zooms : IsZoomRange (Some r)) where
      abbrev edit : Edit
      edit = edits.set_range id r.0 r.1

      pub settle_places : record { layer = Some i; before = None; same = None } ≡ places_of d edit
      settle_places = λ k. record { layer = sym placed k; before = None; same = None }

      both : (a b : Bool) → a ≡ true → b ≡ true → (a && (b && true)) ≡ true
      both a b h k = λ j. h j && (k j && true)

      pub settle_possible : edit_fault d edit ≡ None
      settle_possible =
          let zoom = both (is_zoom_or_none r.0) (is_zoom_or_none r.1) zooms.0 zooms.1 in
          fault_by_place d edit
          ∙ (λ k. first_cause (
          then_some (is_missing (Some id) (placed k)) UnknownLayer ∷
          then_some false UnknownBefore ∷
          then_some false UnknownSource ∷
          then_some (not (zoom k)) BadZoom ∷
          then_some false UnknownProperty ∷ []))

      pub settle_found : findings (edited d edit) ≡ []
      settle_found = sym (after_edit d edit (places_of d edit) known.distinct tt known.none settle_possible refl)

      settle_count : cell_count tiles (style_layers p.globals (edited d edit)) ≤ cell_count tiles (style_layers p.globals d)
      settle_count =
          document_by tiles p.globals (edited_layers edit)
          (λ ts. subst (λ n. n ≤ total tiles p.globals ts) (sym (changed_same tiles p.globals id (with_range r.0 r.1) (range_same tiles p.globals r.0 r.1) ts)) (omega arith))
          d (member (codes "layers") d) refl

      pub settle_whole : whole_refusal p.limit tiles p.globals (edited d edit) ≡ None
      settle_whole =
          let fewer = settle_count in
          whole_accepted p.limit tiles p.globals (edited d edit) settle_found (omega (arith, fewer, known.few))

-- ---- a session

pub known_of : (s : Session) (has_image : List ℕ → Bool) → IsReady s → HasDistinctMembers (tree_of s.document) → IsRangeable (tiles_of s) (plain_state s has_image)
known_of s has_image ready distinct =
    let d = tree_of s.document in
    let none = accepted_is_sound s.layers.limit (tiles_of s) s.globals d ready.0.is_accepted in
    record {
      there = layers_are_there d distinct none;
      distinct = distinct;
      keyed = ready.1.0.1;
      none = none;
      few = accepted_few s.layers.limit (tiles_of s) s.globals d none ready.0.is_accepted;
    }

-- so it is through a view
pub known_in : (tiles : List SourceTile) (p : SessionState) (v : OpenView) → IsRangeable tiles p → IsRangeable tiles (shown_in p v)
known_in tiles p v known = record { there = known.there; distinct = known.distinct; keyed = known.keyed; none = known.none; few = known.few }

-- ---- a range that is to be set, by the edit that asks for it

module _ (d : Tree) (id : List ℕ) (min max : Option ℤ) (possible : edit_fault d (edits.set_range id min max) ≡ None) where
  abbrev asked : Edit
  asked = edits.set_range id min max

  by_place : fault_at d asked (places_of d asked) ≡ None
  by_place = sym (fault_by_place d asked) ∙ possible

  pub layer_there : layer_place (layer_list d) id ≡ None → ⊥
  layer_there none =
      let wrong : Some UnknownLayer ≡ None = sym (λ k. first_cause (
      then_some (is_missing (Some id) (none k)) UnknownLayer ∷
      then_some false UnknownBefore ∷
      then_some false UnknownSource ∷
      then_some (not (list_all is_zoom_or_none (named_zooms asked))) BadZoom ∷
      then_some false UnknownProperty ∷ [])) ∙ by_place in
      absurd (cc)

  zooms_by : (o : Option ℕ) (a b : Bool) → first_cause (
      then_some (is_missing (Some id) o) UnknownLayer ∷
      then_some false UnknownBefore ∷
      then_some false UnknownSource ∷
      then_some (not (a && (b && true))) BadZoom ∷
      then_some false UnknownProperty ∷ []) ≡ None → (a ≡ true) × (b ≡ true)
  zooms_by (Some i) true true h = (refl, refl)
  zooms_by (Some i) true false h = absurd (cc)
  zooms_by (Some i) false b h = absurd (cc)
  zooms_by None a b h = absurd (cc)

  pub zooms_in_range : IsZoomRange (Some (min, max))
  zooms_in_range = zooms_by (layer_place (layer_list d) id) (is_zoom_or_none min) (is_zoom_or_none max) by_place

pub placed_there : (ts : List Tree) (id : List ℕ) (i : ℕ) → layer_place ts id ≡ Some i → i < length ts
placed_there ts id i placed = subst (λ o. IfSome o (λ k. k < length ts)) placed (placed_within ts (Some id))

pub typed_there : (ts : List Tree) (i : ℕ) → i < length ts → AreTyped ts → is_some (layer_type (get_or ts i null)) ≡ true
typed_there ts i within typed = typed_at ts i within typed

-- a layer of a text id is the one of this id
pub id_is : (id : List ℕ) (t : Tree) → text_at (codes "id") t ≡ Some id → is_id_of id t ≡ true
id_is id t h = ap (equals_id id) h ∙ (bytes_eq-Decides id id).1 refl

-- nothing is kept of as many layers
pub nothing_ranged : (rs : Pending) (ts : List Tree) → nothing_kept (ranged_layers rs ts) ≡ nothing_kept ts
nothing_ranged [] ts = refl
nothing_ranged (r ∷ rs) [] = refl
nothing_ranged (r ∷ rs) (t ∷ ts) = λ i. none_kept ∷ nothing_ranged rs ts i

pub fresh_same : (rs : Pending) (p : SessionState) → HasLayers p.document (layer_list p.document) → (name : List ℕ) (zoom : ℤ)
    → fresh_view p name zoom ≡ fresh_view (with_ranges rs p) name zoom
fresh_same rs p there name zoom = λ i. record (fresh_view p name zoom) {
  kept = sym (ap nothing_kept (ranged_list rs p.document there) ∙ nothing_ranged rs (layer_list p.document)) i;
}

-- what holds of a session by its document as it is holds of it with the ranges
pub sound_session : (s : Session) (has_image scripts : List ℕ → Bool) → HasLayers (tree_of s.document) (layer_list (tree_of s.document)) → HasSlots s
    → IsPlainSound s has_image scripts → IsSoundSession s has_image scripts
sound_session s has_image scripts there slots h = record {
  ready = λ off. (h.ready off, slots);
  kept = λ off. kept_ranged (tiles_of s) scripts (plain_state s has_image) s.ranges s.kept there (h.kept off);
}

pub plain_session : (s : Session) (has_image scripts : List ℕ → Bool) → HasLayers (tree_of s.document) (layer_list (tree_of s.document))
    → IsSoundSession s has_image scripts → IsPlainSound s has_image scripts
plain_session s has_image scripts there h = record {
  ready = λ off. (h.ready off).0;
  kept = λ off. kept_plain (tiles_of s) scripts (plain_state s has_image) s.ranges s.kept there (h.kept off);
}
