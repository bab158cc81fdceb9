-- A document with the ranges that are to be set of its layers: where its layers are, which edits are faulty, and what edits make of it.
use Rattle.std.proofs.Common.{◌≡◌, ◌∙◌, ℕ, suc, ◌<◌, ◌-◌, List, [], ◌∷◌, length, get_or, set, refl, ap, sym, arith, Bool, true, false, Option, Some, None}
use Rattle.std.specs.Prelude.{codes, is_none, is_some, not, nat_lt, option_map, IfSome, if◌then◌else◌}
use Rattle.std.proofs.lemmas.List.{length-set}
use Rattle.std.specs.Bool.{then_some}
use Rattle.std.specs.List.{list_all}
use Rattle.std.specs.Option.{option_and_then}
use Rattle.decimal_json.specs.Accessors.{member}
use Rattle.decimal_json.specs.Tree.{Tree, null, boolean, number, text, list, object, trees_of}
use Rattle.decimal_json.specs.View.{moved_items}
use Rattle.edit_script.specs.Edit as edits
use Rattle.edit_script.specs.Edit.{Edit}
use Rattle.edit_script.proofs.Elements.{elements_made}
use Rattle.edit_findings.proofs.OtherMembers.{object_replacing_other}
use Rattle.pending_ranges.specs.Pending.{Pending, ZoomRange}
use Rattle.style_edits.specs.ByPlace.{changed_at, edited_at, is_missing, is_own_place, layer_at, moved_at, place_moved_to, removed_at, unsets_nothing_at}
use Rattle.style_edits.specs.Causes.{first_cause}
use Rattle.style_edits.specs.Edited.{edited, edited_layers}
use Rattle.style_edits.specs.Faults.{edit_fault, is_zoom_or_none, lacks_source, named_before, named_layer, named_source, named_zooms}
use Rattle.style_edits.specs.Layer.{with_range}
use Rattle.style_edits.specs.Layers.{layer_list, with_changed, with_layers, with_list}
use Rattle.style_edits.specs.Places.{added_id, layer_place, places_in, places_of}
use Rattle.style_edits.specs.Taking.{HasLayers}
use Rattle.style_edits.specs.declared.faults.EditFault.TheVariants.{UnknownLayer, UnknownBefore, UnknownSource, ZoomRange as BadZoom, UnknownProperty}
use Rattle.style_edits.proofs.DocumentLaws.{listed}
use Rattle.style_edits.proofs.EditLaws.{edited_by_place, fault_by_place}
use Rattle.style_edits.proofs.ObjectLaws.{member_replaced, object_itself, object_replaced_again}
use Rattle.style_edits.proofs.PlaceLaws.{place, place_is, placed_within}
use Rattle.style_parts.specs.Parts.{is_id_of}
use Rattle.style_rules.specs.Levels.{HasDistinctMembers}
use Rattle.value_forms.specs.LayerTypes.{layer_type}
use Rattle.edit_session.specs.Ranges.{ranged_document, ranged_layer, ranged_layers}
use Rattle.edit_session.specs.Setting.{NonePending, moved_slot, moved_slots, removed_slot, slots_done}
use Rattle.edit_session.proofs.RangeAgain.{range_again}
use Rattle.edit_session.proofs.RangedFindings.{ranged_id}
use Rattle.edit_session.proofs.RangedLists.{none_ranged, ranged_at, ranged_done, ranged_length, ranged_move, ranged_put, ranged_remove}

-- ---- layers that are changed once and again

module _ (d : Tree) (ts : List Tree) (there : HasLayers d ts) where
  pub changed_once : (change : List Tree → List Tree) → with_layers change d ≡ with_list (change ts) d
  changed_once change = ap (λ o. with_changed change o d) there ∙ ap (λ us. with_list (change us) d) (elements_made ts)

  list_there : (us : List Tree) → HasLayers (with_list us d) us
  list_there us = member_replaced (codes "layers") (list (trees_of ts)) (list (trees_of us)) d there

  changed_there : (change : List Tree → List Tree) → HasLayers (with_layers change d) (change ts)
  changed_there change = ap (member (codes "layers")) (changed_once change) ∙ list_there (change ts)

  pub changed_layers : (change : List Tree → List Tree) → layer_list (with_layers change d) ≡ change ts
  changed_layers change = listed (with_layers change d) (change ts) (changed_there change)

  changed_again : (first next : List Tree → List Tree) → with_layers next (with_layers first d) ≡ with_list (next (first ts)) d
  changed_again first next =
      ap (λ o. with_changed next o (with_layers first d)) (changed_there first)
      ∙ (ap (λ us. with_list (next us) (with_layers first d)) (elements_made (first ts))
      ∙ (ap (with_list (next (first ts))) (changed_once first)
      ∙ object_replaced_again (codes "layers") (list (trees_of (first ts))) (list (trees_of (next (first ts)))) d))

  -- two changes after one another make the same document as two others, where they make the same layers
  pub same_changes : (first next other last : List Tree → List Tree) → next (first ts) ≡ last (other ts)
      → with_layers next (with_layers first d) ≡ with_layers last (with_layers other d)
  same_changes first next other last same =
      changed_again first next ∙ (ap (λ us. with_list us d) same ∙ sym (changed_again other last))

  pub same_change : (first next whole : List Tree → List Tree) → next (first ts) ≡ whole ts → with_layers next (with_layers first d) ≡ with_layers whole d
  same_change first next whole same = changed_again first next ∙ (ap (λ us. with_list us d) same ∙ sym (changed_once whole))

  pub none_changed : (rs : Pending) → NonePending rs → ranged_document rs d ≡ d
  none_changed rs none =
      changed_once (ranged_layers rs)
      ∙ (ap (λ us. with_list us d) (none_ranged rs ts none) ∙ object_itself (codes "layers") (list (trees_of ts)) d there)

  pub sources_same : (change : List Tree → List Tree) → member (codes "sources") (with_layers change d) ≡ member (codes "sources") d
  sources_same change =
      ap (member (codes "sources")) (changed_once change)
      ∙ object_replacing_other (codes "layers") (codes "sources") refl (list (trees_of (change ts))) d

-- ---- where the layers are

place_step : (a b : Bool) (o p : Option ℕ) → a ≡ b → o ≡ p → (if a then Some 0 else option_map suc o) ≡ (if b then Some 0 else option_map suc p)
place_step a b o p h k = λ i. if h i then Some 0 else option_map suc (k i)

ranged_place : (id : List ℕ) (rs : Pending) (ts : List Tree) → place id (ranged_layers rs ts) ≡ place id ts
ranged_place id [] ts = refl
ranged_place id (r ∷ rs) [] = refl
ranged_place id (r ∷ rs) (t ∷ ts) =
    place_step (is_id_of id (ranged_layer r t)) (is_id_of id t) (place id (ranged_layers rs ts)) (place id ts) (ranged_id r t id) (ranged_place id rs ts)

same_place : (rs : Pending) (ts : List Tree) (id : List ℕ) → layer_place (ranged_layers rs ts) id ≡ layer_place ts id
same_place rs ts id = place_is (ranged_layers rs ts) id ∙ (ranged_place id rs ts ∙ sym (place_is ts id))

pub same_places : (rs : Pending) (ts : List Tree) (e : Edit) → places_in (ranged_layers rs ts) e ≡ places_in ts e
same_places rs ts e = λ i. record {
  layer = option_and_then (λ id. same_place rs ts id i) (named_layer e);
  before = option_and_then (λ id. same_place rs ts id i) (named_before e);
  same = option_and_then (λ id. same_place rs ts id i) (added_id e);
}

-- ---- the faults of edits that ask for no property

abbrev pub asks_property : Edit → Bool
asks_property (edits.set_paint layer name value) = true
asks_property (edits.set_layout layer name value) = true
asks_property e = false

unsets_same : (e : Edit) (s t : Option Tree) → asks_property e ≡ false → unsets_nothing_at s e ≡ unsets_nothing_at t e
unsets_same (edits.set_paint layer name value) s t h = absurd (cc)
unsets_same (edits.set_layout layer name value) s t h = absurd (cc)
unsets_same e s t h = refl

lacks_same : (d e : Tree) (source : Option (List ℕ)) → member (codes "sources") e ≡ member (codes "sources") d → lacks_source e source ≡ lacks_source d source
lacks_same d e (Some name) same = ap (λ o. is_none (option_and_then (member name) o)) same
lacks_same d e None same = refl

module _ (rs : Pending) (d : Tree) (there : HasLayers d (layer_list d)) where
  abbrev ts : List Tree
  ts = layer_list d

  pub ranged_list : layer_list (ranged_document rs d) ≡ ranged_layers rs ts
  ranged_list = changed_layers d ts there (ranged_layers rs)

  pub ranged_places : (e : Edit) → places_of (ranged_document rs d) e ≡ places_of d e
  ranged_places e = ap (λ us. places_in us e) ranged_list ∙ same_places rs ts e

  pub ranged_fault : (e : Edit) → asks_property e ≡ false → edit_fault (ranged_document rs d) e ≡ edit_fault d e
  ranged_fault e none =
      let q = ranged_document rs d in
      let places = ranged_places e in
      fault_by_place q e
      ∙ ((λ i. first_cause (
      then_some (is_missing (named_layer e) (places i).layer) UnknownLayer ∷
      then_some (is_missing (named_before e) (places i).before) UnknownBefore ∷
      then_some (lacks_same d q (named_source e) (sources_same d ts there (ranged_layers rs)) i) UnknownSource ∷
      then_some (not (list_all is_zoom_or_none (named_zooms e))) BadZoom ∷
      then_some (unsets_same e (layer_at (places_of q e).layer (layer_list q)) (layer_at (places_of d e).layer ts) none i) UnknownProperty ∷ []))
      ∙ sym (fault_by_place d e))

-- ---- what edits make of it

-- the edits that take a layer away, or move one
abbrev pub rearranges : Edit → Bool
rearranges (edits.remove_layer id) = true
rearranges (edits.move_layer id before) = true
rearranges e = false

pub moved_within : (count from : ℕ) (b : Option ℕ) → from < count → IfSome b (λ i. i < count) → place_moved_to from b count < count
moved_within count from None h k = omega (arith, h)
moved_within count from (Some i) h k = by (nat_lt from i) refl
  where
    by : (less : Bool) → nat_lt from i ≡ less → (if less then i - 1 else i) < count
    by true e = omega (arith, k)
    by false e = k

module _ (rs : Pending) (ts : List Tree) (same : length rs ≡ length ts) where
  removed_ranged : (o : Option ℕ) → IfSome o (λ i. i < length ts) → removed_at o (ranged_layers rs ts) ≡ ranged_layers (removed_slot o rs) (removed_at o ts)
  removed_ranged None within = refl
  removed_ranged (Some i) within = sym (ranged_remove rs ts i same within)

  moved_ranged : (o b : Option ℕ) → IfSome o (λ i. i < length ts) → IfSome b (λ i. i < length ts)
      → moved_at o b (ranged_layers rs ts) ≡ ranged_layers (moved_slot o b (length ts) rs) (moved_at o b ts)
  moved_ranged None b within there = refl
  moved_ranged (Some from) b within there = by (is_own_place from b)
    where
      to : ℕ
      to = place_moved_to from b (length ts)

      at : (n : ℕ) → n ≡ length ts → place_moved_to from b n ≡ to
      at n e = ap (place_moved_to from b) e

      by : (own : Bool) → (if own then ranged_layers rs ts else moved_items from (place_moved_to from b (length (ranged_layers rs ts))) (ranged_layers rs ts))
          ≡ ranged_layers (if own then rs else moved_slots from to rs) (if own then ts else moved_items from to ts)
      by true = refl
      by false =
          ap (λ n. moved_items from n (ranged_layers rs ts)) (at (length (ranged_layers rs ts)) (ranged_length rs ts))
          ∙ sym (ranged_move rs ts from to same within (moved_within (length ts) from b within there))

  by_places : (e : Edit) → rearranges e ≡ true
      → edited_at e (places_in ts e) (ranged_layers rs ts) ≡ ranged_layers (slots_done (places_in ts e) (length ts) e rs) (edited_at e (places_in ts e) ts)
  by_places (edits.remove_layer id) is = removed_ranged (layer_place ts id) (placed_within ts (Some id))
  by_places (edits.move_layer id before) is =
      moved_ranged (layer_place ts id) (option_and_then (layer_place ts) before) (placed_within ts (Some id)) (placed_within ts before)
  by_places e is = absurd (cc)

  pub layers_edited : (e : Edit) → rearranges e ≡ true
      → edited_layers e (ranged_layers rs ts) ≡ ranged_layers (slots_done (places_in ts e) (length ts) e rs) (edited_layers e ts)
  layers_edited e is =
      edited_by_place e (ranged_layers rs ts)
      ∙ (ap (λ p. edited_at e p (ranged_layers rs ts)) (same_places rs ts e)
      ∙ (by_places e is ∙ ap (ranged_layers (slots_done (places_in ts e) (length ts) e rs)) (sym (edited_by_place e ts))))

-- an edit that takes a layer away, or moves one, does so in the document with the ranges
pub ranged_edited : (rs : Pending) (d : Tree) → HasLayers d (layer_list d) → length rs ≡ length (layer_list d) → (e : Edit) → rearranges e ≡ true
    → edited (ranged_document rs d) e ≡ ranged_document (slots_done (places_of d e) (length (layer_list d)) e rs) (edited d e)
ranged_edited rs d there same e is =
    let ts = layer_list d in
    same_changes d ts there (ranged_layers rs) (edited_layers e) (edited_layers e) (ranged_layers (slots_done (places_of d e) (length ts) e rs))
    (layers_edited rs ts same e is)

-- ---- a range that is set

put_over : (r : ZoomRange) (o : Option ZoomRange) (t : Tree) → HasDistinctMembers t → is_some (layer_type t) ≡ true
    → with_range r.0 r.1 (ranged_layer o t) ≡ with_range r.0 r.1 t
put_over r None t distinct typed = refl
put_over r (Some q) (object fs) distinct typed = range_again r.0 r.1 q.0 q.1 fs distinct
put_over r (Some q) null distinct typed = absurd (cc)
put_over r (Some q) (boolean b) distinct typed = absurd (cc)
put_over r (Some q) (number n) distinct typed = absurd (cc)
put_over r (Some q) (text s) distinct typed = absurd (cc)
put_over r (Some q) (list ts) distinct typed = absurd (cc)

module _ (rs : Pending) (d : Tree) (there : HasLayers d (layer_list d)) (id : List ℕ) (r : ZoomRange) (i : ℕ)
    (placed : layer_place (layer_list d) id ≡ Some i) (within : i < length (layer_list d)) where
  abbrev ls : List Tree
  ls = layer_list d

  abbrev edit : Edit
  edit = edits.set_range id r.0 r.1

  -- the layers where the range of one is set, whatever they are
  set_at : (us : List Tree) → layer_place us id ≡ Some i → edited_layers edit us ≡ set us i (with_range r.0 r.1 (get_or us i null))
  set_at us is = edited_by_place edit us ∙ ap (λ o. changed_at o (with_range r.0 r.1) us) is

  -- a range is set in the document with the ranges: it is to be set of its layer
  pub range_put : length rs ≡ length ls → HasDistinctMembers (get_or ls i null) → is_some (layer_type (get_or ls i null)) ≡ true
      → edited (ranged_document rs d) edit ≡ ranged_document (set rs i (Some r)) d
  range_put same distinct typed =
      same_change d ls there (ranged_layers rs) (edited_layers edit) (ranged_layers (set rs i (Some r)))
      (set_at (ranged_layers rs ls) (same_place rs ls id ∙ placed)
      ∙ (ap (set (ranged_layers rs ls) i) (ap (with_range r.0 r.1) (ranged_at rs ls i within) ∙ put_over r (get_or rs i None) (get_or ls i null) distinct typed)
      ∙ sym (ranged_put rs ls i r same within)))

  -- a range that was to be set is set in the document
  pub range_done : get_or rs i None ≡ Some r → ranged_document (set rs i None) (edited d edit) ≡ ranged_document rs d
  range_done is =
      same_change d ls there (edited_layers edit) (ranged_layers (set rs i None)) (ranged_layers rs)
      (ap (ranged_layers (set rs i None)) (set_at ls placed ∙ ap (λ o. set ls i (ranged_layer o (get_or ls i null))) (sym is))
      ∙ ranged_done rs ls i within)

  pub range_length : length (layer_list (edited d edit)) ≡ length ls
  range_length =
      ap length (changed_layers d ls there (edited_layers edit) ∙ set_at ls placed) ∙ length-set ls i (with_range r.0 r.1 (get_or ls i null))
