-- What is found of an edited document is what is found of the part that the edit changes.
use Rattle.std.proofs.Common.{◌≡◌, ◌∙◌, ℕ, ℤ, ◌+◌, ◌-◌, ◌<◌, ◌≤◌, List, [], ◌∷◌, ◌++◌, length, drop, get_or, set, refl, ap, sym, arith, Bool, true, false, Option, Some, None}
use Rattle.std.proofs.lemmas.Bool.{le-leb, leb-true}
use Rattle.std.proofs.lemmas.List.{length-set}
use Rattle.std.proofs.lemmas.List.Edits.{length-insert, length-remove}
use Rattle.std.specs.Bool.{then_some}
use Rattle.std.specs.List.{list_all}
use Rattle.std.specs.Option.{option_and_then}
use Rattle.std.specs.Prelude.{codes, insert, remove, nat_le, nat_lt, not, ◌&&◌, unwrap_or, IfSome, if◌then◌else◌}
use Rattle.std.specs.Str.{bytes_eq}
use Rattle.decimal_json.specs.Accessors.{member, text_in}
use Rattle.fixed_num.specs.NumberText.{number_text}
use Rattle.decimal_json.specs.Tree.{Tree, null, number, trees_of, Fields}
use Rattle.decimal_json.specs.View.{moved_items}
use Rattle.edit_script.specs.Edit as edits
use Rattle.edit_script.specs.Edit.{Edit}
use Rattle.property_tables.specs.declared.property_row.Place.{Place}
use Rattle.property_tables.specs.declared.property_row.Place.TheVariants.{Layout, Paint}
use Rattle.style_edits.specs.ByPlace.{changed_at, removed_at, inserted_at, place_moved_to, is_own_place, moved_at, edited_at}
use Rattle.style_edits.specs.Causes.{first_cause}
use Rattle.style_edits.specs.Edited.{edited, edited_layers}
use Rattle.style_edits.specs.Faults.{edit_fault, named_layer, named_before, named_source, named_zooms, lacks_layer, lacks_source, is_zoom_or_none, unsets_nothing}
use Rattle.style_edits.specs.Layer.{is_null, properties_at, with_property, with_filter, with_limit, without_limits, with_range}
use Rattle.style_edits.specs.Layers.{layer_list}
use Rattle.style_edits.specs.Objects.{object_with, object_without, object_replacing}
use Rattle.style_edits.specs.Places.{places_of}
use Rattle.style_edits.specs.declared.faults.EditFault.{EditFault}
use Rattle.style_edits.specs.declared.faults.EditFault.TheVariants.{UnknownLayer, UnknownBefore, UnknownSource, ZoomRange, UnknownProperty}
use Rattle.style_edits.specs.declared.places.EditPlaces.{EditPlaces}
use Rattle.style_edits.proofs.EditLaws.{layer_within, before_within, edited_given}
use Rattle.style_edits.proofs.ListLaws.{insert_last}
use Rattle.style_parts.specs.Parts.{equals_id, is_id_of, sources_of}
use Rattle.style_rules.specs.Findings.{findings, findings_in, reports_or}
use Rattle.style_rules.specs.Levels.{HasDistinctMembers, layer_reports, property_reports}
use Rattle.style_rules.specs.Places.{used_in}
use Rattle.style_rules.specs.Values.{filter_mark}
use Rattle.value_forms.specs.LayerTypes.{layer_type, tested_type}
use Rattle.edit_findings.proofs.ChangeLaws.{Finds, changed_found}
use Rattle.edit_findings.proofs.DocumentLaws.{IsSoundList, of_layers}
use Rattle.edit_findings.proofs.LayerLaws.{paint_found, layout_found, filter_found as filter_of_layer}
use Rattle.edit_findings.proofs.OrderLaws.{of_list, after_removal, after_move, after_addition}
use Rattle.edit_findings.proofs.OtherMembers.{object_with_other, object_replacing_other, object_without_other}
use Rattle.edit_findings.proofs.RangeLaws.{range_quiet}
use Rattle.edit_findings.specs.FoundAfter.{Found, AreKeyed, HasKeysFor, id_key, id_of, if_few, later_found, layer_path, member_path, most_layers, properties_key, unless_null, unless_too_many, property_found, filter_found, found_by_edit}

-- ---- what a change of one layer finds, by its place

abbrev by_place : (ℕ → Tree → Found) → Option ℕ → List Tree → Found
by_place found (Some i) ts = found i (get_or ts i null)
by_place found None ts = []

abbrev listed : Option Fields → List Tree → Found
listed sources ts = unless_too_many (length ts) (of_list sources ts)

module _ (sources : Option Fields) (ts : List Tree) (sound : IsSoundList sources ts) where
  nothing_listed : listed sources ts ≡ []
  nothing_listed = λ i. if_few (sound.few i) (sound.found i)

  as_long : (us : List Tree) → length us ≡ length ts → listed sources us ≡ of_list sources us
  as_long us same = ap (λ b. if_few b (of_list sources us)) (ap (λ n. nat_le n most_layers) same ∙ sound.few)

  changed_by_place : (change : Tree → Tree) (found : ℕ → Tree → Found) → Finds sources change found → (o : Option ℕ) → IfSome o (λ i. i < length ts) →
      listed sources (changed_at o change ts) ≡ by_place found o ts
  changed_by_place change found finds None within = nothing_listed
  changed_by_place change found finds (Some i) within =
      as_long (set ts i (change (get_or ts i null))) (length-set ts i (change (get_or ts i null)))
      ∙ changed_found sources change found finds i ts within sound.found

  shorter : (us : List Tree) → length us ≤ length ts → of_list sources us ≡ [] → listed sources us ≡ []
  shorter us fewer none =
      let few : nat_le (length us) most_layers ≡ true = le-leb (length us) most_layers (omega (arith, fewer, leb-true (length ts) most_layers sound.few)) in
      λ i. if_few (few i) (none i)

  removed_by_place : (o : Option ℕ) → IfSome o (λ i. i < length ts) → listed sources (removed_at o ts) ≡ []
  removed_by_place None within = nothing_listed
  removed_by_place (Some i) within =
      shorter (remove ts i) (omega (arith, length-remove ts i within)) (after_removal sources ts i sound.found)

  place_within : (from : ℕ) (before : Option ℕ) → from < length ts → IfSome before (λ i. i < length ts) → is_own_place from before ≡ false →
      place_moved_to from before (length ts) < length ts
  place_within from None within there own = omega (arith, within)
  place_within from (Some i) within there own = by (nat_lt from i)
    where
      by : (b : Bool) → (if b then i - 1 else i) < length ts
      by true = omega (arith, there)
      by false = there

  moved_length : (from to : ℕ) → from < length ts → to < length ts → length (moved_items from to ts) ≤ length ts
  moved_length from to within there =
      let left = length-remove ts from within in
      let room : to ≤ length (remove ts from) = omega (arith, left, there) in
      omega (arith, left, length-insert (remove ts from) to (get_or ts from null) room)

  moved_unless : (from : ℕ) (before : Option ℕ) → from < length ts → IfSome before (λ i. i < length ts) → AreKeyed ts → (own : Bool) → is_own_place from before ≡ own →
      listed sources (if own then ts else moved_items from (place_moved_to from before (length ts)) ts) ≡ []
  moved_unless from before within there keyed true is = nothing_listed
  moved_unless from before within there keyed false is =
      let to = place_moved_to from before (length ts) in
      shorter (moved_items from to ts) (moved_length from to within (place_within from before within there is))
      (after_move sources ts from to within keyed sound.found)

  moved_by_place : (o before : Option ℕ) → IfSome o (λ i. i < length ts) → IfSome before (λ i. i < length ts) → AreKeyed ts → listed sources (moved_at o before ts) ≡ []
  moved_by_place None before within there keyed = nothing_listed
  moved_by_place (Some from) before within there keyed = moved_unless from before within there keyed (is_own_place from before) refl

  abbrev new_found : ℕ → Tree → Found
  new_found k layer = findings_in (layer_reports sources (used_in (trees_of ts) k) (layer_path k) layer) ++ later_found (id_of layer) (k + 1) (drop k ts)

  inserted_found : (k : ℕ) (layer : Tree) → k ≤ length ts → AreKeyed ts →
      listed sources (insert ts k layer) ≡ unless_too_many (length ts + 1) (new_found k layer)
  inserted_found k layer within keyed =
      λ i. unless_too_many (length-insert ts k layer within i) (after_addition sources ts k layer within keyed sound.found i)

  inserted_by_place : (o : Option ℕ) (layer : Tree) → IfSome o (λ i. i < length ts) → AreKeyed ts →
      listed sources (inserted_at o layer ts) ≡ unless_too_many (length ts + 1) (new_found (unwrap_or o (length ts)) layer)
  inserted_by_place None layer within keyed =
      ap (listed sources) (sym (insert_last ts layer)) ∙ inserted_found (length ts) layer (omega arith) keyed
  inserted_by_place (Some k) layer within keyed = inserted_found k layer (omega (arith, within)) keyed

-- ---- a change of a part keeps the id

id_kept : (t u : Tree) → member id_key u ≡ member id_key t → (id : List ℕ) → is_id_of id u ≡ is_id_of id t
id_kept t u same id = ap (λ o. equals_id id (option_and_then text_in o)) same

module _ (key : List ℕ) (apart : bytes_eq key id_key ≡ false) where
  property_keeps : (name : List ℕ) (value t : Tree) → member id_key (with_property key name value t) ≡ member id_key t
  property_keeps name value t = by (is_null value)
    where
      by : (b : Bool) → member id_key (if b then object_replacing key (object_without name (properties_at key t)) t
          else object_with key (object_with name value (properties_at key t)) t) ≡ member id_key t
      by true = object_replacing_other key id_key apart (object_without name (properties_at key t)) t
      by false = object_with_other key id_key apart (object_with name value (properties_at key t)) t

  limit_keeps : (limit : Option ℤ) (t : Tree) → member id_key (with_limit key limit t) ≡ member id_key t
  limit_keeps None t = refl
  limit_keeps (Some zoom) t = object_with_other key id_key apart (number (number_text zoom)) t

filter_keeps : (filter t : Tree) → member id_key (with_filter filter t) ≡ member id_key t
filter_keeps filter t = by (is_null filter)
  where
    by : (b : Bool) → member id_key (if b then object_without (codes "filter") t else object_with (codes "filter") filter t) ≡ member id_key t
    by true = object_without_other (codes "filter") id_key refl t
    by false = object_with_other (codes "filter") id_key refl filter t

range_keeps : (min max : Option ℤ) (t : Tree) → member id_key (with_range min max t) ≡ member id_key t
range_keeps min max t =
    limit_keeps (codes "maxzoom") refl max (with_limit (codes "minzoom") min (without_limits t))
    ∙ (limit_keeps (codes "minzoom") refl min (without_limits t)
    ∙ (object_without_other (codes "maxzoom") id_key refl (object_without (codes "minzoom") t)
    ∙ object_without_other (codes "minzoom") id_key refl t))

-- ---- what each change of a layer finds

abbrev property_finds : Place → List ℕ → Tree → ℕ → Tree → Found
property_finds place name value i t = unless_null value (findings_in (property_reports
    (tested_type (layer_type t)) (Some place) (member_path i (properties_key place)) name value))

paint_finds : (sources : Option Fields) (name : List ℕ) (value : Tree) → Finds sources (with_property (codes "paint") name value) (property_finds Paint name value)
paint_finds sources name value = record {
  keeps = λ t. id_kept t (with_property (codes "paint") name value t) (property_keeps (codes "paint") refl name value t);
  each = λ used i t h. paint_found sources used (layer_path i) t h name value;
}

layout_finds : (sources : Option Fields) (name : List ℕ) (value : Tree) → Finds sources (with_property (codes "layout") name value) (property_finds Layout name value)
layout_finds sources name value = record {
  keeps = λ t. id_kept t (with_property (codes "layout") name value t) (property_keeps (codes "layout") refl name value t);
  each = λ used i t h. layout_found sources used (layer_path i) t h name value;
}

filter_finds : (sources : Option Fields) (filter : Tree) →
    Finds sources (with_filter filter) (λ i t. unless_null filter (findings_in (reports_or (filter_mark filter) (member_path i (codes "filter")) [])))
filter_finds sources filter = record {
  keeps = λ t. id_kept t (with_filter filter t) (filter_keeps filter t);
  each = λ used i t h. filter_of_layer sources used (layer_path i) t h filter;
}

range_finds : (sources : Option Fields) (min max : Option ℤ) → is_zoom_or_none min ≡ true → is_zoom_or_none max ≡ true → Finds sources (with_range min max) (λ i t. [])
range_finds sources min max few many = record {
  keeps = λ t. id_kept t (with_range min max t) (range_keeps min max t);
  each = λ used i t h. range_quiet sources used (layer_path i) min max few many t h;
}

-- ---- an edit without fault names zooms

zooms_by : (layer before source property : Option EditFault) (zooms : Bool) →
    first_cause (layer ∷ before ∷ source ∷ then_some (not zooms) ZoomRange ∷ property ∷ []) ≡ None → zooms ≡ true
zooms_by layer before source property true h = refl
zooms_by (Some f) before source property false h = absurd (cc)
zooms_by None (Some f) source property false h = absurd (cc)
zooms_by None None (Some f) property false h = absurd (cc)
zooms_by None None None property false h = absurd (cc)

both_true : (a b : Bool) → (a && (b && true)) ≡ true → (a ≡ true) × (b ≡ true)
both_true true true h = (refl, refl)
both_true true false h = absurd (cc)
both_true false b h = absurd (cc)

zooms_named : (d : Tree) (e : Edit) → edit_fault d e ≡ None → list_all is_zoom_or_none (named_zooms e) ≡ true
zooms_named d e h =
    zooms_by (then_some (lacks_layer (layer_list d) (named_layer e)) UnknownLayer) (then_some (lacks_layer (layer_list d) (named_before e)) UnknownBefore)
    (then_some (lacks_source d (named_source e)) UnknownSource) (then_some (unsets_nothing (layer_list d) e) UnknownProperty)
    (list_all is_zoom_or_none (named_zooms e)) h

-- ---- each edit

module _ (d : Tree) (places : EditPlaces) (sound : IsSoundList (sources_of d) (layer_list d))
    (layer : IfSome places.layer (λ i. i < length (layer_list d))) (before : IfSome places.before (λ i. i < length (layer_list d))) where
  by_edit : (e : Edit) → HasKeysFor e (layer_list d) → edit_fault d e ≡ None →
      listed (sources_of d) (edited_at e places (layer_list d)) ≡ found_by_edit d places e
  by_edit (edits.set_paint id name value) keys fault =
      changed_by_place (sources_of d) (layer_list d) sound (with_property (codes "paint") name value) (property_finds Paint name value)
      (paint_finds (sources_of d) name value) places.layer layer ∙ as_property places.layer
    where
      as_property : (o : Option ℕ) → by_place (property_finds Paint name value) o (layer_list d) ≡ property_found (layer_list d) Paint o name value
      as_property None = refl
      as_property (Some i) = refl
  by_edit (edits.set_layout id name value) keys fault =
      changed_by_place (sources_of d) (layer_list d) sound (with_property (codes "layout") name value) (property_finds Layout name value)
      (layout_finds (sources_of d) name value) places.layer layer ∙ as_property places.layer
    where
      as_property : (o : Option ℕ) → by_place (property_finds Layout name value) o (layer_list d) ≡ property_found (layer_list d) Layout o name value
      as_property None = refl
      as_property (Some i) = refl
  by_edit (edits.set_filter id filter) keys fault =
      changed_by_place (sources_of d) (layer_list d) sound (with_filter filter)
      (λ i t. unless_null filter (findings_in (reports_or (filter_mark filter) (member_path i (codes "filter")) [])))
      (filter_finds (sources_of d) filter) places.layer layer ∙ as_filter places.layer
    where
      as_filter : (o : Option ℕ) → by_place (λ i t. unless_null filter (findings_in (reports_or (filter_mark filter) (member_path i (codes "filter")) []))) o (layer_list d) ≡ filter_found o filter
      as_filter None = refl
      as_filter (Some i) = refl
  by_edit (edits.set_range id min max) keys fault =
      let zooms = both_true (is_zoom_or_none min) (is_zoom_or_none max) (zooms_named d (edits.set_range id min max) fault) in
      changed_by_place (sources_of d) (layer_list d) sound (with_range min max) (λ i t. [])
      (range_finds (sources_of d) min max zooms.0 zooms.1) places.layer layer ∙ as_nothing places.layer
    where
      as_nothing : (o : Option ℕ) → by_place (λ i t. []) o (layer_list d) ≡ []
      as_nothing None = refl
      as_nothing (Some i) = refl
  by_edit (edits.add_layer new b) keys fault = inserted_by_place (sources_of d) (layer_list d) sound places.before new before keys
  by_edit (edits.remove_layer id) keys fault = removed_by_place (sources_of d) (layer_list d) sound places.layer layer
  by_edit (edits.move_layer id b) keys fault = moved_by_place (sources_of d) (layer_list d) sound places.layer places.before layer before keys
  by_edit (edits.set_zoom zoom) keys fault = nothing_listed (sources_of d) (layer_list d) sound
  by_edit (edits.set_state source l id members) keys fault = nothing_listed (sources_of d) (layer_list d) sound
  by_edit (edits.remove_state source l id key) keys fault = nothing_listed (sources_of d) (layer_list d) sound
  by_edit (edits.add_image name) keys fault = nothing_listed (sources_of d) (layer_list d) sound
  by_edit (edits.remove_image name) keys fault = nothing_listed (sources_of d) (layer_list d) sound
  by_edit (edits.set_global name value) keys fault = nothing_listed (sources_of d) (layer_list d) sound
  by_edit edits.list keys fault = nothing_listed (sources_of d) (layer_list d) sound
  by_edit edits.stats keys fault = nothing_listed (sources_of d) (layer_list d) sound
  by_edit edits.style keys fault = nothing_listed (sources_of d) (layer_list d) sound

-- where no name occurs twice in any layer
pub keys_for : (e : Edit) (ts : List Tree) → AreKeyed ts → HasKeysFor e ts
keys_for (edits.add_layer layer before) ts h = h
keys_for (edits.move_layer id before) ts h = h
keys_for _ ts h = tt

-- The findings of a document without findings after an edit without fault.
pub after_edit : (d : Tree) (e : Edit) (places : EditPlaces) → HasDistinctMembers d → HasKeysFor e (layer_list d) →
    findings d ≡ [] → edit_fault d e ≡ None → places ≡ places_of d e → found_by_edit d places e ≡ findings (edited d e)
after_edit d e places distinct keys none fault given =
    let layers = of_layers d distinct none in
    let ts = layer_list d in
    sym (by_edit d places layers.0 (layer_within d ts e places given refl) (before_within d ts e places given refl) e keys fault)
    ∙ (ap (listed (sources_of d)) (edited_given d ts e places given refl) ∙ sym (layers.1 (edited_layers e)))
