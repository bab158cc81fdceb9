-- What an edit does is what it does by the places of the layers that it names.
use Rattle.std.proofs.Common.{◌≡◌, ◌<◌, ℕ, suc, List, [], ◌∷◌, length, refl, ap, sym, ◌∙◌, subst, Bool, true, false}
use Rattle.std.specs.Prelude.{codes, not, ◌&&◌, Option, Some, None, IfSome, is_none, option_map, if◌then◌else◌}
use Rattle.std.specs.Bool.{then_some}
use Rattle.std.specs.List.{list_all}
use Rattle.std.specs.Option.{option_and_then}
use Rattle.decimal_json.specs.Tree.{Tree}
use Rattle.edit_script.specs.Edit.{Edit, set_paint, set_layout, set_filter, set_range, add_layer, remove_layer, move_layer, set_zoom, set_state, remove_state, add_image, remove_image, set_global, list, stats, style}
use Rattle.style_edits.specs.ByPlace.{layer_at, changed_at, removed_at, inserted_at, moved_at, edited_at, is_missing, unsets_nothing_at, fault_at}
use Rattle.style_edits.specs.Places.{layer_place, places_in, places_of}
use Rattle.style_edits.specs.Causes.{first_cause}
use Rattle.style_edits.specs.Edited.{edited_layers}
use Rattle.style_edits.specs.Faults.{named_layer, named_before, named_source, named_zooms, lacks_layer, lacks_source, lacks_property, is_zoom_or_none, unsets_nothing, edit_fault}
use Rattle.style_edits.specs.Layer.{is_null, with_property, with_filter, with_range}
use Rattle.style_edits.specs.Layers.{layer_list, layer_named, changed_layer}
use Rattle.style_edits.specs.declared.faults.EditFault.TheVariants.{UnknownLayer, UnknownBefore, UnknownSource, ZoomRange, UnknownProperty}
use Rattle.style_edits.specs.declared.places.EditPlaces.{EditPlaces}
use Rattle.style_edits.proofs.PlaceLaws.{place, place_is, place_if, named_at, changed_is, removed_is, inserted_is, moved_is, placed_within}
use Rattle.style_parts.specs.Parts.{is_id_of}

place_if_is : (before : Option (List ℕ)) (ts : List Tree) → option_and_then (layer_place ts) before ≡ place_if before ts
place_if_is (Some id) ts = place_is ts id
place_if_is None ts = refl

changed_by : (id : List ℕ) (change : Tree → Tree) (ts : List Tree) → changed_layer id change ts ≡ changed_at (layer_place ts id) change ts
changed_by id change ts = changed_is id change ts ∙ ap (λ o. changed_at o change ts) (sym (place_is ts id))

pub edited_by_place : (edit : Edit) (ts : List Tree) → edited_layers edit ts ≡ edited_at edit (places_in ts edit) ts
edited_by_place (set_paint id name value) ts = changed_by id (with_property (codes "paint") name value) ts
edited_by_place (set_layout id name value) ts = changed_by id (with_property (codes "layout") name value) ts
edited_by_place (set_filter id filter) ts = changed_by id (with_filter filter) ts
edited_by_place (set_range id min max) ts = changed_by id (with_range min max) ts
edited_by_place (add_layer layer before) ts = inserted_is before layer ts ∙ ap (λ o. inserted_at o layer ts) (sym (place_if_is before ts))
edited_by_place (remove_layer id) ts = removed_is id ts ∙ ap (λ o. removed_at o ts) (sym (place_is ts id))
edited_by_place (move_layer id before) ts = moved_is id before ts ∙ (λ i. moved_at (sym (place_is ts id) i) (sym (place_if_is before ts) i) ts)
edited_by_place (set_zoom zoom) ts = refl
edited_by_place (set_state source layer id members) ts = refl
edited_by_place (remove_state source layer id key) ts = refl
edited_by_place (add_image name) ts = refl
edited_by_place (remove_image name) ts = refl
edited_by_place (set_global name value) ts = refl
edited_by_place list ts = refl
edited_by_place stats ts = refl
edited_by_place style ts = refl

-- ---- the fault of an edit

lacks_step : (same : Bool) (t : Tree) (found : Option Tree) (o : Option ℕ) → is_none found ≡ is_none o → is_none (if same then Some t else found) ≡ is_none (if same then Some 0 else option_map suc o)
lacks_step true t found o h = refl
lacks_step false t found None h = h
lacks_step false t found (Some i) h = h

unplaced : (id : List ℕ) (ts : List Tree) → is_none (layer_named id ts) ≡ is_none (place id ts)
unplaced id [] = refl
unplaced id (t ∷ ts) = lacks_step (is_id_of id t) t (layer_named id ts) (place id ts) (unplaced id ts)

missing : (id : List ℕ) (o : Option ℕ) → is_none o ≡ is_missing (Some id) o
missing id None = refl
missing id (Some i) = refl

lacks_is : (ts : List Tree) (name : Option (List ℕ)) → lacks_layer ts name ≡ is_missing name (option_and_then (layer_place ts) name)
lacks_is ts None = refl
lacks_is ts (Some id) = unplaced id ts ∙ (missing id (place id ts) ∙ ap (is_missing (Some id)) (sym (place_is ts id)))

named_by : (id : List ℕ) (ts : List Tree) → layer_named id ts ≡ layer_at (layer_place ts id) ts
named_by id ts = named_at id ts ∙ ap (λ o. layer_at o ts) (sym (place_is ts id))

unsets_is : (edit : Edit) (ts : List Tree) → unsets_nothing ts edit ≡ unsets_nothing_at (layer_at (option_and_then (layer_place ts) (named_layer edit)) ts) edit
unsets_is (set_paint id name value) ts = ap (λ layer. is_null value && lacks_property (codes "paint") name layer) (named_by id ts)
unsets_is (set_layout id name value) ts = ap (λ layer. is_null value && lacks_property (codes "layout") name layer) (named_by id ts)
unsets_is (set_filter id filter) ts = refl
unsets_is (set_range id min max) ts = refl
unsets_is (add_layer layer before) ts = refl
unsets_is (remove_layer id) ts = refl
unsets_is (move_layer id before) ts = refl
unsets_is (set_zoom zoom) ts = refl
unsets_is (set_state source layer id members) ts = refl
unsets_is (remove_state source layer id key) ts = refl
unsets_is (add_image name) ts = refl
unsets_is (remove_image name) ts = refl
unsets_is (set_global name value) ts = refl
unsets_is list ts = refl
unsets_is stats ts = refl
unsets_is style ts = refl

pub fault_by_place : (document : Tree) (edit : Edit) → edit_fault document edit ≡ fault_at document edit (places_of document edit)
fault_by_place document edit = λ i. first_cause (
    then_some (lacks_is (layer_list document) (named_layer edit) i) UnknownLayer ∷
    then_some (lacks_is (layer_list document) (named_before edit) i) UnknownBefore ∷
    then_some (lacks_source document (named_source edit)) UnknownSource ∷
    then_some (not (list_all is_zoom_or_none (named_zooms edit))) ZoomRange ∷
    then_some (unsets_is edit (layer_list document) i) UnknownProperty ∷ [])

-- ---- places that a caller hands in

module _ (document : Tree) (ts : List Tree) (edit : Edit) (places : EditPlaces) (given : places ≡ places_of document edit) (listed : layer_list document ≡ ts) where
  places_listed : places ≡ places_in ts edit
  places_listed = given ∙ ap (λ xs. places_in xs edit) listed

  pub layer_within : IfSome places.layer (λ i. i < length ts)
  layer_within = subst (λ o. IfSome o (λ i. i < length ts)) (sym (ap (λ p. p.layer) places_listed)) (placed_within ts (named_layer edit))

  pub before_within : IfSome places.before (λ i. i < length ts)
  before_within = subst (λ o. IfSome o (λ i. i < length ts)) (sym (ap (λ p. p.before) places_listed)) (placed_within ts (named_before edit))

  pub edited_given : edited_at edit places ts ≡ edited_layers edit ts
  edited_given = ap (λ p. edited_at edit p ts) places_listed ∙ sym (edited_by_place edit ts)
