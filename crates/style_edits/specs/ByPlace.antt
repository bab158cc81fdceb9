-- What an edit does by the places of the layers that it names.
use Rattle.std.specs.Prelude.{ℕ, ◌-◌, List, [], ◌∷◌, ◌++◌, length, insert, remove, slice_set, slice_get, slice_index_or}
use Rattle.std.specs.Prelude.{nat_eq, nat_lt, codes, Bool, true, false, ◌&&◌, not, Option, Some, None, if◌then◌else◌}
use Rattle.std.specs.Bool.{then_some}
use Rattle.std.specs.List.{list_all}
use Rattle.std.specs.Option.{option_and_then}
use Rattle.decimal_json.specs.View.{moved_items}
use Rattle.decimal_json.specs.Tree.{Tree, null}
use Rattle.edit_script.specs.Edit.{Edit, set_paint, set_layout, set_filter, set_range, add_layer, remove_layer}
use Rattle.edit_script.specs.Edit.{move_layer}
use Rattle.style_edits.specs.Causes.{first_cause}
use Rattle.style_edits.specs.Faults.{named_layer, named_before, named_source, named_zooms, lacks_source, lacks_property}
use Rattle.style_edits.specs.Faults.{is_zoom_or_none}
use Rattle.style_edits.specs.Layer.{is_null, with_property, with_filter, with_range}
use Rattle.style_edits.specs.Layers.{layer_list}
use Rattle.style_edits.specs.declared.faults.EditFault.{EditFault}
use Rattle.style_edits.specs.declared.faults.EditFault.TheVariants.{UnknownLayer, UnknownBefore, UnknownSource}
use Rattle.style_edits.specs.declared.faults.EditFault.TheVariants.{ZoomRange, UnknownProperty}
use Rattle.style_edits.specs.declared.places.EditPlaces.{EditPlaces}

-- the layer at a place
abbrev pub layer_at : Option ℕ → List Tree → Option Tree
layer_at place ts = option_and_then (slice_get ts) place

-- ---- the layers after an edit

abbrev pub changed_at : Option ℕ → (Tree → Tree) → List Tree → List Tree
changed_at (Some place) change ts = slice_set ts place (change (slice_index_or ts place null))
changed_at None change ts = ts

abbrev pub removed_at : Option ℕ → List Tree → List Tree
removed_at (Some place) ts = remove ts place
removed_at None ts = ts

abbrev pub inserted_at : Option ℕ → Tree → List Tree → List Tree
inserted_at (Some place) layer ts = insert ts place layer
inserted_at None layer ts = ts ++ layer ∷ []

-- the place to which a layer is moved, before another or to the end: those after it move up
abbrev pub place_moved_to : ℕ → Option ℕ → ℕ → ℕ
place_moved_to from (Some before) count = if nat_lt from before then before - 1 else before
place_moved_to from None count = count - 1

abbrev pub is_own_place : ℕ → Option ℕ → Bool
is_own_place from (Some before) = nat_eq before from
is_own_place from None = false

abbrev pub moved_at : Option ℕ → Option ℕ → List Tree → List Tree
moved_at (Some from) before ts =
    if is_own_place from before then ts else moved_items from (place_moved_to from before (length ts)) ts
moved_at None before ts = ts

abbrev pub edited_at : Edit → EditPlaces → List Tree → List Tree
edited_at (set_paint id name value) places ts = changed_at places.layer (with_property (codes "paint") name value) ts
edited_at (set_layout id name value) places ts = changed_at places.layer (with_property (codes "layout") name value) ts
edited_at (set_filter id filter) places ts = changed_at places.layer (with_filter filter) ts
edited_at (set_range id min max) places ts = changed_at places.layer (with_range min max) ts
edited_at (add_layer layer before) places ts = inserted_at places.before layer ts
edited_at (remove_layer id) places ts = removed_at places.layer ts
edited_at (move_layer id before) places ts = moved_at places.layer places.before ts
edited_at _ places ts = ts

-- ---- the fault of an edit

-- a name of a layer that has no place
abbrev pub is_missing : Option (List ℕ) → Option ℕ → Bool
is_missing (Some name) None = true
is_missing _ _ = false

abbrev pub unsets_nothing_at : Option Tree → Edit → Bool
unsets_nothing_at layer (set_paint id name value) = is_null value && lacks_property (codes "paint") name layer
unsets_nothing_at layer (set_layout id name value) = is_null value && lacks_property (codes "layout") name layer
unsets_nothing_at layer _ = false

abbrev pub fault_at : Tree → Edit → EditPlaces → Option EditFault
fault_at document edit places = first_cause (
    then_some (is_missing (named_layer edit) places.layer) UnknownLayer ∷
    then_some (is_missing (named_before edit) places.before) UnknownBefore ∷
    then_some (lacks_source document (named_source edit)) UnknownSource ∷
    then_some (not (list_all is_zoom_or_none (named_zooms edit))) ZoomRange ∷
    then_some (unsets_nothing_at (layer_at places.layer (layer_list document)) edit) UnknownProperty ∷ [])
