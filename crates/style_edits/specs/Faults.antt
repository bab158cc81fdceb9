-- Why an edit cannot be made: the first cause that holds, in their order.
use Rattle.std.specs.Prelude.{ℕ, ℤ, List, [], ◌∷◌, codes, Bool, true, false, ◌&&◌, not, Option, Some, None, is_none}
use Rattle.std.specs.Bool.{then_some}
use Rattle.std.specs.List.{list_all}
use Rattle.std.specs.Option.{option_and_then}
use Rattle.decimal_json.specs.Accessors.{member}
use Rattle.decimal_json.specs.Tree.{Tree}
use Rattle.edit_script.specs.Edit.{Edit, set_paint, set_layout, set_filter, set_range, add_layer, remove_layer}
use Rattle.edit_script.specs.Edit.{move_layer, set_zoom, set_state, remove_state}
use Rattle.style_edits.specs.Causes.{first_cause}
use Rattle.style_edits.specs.Layer.{is_null}
use Rattle.style_edits.specs.Layers.{layer_list, layer_named}
use Rattle.style_edits.specs.declared.faults.EditFault.{EditFault}
use Rattle.style_edits.specs.declared.faults.EditFault.TheVariants.{UnknownLayer, UnknownBefore, UnknownSource}
use Rattle.style_edits.specs.declared.faults.EditFault.TheVariants.{ZoomRange, UnknownProperty}
use Rattle.style_parts.specs.Numbers.{is_zoom}
use Rattle.style_parts.specs.Parts.{source_at}

-- ---- what an edit names

-- the layer that it changes, removes or moves
abbrev pub named_layer : Edit → Option (List ℕ)
named_layer (set_paint layer name value) = Some layer
named_layer (set_layout layer name value) = Some layer
named_layer (set_filter layer filter) = Some layer
named_layer (set_range layer min max) = Some layer
named_layer (remove_layer id) = Some id
named_layer (move_layer id before) = Some id
named_layer _ = None

-- the layer before which it puts another
abbrev pub named_before : Edit → Option (List ℕ)
named_before (add_layer layer before) = before
named_before (move_layer id before) = before
named_before _ = None

abbrev pub named_source : Edit → Option (List ℕ)
named_source (set_state source layer id members) = Some source
named_source (remove_state source layer id key) = Some source
named_source _ = None

-- zooms, in millionths
abbrev pub named_zooms : Edit → List (Option ℤ)
named_zooms (set_zoom zoom) = Some zoom ∷ []
named_zooms (set_range layer min max) = min ∷ max ∷ []
named_zooms _ = []

-- ---- a test for each cause

abbrev pub lacks_layer : List Tree → Option (List ℕ) → Bool
lacks_layer ts (Some id) = is_none (layer_named id ts)
lacks_layer ts None = false

abbrev pub lacks_source : Tree → Option (List ℕ) → Bool
lacks_source document (Some name) = is_none (source_at document name)
lacks_source document None = false

-- a zoom that is given is from 0 to 24
abbrev pub is_zoom_or_none : Option ℤ → Bool
is_zoom_or_none (Some zoom) = is_zoom (Some zoom)
is_zoom_or_none None = true

-- a layer has no property of this name among those at a key, which is `paint` or `layout`
abbrev pub lacks_property : List ℕ → List ℕ → Option Tree → Bool
lacks_property key name layer = is_none (option_and_then (member name) (option_and_then (member key) layer))

-- null is given for a property that is not set
abbrev pub unsets_nothing : List Tree → Edit → Bool
unsets_nothing ts (set_paint id name value) = is_null value && lacks_property (codes "paint") name (layer_named id ts)
unsets_nothing ts (set_layout id name value) = is_null value && lacks_property (codes "layout") name (layer_named id ts)
unsets_nothing ts _ = false

-- ---- the fault of an edit of a document, or none. Source: own.

abbrev pub edit_fault : Tree → Edit → Option EditFault
edit_fault document edit = first_cause (
    then_some (lacks_layer (layer_list document) (named_layer edit)) UnknownLayer ∷
    then_some (lacks_layer (layer_list document) (named_before edit)) UnknownBefore ∷
    then_some (lacks_source document (named_source edit)) UnknownSource ∷
    then_some (not (list_all is_zoom_or_none (named_zooms edit))) ZoomRange ∷
    then_some (unsets_nothing (layer_list document) edit) UnknownProperty ∷ [])
