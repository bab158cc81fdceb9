-- What is found after an edit of a document without findings, by the part that the edit changes.
use Rattle.std.specs.Prelude.{ℕ, ◌+◌, List, [], ◌∷◌, ◌++◌, codes, drop, length, nat_le, not, slice_index_or, unwrap_or}
use Rattle.std.specs.Prelude.{Bool, true, Option, Some, None, if◌then◌else◌}
use Rattle.decimal_json.specs.Accessors.{text_at}
use Rattle.decimal_json.specs.Tree.{Tree, null, trees_of}
use Rattle.decimal_json.specs.declared.paths.PathPart.{PathPart}
use Rattle.decimal_json.specs.declared.paths.PathPart.TheVariants.{Key, Index}
use Rattle.edit_script.specs.Edit.{Edit, set_paint, set_layout, set_filter, add_layer, move_layer}
use Rattle.property_tables.specs.declared.property_row.Place.{Place}
use Rattle.property_tables.specs.declared.property_row.Place.TheVariants.{Layout, Paint}
use Rattle.style_edits.specs.Layer.{is_null}
use Rattle.style_edits.specs.Layers.{layer_list}
use Rattle.style_edits.specs.declared.places.EditPlaces.{EditPlaces}
use Rattle.style_parts.specs.Parts.{equals_id, sources_of}
use Rattle.style_rules.specs.Findings.{findings_in, reports_or}
use Rattle.style_rules.specs.Levels.{layer_reports, property_reports, HasDistinctMembers}
use Rattle.style_rules.specs.Places.{used_in}
use Rattle.style_rules.specs.Values.{filter_mark}
use Rattle.value_forms.specs.LayerTypes.{layer_type, tested_type}

abbrev pub Found : Type 0
Found = List (List PathPart × ℕ)

-- ---- paths

abbrev pub layers_path : List PathPart
layers_path = Key (codes "layers") ∷ []

abbrev pub layer_path : ℕ → List PathPart
layer_path i = Key (codes "layers") ∷ Index i ∷ []

abbrev pub member_path : ℕ → List ℕ → List PathPart
member_path i key = Key (codes "layers") ∷ Index i ∷ Key key ∷ []

-- ---- a property and a filter: one that is taken away breaks nothing

abbrev pub unless_null : Tree → Found → Found
unless_null t found = if is_null t then [] else found

-- the key of the properties of a place
abbrev pub properties_key : Place → List ℕ
properties_key Layout = codes "layout"
properties_key Paint = codes "paint"

-- of a layer, by its place among the layers
abbrev pub property_found : List Tree → Place → Option ℕ → List ℕ → Tree → Found
property_found ts place (Some i) name t = unless_null t (findings_in (property_reports
    (tested_type (layer_type (slice_index_or ts i null))) (Some place) (member_path i (properties_key place)) name t))
property_found ts place None name t = []

abbrev pub filter_found : Option ℕ → Tree → Found
filter_found (Some i) t = unless_null t (findings_in (reports_or (filter_mark t) (member_path i (codes "filter")) []))
filter_found None t = []

-- ---- a layer that is added

-- the most layers that a document has
abbrev pub most_layers : ℕ
most_layers = 65536

abbrev pub if_few : Bool → Found → Found
if_few few found = if few then found else (layers_path, 5) ∷ []

abbrev pub unless_too_many : ℕ → Found → Found
unless_too_many count found = if_few (nat_le count most_layers) found

-- the text id of a layer
abbrev pub id_key : List ℕ
id_key = codes "id"

abbrev pub id_of : Tree → Option (List ℕ)
id_of layer = text_at id_key layer

-- an id, where there is one, is not another
abbrev pub differs : Option (List ℕ) → Option (List ℕ) → Bool
differs one None = true
differs one (Some id) = not (equals_id id one)

-- the layers after a new one that have its id, from a number on
abbrev pub same_found : Option (List ℕ) → ℕ → Tree → Found
same_found id i t = if differs id (id_of t) then [] else (member_path i id_key, 8) ∷ []

abbrev pub later_found : Option (List ℕ) → ℕ → List Tree → Found
later_found id i [] = []
later_found id i (t ∷ ts) = same_found id i t ++ later_found id (i + 1) ts

-- a new layer at a place
abbrev pub own_found : Tree → ℕ → Tree → Found
own_found document i layer =
    findings_in (layer_reports (sources_of document) (used_in (trees_of (layer_list document)) i) (layer_path i) layer)

abbrev pub layer_found : Tree → ℕ → Tree → Found
layer_found document i layer =
    own_found document i layer ++ later_found (id_of layer) (i + 1) (drop i (layer_list document))

abbrev pub added_found : Tree → Option ℕ → Tree → Found
added_found document before layer =
    unless_too_many (length (layer_list document) + 1)
    (layer_found document (unwrap_or before (length (layer_list document))) layer)

-- ---- an edit, by the places of the layers that it names

abbrev pub found_by_edit : Tree → EditPlaces → Edit → Found
found_by_edit document places (set_paint id name value) =
    property_found (layer_list document) Paint places.layer name value
found_by_edit document places (set_layout id name value) =
    property_found (layer_list document) Layout places.layer name value
found_by_edit document places (set_filter id filter) = filter_found places.layer filter
found_by_edit document places (add_layer layer before) = added_found document places.before layer
found_by_edit document places _ = []

-- ---- what is asked of the layers where one is added or moved: that no name occurs twice in one

abbrev pub Each : (Tree → Type 0) → List Tree → Type 0
Each P [] = Unit {0}
Each P (t ∷ ts) = P t × Each P ts

abbrev pub AreKeyed : List Tree → Type 0
AreKeyed = Each HasDistinctMembers

abbrev pub HasKeysFor : Edit → List Tree → Type 0
HasKeysFor (add_layer layer before) ts = AreKeyed ts
HasKeysFor (move_layer id before) ts = AreKeyed ts
HasKeysFor _ ts = Unit {0}
