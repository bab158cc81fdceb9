-- The simplified document: each property and filter that is an expression is replaced by its simplified form. All
-- else stays: order, names, legacy forms, token texts, what is outside, number texts. Source: own.
use Rattle.std.specs.Prelude.{ℕ, ◌+◌, List, [], ◌∷◌, codes, Bool, true, false, not, ◌&&◌, ◌||◌, is_some, Option, Some}
use Rattle.std.specs.Prelude.{None, Ok, Err, if◌then◌else◌}
use Rattle.std.specs.List.{slice_get}
use Rattle.std.specs.Str.{bytes_eq}
use Rattle.decimal_json.specs.Accessors.{member}
use Rattle.decimal_json.specs.Tree.{Tree, boolean}
use Rattle.decimal_json.specs.declared.paths.PathPart.{PathPart}
use Rattle.decimal_json.specs.declared.paths.PathPart.TheVariants as parts
use Rattle.prop_values.specs.declared.kinds.Want.TheVariants as wants
use Rattle.property_tables.specs.Literals.{literal_of}
use Rattle.property_tables.specs.Rows.{RowData, row_of}
use Rattle.property_tables.specs.declared.layer_type.LayerType.{LayerType}
use Rattle.property_tables.specs.declared.property_row.Place.{Place}
use Rattle.expr_syntax.specs.Reading.{Reading, reading}
use Rattle.legacy_filters.specs.Split.{is_array, is_legacy}
use Rattle.style_parts.specs.Parts.{is_layers, layers_of}
use Rattle.value_forms.specs.declared.forms.Form.{Form}
use Rattle.value_forms.specs.declared.forms.Form.TheVariants as forms
use Rattle.value_forms.specs.Forms.{form_of, is_token_text}
use Rattle.value_forms.specs.LayerTypes.{layer_type, tested_type, place_named}
use Rattle.style_migrate.specs.Migrated.{with_values, with_items}
use Rattle.style_simplify.specs.Choices.{NodeChoices, chosen}
use Rattle.style_simplify.specs.Simple.{choices, listed}

-- ---- the value of a property

-- A bare literal has to be one of the row, and no token text.
abbrev pub is_accepted : RowData → Tree → Bool
is_accepted row t = is_array t || (is_some (literal_of t row) && not (is_token_text row t))

-- else the value keeps its simplified arguments
abbrev pub accepted_or_node : RowData → NodeChoices → Tree
accepted_or_node row c = if is_accepted row (chosen false c).tree then (chosen false c).tree else c.node.tree

abbrev pub expression_read : RowData → Tree → Reading → Tree
expression_read row t (Ok (Some e)) = accepted_or_node row (choices e t row.want [])
expression_read row t (Ok None) = t
expression_read row t (Err fault) = t

abbrev pub value_by_form : Form → RowData → Tree → Tree
value_by_form forms.Expression row t = expression_read row t (reading t)
value_by_form forms.Function row t = t
value_by_form forms.TokenText row t = t
value_by_form forms.Literal row t = t

abbrev pub simplified_value : RowData → Tree → Tree
simplified_value row t = value_by_form (form_of row t) row t

-- ---- a filter, which stays where its simplified form would be legacy

abbrev pub unless_legacy : Tree → Tree → Tree
unless_legacy t u = if is_legacy u then t else u

abbrev pub filter_read : Tree → Reading → Tree
filter_read t (Ok (Some e)) = unless_legacy t (chosen false (choices e t wants.Boolean [])).tree
filter_read t (Ok None) = t
filter_read t (Err fault) = t

abbrev pub simplified_filter : Tree → Tree
simplified_filter t = if is_legacy t then t else filter_read t (reading t)

-- ---- the places of a document: the properties of each layer whose type is tested, and the filter of every layer

abbrev pub value_of_row : Option (ℕ × RowData) → Tree → Tree
value_of_row (Some found) t = simplified_value found.1 t
value_of_row None t = t

abbrev pub simplified_property : LayerType → Place → List ℕ → Tree → Tree
simplified_property type place name t = value_of_row (row_of type place name) t

abbrev pub simplified_properties : Option LayerType → Option Place → Tree → Tree
simplified_properties (Some type) (Some place) t = with_values (simplified_property type place) t
simplified_properties (Some type) None t = t
simplified_properties None place t = t

abbrev pub simplified_member : Option LayerType → List ℕ → Tree → Tree
simplified_member type key t =
    if bytes_eq key (codes "filter") then simplified_filter t else simplified_properties type (place_named key) t

abbrev pub simplified_layer : Tree → Tree
simplified_layer layer = with_values (simplified_member (tested_type (layer_type layer))) layer

abbrev pub simplified_part : List ℕ → Tree → Tree
simplified_part key t = if is_layers key then with_items simplified_layer t else t

-- The simplified document.
abbrev pub simplified : Tree → Tree
simplified document = with_values simplified_part document

-- ---- filters that became false: no feature passes them

abbrev pub is_false : Option Tree → Bool
is_false (Some (boolean false)) = true
is_false _ = false

abbrev pub filter_of : Tree → Option Tree
filter_of layer = member (codes "filter") layer

abbrev pub became_false : Tree → Option Tree → Bool
became_false before (Some after) = is_false (filter_of after) && not (is_false (filter_of before))
became_false before None = false

abbrev pub filter_path : ℕ → List PathPart
filter_path i = parts.Key (codes "layers") ∷ parts.Index i ∷ parts.Key (codes "filter") ∷ []

-- the layers before from number i on, and all layers after
abbrev pub never_from : ℕ → List Tree → List Tree → List (List PathPart)
never_from i [] after = []
never_from i (layer ∷ layers) after =
    if became_false layer (slice_get after i) then filter_path i ∷ never_from (i + 1) layers after else
    never_from (i + 1) layers after

-- The paths of the filters that are false in the one document and not in the other.
abbrev pub never_passed : Tree → Tree → List (List PathPart)
never_passed before after = never_from 0 (listed (layers_of before)) (listed (layers_of after))
