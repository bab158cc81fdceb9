-- The migrated document: each legacy filter, each legacy function that is not outside, and each token text is
-- replaced by the expression that means the same. All else stays: order, names, other values, number texts.
-- Source: own.
use Rattle.std.specs.Prelude.{ℕ, List, codes, Option, Some, None, if◌then◌else◌}
use Rattle.std.specs.Str.{bytes_eq}
use Rattle.decimal_json.specs.Tree.{Tree, text, list, object, Trees, no_trees, tree, Fields, no_fields, field}
use Rattle.property_tables.specs.Rows.{RowData, row_of}
use Rattle.property_tables.specs.declared.layer_type.LayerType.{LayerType}
use Rattle.property_tables.specs.declared.property_row.Place.{Place}
use Rattle.style_parts.specs.Parts.{is_layers}
use Rattle.legacy_functions.specs.Form as functions
use Rattle.legacy_functions.specs.Function.{Function}
use Rattle.legacy_functions.specs.ToExpression.{function_expression}
use Rattle.legacy_functions.specs.Tokens.{token_expression}
use Rattle.legacy_filters.specs.Migrated.{migrated_filter}
use Rattle.value_forms.specs.declared.forms.Form.TheVariants as forms
use Rattle.value_forms.specs.LayerTypes.{layer_type, tested_type, place_named}
use Rattle.value_forms.specs.Forms.{form_of}
use Rattle.value_forms.specs.declared.forms.Form.{Form}

-- ---- the value of a property, by the form that it has

-- the expression of a function; what is outside, or has not the form of a function, stays
abbrev pub function_or : RowData → Tree → Option (Option Function) → Tree
function_or row t (Some (Some f)) = function_expression row f
function_or row t (Some None) = t
function_or row t None = t

abbrev pub tokens_or : Tree → Tree
tokens_or (text s) = token_expression s
tokens_or t = t

abbrev pub value_by_form : Form → RowData → Tree → Tree
value_by_form forms.Function row t = function_or row t (functions.form row t)
value_by_form forms.TokenText row t = tokens_or t
value_by_form forms.Expression row t = t
value_by_form forms.Literal row t = t

abbrev pub migrated_value : RowData → Tree → Tree
migrated_value row t = value_by_form (form_of row t) row t

-- ---- members and items, each replaced by itself in order

abbrev pub mapped_fields : (List ℕ → Tree → Tree) → Fields → Fields
mapped_fields change no_fields = no_fields
mapped_fields change (field k t fs) = field k (change k t) (mapped_fields change fs)

abbrev pub mapped_items : (Tree → Tree) → Trees → Trees
mapped_items change no_trees = no_trees
mapped_items change (tree t ts) = tree (change t) (mapped_items change ts)

-- an object with each value replaced by its name and itself; what is no object stays
abbrev pub with_values : (List ℕ → Tree → Tree) → Tree → Tree
with_values change (object fs) = object (mapped_fields change fs)
with_values change t = t

-- an array with each item replaced; what is no array stays
abbrev pub with_items : (Tree → Tree) → Tree → Tree
with_items change (list ts) = list (mapped_items change ts)
with_items change t = t

-- ---- the places of a document: the properties of each layer whose type is tested, and the filter of every
-- layer

-- a member of `layout` or `paint`, which is a property where the table has a row of its name
abbrev pub value_of_row : Option (ℕ × RowData) → Tree → Tree
value_of_row (Some found) t = migrated_value found.1 t
value_of_row None t = t

abbrev pub migrated_property : LayerType → Place → List ℕ → Tree → Tree
migrated_property type place name t = value_of_row (row_of type place name) t

abbrev pub migrated_properties : Option LayerType → Option Place → Tree → Tree
migrated_properties (Some type) (Some place) t = with_values (migrated_property type place) t
migrated_properties (Some type) None t = t
migrated_properties None place t = t

-- a member of a layer, by the layer's type where that is tested
abbrev pub migrated_member : Option LayerType → List ℕ → Tree → Tree
migrated_member type key t =
    if bytes_eq key (codes "filter") then migrated_filter t else migrated_properties type (place_named key) t

abbrev pub migrated_layer : Tree → Tree
migrated_layer layer = with_values (migrated_member (tested_type (layer_type layer))) layer

-- a member of the document
abbrev pub migrated_part : List ℕ → Tree → Tree
migrated_part key t = if is_layers key then with_items migrated_layer t else t

-- The migrated document.
abbrev pub migrated : Tree → Tree
migrated document = with_values migrated_part document
