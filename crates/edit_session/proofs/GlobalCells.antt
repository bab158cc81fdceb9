-- A document has as many cells with any values of the global state.
use Rattle.std.proofs.Common.{◌≡◌, ◌∙◌, ℕ, suc, ◌+◌, ◌*◌, List, [], ◌∷◌, ◌++◌, length, refl, ap, sym, Bool, true, false, Option, Some, None, Ok, Err}
use Rattle.std.specs.Prelude.{flat_map, option_map, if◌then◌else◌}
use Rattle.decimal_json.specs.Tree.{Tree, null, boolean, number, text, list, object, Trees, no_trees, tree}
use Rattle.prop_values.specs.Data.{Data}
use Rattle.property_tables.specs.Literals.{literal_of}
use Rattle.property_tables.specs.Rows.{RowData, rows_of}
use Rattle.property_tables.specs.declared.layer_type.LayerType.{LayerType}
use Rattle.expr_syntax.specs.Reading.{Reading, reading_with}
use Rattle.legacy_functions.specs.Form as functions
use Rattle.legacy_functions.specs.Function.{Function}
use Rattle.legacy_functions.specs.ToExpression.{function_expression}
use Rattle.legacy_functions.specs.Tokens.{token_expression}
use Rattle.style_parts.specs.Parts.{layers_of}
use Rattle.value_forms.specs.Forms.{form_of}
use Rattle.value_forms.specs.LayerTypes.{layer_type}
use Rattle.value_forms.specs.declared.forms.Form.{Form}
use Rattle.value_forms.specs.declared.forms.Form.TheVariants as forms
use Rattle.style_layout.specs.Forms.{Property, expression_value, expression_mentions, value_mentions, literal_value, function_value, text_value, formed_value, property_of, reads_feature}
use Rattle.style_layout.specs.Layers.{StyleLayer, set_value, is_visibility, property_if, set_property, feature_properties, typed_layer, with_layer, layers_in, style_layers}
use Rattle.style_layout.specs.Shown.{SourceTile, layer_features}
use Rattle.style_layout.specs.StyleLayout.{layer_cells, cell_count}
use Rattle.global_laws.specs.GlobalLaw.{IsReadAlike}
use Rattle.global_laws.proofs.GlobalForms.{values_change_no_form}

abbrev pub Globals : Type 0
Globals = List (List ℕ × Data)

-- ---- values

expressions_mention : (r s : Reading) → IsReadAlike r s →
    expression_mentions (expression_value r) ≡ expression_mentions (expression_value s)
expressions_mention (Ok (Some e)) (Ok (Some f)) h = h.mentions
expressions_mention (Ok None) (Ok None) h = refl
expressions_mention (Err x) (Err y) h = refl
expressions_mention (Ok (Some e)) (Ok None) h = absurd h
expressions_mention (Ok (Some e)) (Err y) h = absurd h
expressions_mention (Ok None) (Ok (Some f)) h = absurd h
expressions_mention (Ok None) (Err y) h = absurd h
expressions_mention (Err x) (Ok (Some f)) h = absurd h
expressions_mention (Err x) (Ok None) h = absurd h

trees_mention : (t : Tree) (new old : Globals) →
    expression_mentions (expression_value (reading_with t new)) ≡ expression_mentions (expression_value (reading_with t old))
trees_mention t new old = expressions_mention (reading_with t new) (reading_with t old) (values_change_no_form t new old)

as_expression : (globals : Globals) (r : Reading) →
    value_mentions globals (expression_value r) ≡ expression_mentions (expression_value r)
as_expression globals (Ok (Some e)) = refl
as_expression globals (Ok None) = refl
as_expression globals (Err x) = refl

function_mentions : (row : RowData) (f : Option (Option Function)) (new old : Globals) →
    value_mentions new (function_value row f) ≡ value_mentions old (function_value row f)
function_mentions row (Some (Some f)) new old = trees_mention (function_expression row f) new old
function_mentions row (Some None) new old = refl
function_mentions row None new old = refl

text_mentions : (t : Tree) (new old : Globals) → value_mentions new (text_value t) ≡ value_mentions old (text_value t)
text_mentions (text s) new old = trees_mention (token_expression s) new old
text_mentions null new old = refl
text_mentions (boolean b) new old = refl
text_mentions (number n) new old = refl
text_mentions (list ts) new old = refl
text_mentions (object fs) new old = refl

literal_mentions : (d : Option Data) (new old : Globals) → value_mentions new (literal_value d) ≡ value_mentions old (literal_value d)
literal_mentions (Some d) new old = refl
literal_mentions None new old = refl

formed_mentions : (form : Form) (row : RowData) (t : Tree) (new old : Globals) →
    value_mentions new (formed_value form row new t) ≡ value_mentions old (formed_value form row old t)
formed_mentions forms.Expression row t new old =
    as_expression new (reading_with t new) ∙ trees_mention t new old ∙ sym (as_expression old (reading_with t old))
formed_mentions forms.Function row t new old = function_mentions row (functions.form row t) new old
formed_mentions forms.TokenText row t new old = text_mentions t new old
formed_mentions forms.Literal row t new old = literal_mentions (literal_of t row) new old

-- a value is listed with each feature, or with the layer
pub listed_alike : (row : RowData) (t : Tree) (new old : Globals) →
    (property_of row new t).is_per_feature ≡ (property_of row old t).is_per_feature
listed_alike row t new old = ap reads_feature (formed_mentions (form_of row t) row t new old)

-- ---- the properties of a layer

abbrev count_if : Bool → ℕ → ℕ
count_if b n = if b then suc n else n

counted_first : (p : Property) (ps : List Property) →
    length (feature_properties (p ∷ ps)) ≡ count_if p.is_per_feature (length (feature_properties ps))
counted_first p ps = by p.is_per_feature
  where
    by : (b : Bool) → length (if b then p ∷ feature_properties ps else feature_properties ps) ≡ count_if b (length (feature_properties ps))
    by true = refl
    by false = refl

counted_if : (row : RowData) (t : Option Tree) (new old : Globals) (ps qs : List Property) →
    length (feature_properties ps) ≡ length (feature_properties qs) →
    length (feature_properties (property_if row new t ++ ps)) ≡ length (feature_properties (property_if row old t ++ qs))
counted_if row None new old ps qs h = h
counted_if row (Some t) new old ps qs h =
    counted_first (property_of row new t) ps
    ∙ (λ i. count_if (listed_alike row t new old i) (h i))
    ∙ sym (counted_first (property_of row old t) qs)

counted_set : (row : RowData) (hidden : Bool) (t : Option Tree) (new old : Globals) (ps qs : List Property) →
    length (feature_properties ps) ≡ length (feature_properties qs) →
    length (feature_properties ((if hidden then [] else property_if row new t) ++ ps))
    ≡ length (feature_properties ((if hidden then [] else property_if row old t) ++ qs))
counted_set row true t new old ps qs h = h
counted_set row false t new old ps qs h = counted_if row t new old ps qs h

counted_rows : (layer : Tree) (rows : List RowData) (new old : Globals) →
    length (feature_properties (flat_map (set_property new layer) rows))
    ≡ length (feature_properties (flat_map (set_property old layer) rows))
counted_rows layer [] new old = refl
counted_rows layer (row ∷ rows) new old =
    counted_set row (is_visibility row) (set_value layer row.place row.name) new old
    (flat_map (set_property new layer) rows) (flat_map (set_property old layer) rows) (counted_rows layer rows new old)

-- ---- layers

cells_of_type : (tiles : List SourceTile) (layer : Tree) (type : LayerType) (new old : Globals) →
    layer_cells tiles (typed_layer new layer type) ≡ layer_cells tiles (typed_layer old layer type)
cells_of_type tiles layer type new old =
    λ i. length (layer_features tiles (typed_layer new layer type)) * (1 + counted_rows layer (rows_of type) new old i)

cells_with : (tiles : List SourceTile) (layer : Tree) (type : Option LayerType) (new old : Globals) (ls ms : List StyleLayer) →
    cell_count tiles ls ≡ cell_count tiles ms →
    cell_count tiles (with_layer (option_map (typed_layer new layer) type) ls)
    ≡ cell_count tiles (with_layer (option_map (typed_layer old layer) type) ms)
cells_with tiles layer None new old ls ms h = h
cells_with tiles layer (Some type) new old ls ms h = λ i. cells_of_type tiles layer type new old i + h i

cells_in : (tiles : List SourceTile) (ts : Trees) (new old : Globals) →
    cell_count tiles (layers_in new ts) ≡ cell_count tiles (layers_in old ts)
cells_in tiles no_trees new old = refl
cells_in tiles (tree t ts) new old =
    cells_with tiles t (layer_type t) new old (layers_in new ts) (layers_in old ts) (cells_in tiles ts new old)

pub values_change_no_cell : (tiles : List SourceTile) (document : Tree) (new old : Globals) →
    cell_count tiles (style_layers new document) ≡ cell_count tiles (style_layers old document)
values_change_no_cell tiles document new old = cells_in tiles (layers_of document) new old
