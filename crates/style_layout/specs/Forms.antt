-- What the value of a property is, and what is listed for it; what a filter is, and which features pass.
use Rattle.std.specs.Prelude.{ℕ, ℤ, List, [], Bool, true, false, ◌||◌, Option, Some, None, Ok, Err, if◌then◌else◌}
use Rattle.decimal_json.specs.Tree.{Tree, text}
use Rattle.prop_values.specs.Data as values_of
use Rattle.prop_values.specs.Data.{Data}
use Rattle.prop_values.specs.View.{value_of}
use Rattle.prop_values.specs.declared.kinds.Want.TheVariants as wants
use Rattle.prop_values.specs.declared.outcome.Outcome.{Outcome}
use Rattle.prop_values.specs.declared.outcome.Outcome.TheVariants.{Given, Outside}
use Rattle.property_tables.specs.Defaults.{default_of}
use Rattle.property_tables.specs.Fitting.{fit}
use Rattle.property_tables.specs.Literals.{literal_of}
use Rattle.property_tables.specs.Rows.{RowData}
use Rattle.tile_reader.specs.declared.tile.Feature.{Feature}
use Rattle.expr_syntax.specs.Mentioned.{nothing, mentions}
use Rattle.expr_syntax.specs.Reading.{Reading, reading_with}
use Rattle.expr_syntax.specs.Term.{Term}
use Rattle.expr_syntax.specs.declared.world_parts.Mentions.{Mentions}
use Rattle.eval_face.specs.Meaning.{mean}
use Rattle.eval_face.specs.World.{World}
use Rattle.eval_face.specs.Resolved.{resolved, passes}
use Rattle.legacy_filters.specs.Filter.{Filter}
use Rattle.legacy_filters.specs.Form as filters
use Rattle.legacy_filters.specs.Meaning as legacy
use Rattle.legacy_filters.specs.Split.{is_legacy}
use Rattle.legacy_functions.specs.Form as functions
use Rattle.legacy_functions.specs.Function.{Function}
use Rattle.legacy_functions.specs.Meaning as meanings
use Rattle.legacy_functions.specs.ToExpression.{function_expression}
use Rattle.legacy_functions.specs.Tokens as tokens
use Rattle.value_forms.specs.Forms as values
use Rattle.value_forms.specs.declared.forms.Form.TheVariants as forms
use Rattle.value_forms.specs.declared.forms.Form.{Form}

-- What all layers of a layout see.
pub record Scene : Type 0 where
  -- in millionths
  pub zoom : ℤ
  -- the members of the state of a feature, by source, source layer and id
  pub states : List ℕ → List ℕ → ℕ → List (List ℕ × Data)
  -- the tests on texts
  pub has_image : List ℕ → Bool
  pub is_supported : List ℕ → Bool

-- ---- the value of a property

pub data PropertyValue : Type 0 where
  -- fitted to its row
  literal : Data → PropertyValue
  expression : Term → PropertyValue
  -- with the row that it was read for
  legacy_function : RowData → Function → PropertyValue
  token_text : List ℕ → PropertyValue
  -- it is not evaluated
  outside : PropertyValue

-- A document without findings has no literal, expression and function that are none.
abbrev pub literal_value : Option Data → PropertyValue
literal_value (Some d) = literal d
literal_value None = outside

abbrev pub expression_value : Reading → PropertyValue
expression_value (Ok (Some t)) = expression t
expression_value (Ok None) = outside
expression_value (Err fault) = outside

abbrev pub function_value : RowData → Option (Option Function) → PropertyValue
function_value row (Some (Some f)) = legacy_function row f
function_value row (Some None) = outside
function_value row None = outside

abbrev pub text_value : Tree → PropertyValue
text_value (text s) = token_text s
text_value _ = outside

abbrev pub formed_value : Form → RowData → List (List ℕ × Data) → Tree → PropertyValue
formed_value forms.Expression row globals t = expression_value (reading_with t globals)
formed_value forms.Function row globals t = function_value row (functions.form row t)
formed_value forms.TokenText row globals t = text_value t
formed_value forms.Literal row globals t = literal_value (literal_of t row)

-- What the value of a property of a row is, by the values of the global state.
abbrev pub property_value : RowData → List (List ℕ × Data) → Tree → PropertyValue
property_value row globals t = formed_value (values.form_of row t) row globals t

-- ---- what a value reads: a function and a token text read what their expressions read

abbrev pub expression_mentions : PropertyValue → Mentions
expression_mentions (expression t) = mentions t
expression_mentions _ = nothing

abbrev pub value_mentions : List (List ℕ × Data) → PropertyValue → Mentions
value_mentions globals (expression t) = mentions t
value_mentions globals (legacy_function row f) =
    expression_mentions (expression_value (reading_with (function_expression row f) globals))
value_mentions globals (token_text s) =
    expression_mentions (expression_value (reading_with (tokens.token_expression s) globals))
value_mentions globals _ = nothing

abbrev pub reads_feature : Mentions → Bool
reads_feature m = m.feature || m.state

-- A value is listed with each feature where it reads the feature or its state, and else with the layer.
abbrev pub is_per_feature : List (List ℕ × Data) → PropertyValue → Bool
is_per_feature globals value = reads_feature (value_mentions globals value)

-- ---- a property that is set

pub record Property : Type 0 where
  pub row : RowData
  pub value : PropertyValue
  -- what is listed for it after a fault
  pub fallback : Option Data
  pub is_per_feature : Bool

abbrev pub valued_property : RowData → List (List ℕ × Data) → PropertyValue → Property
valued_property row globals value = record {
  row = row;
  value = value;
  fallback = default_of row;
  is_per_feature = is_per_feature globals value;
}

abbrev pub property_of : RowData → List (List ℕ × Data) → Tree → Property
property_of row globals t = valued_property row globals (property_value row globals t)

-- the feature of a world
abbrev pub feature_in : World → Feature
feature_in world = record { id = world.id; shape = world.shape; properties = world.properties }

abbrev pub outcome_by : PropertyValue → RowData → Option Data → World → Outcome
outcome_by (literal d) row fallback world = Given (value_of d)
outcome_by (expression t) row fallback world = resolved fallback (mean t row.want [] world)
outcome_by (legacy_function r f) row fallback world =
    resolved fallback (meanings.value_of r f world.zoom (feature_in world))
outcome_by (token_text s) row fallback world =
    resolved fallback (fit row.want (values_of.text (tokens.token_text s (feature_in world))))
outcome_by outside row fallback world = Outside

-- What is listed for a property in a world: its value; after a fault its default; or that it is outside.
abbrev pub outcome_of : Property → World → Outcome
outcome_of p world = outcome_by p.value p.row p.fallback world

-- ---- the filter of a layer

pub data LayerFilter : Type 0 where
  -- there is none, and every feature passes
  every : LayerFilter
  condition : Term → LayerFilter
  legacy_filter : Filter → LayerFilter
  -- it is not evaluated
  outside_filter : LayerFilter

abbrev pub condition_of : Reading → LayerFilter
condition_of (Ok (Some t)) = condition t
condition_of (Ok None) = outside_filter
condition_of (Err fault) = outside_filter

abbrev pub legacy_of : filters.FilterRead → LayerFilter
legacy_of (Ok f) = legacy_filter f
legacy_of (Err fault) = outside_filter

abbrev pub layer_filter : List (List ℕ × Data) → Option Tree → LayerFilter
layer_filter globals (Some t) =
    if is_legacy t then legacy_of (filters.reading t) else condition_of (reading_with t globals)
layer_filter globals None = every

abbrev pub is_outside : LayerFilter → Bool
is_outside outside_filter = true
is_outside _ = false

-- Whether a filter lets the feature of a world pass. A fault of a filter is false.
abbrev pub lets_pass : LayerFilter → World → Bool
lets_pass every world = true
lets_pass (condition t) world = passes (mean t wants.Boolean [] world)
lets_pass (legacy_filter f) world = legacy.passes f (feature_in world)
lets_pass outside_filter world = false
