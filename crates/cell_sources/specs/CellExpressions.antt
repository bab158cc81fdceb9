-- The expression that gives the value of an item of a layer, whatever form the value has. Source: own.
use Rattle.std.specs.Prelude.{ℕ, ◌<◌, List, length, codes, Bool, true, false, Option, Some, None, Ok, Err, option_map}
use Rattle.std.specs.Prelude.{if◌then◌else◌}
use Rattle.std.specs.List.{slice_get}
use Rattle.std.specs.Option.{option_and_then}
use Rattle.decimal_json.specs.Tree.{Tree, text}
use Rattle.decimal_json.specs.Tree as trees
use Rattle.decimal_json.specs.Accessors.{member}
use Rattle.prop_values.specs.Data.{Data}
use Rattle.prop_values.specs.declared.kinds.Want.TheVariants as wants
use Rattle.property_tables.specs.Rows.{RowData, rows_of}
use Rattle.property_tables.specs.declared.layer_type.LayerType.{LayerType}
use Rattle.expr_syntax.specs.Reading.{Reading, reading_with}
use Rattle.expr_syntax.specs.ReadView.{uses_globals}
use Rattle.expr_syntax.specs.Term.{Term}
use Rattle.legacy_filters.specs.Form as filters
use Rattle.legacy_filters.specs.Split.{is_legacy}
use Rattle.legacy_filters.specs.ToExpression.{expression}
use Rattle.legacy_functions.specs.Form as functions
use Rattle.legacy_functions.specs.Function.{Function}
use Rattle.legacy_functions.specs.ToExpression.{function_expression}
use Rattle.legacy_functions.specs.Tokens.{token_expression}
use Rattle.value_forms.specs.Forms.{form_of}
use Rattle.value_forms.specs.declared.forms.Form.{Form}
use Rattle.value_forms.specs.declared.forms.Form.TheVariants as forms
use Rattle.asked_cells.specs.Expressions.{CellExpression, LayerExpressions, is_paint}
use Rattle.layer_buckets.specs.declared.cell.CellItem.{CellItem}
use Rattle.layer_buckets.specs.declared.cell.CellItem.TheVariants as items
use Rattle.style_layout.specs.Layers.{has_features, is_visibility, set_value}

-- Of a document without findings an expression reads without a fault.
abbrev pub term_read : Reading → Option Term
term_read (Ok read) = read
term_read (Err fault) = None

-- The expression of a tree, by the values of the global state.
abbrev pub term_at : List (List ℕ × Data) → Tree → Option Term
term_at globals t = term_read (reading_with t globals)

-- ---- a value

-- the expression of a function
abbrev pub function_tree : RowData → Option (Option Function) → Option Tree
function_tree row (Some (Some f)) = Some (function_expression row f)
function_tree row (Some None) = None
function_tree row None = None

-- the expression of a text with tokens
abbrev pub tokens_tree : Tree → Option Tree
tokens_tree (text s) = Some (token_expression s)
tokens_tree _ = None

-- The expression by which a value is evaluated: a literal is none, and a legacy function and a text with tokens are
-- what they migrate to.
abbrev pub formed_tree : Form → RowData → Tree → Option Tree
formed_tree forms.Expression row t = Some t
formed_tree forms.Function row t = function_tree row (functions.form row t)
formed_tree forms.TokenText row t = tokens_tree t
formed_tree forms.Literal row t = None

abbrev pub value_tree : RowData → Tree → Option Tree
value_tree row t = formed_tree (form_of row t) row t

abbrev pub expression_of_value : RowData → Bool → Term → CellExpression
expression_of_value row globals e = record { term = e; want = row.want; paint = is_paint row.place; globals = globals }

-- what a tree gives that is the expression of a value
abbrev pub value_read : RowData → List (List ℕ × Data) → Tree → Option CellExpression
value_read row globals t = option_map (expression_of_value row (uses_globals t)) (term_at globals t)

abbrev pub read_as_value : RowData → List (List ℕ × Data) → Option Tree → Option CellExpression
read_as_value row globals (Some t) = value_read row globals t
read_as_value row globals None = None

-- What gives a value of a row.
abbrev pub value_expression : RowData → List (List ℕ × Data) → Tree → Option CellExpression
value_expression row globals t = read_as_value row globals (value_tree row t)

-- ---- a filter

abbrev pub is_truth : Tree → Bool
is_truth (trees.boolean b) = true
is_truth _ = false

abbrev pub legacy_tree : filters.FilterRead → Option Tree
legacy_tree (Ok f) = Some (expression f)
legacy_tree (Err fault) = None

-- The expression by which a filter is evaluated: a truth value is none, and a legacy filter is what it migrates to.
abbrev pub filter_tree : Tree → Option Tree
filter_tree t = if is_truth t then None else if is_legacy t then legacy_tree (filters.reading t) else Some t

abbrev pub expression_of_filter : Bool → Term → CellExpression
expression_of_filter globals e = record { term = e; want = wants.Boolean; paint = false; globals = globals }

abbrev pub filter_read : List (List ℕ × Data) → Tree → Option CellExpression
filter_read globals t = option_map (expression_of_filter (uses_globals t)) (term_at globals t)

abbrev pub read_as_filter : List (List ℕ × Data) → Option Tree → Option CellExpression
read_as_filter globals (Some t) = filter_read globals t
read_as_filter globals None = None

-- What gives whether a filter lets a feature pass.
abbrev pub filter_expression : List (List ℕ × Data) → Tree → Option CellExpression
filter_expression globals t = read_as_filter globals (filter_tree t)

-- ---- a layer

-- A layer of a type has a filter, and a property for each row of the type.
abbrev pub IsItemOf : LayerType → CellItem → Type 0
IsItemOf type items.Filter = Unit {0}
IsItemOf type (items.Property number) = number < length (rows_of type)

module _ (globals : List (List ℕ × Data)) (type : LayerType) (layer : Tree) where
  -- `visibility` says whether the layer is shown, and has no value of its own.
  abbrev pub row_expression : RowData → Option CellExpression
  row_expression row =
      if is_visibility row then None else
      option_and_then (value_expression row globals) (set_value layer row.place row.name)

  -- What gives the value of an item of a layer. A property that is not set and a literal need nothing, and neither does
  -- the filter of a type that shows no features.
  abbrev pub item_expression : LayerExpressions
  item_expression items.Filter =
      if has_features type then option_and_then (filter_expression globals) (member (codes "filter") layer) else None
  item_expression (items.Property number) = option_and_then row_expression (slice_get (rows_of type) number)
