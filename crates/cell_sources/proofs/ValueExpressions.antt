-- The expression of a value gives what is listed for the value.
use Rattle.std.proofs.Common.{◌≡◌, ℕ, List, refl, ap, sym, subst}
use Rattle.std.specs.Prelude.{Option, Some, None, option_map, Ok, Err}
use Rattle.decimal_json.specs.Tree as json
use Rattle.decimal_json.specs.Tree.{Tree}
use Rattle.prop_values.specs.Data.{Data}
use Rattle.property_tables.specs.Defaults.{default_of}
use Rattle.property_tables.specs.Rows.{RowData}
use Rattle.expr_syntax.specs.Reading.{Reading, reading_with}
use Rattle.expr_syntax.specs.ReadView.{uses_globals}
use Rattle.expr_syntax.specs.Term.{Term}
use Rattle.eval_face.specs.Resolved.{resolved}
use Rattle.legacy_functions.specs.Form as functions
use Rattle.legacy_functions.specs.Function.{Function}
use Rattle.legacy_functions.specs.ToExpression.{function_expression}
use Rattle.legacy_functions.specs.Tokens.{token_expression}
use Rattle.value_forms.specs.Forms.{form_of}
use Rattle.value_forms.specs.declared.forms.Form.{Form}
use Rattle.value_forms.specs.declared.forms.Form.TheVariants as forms
use Rattle.legacy_laws.specs.LegacyFunctionLaw.{IsTableRow, ReadsAlways, ExpressionsMeanTheirFunctions, TokenExpressionsMeanTheirTexts}
use Rattle.style_layout.specs.Forms.{PropertyValue, legacy_function, token_text, literal_value, expression_value, function_value, formed_value, expression_mentions, feature_in, value_mentions, valued_property}
use Rattle.asked_cells.specs.Expressions.{CellExpression, IsGivenBy}
use Rattle.cell_sources.specs.CellExpressions.{expression_of_value, formed_tree, function_tree, read_as_value, term_read, value_read}
use Rattle.cell_sources.specs.CellLaws.{ExpressionsGiveValues, mentions_of}

module _ (row : RowData) (globals : List (List ℕ × Data)) where
  abbrev read_from : Tree → Reading → Option CellExpression
  read_from t r = option_map (expression_of_value row (uses_globals t)) (term_read r)

  -- a value is given by an expression, which mentions what the value does
  abbrev IsOf : PropertyValue → Option CellExpression → Type 0
  IsOf value o = IsGivenBy (valued_property row globals value) o × (value_mentions globals value ≡ mentions_of o)

  expression_given : (t : Tree) (r : Reading) → IsOf (expression_value r) (read_from t r)
  expression_given t (Ok (Some e)) = ((refl, λ world. refl), refl)
  expression_given t (Ok None) = (refl, refl)
  expression_given t (Err fault) = (refl, refl)

  literal_given : (found : Option Data) → IsOf (literal_value found) None
  literal_given (Some d) = (refl, refl)
  literal_given None = (refl, refl)

  -- a value whose expression reads as this term
  by_term : (value : PropertyValue) (t : Tree) (e : Term) → ReadsAlways t e
      → IsOf value (Some (expression_of_value row (uses_globals t) e)) → IsOf value (value_read row globals t)
  by_term value t e reads given =
      subst (λ r. IsOf value (read_from t r)) (sym (reads globals)) given

  function_given : ExpressionsMeanTheirFunctions → IsTableRow row → (t : Tree) (found : Option (Option Function)) → functions.form row t ≡ found
      → IsOf (function_value row found) (read_as_value row globals (function_tree row found))
  function_given means table t (Some (Some f)) is =
      let (e, reads, gives) = means row t f table is in
      by_term (legacy_function row f) (function_expression row f) e reads (
        (refl, λ world. ap (resolved (default_of row)) (sym (gives world.zoom (feature_in world) world.state world.has_image world.is_supported))),
        ap (λ r. expression_mentions (expression_value r)) (reads globals),
      )
  function_given means table t (Some None) is = (refl, refl)
  function_given means table t None is = (refl, refl)

  text_given : TokenExpressionsMeanTheirTexts → (s : List ℕ)
      → IsOf (token_text s) (value_read row globals (token_expression s))
  text_given means s =
      let (e, reads, gives) = means s in
      by_term (token_text s) (token_expression s) e reads (
        (refl, λ world. ap (resolved (default_of row)) (sym (gives row.want world.zoom (feature_in world) world.state world.has_image world.is_supported))),
        ap (λ r. expression_mentions (expression_value r)) (reads globals),
      )

  tokens_given : TokenExpressionsMeanTheirTexts → (t : Tree)
      → IsOf (formed_value forms.TokenText row globals t) (read_as_value row globals (formed_tree forms.TokenText row t))
  tokens_given means json.null = (refl, refl)
  tokens_given means (json.boolean b) = (refl, refl)
  tokens_given means (json.number n) = (refl, refl)
  tokens_given means (json.text s) = text_given means s
  tokens_given means (json.list ts) = (refl, refl)
  tokens_given means (json.object fs) = (refl, refl)

  formed_given : ExpressionsMeanTheirFunctions → TokenExpressionsMeanTheirTexts → IsTableRow row → (t : Tree) (form : Form)
      → IsOf (formed_value form row globals t) (read_as_value row globals (formed_tree form row t))
  formed_given functions_mean texts_mean table t forms.Expression = expression_given t (reading_with t globals)
  formed_given functions_mean texts_mean table t forms.Function = function_given functions_mean table t (functions.form row t) refl
  formed_given functions_mean texts_mean table t forms.TokenText = tokens_given texts_mean t
  formed_given functions_mean texts_mean table t forms.Literal = literal_given _

pub values_given : ExpressionsMeanTheirFunctions → TokenExpressionsMeanTheirTexts → ExpressionsGiveValues
values_given functions_mean texts_mean row globals t table = formed_given row globals functions_mean texts_mean table t (form_of row t)
