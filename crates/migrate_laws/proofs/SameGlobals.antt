-- What was migrated reads the global state where it did.
use Rattle.std.proofs.Common.{◌≡◌, ◌∙◌, refl, ap, sym, true, false}
use Rattle.std.specs.Prelude.{Bool, Option, Some, None, Ok, Err, if◌then◌else◌}
use Rattle.decimal_json.specs.Accessors.{is_object}
use Rattle.decimal_json.specs.Tree.{Tree, null, boolean, number, text, list, object}
use Rattle.property_tables.specs.Rows.{RowData}
use Rattle.expr_syntax.specs.ReadView.{uses_globals}
use Rattle.legacy_filters.specs.Form.{FilterRead, reading}
use Rattle.legacy_filters.specs.Laws.{NoExpressionIsLegacy}
use Rattle.legacy_filters.specs.Migrated.{expression_or_itself}
use Rattle.legacy_filters.specs.Split.{is_legacy}
use Rattle.legacy_filters.specs.ToExpression.{expression}
use Rattle.legacy_functions.specs.Form as functions
use Rattle.legacy_functions.specs.Function.{Function}
use Rattle.legacy_functions.specs.ToExpression.{function_expression}
use Rattle.legacy_functions.specs.Tokens.{token_expression}
use Rattle.legacy_laws.specs.LegacyFilterLaw.{ExpressionsMeanTheirFilters}
use Rattle.legacy_laws.specs.LegacyFunctionLaw.{IsTableRow, ExpressionsMeanTheirFunctions, TokenExpressionsMeanTheirTexts}
use Rattle.reading_laws.specs.GlobalUse.{FixedExpressionsUseNoGlobals}
use Rattle.style_migrate.specs.Migrated.{function_or, tokens_or, value_by_form}
use Rattle.value_forms.specs.Forms.{form_of, takes_literals_alone, is_expression, is_function, is_token_text}
use Rattle.value_forms.specs.declared.forms.Form.{Form}
use Rattle.value_forms.specs.declared.forms.Form.TheVariants as forms
use Rattle.migrate_laws.specs.GlobalUses.{filter_uses_globals, MigratedValuesUseTheSameGlobals, MigratedFiltersUseTheSameGlobals}

object_by : (a b c d : Bool) → (if a then forms.Literal else if b then forms.Expression else if c then forms.Function else if d then forms.TokenText else forms.Literal) ≡ forms.Function → c ≡ true
object_by true b c d h = absurd (cc)
object_by false true c d h = absurd (cc)
object_by false false true d h = refl
object_by false false false true h = absurd (cc)
object_by false false false false h = absurd (cc)

-- an object is no expression
objects_use_none : (t : Tree) → is_object t ≡ true → uses_globals t ≡ false
objects_use_none (object fs) h = refl
objects_use_none null h = absurd (cc)
objects_use_none (boolean b) h = absurd (cc)
objects_use_none (number n) h = absurd (cc)
objects_use_none (text s) h = absurd (cc)
objects_use_none (list ts) h = absurd (cc)

module _ (fixed : FixedExpressionsUseNoGlobals) (functions_mean : ExpressionsMeanTheirFunctions) (texts_mean : TokenExpressionsMeanTheirTexts) where
  function_same : (row : RowData) (t : Tree) → IsTableRow row → form_of row t ≡ forms.Function → (f : Option (Option Function)) → functions.form row t ≡ f →
      uses_globals (function_or row t f) ≡ uses_globals t
  function_same row t is_row form (Some (Some f)) read =
      let (e, always, means) = functions_mean row t f is_row read in
      let is_one = object_by (takes_literals_alone row) (is_expression t) (is_function t) (is_token_text row t) form in
      fixed (function_expression row f) e always ∙ sym (objects_use_none t is_one)
  function_same row t is_row form (Some None) read = refl
  function_same row t is_row form None read = refl

  tokens_same : (t : Tree) → uses_globals (tokens_or t) ≡ uses_globals t
  tokens_same (text s) = let (e, always, means) = texts_mean s in fixed (token_expression s) e always
  tokens_same null = refl
  tokens_same (boolean b) = refl
  tokens_same (number n) = refl
  tokens_same (list ts) = refl
  tokens_same (object fs) = refl

  value_same : (row : RowData) (t : Tree) → IsTableRow row → (form : Form) → form_of row t ≡ form → uses_globals (value_by_form form row t) ≡ uses_globals t
  value_same row t is_row forms.Function is = function_same row t is_row is (functions.form row t) refl
  value_same row t is_row forms.TokenText is = tokens_same t
  value_same row t is_row forms.Expression is = refl
  value_same row t is_row forms.Literal is = refl

pub values_use_the_same : FixedExpressionsUseNoGlobals → ExpressionsMeanTheirFunctions → TokenExpressionsMeanTheirTexts → MigratedValuesUseTheSameGlobals
values_use_the_same fixed functions_mean texts_mean row t is_row = value_same fixed functions_mean texts_mean row t is_row (form_of row t) refl

filter_same : FixedExpressionsUseNoGlobals → ExpressionsMeanTheirFilters → NoExpressionIsLegacy → (t : Tree) (b : Bool) (r : FilterRead) → is_legacy t ≡ b → reading t ≡ r →
    filter_uses_globals (if b then expression_or_itself r t else t) ≡ filter_uses_globals t
filter_same fixed means none t false r legacy read = refl
filter_same fixed means none t true (Ok f) legacy read =
    let (e, always, says) = means t f read in
    ap (λ b. if b then false else uses_globals (expression f)) (none t f read)
    ∙ (fixed (expression f) e always ∙ sym (ap (λ b. if b then false else uses_globals t) legacy))
filter_same fixed means none t true (Err fault) legacy read = refl

pub filters_use_the_same : FixedExpressionsUseNoGlobals → ExpressionsMeanTheirFilters → NoExpressionIsLegacy → MigratedFiltersUseTheSameGlobals
filters_use_the_same fixed means none t = filter_same fixed means none t (is_legacy t) (reading t) refl refl
