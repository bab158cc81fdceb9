-- What a legacy function and a text with tokens read of the feature, by the laws of their expressions.
use Rattle.std.proofs.Common.{◌≡◌, ◌∙◌, ℕ, List, refl, ap, subst, sym, true, false}
use Rattle.std.specs.Prelude.{Bool, ◌||◌, Option, Some, None, Ok, Err}
use Rattle.decimal_json.specs.Tree as json
use Rattle.decimal_json.specs.Tree.{Tree}
use Rattle.prop_values.specs.Data.{Data}
use Rattle.property_tables.specs.Literals.{literal_of}
use Rattle.property_tables.specs.Rows.{RowData}
use Rattle.expr_syntax.specs.Reading.{Reading, reading_with}
use Rattle.legacy_functions.specs.AskedParts.{asks_feature}
use Rattle.legacy_functions.specs.Form as functions
use Rattle.legacy_functions.specs.Function.{Function}
use Rattle.legacy_functions.specs.Tokens.{has_tokens}
use Rattle.legacy_laws.specs.LegacyFunctionLaw.{ExpressionsMeanTheirFunctions, IsTableRow, MigratedFunctionsMentionTheSame}
use Rattle.legacy_laws.specs.LegacyFunctionLaw.{MigratedTokenTextsMentionTheFeature, TokenExpressionsMeanTheirTexts}
use Rattle.value_forms.specs.Forms.{form_of}
use Rattle.value_forms.specs.declared.forms.Form.{Form}
use Rattle.value_forms.specs.declared.forms.Form.TheVariants as forms
use Rattle.style_layout.specs.Forms.{PropertyValue, expression_mentions, expression_value, formed_value, function_value, is_per_feature, legacy_function, literal_value, property_value, reads_feature, text_value, token_text}
use Rattle.style_layout.specs.ReadValues.{IsReadFunction, IsReadValue}

or_false : (b : Bool) → (b || false) ≡ b
or_false true = refl
or_false false = refl

pub tokens_read : TokenExpressionsMeanTheirTexts → MigratedTokenTextsMentionTheFeature → (s : List ℕ) (globals : List (List ℕ × Data))
    → is_per_feature globals (token_text s) ≡ has_tokens s
tokens_read means mention s globals =
    let (e, reads, gives) = means s in
    ap (λ r. reads_feature (expression_mentions (expression_value r))) (reads globals)
    ∙ ap reads_feature (mention s e globals (reads globals)) ∙ or_false (has_tokens s)

pub function_reads : ExpressionsMeanTheirFunctions → MigratedFunctionsMentionTheSame → (row : RowData) (f : Function) → IsReadFunction row f
    → (globals : List (List ℕ × Data)) → is_per_feature globals (legacy_function row f) ≡ asks_feature f
function_reads means mention row f (table, given) globals =
    let (e, reads, gives) = means row given.0 f table given.1 in
    ap (λ r. reads_feature (expression_mentions (expression_value r))) (reads globals)
    ∙ ap reads_feature (mention row given.0 f table given.1 e globals (reads globals)) ∙ or_false (asks_feature f)

-- ---- a value of a row of the table was read on it

module _ (row : RowData) (table : IsTableRow row) where
  expression_is_read : (r : Reading) → IsReadValue (expression_value r)
  expression_is_read (Ok (Some e)) = tt
  expression_is_read (Ok None) = tt
  expression_is_read (Err fault) = tt

  function_is_read : (t : Tree) (found : Option (Option Function)) → functions.form row t ≡ found → IsReadValue (function_value row found)
  function_is_read t (Some (Some f)) is = (table, (t, is))
  function_is_read t (Some None) is = tt
  function_is_read t None is = tt

  text_is_read : (t : Tree) → IsReadValue (text_value t)
  text_is_read json.null = tt
  text_is_read (json.boolean b) = tt
  text_is_read (json.number n) = tt
  text_is_read (json.text s) = tt
  text_is_read (json.list ts) = tt
  text_is_read (json.object fs) = tt

  literal_is_read : (o : Option Data) → IsReadValue (literal_value o)
  literal_is_read (Some d) = tt
  literal_is_read None = tt

  formed_is_read : (form : Form) (globals : List (List ℕ × Data)) (t : Tree) → IsReadValue (formed_value form row globals t)
  formed_is_read forms.Expression globals t = expression_is_read (reading_with t globals)
  formed_is_read forms.Function globals t = function_is_read t (functions.form row t) refl
  formed_is_read forms.TokenText globals t = text_is_read t
  formed_is_read forms.Literal globals t = literal_is_read (literal_of t row)

pub value_is_read : (row : RowData) (globals : List (List ℕ × Data)) (t : Tree) (value : PropertyValue) → IsTableRow row
    → value ≡ property_value row globals t → IsReadValue value
value_is_read row globals t value table is = subst IsReadValue (sym is) (formed_is_read row table (form_of row t) globals t)
