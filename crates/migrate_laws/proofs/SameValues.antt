-- A migrated value says the same as the value.
use Rattle.std.proofs.Common.{◌≡◌, ◌≢◌, ◌∙◌, ℕ, ℤ, List, [], refl, ap, sym, subst, true, false, inl, inr}
use Rattle.std.specs.Prelude.{Bool, Option, Some, None, Result, Ok, Err, if◌then◌else◌}
use Rattle.fixed_num.specs.Decimal.{read_text}
use Rattle.fixed_num.specs.declared.decimal.NumFault.{NumFault}
use Rattle.decimal_json.specs.Tree as json
use Rattle.decimal_json.specs.Tree.{Tree}
use Rattle.prop_values.specs.Data as values_of
use Rattle.prop_values.specs.Data.{Data}
use Rattle.prop_values.specs.JsonData.{then_data}
use Rattle.prop_values.specs.declared.fault.EvalFault.{EvalFault}
use Rattle.property_tables.specs.Defaults.{fitted, default_of}
use Rattle.property_tables.specs.Fitting.{fit}
use Rattle.property_tables.specs.Literals.{literal_data, literal_read, literal_of}
use Rattle.property_tables.specs.Rows.{RowData}
use Rattle.expr_syntax.specs.Reading.{number_read, inside, reading_with}
use Rattle.expr_syntax.specs.Term.{Term, literal}
use Rattle.eval_face.specs.Meaning.{mean}
use Rattle.eval_face.specs.Resolved.{resolved}
use Rattle.legacy_functions.specs.Form as functions
use Rattle.legacy_functions.specs.Function.{Function}
use Rattle.legacy_functions.specs.Meaning as meanings
use Rattle.legacy_functions.specs.ToExpression.{function_expression}
use Rattle.legacy_functions.specs.Tokens.{token_expression}
use Rattle.value_forms.specs.Forms.{takes_literals_alone, is_expression, is_function, is_token_text, form_of}
use Rattle.value_forms.specs.declared.forms.Form.{Form}
use Rattle.legacy_laws.specs.LegacyFunctionLaw.{IsTableRow, GivesAlways, ReadsAlways}
use Rattle.legacy_laws.specs.LegacyFunctionLaw.{ExpressionsMeanTheirFunctions, TokenExpressionsMeanTheirTexts}
use Rattle.value_forms.specs.declared.forms.Form.TheVariants as forms
use Rattle.style_migrate.specs.Migrated.{function_or, tokens_or, value_by_form}
use Rattle.style_layout.specs.Forms as layout
use Rattle.style_layout.specs.Forms.{PropertyValue, legacy_function, token_text, property_value}
use Rattle.style_layout.specs.Forms.{literal_value, expression_value, function_value, formed_value}
use Rattle.style_layout.specs.Forms.{expression_mentions, value_mentions, valued_property, feature_in}
use Rattle.migrate_laws.specs.MigratedLaw.{HasTheSameOutcome, HasTheSameValue, MigratedValuesAreTheSame}
use Rattle.migrate_laws.proofs.FunctionForms.{is_scalar, IsMigratedForm, function_forms}
use Rattle.migrate_laws.proofs.StayingValues.{form_by, call_form, bare_form}

-- ---- a bare literal reads as itself

data_fits : (e : Data) (b : Bool) (r : Result Data EvalFault) → (if b then fitted r else None) ≡ Some e → r ≡ Ok e
data_fits e true (Ok x) h = cc
data_fits e true (Err fault) h = absurd (cc)
data_fits e false r h = absurd (cc)

-- a tree reads as a literal, whose value is that of the tree as a literal of a row
record IsReadAsItself (row : RowData) (t : Tree) (given : Data) : Type 0 where
  data_of : Data
  reads : (globals : List (List ℕ × Data)) → reading_with t globals ≡ Ok (Some (literal data_of))
  fits : fit row.want data_of ≡ Ok given

literal_fits : (row : RowData) (d given : Data) → literal_data row d ≡ Some given → fit row.want d ≡ Ok given
literal_fits row d given h = data_fits given _ (fit row.want d) h

number_reads : (row : RowData) (n : List ℕ) (given : Data) (r : Result ℤ NumFault) → read_text n ≡ r
    → literal_read row (then_data r (λ z. Ok (values_of.number z))) ≡ Some given
    → IsReadAsItself row (json.number n) given
number_reads row n given (Ok z) is h = record {
  data_of = values_of.number z;
  reads = λ globals. ap (λ r. inside (number_read r [])) is;
  fits = literal_fits row (values_of.number z) given h;
}
number_reads row n given (Err past) is h = absurd (cc)

scalar_reads : (row : RowData) (t : Tree) (given : Data) → is_scalar t ≡ true → literal_of t row ≡ Some given
    → IsReadAsItself row t given
scalar_reads row json.null given s h = record {
  data_of = values_of.null;
  reads = λ globals. refl;
  fits = literal_fits row values_of.null given h;
}
scalar_reads row (json.boolean b) given s h = record {
  data_of = values_of.boolean b;
  reads = λ globals. refl;
  fits = literal_fits row (values_of.boolean b) given h;
}
scalar_reads row (json.number n) given s h = number_reads row n given (read_text n) refl h
scalar_reads row (json.text s) given sc h = record {
  data_of = values_of.text s;
  reads = λ globals. refl;
  fits = literal_fits row (values_of.text s) given h;
}
scalar_reads row (json.list ts) given s h = absurd (cc)
scalar_reads row (json.object fs) given s h = absurd (cc)

-- ---- two values of a row

module _ (row : RowData) (globals : List (List ℕ × Data)) where
  record ValuesSayTheSame (new old : PropertyValue) : Type 0 where
    outcome : HasTheSameOutcome (valued_property row globals new) (valued_property row globals old)
    mentions : value_mentions globals new ≡ value_mentions globals old

  of_values : (new old : Tree) (s r : PropertyValue) → property_value row globals new ≡ s → property_value row globals old ≡ r
      → ValuesSayTheSame s r → HasTheSameValue row globals new old
  of_values new old s r is was same =
      let first = subst (λ x. ValuesSayTheSame x r) (sym is) same in
      let both = subst (λ y. ValuesSayTheSame (property_value row globals new) y) (sym was) first in
      record { outcome = both.outcome; mentions = both.mentions }

  of_itself : (t : Tree) → HasTheSameValue row globals t t
  of_itself t = record { outcome = λ world. refl; mentions = refl }

  -- ---- token texts

  -- only a row that takes more than literals has values of another form
  takes_more : (a b c d : Bool) (form : Form) → form_by a b c d ≡ form → form ≢ forms.Literal → a ≡ false
  takes_more true b c d form is other = absurd (other (sym is))
  takes_more false b c d form is other = refl

  more_than_literals : (t : Tree) (form : Form) → form_of row t ≡ form → form ≢ forms.Literal
      → takes_literals_alone row ≡ false
  more_than_literals t form is other =
      takes_more (takes_literals_alone row) (is_expression t) (is_function t) (is_token_text row t) form is other

  call_value : (e : Tree) → takes_literals_alone row ≡ false → is_expression e ≡ true
      → property_value row globals e ≡ expression_value (reading_with e globals)
  call_value e more is = ap (λ f. formed_value f row globals e) (call_form row e more is)

  value_from : (t : Tree) (form : Form) → form_of row t ≡ form
      → property_value row globals t ≡ formed_value form row globals t
  value_from t form is = ap (λ f. formed_value f row globals t) is

  text_same : TokenExpressionsMeanTheirTexts → (s : List ℕ) → form_of row (json.text s) ≡ forms.TokenText
      → HasTheSameValue row globals (token_expression s) (json.text s)
  text_same means s is =
      let (e, reads, gives) = means s in
      let more = more_than_literals (json.text s) forms.TokenText is (λ same. absurd (cc)) in
      let new = call_value (token_expression s) more refl ∙ ap expression_value (reads globals) in
      let old = value_from (json.text s) forms.TokenText is in
      of_values (token_expression s) (json.text s) (layout.expression e) (token_text s) new old
      (record {
        outcome = λ world.
            ap (resolved (default_of row))
            (gives row.want world.zoom (feature_in world) world.state world.has_image world.is_supported);
        mentions = ap (λ r. expression_mentions (expression_value r)) (sym (reads globals));
      })

  tokens_same : TokenExpressionsMeanTheirTexts → (t : Tree) → form_of row t ≡ forms.TokenText
      → HasTheSameValue row globals (tokens_or t) t
  tokens_same means json.null is = of_itself json.null
  tokens_same means (json.boolean b) is = of_itself (json.boolean b)
  tokens_same means (json.number n) is = of_itself (json.number n)
  tokens_same means (json.text s) is = text_same means s is
  tokens_same means (json.list ts) is = of_itself (json.list ts)
  tokens_same means (json.object fs) is = of_itself (json.object fs)

  -- ---- functions

  module _ (f : Function) (e : Term) where
    abbrev Gives : Type 0
    Gives = GivesAlways e row.want (meanings.value_of row f)

    -- the expression is a call
    call_same : ReadsAlways (function_expression row f) e → Gives
        → ValuesSayTheSame (layout.expression e) (legacy_function row f)
    call_same reads gives = record {
      outcome = λ world.
          ap (resolved (default_of row))
          (gives world.zoom (feature_in world) world.state world.has_image world.is_supported);
      mentions = ap (λ r. expression_mentions (expression_value r)) (sym (reads globals));
    }

    -- the expression is a bare literal, with this value
    literal_same : (given : Data) → IsReadAsItself row (function_expression row f) given
        → ReadsAlways (function_expression row f) e → Gives
        → ValuesSayTheSame (layout.literal given) (legacy_function row f)
    literal_same given itself reads gives =
        let one : Ok (Some (literal itself.data_of)) ≡ Ok (Some e) = sym (itself.reads globals) ∙ reads globals in
        let same : literal itself.data_of ≡ e = cc in
        let fits : fit row.want itself.data_of ≡ Ok given = itself.fits in
        record {
          outcome = λ world.
              let says = gives world.zoom (feature_in world) world.state world.has_image world.is_supported in
              ap (resolved (default_of row)) (sym fits ∙ ap (λ x. mean x row.want [] world) same ∙ says);
          mentions = ap (λ r. expression_mentions (expression_value r)) (sym (itself.reads globals));
        }

  function_same : ExpressionsMeanTheirFunctions → IsTableRow row → (t : Tree) (f : Function)
      → form_of row t ≡ forms.Function → functions.form row t ≡ Some (Some f)
      → IsMigratedForm row (function_expression row f) → HasTheSameValue row globals (function_expression row f) t
  function_same means of_table t f is read (inl call) =
      let (e, reads, gives) = means row t f of_table read in
      let new = function_expression row f in
      let more = more_than_literals t forms.Function is (λ same. absurd (cc)) in
      let old = value_from t forms.Function is ∙ ap (function_value row) read in
      let own = call_value new more call ∙ ap expression_value (reads globals) in
      of_values new t (layout.expression e) (legacy_function row f) own old
      (call_same f e reads gives)
  function_same means of_table t f is read (inr literal_form) =
      let (e, reads, gives) = means row t f of_table read in
      let new = function_expression row f in
      let (given, spelled) = literal_form.value in
      let old = value_from t forms.Function is ∙ ap (function_value row) read in
      let own = value_from new forms.Literal (bare_form row new literal_form) ∙ ap literal_value spelled in
      of_values new t (layout.literal given) (legacy_function row f) own old
      (literal_same f e given (scalar_reads row new given literal_form.scalar spelled) reads gives)

  functions_same : ExpressionsMeanTheirFunctions → IsTableRow row → (t : Tree) (found : Option (Option Function))
      → form_of row t ≡ forms.Function → functions.form row t ≡ found
      → HasTheSameValue row globals (function_or row t found) t
  functions_same means of_table t (Some (Some f)) is read =
      function_same means of_table t f is read (function_forms row t f of_table read)
  functions_same means of_table t (Some None) is read = of_itself t
  functions_same means of_table t None is read = of_itself t

  -- ---- by the form

  formed_same : ExpressionsMeanTheirFunctions → TokenExpressionsMeanTheirTexts → IsTableRow row
      → (t : Tree) (form : Form) → form_of row t ≡ form → HasTheSameValue row globals (value_by_form form row t) t
  formed_same means texts of_table t forms.Expression is = of_itself t
  formed_same means texts of_table t forms.Function is =
      functions_same means of_table t (functions.form row t) is refl
  formed_same means texts of_table t forms.TokenText is = tokens_same texts t is
  formed_same means texts of_table t forms.Literal is = of_itself t

pub values_are_the_same : ExpressionsMeanTheirFunctions → TokenExpressionsMeanTheirTexts
    → MigratedValuesAreTheSame
values_are_the_same means texts row globals t of_table =
    formed_same row globals means texts of_table t (form_of row t) refl
