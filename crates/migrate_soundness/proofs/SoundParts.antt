-- A migrated value, and a migrated filter, breaks no rule where the value or the filter broke none.
use Rattle.std.proofs.Common.{◌≡◌, ◌≢◌, ◌∙◌, ℕ, List, [], ◌∷◌, ◌++◌}
use Rattle.std.proofs.Common.{refl, ap, sym, subst, true, false, inl, inr}
use Rattle.std.proofs.lemmas.Bool.{and_parts}
use Rattle.std.specs.Prelude.{Bool, not, ◌&&◌, ◌||◌, if◌then◌else◌}
use Rattle.std.specs.Prelude.{Option, Some, None, is_some, is_none, Ok, Err}
use Rattle.decimal_json.specs.Tree as json
use Rattle.decimal_json.specs.Tree.{Tree}
use Rattle.decimal_json.specs.declared.paths.PathPart.{PathPart}
use Rattle.prop_values.specs.Data.{Data}
use Rattle.prop_values.specs.declared.kinds.Want.{Want}
use Rattle.prop_values.specs.declared.kinds.Want.TheVariants as wants
use Rattle.property_tables.specs.Literals.{literal_of}
use Rattle.property_tables.specs.Rows.{RowData}
use Rattle.expr_syntax.specs.Reading.{reading}
use Rattle.expr_syntax.specs.Term.{Term}
use Rattle.expr_types.specs.Checked.{checked}
use Rattle.expr_types.specs.Typing.{TypedNodes}
use Rattle.legacy_filters.specs.Filter.{Filter}
use Rattle.legacy_filters.specs.Form as filters
use Rattle.legacy_filters.specs.Laws.{NoExpressionIsLegacy}
use Rattle.legacy_filters.specs.Migrated.{expression_or_itself, migrated_filter}
use Rattle.legacy_filters.specs.Split.{is_legacy}
use Rattle.legacy_filters.specs.ToExpression.{expression}
use Rattle.legacy_functions.specs.Form as functions
use Rattle.legacy_functions.specs.Function.{Function, has_zooms}
use Rattle.legacy_functions.specs.ToExpression.{function_expression}
use Rattle.legacy_functions.specs.Tokens.{has_tokens, token_expression}
use Rattle.value_forms.specs.Forms.{takes_literals_alone, is_expression, is_function, is_token_text, form_of}
use Rattle.value_forms.specs.declared.forms.Form.{Form}
use Rattle.legacy_laws.specs.LegacyFilterLaw.{ExpressionsMeanTheirFilters, MigratedFiltersAreTyped}
use Rattle.legacy_laws.specs.LegacyFunctionLaw.{IsTableRow, IsAllowedOn}
use Rattle.legacy_laws.specs.LegacyFunctionLaw.{ExpressionsMeanTheirFunctions, TokenExpressionsMeanTheirTexts}
use Rattle.legacy_laws.specs.LegacyFunctionLaw.{MigratedFunctionsAreTyped, MigratedTokenTextsAreTyped}
use Rattle.style_rules.specs.Findings.{reports_or, findings_in}
use Rattle.style_rules.specs.Values.{literal_mark, typed_mark, read_mark, expression_mark}
use Rattle.style_rules.specs.Values.{function_reads, function_mark, form_mark, value_mark}
use Rattle.style_rules.specs.Values.{legacy_mark, filter_mark}
use Rattle.value_forms.specs.declared.forms.Form.TheVariants as forms
use Rattle.style_migrate.specs.Migrated.{function_or, tokens_or, value_by_form, migrated_value}
use Rattle.migrate_laws.proofs.FunctionForms.{IsBareLiteral, IsMigratedForm, function_forms}
use Rattle.migrate_laws.proofs.StayingValues.{form_by, call_form, bare_form}
use Rattle.migrate_soundness.proofs.ReportedAlike.{Mark, IsSound, IsMarkedAlike, marked_same, sound_alike}

pub sound_from : (old new : Mark) → new ≡ old → IsSound old → IsSound new
sound_from old new same sound = subst IsSound (sym same) sound

-- ---- expressions

-- an expression that reads and is typed
pub read_is_sound : (want : Want) (row : Option RowData) (e : Tree) (term : Term) (found : TypedNodes)
    → reading e ≡ Ok (Some term) → checked term want row ≡ Ok found → IsSound (expression_mark want row e)
read_is_sound want row e term found read typed =
    sound_from (typed_mark (Ok found)) (expression_mark want row e)
    (ap (read_mark want row) read ∙ ap typed_mark typed) (λ path. (refl, refl))

-- ---- values

-- only a row that takes more than literals has values of another form
takes_more : (a b c d : Bool) (form : Form) → form_by a b c d ≡ form → form ≢ forms.Literal → a ≡ false
takes_more true b c d form is other = absurd (other (sym is))
takes_more false b c d form is other = refl

-- a text of the form of a token text is on a row that takes these
takes_token_texts : (literals takes has : Bool) → form_by literals false false (takes && has) ≡ forms.TokenText
    → takes ≡ true
takes_token_texts true takes has is = absurd (cc)
takes_token_texts false true has is = refl
takes_token_texts false false has is = absurd (cc)

either_holds : (reads asks : Bool) → (reads || not asks) ≡ true → asks ≡ true → reads ≡ true
either_holds true asks h k = refl
either_holds false true h k = absurd (cc)
either_holds false false h k = absurd (cc)

none_or_allowed : {A : Type 0} (reads : Bool) (o : Option A) → (reads || is_none o) ≡ true → is_some o ≡ true
    → reads ≡ true
none_or_allowed true o h k = refl
none_or_allowed false (Some a) h k = absurd (cc)
none_or_allowed false None h k = absurd (cc)

allowed : (row : RowData) (f : Function) → function_reads row f ≡ true → IsAllowedOn row f
allowed row f reads =
    let (zoom, feature) =
    and_parts (row.reads.zoom || not (has_zooms f)) (row.reads.feature || is_none f.property) reads in
    record {
      zoom = either_holds row.reads.zoom (has_zooms f) zoom;
      feature = none_or_allowed row.reads.feature f.property feature;
    }

module _ (row : RowData) where
  pub marked_from : (t : Tree) (form : Form) → form_of row t ≡ form → value_mark row t ≡ form_mark form row t
  marked_from t form is = ap (λ f. form_mark f row t) is

  more_than_literals : (t : Tree) (form : Form) → form_of row t ≡ form → form ≢ forms.Literal
      → takes_literals_alone row ≡ false
  more_than_literals t form is other =
      takes_more (takes_literals_alone row) (is_expression t) (is_function t) (is_token_text row t) form is
      other

  pub call_is_sound : (e : Tree) (term : Term) (found : TypedNodes) → takes_literals_alone row ≡ false
      → is_expression e ≡ true → reading e ≡ Ok (Some term) → checked term row.want (Some row) ≡ Ok found
      → IsSound (value_mark row e)
  call_is_sound e term found more call read typed =
      sound_from (expression_mark row.want (Some row) e) (value_mark row e)
      (marked_from e forms.Expression (call_form row e more call))
      (read_is_sound row.want (Some row) e term found read typed)

  pub literal_is_sound : (e : Tree) (given : Data) → literal_of e row ≡ Some given → IsSound (literal_mark row e)
  literal_is_sound e given spelled = λ path. (rw spelled refl, rw spelled refl)

  bare_is_sound : (e : Tree) → IsBareLiteral row e → IsSound (value_mark row e)
  bare_is_sound e bare =
      let (given, spelled) = bare.value in
      sound_from (literal_mark row e) (value_mark row e) (marked_from e forms.Literal (bare_form row e bare))
      (literal_is_sound e given spelled)

  module _ (of_table : IsTableRow row) (means : ExpressionsMeanTheirFunctions)
      (typed : MigratedFunctionsAreTyped) where
    function_is_sound : (t : Tree) (f : Function) → form_of row t ≡ forms.Function
        → functions.form row t ≡ Some (Some f) → function_reads row f ≡ true
        → IsMigratedForm row (function_expression row f) → IsSound (value_mark row (function_expression row f))
    function_is_sound t f is read may_read (inl call) =
        let (e, reads, gives) = means row t f of_table read in
        let (found, fits) = typed row t f of_table read (allowed row f may_read) e [] (reads []) in
        let more = more_than_literals t forms.Function is (λ same. absurd (cc)) in
        call_is_sound (function_expression row f) e found more call (reads []) fits
    function_is_sound t f is read may_read (inr bare) = bare_is_sound (function_expression row f) bare

    breaks_reading : (f : Function) (path : List PathPart) → function_reads row f ≡ false
        → findings_in (reports_or (function_mark row (Some (Some f))) path []) ≡ (path ++ [], 17) ∷ []
    breaks_reading f path is = rw is refl

    reads_soundly : (f : Function) → function_reads row f ≡ true → IsSound (function_mark row (Some (Some f)))
    reads_soundly f is = λ path. (rw is refl, rw is refl)

    reading_alike : (t : Tree) (f : Function) → form_of row t ≡ forms.Function
        → functions.form row t ≡ Some (Some f) → (b : Bool) → function_reads row f ≡ b
        → IsMarkedAlike (function_mark row (Some (Some f))) (value_mark row (function_expression row f))
    reading_alike t f is read true may_read =
        sound_alike (function_mark row (Some (Some f))) (value_mark row (function_expression row f))
        (reads_soundly f may_read)
        (function_is_sound t f is read may_read (function_forms row t f of_table read))
    reading_alike t f is read false may_read = λ path none.
        let broken = sym (breaks_reading f path may_read) ∙ none in absurd (cc)

    function_alike : (t : Tree) (found : Option (Option Function)) → form_of row t ≡ forms.Function
        → functions.form row t ≡ found
        → IsMarkedAlike (function_mark row found) (value_mark row (function_or row t found))
    function_alike t (Some (Some f)) is read = reading_alike t f is read (function_reads row f) refl
    function_alike t (Some None) is read =
        marked_same (function_mark row (Some None)) (value_mark row t)
        (marked_from t forms.Function is ∙ ap (function_mark row) read)
    function_alike t None is read = λ path none. absurd (cc)

  module _ (of_table : IsTableRow row) (means : TokenExpressionsMeanTheirTexts)
      (typed : MigratedTokenTextsAreTyped) where
    text_is_sound : (s : List ℕ) → form_of row (json.text s) ≡ forms.TokenText
        → IsSound (value_mark row (token_expression s))
    text_is_sound s is =
        let (e, reads, gives) = means s in
        let takes =
        takes_token_texts (takes_literals_alone row) row.takes_tokens (has_tokens s) is in
        let (found, fits) = typed row s of_table takes e [] (reads []) in
        let more = more_than_literals (json.text s) forms.TokenText is (λ same. absurd (cc)) in
        call_is_sound (token_expression s) e found more refl (reads []) fits

    kept_is_sound : (t : Tree) → form_of row t ≡ forms.TokenText → IsSound (value_mark row t)
    kept_is_sound t is =
        sound_from (form_mark forms.TokenText row t) (value_mark row t) (marked_from t forms.TokenText is)
        (λ path. (refl, refl))

    tokens_are_sound : (t : Tree) → form_of row t ≡ forms.TokenText → IsSound (value_mark row (tokens_or t))
    tokens_are_sound json.null is = kept_is_sound json.null is
    tokens_are_sound (json.boolean b) is = kept_is_sound (json.boolean b) is
    tokens_are_sound (json.number n) is = kept_is_sound (json.number n) is
    tokens_are_sound (json.text s) is = text_is_sound s is
    tokens_are_sound (json.list ts) is = kept_is_sound (json.list ts) is
    tokens_are_sound (json.object fs) is = kept_is_sound (json.object fs) is

-- What the laws of legacy forms say of expressions.
pub record HaveSoundExpressions : Type 0 where
  pub functions_mean : ExpressionsMeanTheirFunctions
  pub functions_typed : MigratedFunctionsAreTyped
  pub texts_mean : TokenExpressionsMeanTheirTexts
  pub texts_typed : MigratedTokenTextsAreTyped
  pub filters_mean : ExpressionsMeanTheirFilters
  pub filters_typed : MigratedFiltersAreTyped
  pub filters_apart : NoExpressionIsLegacy

module _ (laws : HaveSoundExpressions) where
  formed_alike : (row : RowData) → IsTableRow row → (t : Tree) (form : Form) → form_of row t ≡ form
      → IsMarkedAlike (form_mark form row t) (value_mark row (value_by_form form row t))
  formed_alike row of_table t forms.Expression is =
      marked_same (form_mark forms.Expression row t) (value_mark row t) (marked_from row t forms.Expression is)
  formed_alike row of_table t forms.Function is =
      function_alike row of_table laws.functions_mean laws.functions_typed t
      (functions.form row t) is refl
  formed_alike row of_table t forms.TokenText is =
      sound_alike (form_mark forms.TokenText row t) (value_mark row (tokens_or t)) (λ path. (refl, refl))
      (tokens_are_sound row of_table laws.texts_mean laws.texts_typed t is)
  formed_alike row of_table t forms.Literal is =
      marked_same (form_mark forms.Literal row t) (value_mark row t) (marked_from row t forms.Literal is)

  -- a value of a row of the table
  pub value_alike : (row : RowData) → IsTableRow row → (t : Tree)
      → IsMarkedAlike (value_mark row t) (value_mark row (migrated_value row t))
  value_alike row of_table t = formed_alike row of_table t (form_of row t) refl

  -- ---- filters

  filter_is_sound : (t : Tree) (f : Filter) → filters.reading t ≡ Ok f → IsSound (filter_mark (expression f))
  filter_is_sound t f read =
      let (e, reads, says) = laws.filters_mean t f read in
      let (found, fits, kind, may) = laws.filters_typed t f read e [] (reads []) in
      let new = expression f in
      let is =
      ap (λ b. if b then legacy_mark (filters.reading new) else expression_mark wants.Boolean None new)
      (laws.filters_apart t f read) in
      sound_from (expression_mark wants.Boolean None new) (filter_mark new) is
      (read_is_sound wants.Boolean None new e found (reads []) fits)

  read_alike : (t : Tree) (r : filters.FilterRead) → filters.reading t ≡ r
      → IsMarkedAlike (legacy_mark r) (filter_mark (expression_or_itself r t))
  read_alike t (Ok f) read =
      sound_alike (legacy_mark (Ok f)) (filter_mark (expression f)) (λ path. (refl, refl))
      (filter_is_sound t f read)
  read_alike t (Err fault) read = λ path none. absurd (cc)

  split_alike : (t : Tree) (b : Bool) → is_legacy t ≡ b
      → IsMarkedAlike (if b then legacy_mark (filters.reading t) else expression_mark wants.Boolean None t)
      (filter_mark (if b then expression_or_itself (filters.reading t) t else t))
  split_alike t true is = read_alike t (filters.reading t) refl
  split_alike t false is =
      marked_same (expression_mark wants.Boolean None t) (filter_mark t)
      (ap (λ b. if b then legacy_mark (filters.reading t) else expression_mark wants.Boolean None t) is)

  -- each filter
  pub filter_alike : (t : Tree) → IsMarkedAlike (filter_mark t) (filter_mark (migrated_filter t))
  filter_alike t = split_alike t (is_legacy t) refl
