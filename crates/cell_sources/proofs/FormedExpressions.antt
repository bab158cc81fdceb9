-- What is said of the expression of a legacy form, of which none is read: it is the form's, and mentions what the form does.
use Rattle.std.proofs.Common.{◌≡◌, ℕ, List, [], Bool, false, refl, ap, sym, subst, ◌∙◌}
use Rattle.std.specs.Prelude.{Ok, Some, option_map, unwrap_or}
use Rattle.prop_values.specs.Data.{Data, null}
use Rattle.prop_values.specs.declared.kinds.Want.{Want}
use Rattle.prop_values.specs.declared.kinds.Want.TheVariants as wants
use Rattle.property_tables.specs.Rows.{RowData}
use Rattle.expr_syntax.specs.Mentioned.{mentions, nothing}
use Rattle.expr_syntax.specs.ReadView.{uses_globals}
use Rattle.expr_syntax.specs.Term.{Term, literal}
use Rattle.legacy_filters.specs.AskedParts.{asks_feature}
use Rattle.legacy_filters.specs.ToExpression.{expression}
use Rattle.legacy_filters.specs.View.{filter_of}
use Rattle.legacy_filters.specs.declared.filter.LegacyFilter.{LegacyFilter}
use Rattle.legacy_functions.specs.ToExpression.{function_expression}
use Rattle.legacy_functions.specs.Tokens.{has_tokens, token_expression}
use Rattle.legacy_functions.specs.View.{function_of, row_of}
use Rattle.legacy_functions.specs.declared.function.Function.{Function as FunctionValue}
use Rattle.legacy_laws.specs.LegacyFilterLaw.{ExpressionsMeanTheirFilters, MigratedFiltersMentionTheFeature, MigratedFiltersUseNoGlobals}
use Rattle.legacy_laws.specs.LegacyFunctionLaw.{ExpressionsMeanTheirFunctions, MigratedFunctionsMentionTheSame, MigratedFunctionsUseNoGlobals, function_mentions}
use Rattle.legacy_laws.specs.LegacyFunctionLaw.{MigratedTokenTextsMentionTheFeature, MigratedTokenTextsUseNoGlobals, ReadsAlways, TokenExpressionsMeanTheirTexts}
use Rattle.form_pool.specs.LegacyForms.{IsReadForm, form_tree}
use Rattle.form_pool.specs.declared.legacy_form.LegacyForm.{LegacyForm}
use Rattle.form_pool.specs.declared.legacy_form.LegacyForm.TheVariants.{Filter, Function, Tokens}
use Rattle.asked_cells.specs.Expressions.{CellExpression, is_paint}
use Rattle.cell_sources.specs.CellExpressions.{expression_of_filter, expression_of_value, filter_read, term_read, value_read}
use Rattle.cell_sources.specs.Views.{IsFormAs, legacy_term}

abbrev formed_with : Want → LegacyForm → Bool → Bool → CellExpression
formed_with want form paint globals = record { term = legacy_term form; want = want; paint = paint; globals = globals }

module _ (form : LegacyForm) (e : Term) (reads : ReadsAlways (form_tree form) e) where
  term_same : legacy_term form ≡ e
  term_same = ap (λ r. unwrap_or (term_read r) (literal null)) (reads [])

  form_as : (want : Want) → IsFormAs form e want → IsFormAs form (legacy_term form) want
  form_as want is = record {
    read = is.read;
    wanted = is.wanted;
    reads = subst (ReadsAlways (form_tree form)) (sym term_same) reads;
  }

  -- as a value of a row, and as a filter
  module _ (free : uses_globals (form_tree form) ≡ false) where
    seen_as_value : (row : RowData) (paint : Bool) → paint ≡ is_paint row.place → (globals : List (List ℕ × Data))
        → Some (formed_with row.want form paint false) ≡ value_read row globals (form_tree form)
    seen_as_value row paint placed globals =
        let t = form_tree form in
        ap (λ p. Some (formed_with row.want form p false)) placed
        ∙ ap (λ b. Some (formed_with row.want form (is_paint row.place) b)) (sym free)
        ∙ ap (λ x. Some (expression_of_value row (uses_globals t) x)) term_same
        ∙ sym (ap (λ r. option_map (expression_of_value row (uses_globals t)) (term_read r)) (reads globals))

    seen_as_filter : (globals : List (List ℕ × Data)) → Some (formed_with wants.Boolean form false false) ≡ filter_read globals (form_tree form)
    seen_as_filter globals =
        let t = form_tree form in
        ap (λ b. Some (formed_with wants.Boolean form false b)) (sym free)
        ∙ ap (λ x. Some (expression_of_filter (uses_globals t) x)) term_same
        ∙ sym (ap (λ r. option_map (expression_of_filter (uses_globals t)) (term_read r)) (reads globals))

-- ---- a text with tokens

module _ (means : TokenExpressionsMeanTheirTexts) (s : List ℕ) where
  pub tokens_seen : MigratedTokenTextsUseNoGlobals → (row : RowData) (form : LegacyForm) → form ≡ Tokens s row.want
      → (paint : Bool) → paint ≡ is_paint row.place → (globals : List (List ℕ × Data))
      → Some (record { term = legacy_term form; want = row.want; paint = paint; globals = false }) ≡ value_read row globals (token_expression s)
  tokens_seen free row form is paint placed globals =
      let (e, reads, gives) = means s in
      ap (λ f. Some (formed_with row.want f paint false)) is
      ∙ seen_as_value (Tokens s row.want) e reads (free s) row paint placed globals

  pub tokens_mention : MigratedTokenTextsMentionTheFeature → (want : Want) (form : LegacyForm) → form ≡ Tokens s want
      → record nothing { feature = has_tokens s } ≡ mentions (legacy_term form)
  tokens_mention mention want form is =
      let (e, reads, gives) = means s in
      sym (ap (λ f. mentions (legacy_term f)) is ∙ ap mentions (term_same (Tokens s want) e reads) ∙ mention s e [] (reads []))

  pub tokens_formed : (want : Want) (form : LegacyForm) → form ≡ Tokens s want → IsFormAs form (legacy_term form) want
  tokens_formed want form is =
      let (e, reads, gives) = means s in
      subst (λ f. IsFormAs f (legacy_term f) want) (sym is)
      (form_as (Tokens s want) e reads want (record { read = tt; wanted = refl; reads = reads }))

-- ---- a function

module _ (means : ExpressionsMeanTheirFunctions) (f : FunctionValue) (read : IsReadForm (Function f)) where
  pub function_seen : MigratedFunctionsUseNoGlobals → (row : RowData) → row_of f ≡ row
      → (paint : Bool) → paint ≡ is_paint row.place → (globals : List (List ℕ × Data))
      → Some (record { term = legacy_term (Function f); want = row.want; paint = paint; globals = false })
      ≡ value_read row globals (function_expression row (function_of f))
  function_seen free row of paint placed globals =
      let (table, given) = read in
      let (e, reads, gives) = means (row_of f) given.0 (function_of f) table given.1 in
      seen_as_value (Function f) e reads (free (row_of f) given.0 (function_of f) table given.1) row paint placed globals
      ∙ ap (λ r. value_read row globals (function_expression r (function_of f))) of

  pub function_mention : MigratedFunctionsMentionTheSame
      → function_mentions (row_of f) (function_of f) ≡ mentions (legacy_term (Function f))
  function_mention mention =
      let (table, given) = read in
      let (e, reads, gives) = means (row_of f) given.0 (function_of f) table given.1 in
      sym (ap mentions (term_same (Function f) e reads) ∙ mention (row_of f) given.0 (function_of f) table given.1 e [] (reads []))

  pub function_formed : (row : RowData) → row_of f ≡ row → IsFormAs (Function f) (legacy_term (Function f)) row.want
  function_formed row of =
      let (table, given) = read in
      let (e, reads, gives) = means (row_of f) given.0 (function_of f) table given.1 in
      form_as (Function f) e reads row.want
      (record { read = read; wanted = ap (λ (r : RowData). r.want) of; reads = reads })

-- ---- a filter

module _ (means : ExpressionsMeanTheirFilters) (f : LegacyFilter) (read : IsReadForm (Filter f)) where
  pub filter_seen : MigratedFiltersUseNoGlobals → (globals : List (List ℕ × Data))
      → Some (record { term = legacy_term (Filter f); want = wants.Boolean; paint = false; globals = false })
      ≡ filter_read globals (expression (filter_of f))
  filter_seen free globals =
      let (t, found) = read in
      let (e, reads, says) = means t (filter_of f) found in
      seen_as_filter (Filter f) e reads (free t (filter_of f) found) globals

  pub filter_mention : MigratedFiltersMentionTheFeature → record nothing { feature = asks_feature (filter_of f) } ≡ mentions (legacy_term (Filter f))
  filter_mention mention =
      let (t, found) = read in
      let (e, reads, says) = means t (filter_of f) found in
      sym (ap mentions (term_same (Filter f) e reads) ∙ mention t (filter_of f) found e [] (reads []))

  pub filter_formed : IsFormAs (Filter f) (legacy_term (Filter f)) wants.Boolean
  filter_formed =
      let (t, found) = read in
      let (e, reads, says) = means t (filter_of f) found in
      form_as (Filter f) e reads wants.Boolean (record { read = read; wanted = refl; reads = reads })
