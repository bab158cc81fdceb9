-- Two worlds that agree on what is mentioned are one to a value and to a filter.
use Rattle.std.proofs.Common.{◌≡◌, ◌∙◌, ℕ, List, [], refl, ap, sym, subst, Bool, true, false, Option, Some, None, Ok, Err}
use Rattle.std.specs.Prelude.{if◌then◌else◌}
use Rattle.decimal_json.specs.Tree.{Tree, null, boolean, number, text, list, object}
use Rattle.prop_values.specs.Data.{Data}
use Rattle.prop_values.specs.Data as values_of
use Rattle.prop_values.specs.declared.kinds.Want.TheVariants as wants
use Rattle.property_tables.specs.Defaults.{default_of}
use Rattle.property_tables.specs.Fitting.{fit}
use Rattle.property_tables.specs.Literals.{literal_of}
use Rattle.property_tables.specs.Rows.{RowData}
use Rattle.expr_syntax.specs.Mentioned.{mentions}
use Rattle.expr_syntax.specs.Reading.{Reading, reading_with}
use Rattle.expr_syntax.specs.Term.{Term}
use Rattle.eval_face.specs.Agreement.{AgreeOn, AgreeingWorldsGiveOneMeaning}
use Rattle.eval_face.specs.Meaning.{mean}
use Rattle.eval_face.specs.World.{World}
use Rattle.eval_face.specs.Resolved.{resolved, passes}
use Rattle.legacy_filters.specs.Form as filters
use Rattle.legacy_filters.specs.Meaning as legacy
use Rattle.legacy_filters.specs.Split.{is_legacy}
use Rattle.legacy_filters.specs.ToExpression.{expression}
use Rattle.legacy_functions.specs.Form as functions
use Rattle.legacy_functions.specs.Function.{Function}
use Rattle.legacy_functions.specs.Meaning.{value_of}
use Rattle.legacy_functions.specs.ToExpression.{function_expression}
use Rattle.legacy_functions.specs.Tokens.{token_text, token_expression}
use Rattle.legacy_laws.specs.LegacyFilterLaw.{ExpressionsMeanTheirFilters}
use Rattle.legacy_laws.specs.LegacyFunctionLaw.{IsTableRow, ExpressionsMeanTheirFunctions, TokenExpressionsMeanTheirTexts}
use Rattle.migrate_laws.specs.MigratedLaw.{filter_mentions}
use Rattle.value_forms.specs.Forms.{form_of}
use Rattle.value_forms.specs.declared.forms.Form.{Form}
use Rattle.value_forms.specs.declared.forms.Form.TheVariants as forms
use Rattle.style_layout.specs.Forms.{PropertyValue, expression_value, function_value, text_value, literal_value, formed_value, expression_mentions, value_mentions, outcome_by, feature_in, LayerFilter, condition_of, legacy_of, layer_filter, lets_pass}
use Rattle.style_laws.specs.MentionLaw.{ValuesGoByTheirMentions, FiltersGoByTheirMentions}

-- The laws of which it follows.
pub record MentionLaws : Type 0 where
  pub agreeing : AgreeingWorldsGiveOneMeaning
  pub functions_mean : ExpressionsMeanTheirFunctions
  pub texts_mean : TokenExpressionsMeanTheirTexts
  pub filters_mean : ExpressionsMeanTheirFilters

module _ (laws : MentionLaws) (globals : List (List ℕ × Data)) (v w : World) where
  -- worlds that agree on what the expression of a tree mentions
  read_agree : (t : Tree) (e : Term) → reading_with t globals ≡ Ok (Some e) →
      AgreeOn (expression_mentions (expression_value (reading_with t globals))) v w → AgreeOn (mentions e) v w
  read_agree t e reads agree = subst (λ r. AgreeOn (expression_mentions (expression_value r)) v w) reads agree

  -- ---- values

  module _ (row : RowData) (is_row : IsTableRow row) where
    abbrev GivesAlike : PropertyValue → Type 0
    GivesAlike value =
        AgreeOn (value_mentions globals value) v w →
        outcome_by value row (default_of row) v ≡ outcome_by value row (default_of row) w

    expression_alike : (r : Reading) → GivesAlike (expression_value r)
    expression_alike (Ok (Some e)) agree = ap (resolved (default_of row)) (laws.agreeing e row.want [] v w agree)
    expression_alike (Ok None) agree = refl
    expression_alike (Err x) agree = refl

    function_alike : (t : Tree) (f : Option (Option Function)) → functions.form row t ≡ f → GivesAlike (function_value row f)
    function_alike t (Some (Some f)) is agree =
        let (e, reads, means) = laws.functions_mean row t f is_row is in
        let same = laws.agreeing e row.want [] v w (read_agree (function_expression row f) e (reads globals) agree) in
        let of_v : mean e row.want [] v ≡ value_of row f v.zoom (feature_in v) = means v.zoom (feature_in v) v.state v.has_image v.is_supported in
        let of_w : mean e row.want [] w ≡ value_of row f w.zoom (feature_in w) = means w.zoom (feature_in w) w.state w.has_image w.is_supported in
        ap (resolved (default_of row)) (sym of_v ∙ (same ∙ of_w))
    function_alike t (Some None) is agree = refl
    function_alike t None is agree = refl

    text_alike : (t : Tree) → GivesAlike (text_value t)
    text_alike (text s) agree =
        let (e, reads, means) = laws.texts_mean s in
        let same = laws.agreeing e row.want [] v w (read_agree (token_expression s) e (reads globals) agree) in
        let of_v : mean e row.want [] v ≡ fit row.want (values_of.text (token_text s (feature_in v))) =
        means row.want v.zoom (feature_in v) v.state v.has_image v.is_supported in
        let of_w : mean e row.want [] w ≡ fit row.want (values_of.text (token_text s (feature_in w))) =
        means row.want w.zoom (feature_in w) w.state w.has_image w.is_supported in
        ap (resolved (default_of row)) (sym of_v ∙ (same ∙ of_w))
    text_alike null agree = refl
    text_alike (boolean b) agree = refl
    text_alike (number n) agree = refl
    text_alike (list ts) agree = refl
    text_alike (object fs) agree = refl

    literal_alike : (o : Option Data) → GivesAlike (literal_value o)
    literal_alike (Some d) agree = refl
    literal_alike None agree = refl

    value_alike : (t : Tree) (form : Form) → GivesAlike (formed_value form row globals t)
    value_alike t forms.Expression agree = expression_alike (reading_with t globals) agree
    value_alike t forms.Function agree = function_alike t (functions.form row t) refl agree
    value_alike t forms.TokenText agree = text_alike t agree
    value_alike t forms.Literal agree = literal_alike (literal_of t row) agree

  -- ---- filters

  abbrev PassAlike : LayerFilter → Type 0
  PassAlike filter = AgreeOn (filter_mentions globals filter) v w → lets_pass filter v ≡ lets_pass filter w

  condition_alike : (r : Reading) → PassAlike (condition_of r)
  condition_alike (Ok (Some e)) agree = ap passes (laws.agreeing e wants.Boolean [] v w agree)
  condition_alike (Ok None) agree = refl
  condition_alike (Err x) agree = refl

  legacy_alike : (t : Tree) (r : filters.FilterRead) → filters.reading t ≡ r → PassAlike (legacy_of r)
  legacy_alike t (Ok f) is agree =
      let (e, reads, says) = laws.filters_mean t f is in
      let same = laws.agreeing e wants.Boolean [] v w (read_agree (expression f) e (reads globals) agree) in
      let of_v : mean e wants.Boolean [] v ≡ Ok (values_of.boolean (legacy.passes f (feature_in v))) =
      says v.zoom (feature_in v) v.state v.has_image v.is_supported in
      let of_w : mean e wants.Boolean [] w ≡ Ok (values_of.boolean (legacy.passes f (feature_in w))) =
      says w.zoom (feature_in w) w.state w.has_image w.is_supported in
      ap passes (sym of_v ∙ (same ∙ of_w))
  legacy_alike t (Err fault) is agree = refl

  filter_by : (t : Tree) (b : Bool) → PassAlike (if b then legacy_of (filters.reading t) else condition_of (reading_with t globals))
  filter_by t true agree = legacy_alike t (filters.reading t) refl agree
  filter_by t false agree = condition_alike (reading_with t globals) agree

  filter_alike : (t : Option Tree) → PassAlike (layer_filter globals t)
  filter_alike (Some t) agree = filter_by t (is_legacy t) agree
  filter_alike None agree = refl

pub values_go_by_their_mentions : MentionLaws → ValuesGoByTheirMentions
values_go_by_their_mentions laws row globals t v w is_row agree = value_alike laws globals v w row is_row t (form_of row t) agree

pub filters_go_by_their_mentions : MentionLaws → FiltersGoByTheirMentions
filters_go_by_their_mentions laws globals t v w agree = filter_alike laws globals v w t agree
