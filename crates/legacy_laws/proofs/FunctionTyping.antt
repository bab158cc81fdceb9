-- The types of the terms of legacy functions: no node has a type fault.
use Rattle.std.proofs.Common.{◌≡◌, ◌∙◌, ℕ, ◌+◌, ◌<◌, ◌%◌, List, [], ◌∷◌, length, refl, ap, subst, arith, true, false}
use Rattle.std.proofs.lemmas.Bool.{ne_eqb, eq-eqb}
use Rattle.std.specs.Prelude.{Bool, not, ◌||◌, codes, Option, Some, None, unwrap_or, Ok, if◌then◌else◌}
use Rattle.decimal_json.specs.Tree as json
use Rattle.decimal_json.specs.declared.paths.PathPart.{PathPart}
use Rattle.prop_values.specs.Data.{Data, null}
use Rattle.prop_values.specs.JsonData.{json_data}
use Rattle.prop_values.specs.declared.kinds.Kind.TheVariants as kinds
use Rattle.prop_values.specs.declared.kinds.Want.{Want}
use Rattle.prop_values.specs.declared.kinds.Want.TheVariants as wants
use Rattle.property_tables.specs.Defaults.{written_default}
use Rattle.property_tables.specs.Literals.{literal_of}
use Rattle.property_tables.specs.Rows.{RowData}
use Rattle.expr_syntax.specs.declared.expression.Operator.TheVariants as operators
use Rattle.expr_syntax.specs.declared.rows.Wanted.TheVariants.{Own, OfNode}
use Rattle.expr_syntax.specs.Operators.{want_of}
use Rattle.expr_syntax.specs.Rows.{is_last, is_even}
use Rattle.expr_syntax.specs.Term.{Term, literal, node, terms_of}
use Rattle.expr_types.specs.ArgumentPaths.{argument_path}
use Rattle.expr_types.specs.Fits.{fits}
use Rattle.expr_types.specs.Typing.{KindScope, looked_at, argument_want, and_found}
use Rattle.expr_types.specs.Typing.{founds_of, typed, typings}
use Rattle.expr_types.specs.Typing.{literals}
use Rattle.legacy_functions.specs.Function.{Spelled, Input, Output, literal as literal_output}
use Rattle.legacy_functions.specs.Function.{tokens, Way, PropertyRule, numeric, categorical, Body}
use Rattle.legacy_functions.specs.Function.{plain, zoomed, identity}
use Rattle.legacy_functions.specs.Meaning.{zoom_way}
use Rattle.legacy_functions.specs.ToExpression.{form_name}
use Rattle.legacy_functions.proofs.SoundRules.{OfSome, HasSome, IsOutputOf, AreStops, AreNumberStops, IsRuleOf, AreRulesOf, IsBodyOf}
use Rattle.legacy_laws.proofs.FilterTerms.{two_terms}
use Rattle.legacy_laws.proofs.FunctionValues.{literal_fits}
use Rattle.legacy_laws.proofs.FunctionTerms.{data_or_null, output_term}
use Rattle.legacy_laws.proofs.FunctionTerms.{default_term}
use Rattle.legacy_laws.proofs.FunctionTerms.{way_term, stop_terms, case_term, input_data}
use Rattle.legacy_laws.proofs.FunctionTerms.{category_terms, rule_term, zoom_term, rule_terms, identity_term}
use Rattle.legacy_laws.proofs.FunctionTerms.{named_term, plain_term, body_term}
use Rattle.legacy_laws.proofs.TableRows.{IsRegular, DefaultFits, may_go, zooms_may_go}
use Rattle.legacy_laws.proofs.LiteralTyping.{IsOk, IsTypedUnder, MayFit, or_true}
use Rattle.legacy_laws.proofs.LiteralTyping.{literal_typed, null_typed, any_typed}
use Rattle.legacy_laws.proofs.NodeTyping.{AreTypedUnder, Founds, argument_is_ok, case_is_ok, case_typed}
use Rattle.legacy_laws.proofs.NodeTyping.{coalesce_is_ok, equal_typed, property_typed, text_may_fit, tokens_typed}
use Rattle.legacy_laws.proofs.NodeTyping.{wanted_is_ok, way_typed, zoom_typed}

-- ---- of a row

module _ (row : RowData) (regular : IsRegular row) where
  output_typed : (o : Output) → IsOutputOf row o → IsTypedUnder row.want (output_term o)
  output_typed (literal_output t d) h =
      literal_typed row.want (data_or_null (json_data t)) d regular.want (literal_fits row t d h.0)
  output_typed (tokens s) h = tokens_typed row.want s (token_may_fit s h.1.0 h.1.1)
    where
      token_may_fit : (s : List ℕ) (d : Data) → literal_of (json.text s) row ≡ Some d → MayFit (fits kinds.Text row.want)
      token_may_fit s d h = text_may_fit row.want s d (literal_fits row (json.text s) d h)

  default_typed : (o : Option Output) → OfSome (IsOutputOf row) o → IsTypedUnder row.want (default_term o row)
  default_typed (Some o) h = output_typed o h
  default_typed None h = written_typed (written_default row.fallback) regular.default
    where
      written_typed : (w : Option Data) → DefaultFits row.want w → IsTypedUnder row.want (literal (unwrap_or w null))
      written_typed (Some d) h = literal_typed row.want d h.0 regular.want h.1
      written_typed None h = null_typed row.want

  default_any_typed : (o : Option Output) → IsTypedUnder wants.Any (default_term o row)
  default_any_typed (Some (literal_output t d)) = any_typed (data_or_null (json_data t))
  default_any_typed (Some (tokens s)) = tokens_typed wants.Any s tt
  default_any_typed None = any_typed (unwrap_or (written_default row.fallback) null)

  stops_typed : (ss : List (Spelled × Output)) → AreNumberStops row ss → AreTypedUnder row.want (stop_terms ss)
  stops_typed [] h = tt
  stops_typed (s ∷ ss) h = (output_typed s.1 h.0.1, stops_typed ss h.1)

  stops_some : (ss : List (Spelled × Output)) → HasSome ss → HasSome (stop_terms ss)
  stops_some [] h = h
  stops_some (s ∷ ss) h = tt

  pub numeric_typed : (way : Way) (ss : List (Spelled × Output)) (x : Term) → IsTypedUnder wants.Number x
      → IsRuleOf row (numeric way ss) → IsTypedUnder row.want (way_term way x (stop_terms ss))
  numeric_typed way ss x h is =
      way_typed row.want way x (stop_terms ss) (may_go row regular way is.0) h (stops_typed ss is.1.0) (stops_some ss is.1.1.0)

  module _ (property : Option (List ℕ)) (o : Option Output) (fallback : OfSome (IsOutputOf row) o) where
    abbrev default : Term
    default = default_term o row

    -- conditions at even places, and outputs after them and at the end
    abbrev case_want : Bool → Bool → Want
    case_want last even_place = want_of (if last || not even_place then OfNode else Own wants.Boolean) row.want

    condition_want : (m k : ℕ) → k % 2 ≡ 0 → k + 1 < m → argument_want operators.Case m k row.want ≡ wants.Boolean
    condition_want m k h before =
        let not_last : is_last m k ≡ false = ne_eqb (k + 1) m (λ p. omega (arith, p, before)) in
        let even_place : is_even k ≡ true = eq-eqb (k % 2) 0 h in
        λ j. case_want (not_last j) (even_place j)

    output_want : (m k : ℕ) → k % 2 ≡ 1 → argument_want operators.Case m k row.want ≡ row.want
    output_want m k h =
        let odd_place : is_even k ≡ false = ne_eqb (k % 2) 0 (λ p. omega (arith, p, h)) in
        (λ j. case_want (is_last m k) (odd_place j))
        ∙ ap (λ b. want_of (if b then OfNode else Own wants.Boolean) row.want) (or_true (is_last m k))

    last_want : (m k : ℕ) → k + 1 ≡ m → argument_want operators.Case m k row.want ≡ row.want
    last_want m k h =
        let last : is_last m k ≡ true = eq-eqb (k + 1) m h in
        λ j. case_want (last j) (is_even k)

    abbrev all_terms : List (Input × Output) → List Term
    all_terms ss = category_terms (named_term property) default ss

    module _ (scope : KindScope) (path : List PathPart) where
      abbrev founds_from : ℕ → ℕ → List Term → Founds
      founds_from m k xs = founds_of operators.Case m k (typings (terms_of xs)) row.want scope path

      categories_are_ok : (ss : List (Input × Output)) → AreStops row ss → (m k : ℕ) → k % 2 ≡ 0
          → k + (length ss + length ss + 1) ≡ m
          → IsOk (founds_from m k (all_terms ss))
      categories_are_ok [] h m k e count =
          wanted_is_ok row.want scope path operators.Case m k default row.want (Ok []) (last_want m k (omega (arith, count))) refl
          (default_typed o fallback) tt
      categories_are_ok (s ∷ ss) h m k e count =
          let rest = founds_from m (k + 1 + 1) (all_terms ss) in
          let others = founds_from m (k + 1) (output_term s.1 ∷ all_terms ss) in
          let condition = two_terms operators.Equal (named_term property) (literal (input_data s.0)) in
          wanted_is_ok row.want scope path operators.Case m k condition wants.Boolean others
          (condition_want m k e (omega (arith, count))) refl (equal_typed property s.0)
          (wanted_is_ok row.want scope path operators.Case m (k + 1) (output_term s.1) row.want rest
          (output_want m (k + 1) (omega (arith, e))) refl (output_typed s.1 h.0.1)
          (categories_are_ok ss h.1 m (k + 1 + 1) (omega (arith, e)) (omega (arith, count))))

    category_count : (ss : List (Input × Output))
        → 0 + (length ss + length ss + 1) ≡ length (typings (terms_of (category_terms (named_term property) default ss)))
    category_count [] = refl
    category_count (s ∷ ss) = let n = category_count ss in omega (arith, n)

    pub rule_typed : (rule : PropertyRule) → IsRuleOf row rule → IsTypedUnder row.want (rule_term (named_term property) default rule)
    rule_typed (numeric way ss) is =
        case_typed property (codes "number") row.want (way_term way (named_term property) (stop_terms ss)) default
        (numeric_typed way ss (named_term property) (property_typed property wants.Number) is) (default_typed o fallback)
    rule_typed (categorical ss) is = λ scope path.
        let ts = terms_of (category_terms (named_term property) default ss) in
        let m = length (typings ts) in
        case_is_ok (literals ts) (founds_of operators.Case m 0 (typings ts) row.want scope path) row.want path
        (categories_are_ok scope path ss is.0 m 0 refl (category_count ss))

    pub rules_typed : (rs : List (Spelled × PropertyRule)) → AreRulesOf row rs
        → AreTypedUnder row.want (rule_terms (named_term property) default rs)
    rules_typed [] is = tt
    rules_typed (r ∷ rs) is = (rule_typed r.1 is.0.1, rules_typed rs is.1)

    pub rules_some : (rs : List (Spelled × PropertyRule)) → HasSome rs → HasSome (rule_terms (named_term property) default rs)
    rules_some [] h = h
    rules_some (r ∷ rs) h = tt

    form_typed : (want : Want) → IsTypedUnder row.want (case_term (form_name want) (named_term property) (named_term property) default)
    form_typed want =
        case_typed property (form_name want) row.want (named_term property) default (property_typed property row.want)
        (default_typed o fallback)

    coalesced_typed : IsTypedUnder wants.Shown (node operators.Coalesce (terms_of (named_term property ∷ default ∷ [])))
    coalesced_typed scope path =
        let op = operators.Coalesce in
        let ts = terms_of (named_term property ∷ default ∷ []) in
        let at : ℕ → List PathPart = λ i. argument_path op 2 i path in
        let last : Founds = and_found (looked_at false (typed default wants.Any scope (at 1)) (at 1)) (Ok []) in
        let founds : Founds = and_found (looked_at false (typed (named_term property) wants.Any scope (at 0)) (at 0)) last in
        coalesce_is_ok (literals ts) founds path
        (argument_is_ok (typed (named_term property) wants.Any scope (at 0)) (at 0) last (property_typed property wants.Any scope (at 0))
        (argument_is_ok (typed default wants.Any scope (at 1)) (at 1) (Ok []) (default_any_typed o scope (at 1)) tt))

    pub identity_typed : (want : Want) → want ≡ row.want → IsTypedUnder row.want (identity_term want (named_term property) default)
    identity_typed wants.Shown same =
        subst (λ w. IsTypedUnder w (node operators.Coalesce (terms_of (named_term property ∷ default ∷ [])))) same coalesced_typed
    identity_typed wants.Any same = form_typed wants.Any
    identity_typed wants.Boolean same = form_typed wants.Boolean
    identity_typed wants.Number same = form_typed wants.Number
    identity_typed wants.Text same = form_typed wants.Text
    identity_typed wants.Color same = form_typed wants.Color
    identity_typed wants.Object same = form_typed wants.Object
    identity_typed wants.Image same = form_typed wants.Image
    identity_typed (wants.List i n) same = form_typed (wants.List i n)
    identity_typed (wants.Enum c) same = form_typed (wants.Enum c)
    identity_typed (wants.EnumList c) same = form_typed (wants.EnumList c)

  -- ---- by the form of the function

  plain_typed : (property : Option (List ℕ)) (o : Option Output) → OfSome (IsOutputOf row) o → (rule : PropertyRule)
      → IsRuleOf row rule → IsTypedUnder row.want (plain_term property (default_term o row) rule)
  plain_typed (Some name) o fallback rule is = rule_typed (Some name) o fallback rule is
  plain_typed None o fallback (numeric way ss) is = numeric_typed way ss zoom_term zoom_typed is
  plain_typed None o fallback (categorical ss) is = default_typed o fallback

  pub body_typed : (property : Option (List ℕ)) (o : Option Output) → OfSome (IsOutputOf row) o → (body : Body)
      → IsBodyOf row body → IsTypedUnder row.want (body_term row (default_term o row) property body)
  body_typed property o fallback (plain rule) is = plain_typed property o fallback rule is
  body_typed property o fallback (zoomed rs) is =
      way_typed row.want (zoom_way row) zoom_term (rule_terms (named_term property) (default_term o row) rs)
      (zooms_may_go row regular row.reads.ramps refl) zoom_typed (rules_typed property o fallback rs is.0)
      (rules_some property o fallback rs is.1.0)
  body_typed property o fallback identity is = identity_typed property o fallback row.want refl
