-- What the terms of legacy functions mean: from stop to stop, by a property, and then by the form of the
-- function.
use Rattle.std.proofs.Common.{◌≡◌, ◌∙◌, ℕ, ℤ, List, [], ◌∷◌, refl, ap, sym, subst, true, false}
use Rattle.std.specs.Prelude.{Bool, codes, Option, Some, None, option_map, unwrap_or, Ok, Err, if◌then◌else◌}
use Rattle.prop_values.specs.Data.{Data, null, boolean, number as number_data, text, color, list, map as map_of}
use Rattle.prop_values.specs.Equality.{same_text}
use Rattle.prop_values.specs.Forms.{kind_name}
use Rattle.prop_values.specs.JsonData.{json_data}
use Rattle.prop_values.specs.declared.kinds.Want.{Want}
use Rattle.prop_values.specs.declared.kinds.Want.TheVariants as wants
use Rattle.prop_values.specs.declared.outcome.Curve.{Curve}
use Rattle.interpolate_fixed.specs.Places.{place_of, count_not_above}
use Rattle.interpolate_fixed.specs.Warp.{warp_of}
use Rattle.property_tables.specs.Defaults.{fitted, written_default, default_of, fitted_default}
use Rattle.property_tables.specs.Fitting.{fit}
use Rattle.property_tables.specs.Rows.{RowData}
use Rattle.property_tables.proofs.Stays.{fit_again}
use Rattle.tile_reader.specs.declared.tile.Feature.{Feature}
use Rattle.expr_syntax.specs.Operators.{ramp_want}
use Rattle.expr_syntax.specs.Term.{Term, terms_of}
use Rattle.operator_values.specs.Arithmetic.{then_number}
use Rattle.operator_values.specs.Comparisons.{equal_of}
use Rattle.operator_values.specs.Conversions.{kind_of}
use Rattle.operator_values.specs.Evaluated.{Evaluated, then_value}
use Rattle.eval_face.specs.Branches.{branch, case_of, output_at, with_number, ramp_at}
use Rattle.eval_face.specs.Decisions.{if_there, or_later}
use Rattle.eval_face.proofs.FittedLaws.{each_value_is_fitted}
use Rattle.eval_face.specs.Meaning.{mean, means}
use Rattle.eval_face.specs.Meanings.{Meaning, then_values, and_values}
use Rattle.eval_face.specs.World.{World, feature_world}
use Rattle.legacy_functions.specs.Function.{Spelled, Input, Output, literal as literal_output, tokens, Way, even}
use Rattle.legacy_functions.specs.Function.{curved, stepped, PropertyRule, numeric, categorical, Body, plain, zoomed}
use Rattle.legacy_functions.specs.Function.{identity, Function}
use Rattle.legacy_functions.specs.Meaning.{output_data, default_data, result_at, step_result, ramp_result}
use Rattle.legacy_functions.specs.Meaning.{curve_result, way_result, stop_results, numeric_result, is_input}
use Rattle.legacy_functions.specs.Meaning.{chosen_output, category_data, numeric_at, rule_result, is_number}
use Rattle.legacy_functions.specs.Meaning.{is_of_form, identity_data, property_at, plain_by, zoom_way, rule_zooms}
use Rattle.legacy_functions.specs.Meaning.{rule_results, body_result, value_of}
use Rattle.legacy_functions.specs.ToExpression.{form_name}
use Rattle.legacy_functions.proofs.ClimbLaws.{Climbs}
use Rattle.legacy_functions.proofs.SoundRules.{OfSome, HasSome, IsOutputOf, AreStops, AreNumberStops, IsRuleOf, AreRulesOf, IsBodyOf}
use Rattle.legacy_functions.proofs.SoundFunctions.{IsFunctionOf}
use Rattle.legacy_laws.proofs.FilterTerms.{kind_term}
use Rattle.legacy_laws.proofs.FunctionTerms.{data_or_null, output_term, default_term, TermBranches, branch_inputs}
use Rattle.legacy_laws.proofs.FunctionTerms.{branch_terms, way_curve, ramp_term, step_term, way_term, stop_terms}
use Rattle.legacy_laws.proofs.FunctionTerms.{case_term, input_data, category_terms, rule_term, zoom_term, rule_terms}
use Rattle.legacy_laws.proofs.FunctionTerms.{identity_term, named_term, plain_term, body_term, function_term}
use Rattle.legacy_laws.proofs.FunctionTerms.{stops_go, rules_go}
use Rattle.legacy_laws.proofs.TableRows.{IsRegular, DefaultFits, is_ramp_want, MayGo, may_go, zooms_may_go}
use Rattle.legacy_laws.proofs.TokenLaws.{tokens_given}
use Rattle.legacy_laws.proofs.FunctionValues.{literal_fits, outcomes, output_is, place_is, number_last, ramp_taken}
use Rattle.legacy_laws.proofs.FunctionValues.{counted_after, only_counted, branch_fit, number_kind, boolean_kind}
use Rattle.legacy_laws.proofs.FunctionValues.{list_kind, text_kind, input_is, itself_or_null}

-- ---- in a world

module _ (zoom : ℤ) (feature : Feature) (state : List (List ℕ × Data)) (images scripts : List ℕ → Bool) where
  abbrev here : World
  here = feature_world zoom feature state images scripts

  -- what a term gives is fitted
  fitted_by : (want : Want) (e : Term) (r : Evaluated) → mean e want [] here ≡ r → then_value r (fit want) ≡ r
  fitted_by want e (Ok d) h = each_value_is_fitted e want [] here d h
  fitted_by want e (Err fault) h = refl

  fitted_again : (want : Want) (e : Term) → then_value (mean e want [] here) (fit want) ≡ mean e want [] here
  fitted_again want e = fitted_by want e (mean e want [] here) refl

  -- ---- the property

  abbrev found_at : Option (List ℕ) → Option Data
  found_at property = property_at property feature

  abbrev value_at : Option (List ℕ) → Data
  value_at property = unwrap_or (found_at property) null

  property_given : (property : Option (List ℕ)) (want : Want)
      → mean (named_term property) want [] here ≡ fit want (value_at property)
  property_given (Some name) want = refl
  property_given None want = refl

  abbrev from_one : (List Data → Evaluated) → Want → Evaluated → Evaluated
  from_one apply want a = then_values (and_values a (Ok [])) (λ ds. then_value (apply ds) (fit want))

  abbrev from_two : (List Data → Evaluated) → Data → Evaluated → Evaluated
  from_two apply e a =
      then_values (and_values a (Ok (e ∷ []))) (λ ds. then_value (apply ds) (fit wants.Boolean))

  kind_given : (property : Option (List ℕ)) (kind : List ℕ)
      → mean (kind_term kind (named_term property)) wants.Boolean [] here
      ≡ Ok (boolean (same_text (kind_name (value_at property)) kind))
  kind_given property kind =
      λ i. from_two equal_of (text kind) (from_one kind_of wants.Any (property_given property wants.Any i))

  case_given : (property : Option (List ℕ)) (kind : List ℕ) (want : Want) (e default : Term)
      → mean (case_term kind (named_term property) e default) want [] here
      ≡ branch (Ok (boolean (same_text (kind_name (value_at property)) kind))) (mean e want [] here) (mean default want [] here)
  case_given property kind want e default =
      λ i. branch (kind_given property kind i) (mean e want [] here) (mean default want [] here)

  -- ---- from stop to stop, by a term that gives a number

  abbrev gives : Want → TermBranches → List Evaluated
  gives want xs = outcomes want here (means (terms_of (branch_terms xs)))

  steps_given : (want : Want) (x : Term) (v : ℤ) (xs : TermBranches) → mean x wants.Number [] here ≡ Ok (number_data v)
      → HasSome xs → Climbs None (branch_inputs xs)
      → mean (step_term x xs) want [] here ≡ step_result (branch_inputs xs) (gives want xs) v
  steps_given want x v [] h some climbs = absurd some
  steps_given want x v (b ∷ []) h some climbs =
      ap (result_at (gives want (b ∷ []))) (sym (only_counted b.0.value v))
  steps_given want x v (b ∷ c ∷ bs) h some climbs =
      let zs = branch_inputs (c ∷ bs) in
      let ms = means (terms_of (branch_terms (b ∷ c ∷ bs))) in
      (λ i. with_number (h i) (λ y. output_at ms (count_not_above y zs) want [] here))
      ∙ (output_is want here ms (count_not_above v zs)
      ∙ ap (result_at (gives want (b ∷ c ∷ bs))) (counted_after b.0.value zs v climbs.1))

  abbrev ramp_under : Curve → List ℤ → List Meaning → Want → Want → ℤ → Evaluated
  ramp_under curve inputs ms want taken v =
      then_number (warp_of curve inputs v) (λ y. then_value (ramp_at inputs ms y (place_of inputs y) taken [] here) (fit want))

  ramp_given : (want : Want) (way : Way) (x : Term) (v : ℤ) (xs : TermBranches) → mean x wants.Number [] here ≡ Ok (number_data v)
      → is_ramp_want want ≡ true
      → mean (ramp_term way x xs) want [] here
      ≡ then_value (curve_result (way_curve way) (branch_inputs xs) (gives want xs) v) (fit want)
  ramp_given want way x v xs h ramps =
      let inputs = branch_inputs xs in
      let ms = means (terms_of (branch_terms xs)) in
      let curve = way_curve way in
      (λ i. with_number (h i) (λ y. ramp_under curve inputs ms want (ramp_want want) y))
      ∙ ((λ i. ramp_under curve inputs ms want (ramp_taken want ramps i) v)
      ∙ ((λ i. then_number (warp_of curve inputs v) (λ y. then_value (place_is want here inputs ms y (place_of inputs y) i) (fit want)))
      ∙ number_last (warp_of curve inputs v) (λ y. ramp_result inputs (gives want xs) y (place_of inputs y)) (fit want)))

  way_given : (want : Want) (way : Way) (x : Term) (v : ℤ) (xs : TermBranches) → mean x wants.Number [] here ≡ Ok (number_data v)
      → MayGo want way → HasSome xs → Climbs None (branch_inputs xs)
      → mean (way_term way x xs) want [] here ≡ then_value (way_result way (branch_inputs xs) (gives want xs) v) (fit want)
  way_given want even x v xs h may some climbs = ramp_given want even x v xs h may
  way_given want (curved base) x v xs h may some climbs = ramp_given want (curved base) x v xs h may
  way_given want stepped x v xs h may some climbs =
      let steps = steps_given want x v xs h some climbs in
      sym (fitted_again want (step_term x xs)) ∙ (λ i. then_value (steps i) (fit want))

  -- ---- of a row

  module _ (row : RowData) (regular : IsRegular row) where
    output_given : (o : Output) → IsOutputOf row o → mean (output_term o) row.want [] here ≡ fit row.want (output_data feature o)
    output_given (literal_output t d) h =
        let fits = literal_fits row t d h.0 in
        fits ∙ sym (fit_again row.want (data_or_null (json_data t)) d fits)
    output_given (tokens s) h = tokens_given zoom feature state images scripts row.want s

    written_given : (w : Option Data) → DefaultFits row.want w
        → fit row.want (unwrap_or w null) ≡ fit row.want (unwrap_or (fitted_default row.want w) null)
    written_given None h = refl
    written_given (Some d) h =
        let (e, fits) = h in
        let same : unwrap_or (fitted (fit row.want d)) null ≡ e = ap (λ r. unwrap_or (fitted r) null) fits in
        fits ∙ (sym (fit_again row.want d e fits) ∙ sym (ap (fit row.want) same))

    -- the default of a function
    abbrev default_by : Option Output → Data
    default_by o = unwrap_or (option_map (output_data feature) o) (unwrap_or (default_of row) null)

    default_given : (o : Option Output) → OfSome (IsOutputOf row) o
        → mean (default_term o row) row.want [] here ≡ fit row.want (default_by o)
    default_given (Some o) h = output_given o h
    default_given None h = written_given (written_default row.fallback) regular.default

    -- ---- rules

    stops_give : (ss : List (Spelled × Output)) → AreNumberStops row ss
        → gives row.want (stop_terms ss) ≡ stop_results row.want feature ss
    stops_give [] h = refl
    stops_give (s ∷ ss) h = λ i. output_given s.1 h.0.1 i ∷ stops_give ss h.1 i

    stops_some : (ss : List (Spelled × Output)) → HasSome ss → HasSome (stop_terms ss)
    stops_some [] h = h
    stops_some (s ∷ ss) h = tt

    numeric_given : (way : Way) (ss : List (Spelled × Output)) (x : Term) (v : ℤ) → mean x wants.Number [] here ≡ Ok (number_data v)
        → IsRuleOf row (numeric way ss)
        → mean (way_term way x (stop_terms ss)) row.want [] here
        ≡ then_value (numeric_result row way ss feature v) (fit row.want)
    numeric_given way ss x v h is =
        let xs = stop_terms ss in
        let climbs : Climbs None (branch_inputs xs) = subst (λ zs. Climbs None zs) (sym (stops_go ss)) is.1.1.1 in
        way_given row.want way x v xs h (may_go row regular way is.0) (stops_some ss is.1.1.0) climbs
        ∙ (λ i. then_value (way_result way (stops_go ss i) (stops_give ss is.1.0 i) v) (fit row.want))

    module _ (property : Option (List ℕ)) (o : Option Output) (fallback : OfSome (IsOutputOf row) o) where
      abbrev default : Data
      default = default_by o

      -- what a case gives: an output, or else the default
      abbrev where_is : Bool → Evaluated → Evaluated → Evaluated
      where_is b output later = branch (Ok (boolean b)) output later

      abbrev in_row : Data → Evaluated
      in_row d = fit row.want d

      -- by a property that is there or not
      by_number : (way : Way) (ss : List (Spelled × Output)) (found : Option Data) → found_at property ≡ found
          → IsRuleOf row (numeric way ss)
          → where_is (is_number (unwrap_or found null))
          (mean (way_term way (named_term property) (stop_terms ss)) row.want [] here) (in_row default)
          ≡ then_value (numeric_at row way ss default feature found) (fit row.want)
      by_number way ss None h is = refl
      by_number way ss (Some null) h is = refl
      by_number way ss (Some (boolean b)) h is = refl
      by_number way ss (Some (number_data z)) h is =
          let there : mean (named_term property) wants.Number [] here ≡ Ok (number_data z) =
          property_given property wants.Number ∙ ap (λ d. fit wants.Number (unwrap_or d null)) h in
          numeric_given way ss (named_term property) z there is
      by_number way ss (Some (text s)) h is = refl
      by_number way ss (Some (color c)) h is = refl
      by_number way ss (Some (list ds)) h is = refl
      by_number way ss (Some (map_of ps)) h is = refl

      chosen_fit : (b : Bool) (s : Output) (later : Option Output)
          → where_is b (in_row (output_data feature s)) (in_row (unwrap_or (option_map (output_data feature) later) default))
          ≡ in_row (unwrap_or (option_map (output_data feature) (if b then Some s else later)) default)
      chosen_fit true s later = refl
      chosen_fit false s later = refl

      abbrev case_from : Evaluated → Evaluated → Evaluated → Evaluated
      case_from condition output later = branch condition output later

      equal_given : (i : Input)
          → from_two equal_of (input_data i) (mean (named_term property) wants.Any [] here)
          ≡ Ok (boolean (is_input (value_at property) i))
      equal_given i =
          (λ j. from_two equal_of (input_data i) (property_given property wants.Any j))
          ∙ ap (λ b. Ok (boolean b)) (input_is (value_at property) i)

      categories_given : (ss : List (Input × Output)) → AreStops row ss
          → case_of (means (terms_of (category_terms (named_term property) (default_term o row) ss))) row.want [] here
          ≡ fit row.want (category_data default feature (value_at property) ss)
      categories_given [] h = default_given o fallback
      categories_given (s ∷ ss) h =
          (λ i. case_from (equal_given s.0 i) (output_given s.1 h.0.1 i) (categories_given ss h.1 i))
          ∙ chosen_fit (is_input (value_at property) s.0) s.1 (chosen_output (value_at property) ss)

      rule_given : (rule : PropertyRule) → IsRuleOf row rule
          → mean (rule_term (named_term property) (default_term o row) rule) row.want [] here
          ≡ rule_result row default feature (found_at property) rule
      rule_given (numeric way ss) is =
          let e = way_term way (named_term property) (stop_terms ss) in
          case_given property (codes "number") row.want e (default_term o row)
          ∙ ((λ i. branch (Ok (boolean (number_kind (value_at property) i))) (mean e row.want [] here) (default_given o fallback i))
          ∙ by_number way ss (found_at property) refl is)
      rule_given (categorical ss) is = categories_given ss is.0

      -- ---- rules by zooms

      rules_give : (rs : List (Spelled × PropertyRule)) → AreRulesOf row rs
          → gives row.want (rule_terms (named_term property) (default_term o row) rs)
          ≡ rule_results row default feature (found_at property) rs
      rules_give [] h = refl
      rules_give (r ∷ rs) h = λ i. rule_given r.1 h.0.1 i ∷ rules_give rs h.1 i

      rules_some : (rs : List (Spelled × PropertyRule)) → HasSome rs → HasSome (rule_terms (named_term property) (default_term o row) rs)
      rules_some [] h = h
      rules_some (r ∷ rs) h = tt

      abbrev zoomed_result : List ℤ → List Evaluated → Evaluated
      zoomed_result zooms results = then_value (way_result (zoom_way row) zooms results zoom) (fit row.want)

      zoomed_given : (rs : List (Spelled × PropertyRule)) → IsBodyOf row (zoomed rs)
          → mean (way_term (zoom_way row) zoom_term (rule_terms (named_term property) (default_term o row) rs)) row.want [] here
          ≡ zoomed_result (rule_zooms rs) (rule_results row default feature (found_at property) rs)
      zoomed_given rs is =
          let xs = rule_terms (named_term property) (default_term o row) rs in
          let zooms : branch_inputs xs ≡ rule_zooms rs = rules_go (named_term property) (default_term o row) rs in
          let climbs : Climbs None (branch_inputs xs) = subst (λ zs. Climbs None zs) (sym zooms) is.1.1 in
          let may = zooms_may_go row regular row.reads.ramps refl in
          let given = rules_give rs is.0 in
          way_given row.want (zoom_way row) zoom_term zoom xs refl may (rules_some rs is.1.0) climbs
          ∙ (λ i. zoomed_result (zooms i) (given i))

      -- ---- identity

      identity_by : (w : Want) → ((d : Data) → same_text (kind_name d) (form_name w) ≡ is_of_form w d) → is_of_form w null ≡ false
          → (found : Option Data)
          → where_is (same_text (kind_name (unwrap_or found null)) (form_name w)) (in_row (unwrap_or found null)) (in_row default)
          ≡ in_row (identity_data w default found)
      identity_by w is not_null (Some d) =
          (λ i. branch (Ok (boolean (is d i))) (fit row.want d) (fit row.want default)) ∙ branch_fit row.want (is_of_form w d) d default
      identity_by w is not_null None =
          let none : same_text (kind_name null) (form_name w) ≡ false = is null ∙ not_null in
          λ i. branch (Ok (boolean (none i))) (fit row.want null) (fit row.want default)

      abbrev Given : Want → Type 0
      Given w =
          mean (identity_term w (named_term property) (default_term o row)) row.want [] here
          ≡ fit row.want (identity_data w default (found_at property))

      case_identity : (w : Want) → ((d : Data) → same_text (kind_name d) (form_name w) ≡ is_of_form w d) → is_of_form w null ≡ false
          → mean (case_term (form_name w) (named_term property) (named_term property) (default_term o row)) row.want [] here
          ≡ fit row.want (identity_data w default (found_at property))
      case_identity w is not_null =
          let there = property_given property row.want in
          let otherwise = default_given o fallback in
          case_given property (form_name w) row.want (named_term property) (default_term o row)
          ∙ ((λ i. where_is (same_text (kind_name (value_at property)) (form_name w)) (there i) (otherwise i))
          ∙ identity_by w is not_null (found_at property))

      -- the default as it is
      abbrev IsDefault : Data → Type 0
      IsDefault e =
          (mean (default_term o row) wants.Any [] here ≡ Ok e) × (fit row.want e ≡ fit row.want default)

      there_or_default : (e : Data) (found : Option Data) → fit row.want e ≡ fit row.want default
          → then_value (or_later (if_there (unwrap_or found null)) (or_later (if_there e) (Ok null))) (fit row.want)
          ≡ fit row.want (identity_data wants.Shown default found)
      there_or_default e None h = (λ i. then_value (itself_or_null e i) (fit row.want)) ∙ h
      there_or_default e (Some null) h = (λ i. then_value (itself_or_null e i) (fit row.want)) ∙ h
      there_or_default e (Some (boolean b)) h = refl
      there_or_default e (Some (number_data z)) h = refl
      there_or_default e (Some (text s)) h = refl
      there_or_default e (Some (color c)) h = refl
      there_or_default e (Some (list ds)) h = refl
      there_or_default e (Some (map_of ps)) h = refl

      abbrev first_there : Evaluated → Evaluated → Evaluated
      first_there first second =
          let later = then_value second (λ e. or_later (if_there e) (Ok null)) in
          then_value (then_value first (λ d. or_later (if_there d) later)) (fit row.want)

      coalesced : (e : Data) → IsDefault e → Given wants.Shown
      coalesced e h =
          (λ i. first_there (property_given property wants.Any i) (h.0 i)) ∙ there_or_default e (found_at property) h.1

    -- the default as it is, where nothing is wanted of it
    default_as_is : (o : Option Output) (fallback : OfSome (IsOutputOf row) o) → (e : Data) × IsDefault None o fallback e
    default_as_is (Some (literal_output t d)) fallback =
        (data_or_null (json_data t), (refl, output_given (literal_output t d) fallback))
    default_as_is (Some (tokens s)) fallback =
        (output_data feature (tokens s), (tokens_given zoom feature state images scripts wants.Any s, refl))
    default_as_is None fallback =
        (unwrap_or (written_default row.fallback) null, (refl, written_given (written_default row.fallback) regular.default))

    identity_given : (property : Option (List ℕ)) (o : Option Output) (fallback : OfSome (IsOutputOf row) o) (w : Want)
        → Given property o fallback w
    identity_given property o fallback wants.Shown =
        let as_is = default_as_is o fallback in
        coalesced property o fallback as_is.0 as_is.1
    identity_given property o fallback wants.Any = case_identity property o fallback wants.Any text_kind refl
    identity_given property o fallback wants.Boolean = case_identity property o fallback wants.Boolean boolean_kind refl
    identity_given property o fallback wants.Number = case_identity property o fallback wants.Number number_kind refl
    identity_given property o fallback wants.Text = case_identity property o fallback wants.Text text_kind refl
    identity_given property o fallback wants.Color = case_identity property o fallback wants.Color text_kind refl
    identity_given property o fallback wants.Object = case_identity property o fallback wants.Object text_kind refl
    identity_given property o fallback wants.Image = case_identity property o fallback wants.Image text_kind refl
    identity_given property o fallback (wants.List i n) = case_identity property o fallback (wants.List i n) list_kind refl
    identity_given property o fallback (wants.Enum c) = case_identity property o fallback (wants.Enum c) text_kind refl
    identity_given property o fallback (wants.EnumList c) =
        case_identity property o fallback (wants.EnumList c) list_kind refl

    -- ---- by the form of the function

    plain_given : (property : Option (List ℕ)) (o : Option Output) (fallback : OfSome (IsOutputOf row) o) (rule : PropertyRule)
        → IsRuleOf row rule
        → mean (plain_term property (default_term o row) rule) row.want [] here
        ≡ then_value (plain_by property row (default_by o) zoom feature rule) (fit row.want)
    plain_given (Some name) o fallback rule is =
        let e = rule_term (named_term (Some name)) (default_term o row) rule in
        sym (fitted_again row.want e) ∙ (λ i. then_value (rule_given (Some name) o fallback rule is i) (fit row.want))
    plain_given None o fallback (numeric way ss) is = numeric_given way ss zoom_term zoom refl is
    plain_given None o fallback (categorical ss) is = default_given o fallback

    body_given : (f : Function) (body : Body) → OfSome (IsOutputOf row) f.fallback → IsBodyOf row body
        → mean (body_term row (default_term f.fallback row) f.property body) row.want [] here
        ≡ then_value (body_result row (default_data row f feature) f zoom feature body) (fit row.want)
    body_given f (plain rule) fallback is = plain_given f.property f.fallback fallback rule is
    body_given f (zoomed rules) fallback is = zoomed_given f.property f.fallback fallback rules is
    body_given f identity fallback is = identity_given f.property f.fallback fallback row.want

    pub function_given : (f : Function) → IsFunctionOf row f
        → mean (function_term row f) row.want [] here ≡ value_of row f zoom feature
    function_given f is = body_given f f.body is.fallback is.body
