-- What legacy functions give at their stops.
use Rattle.std.proofs.Common.{◌≡◌, ◌∙◌, ℕ, zero, suc, ◌+◌, ◌-◌, ◌<◌, ℤ, List, [], ◌∷◌, length, map, refl, ap, sym, subst, arith}
use Rattle.std.specs.Prelude.{◌<ℤ◌, Option, Some, None, Result, Ok, Err}
use Rattle.std.specs.List.{slice_get}
use Rattle.prop_values.specs.Data.{Data, number}
use Rattle.prop_values.specs.declared.outcome.Curve.{Curve}
use Rattle.prop_values.specs.declared.outcome.Curve.TheVariants.{Linear, Exponential}
use Rattle.fixed_num.specs.declared.fixed.Arith.{Arith}
use Rattle.interpolate_fixed.specs.PlaceFacts.{IsAscending}
use Rattle.interpolate_fixed.specs.Places.{input_at, place_of, count_not_above}
use Rattle.interpolate_fixed.specs.declared.place.StopPlace.{StopPlace}
use Rattle.interpolate_fixed.specs.declared.place.StopPlace.TheVariants.{First, Last, Between}
use Rattle.interpolate_fixed.proofs.MovedInputs.{warp_input}
use Rattle.property_tables.proofs.Stays.{fit_again}
use Rattle.property_tables.specs.Fitting.{fit}
use Rattle.property_tables.specs.Rows.{RowData}
use Rattle.tile_reader.specs.declared.tile.Feature.{Feature}
use Rattle.operator_values.specs.Arithmetic.{then_number}
use Rattle.operator_values.specs.Evaluated.{Evaluated, then_value}
use Rattle.legacy_functions.specs.Function.{Spelled, Output, Way, even, curved, stepped, PropertyRule, numeric, categorical}
use Rattle.legacy_functions.specs.Meaning.{output_data, default_data, result_at, step_result, between_results, ramp_result, curve_result, way_result, stop_inputs, numeric_result, numeric_at, rule_result, plain_by, zoom_way, rule_zooms, rule_results, property_at, body_result}
use Rattle.ramp_laws.specs.RampLaw.{function_input, FunctionsGiveTheirOutputs, FunctionsGiveTheirRules, RulesGiveTheirOutputs}
use Rattle.ramp_laws.proofs.StopPlaces.{IsPlace, stop_place, count_at_stop, between_goes_on}

-- ---- results at inputs

lower_result : (x x1 : ℤ) → x <ℤ x1 → (a b : Evaluated) (d : Data) → between_results x x x1 a b ≡ Ok d → a ≡ Ok d
lower_result x x1 up (Ok e) (Ok f) d h = between_goes_on x x1 up e f Ok d (kept (between_results x x x1 (Ok e) (Ok f)) h)
  where
    kept : (r : Evaluated) → r ≡ Ok d → then_value r Ok ≡ Ok d
    kept (Ok v) h = h
    kept (Err fault) h = h
lower_result x x1 up (Ok e) (Err fault) d h = absurd (cc)
lower_result x x1 up (Err fault) b d h = absurd (cc)

module _ (inputs : List ℤ) (results : List Evaluated) (i : ℕ) (rising : IsAscending inputs) (within : i < length inputs) (d : Data) where
  abbrev the_input : ℤ
  the_input = input_at inputs i

  ramp_by : (p : StopPlace) → IsPlace inputs i rising within p → ramp_result inputs results the_input p ≡ Ok d → result_at results i ≡ Ok d
  ramp_by First is h = subst (λ k. result_at results k ≡ Ok d) (sym is) h
  ramp_by Last is h = subst (λ k. result_at results k ≡ Ok d) (sym is) h
  ramp_by (Between k) is h =
      lower_result the_input (input_at inputs (i + 1)) is.1 (result_at results i) (result_at results (i + 1)) d
      (subst (λ j. between_results the_input (input_at inputs j) (input_at inputs (j + 1)) (result_at results j) (result_at results (j + 1)) ≡ Ok d) is.0 h)

  curve_gives : (curve : Curve) → curve_result curve inputs results the_input ≡ Ok d → result_at results i ≡ Ok d
  curve_gives curve h =
      let (p, is, at) = stop_place inputs i rising within in
      let go : ℤ → Evaluated = λ x. ramp_result inputs results x (place_of inputs x) in
      let by_warp = ap (λ (r : Result ℤ Arith). then_number r go) (warp_input curve inputs i rising within) in
      ramp_by p at (subst (λ q. ramp_result inputs results the_input q ≡ Ok d) is (sym by_warp ∙ h))

  step_gives : step_result inputs results the_input ≡ Ok d → result_at results i ≡ Ok d
  step_gives h =
      let same : count_not_above the_input inputs - 1 ≡ i = (let c = count_at_stop inputs i rising within in omega (arith, c)) in
      subst (λ k. result_at results k ≡ Ok d) same h

  way_gives : (way : Way) → way_result way inputs results the_input ≡ Ok d → result_at results i ≡ Ok d
  way_gives even h = curve_gives Linear h
  way_gives (curved base) h = curve_gives (Exponential base.value) h
  way_gives stepped h = step_gives h

-- ---- the stop of a number

module _ {A : Type 0} (input : A → ℤ) (result : A → Evaluated) where
  stop_within : (stops : List A) (i : ℕ) (stop : A) → slice_get stops i ≡ Some stop → i < length (map input stops)
  stop_within [] i stop is = absurd (cc)
  stop_within (s ∷ stops) zero stop is = omega arith
  stop_within (s ∷ stops) (suc i) stop is = let less = stop_within stops i stop is in omega (arith, less)

  stop_input : (stops : List A) (i : ℕ) (stop : A) → slice_get stops i ≡ Some stop → input_at (map input stops) i ≡ input stop
  stop_input [] i stop is = absurd (cc)
  stop_input (s ∷ stops) zero stop is = let same : s ≡ stop = cc in ap input same
  stop_input (s ∷ stops) (suc i) stop is = stop_input stops i stop is

  stop_result : (stops : List A) (i : ℕ) (stop : A) → slice_get stops i ≡ Some stop → result_at (map result stops) i ≡ result stop
  stop_result [] i stop is = absurd (cc)
  stop_result (s ∷ stops) zero stop is = let same : s ≡ stop = cc in ap result same
  stop_result (s ∷ stops) (suc i) stop is = stop_result stops i stop is

  stops_give : (way : Way) (stops : List A) (i : ℕ) (stop : A) (d : Data) → IsAscending (map input stops) → slice_get stops i ≡ Some stop →
      way_result way (map input stops) (map result stops) (input stop) ≡ Ok d → result stop ≡ Ok d
  stops_give way stops i stop d rising is h =
      let within = stop_within stops i stop is in
      sym (stop_result stops i stop is)
      ∙ way_gives (map input stops) (map result stops) i rising within d way
      (subst (λ x. way_result way (map input stops) (map result stops) x ≡ Ok d) (sym (stop_input stops i stop is)) h)

-- ---- functions

-- a value that was fitted
fitted : (r : Evaluated) (go : Data → Evaluated) (d : Data) → then_value r go ≡ Ok d → (e : Data) × (r ≡ Ok e) × (go e ≡ Ok d)
fitted (Ok e) go d h = (e, refl, h)
fitted (Err fault) go d h = absurd (cc)

module _ (row : RowData) (feature : Feature) (way : Way) (stops : List (Spelled × Output)) (i : ℕ) (stop : Spelled × Output)
    (rising : IsAscending (stop_inputs stops)) (is : slice_get stops i ≡ Some stop) where
  abbrev output : Data
  output = output_data feature stop.1

  numeric_gives : (d : Data) → numeric_result row way stops feature stop.0.value ≡ Ok d → fit row.want output ≡ Ok d
  numeric_gives d h =
      stops_give (λ (s : Spelled × Output). s.0.value) (λ (s : Spelled × Output). fit row.want (output_data feature s.1)) way stops i stop d rising is h

  again : (r : Evaluated) (d : Data) → ((e : Data) → r ≡ Ok e → fit row.want output ≡ Ok e) → then_value r (fit row.want) ≡ Ok d → fit row.want output ≡ Ok d
  again r d gives h =
      let (e, first, then) = fitted r (fit row.want) d h in
      let out = gives e first in
      out ∙ (sym (fit_again row.want output e out) ∙ then)

  rule_gives : (default d : Data) → rule_result row default feature (Some (number stop.0.value)) (numeric way stops) ≡ Ok d → fit row.want output ≡ Ok d
  rule_gives default d h = again (numeric_result row way stops feature stop.0.value) d numeric_gives h

  plain_gives : (property : Option (List ℕ)) (default : Data) (zoom : ℤ) (d : Data) → function_input property zoom feature ≡ Some (number stop.0.value) →
      plain_by property row default zoom feature (numeric way stops) ≡ Ok d → fit row.want output ≡ Ok d
  plain_gives (Some name) default zoom d same h =
      rule_gives default d (subst (λ o. rule_result row default feature o (numeric way stops) ≡ Ok d) same h)
  plain_gives None default zoom d same h =
      let input : zoom ≡ stop.0.value = cc in
      numeric_gives d (subst (λ z. numeric_result row way stops feature z ≡ Ok d) input h)

pub functions_give : FunctionsGiveTheirOutputs
functions_give row f way stops zoom feature i stop d body rising is same h =
    let default = default_data row f feature in
    again row feature way stops i stop rising is (plain_by f.property row default zoom feature (numeric way stops)) d
    (λ e first. plain_gives row feature way stops i stop rising is f.property default zoom e same first)
    (subst (λ b. then_value (body_result row default f zoom feature b) (fit row.want) ≡ Ok d) body h)

pub rules_give : RulesGiveTheirOutputs
rules_give row default feature way stops i stop d rising is h = rule_gives row feature way stops i stop rising is default d h

-- the result of a rule is fitted to the row
rule_stays : (row : RowData) (default : Data) (feature : Feature) (found : Option Data) (rule : PropertyRule) (e : Data) →
    rule_result row default feature found rule ≡ Ok e → fit row.want e ≡ Ok e
rule_stays row default feature found (numeric way stops) e h =
    let (v, first, then) = fitted (numeric_at row way stops default feature found) (fit row.want) e h in fit_again row.want v e then
rule_stays row default feature found (categorical stops) e h = fit_again row.want _ e h

pub zoom_functions_give : FunctionsGiveTheirRules
zoom_functions_give row f rules feature i rule d body rising is h =
    let default = default_data row f feature in
    let found = property_at f.property feature in
    let zoom = rule.0.value in
    let (e, first, then) =
    fitted (way_result (zoom_way row) (rule_zooms rules) (rule_results row default feature found rules) zoom) (fit row.want) d
    (subst (λ b. then_value (body_result row default f zoom feature b) (fit row.want) ≡ Ok d) body h) in
    let result : rule_result row default feature found rule.1 ≡ Ok e =
    stops_give (λ (r : Spelled × PropertyRule). r.0.value) (λ (r : Spelled × PropertyRule). rule_result row default feature found r.1) (zoom_way row) rules i rule e rising is first in
    result ∙ (sym (rule_stays row default feature found rule.1 e result) ∙ then)
