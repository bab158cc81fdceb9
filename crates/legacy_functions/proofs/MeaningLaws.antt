-- What values and faults of parts say of the whole.
use Rattle.std.proofs.Common.{◌≡◌, ℕ, zero, suc, ◌<◌, ◌≤◌, ℤ, List, [], ◌∷◌, length, get_or, Result, Ok, Err, IsErrAnd, refl, ap, sym, subst, ◌∙◌, arith}
use Rattle.std.proofs.lemmas.List.Sums.{count_by-le-length}
use Rattle.std.specs.Prelude.{Option, unwrap_or, map, int_le}
use Rattle.fixed_num.specs.declared.fixed.Arith.{Arith}
use Rattle.interpolate_fixed.specs.Places.{count_not_above}
use Rattle.prop_values.specs.Data.{Data, null}
use Rattle.prop_values.specs.declared.fault.EvalFault.{EvalFault}
use Rattle.prop_values.specs.declared.kinds.Want.{Want}
use Rattle.prop_values.specs.declared.value.Value.{Value}
use Rattle.property_tables.specs.Fitting.{fit}
use Rattle.property_tables.specs.Rows.{RowData}
use Rattle.property_tables.proofs.Stays.{fit_again}
use Rattle.operator_values.specs.Arithmetic.{then_number}
use Rattle.operator_values.specs.Evaluated.{Evaluated, GivesValue, then_value, or_fault}
use Rattle.operator_values.specs.Ramps.{between_of}
use Rattle.halts.specs.declared.halt.Halt.{Halt}
use Rattle.halts.specs.declared.halt.Halt.TheVariants.{Fault, NoMemory}
use Rattle.tile_reader.specs.declared.tile.Feature.{Feature}
use Rattle.legacy_functions.specs.declared.function.NumberStop.{NumberStop}
use Rattle.legacy_functions.specs.declared.function.ZoomRule.{ZoomRule}
use Rattle.legacy_functions.specs.Function.{Way, PropertyRule, numeric, categorical}
use Rattle.legacy_functions.specs.Meaning.{output_data, result_at, between_results, stop_results, numeric_at, category_data, rule_result, rule_results}
use Rattle.legacy_functions.specs.Parts.{stop_seen, output_seen}
use Rattle.legacy_functions.specs.Stops.{inputs_in}
use Rattle.legacy_functions.specs.View.{rule_seen, zoom_rule_seen}
use Rattle.legacy_functions.specs.Zooms.{zooms_seen}

-- ---- `?`

-- what `?` hands on
pub passed_on : (r : Result Value (Halt EvalFault)) (h : Halt EvalFault) (a : Evaluated) → IsErrAnd r (λ y. y ≡ h) → GivesValue (Err h) a → GivesValue r a
passed_on (Ok v) h a k g = absurd k
passed_on (Err y) h a k g = subst (λ (z : Halt EvalFault). GivesValue (Err z) a) (sym k) g

pub then_halted : (h : Halt EvalFault) (a : Evaluated) (go : Data → Evaluated) → GivesValue (Err h) a → GivesValue (Err h) (then_value a go)
then_halted (Fault f) a go g = ap (λ x. then_value x go) g
then_halted NoMemory a go g = tt

pub then_given : (r : Result Value (Halt EvalFault)) (a : Evaluated) (d : Data) (go : Data → Evaluated) → a ≡ Ok d → GivesValue r (go d) → GivesValue r (then_value a go)
then_given r a d go e g = subst (GivesValue r) (sym (ap (λ x. then_value x go) e)) g

-- ---- a fitted value stays

fitted_stays : (want : Want) (a : Evaluated) → ((d : Data) → a ≡ Ok d → fit want d ≡ Ok d) → then_value a (fit want) ≡ a
fitted_stays want (Ok d) stays = stays d refl
fitted_stays want (Err fault) stays = refl

fit_twice : (want : Want) (a : Evaluated) → then_value (then_value a (fit want)) (fit want) ≡ then_value a (fit want)
fit_twice want (Ok d) = fitted_stays want (fit want d) (λ e h. fit_again want d e h)
fit_twice want (Err fault) = refl

pub rule_is_fitted : (row : RowData) (default : Data) (feature : Feature) (found : Option Data) (rule : PropertyRule) → then_value (rule_result row default feature found rule) (fit row.want) ≡ rule_result row default feature found rule
rule_is_fitted row default feature found (numeric way stops) = fit_twice row.want (numeric_at row way stops default feature found)
rule_is_fitted row default feature found (categorical stops) = fit_twice row.want (Ok (category_data default feature (unwrap_or found null) stops))

-- ---- a moved input

pub number_halted : (w : Result ℤ Arith) (fault : EvalFault) (go : ℤ → Evaluated) → Err fault ≡ or_fault w → then_number w go ≡ Err fault
number_halted (Ok z) fault go e = absurd (cc)
number_halted (Err a) fault go e = ap (λ x. faulted x) (sym e)
  where
    faulted : Result ℤ EvalFault → Evaluated
    faulted (Ok z) = go z
    faulted (Err f) = Err f

pub number_given : (r : Result Value (Halt EvalFault)) (w : Result ℤ Arith) (z : ℤ) (go : ℤ → Evaluated) → Ok z ≡ or_fault w → GivesValue r (go z) → GivesValue r (then_number w go)
number_given r (Ok y) z go e g = let same : z ≡ y = cc in subst (λ (x : ℤ). GivesValue r (go x)) same g
number_given r (Err a) z go e g = absurd (cc)

-- ---- the results at two neighbours

pub lower_halted : (h : Halt EvalFault) (x x0 x1 : ℤ) (a b : Evaluated) → GivesValue (Err h) a → GivesValue (Err h) (between_results x x0 x1 a b)
lower_halted (Fault f) x x0 x1 a b g = ap (λ y. between_results x x0 x1 y b) g
lower_halted NoMemory x x0 x1 a b g = tt

pub upper_halted : (h : Halt EvalFault) (x x0 x1 : ℤ) (a b : Evaluated) (d : Data) → a ≡ Ok d → GivesValue (Err h) b → GivesValue (Err h) (between_results x x0 x1 a b)
upper_halted (Fault f) x x0 x1 a b d e g = ap (λ y. between_results x x0 x1 y b) e ∙ ap (λ y. between_results x x0 x1 (Ok d) y) g
upper_halted NoMemory x x0 x1 a b d e g = tt

pub between_given : (r : Result Value (Halt EvalFault)) (x x0 x1 : ℤ) (a b : Evaluated) (d e : Data) → a ≡ Ok d → b ≡ Ok e → GivesValue r (between_of x x0 d x1 e) → GivesValue r (between_results x x0 x1 a b)
between_given r x x0 x1 a b d e p q g = subst (GivesValue r) (sym (ap (λ y. between_results x x0 x1 y b) p ∙ ap (λ y. between_results x x0 x1 (Ok d) y) q)) g

-- ---- the result at a place

pub stop_result_at : (want : Want) (feature : Feature) (stops : List NumberStop) (k : ℕ) (d : NumberStop) → k < length stops → result_at (stop_results want feature (map stop_seen stops)) k ≡ fit want (output_data feature (output_seen (get_or stops k d).output))
stop_result_at want feature [] k d h = absurd (omega arith)
stop_result_at want feature (s ∷ ss) zero d h = refl
stop_result_at want feature (s ∷ ss) (suc k) d h = stop_result_at want feature ss k d (omega arith)

pub zoom_result_at : (row : RowData) (default : Data) (feature : Feature) (found : Option Data) (way : Way) (rules : List ZoomRule) (k : ℕ) (d : ZoomRule) → k < length rules → result_at (rule_results row default feature found (map (zoom_rule_seen way) rules)) k ≡ rule_result row default feature found (rule_seen way (get_or rules k d).rule)
zoom_result_at row default feature found way [] k d h = absurd (omega arith)
zoom_result_at row default feature found way (r ∷ rs) zero d h = refl
zoom_result_at row default feature found way (r ∷ rs) (suc k) d h = zoom_result_at row default feature found way rs k d (omega arith)

pub inputs_length : (stops : List NumberStop) → length (inputs_in stops) ≡ length stops
inputs_length [] = refl
inputs_length (s ∷ ss) = ap suc (inputs_length ss)

pub zooms_length : (rules : List ZoomRule) → length (zooms_seen rules) ≡ length rules
zooms_length [] = refl
zooms_length (r ∷ rs) = ap suc (zooms_length rs)

pub count_within : (x : ℤ) (inputs : List ℤ) → count_not_above x inputs ≤ length inputs
unfolding count_not_above
count_within x inputs = count_by-le-length (λ input. int_le input x) inputs

pub ruleset between_rules = (passed_on, lower_halted, upper_halted, between_given, inputs_length, zooms_length)

pub ruleset then_rules = (passed_on, then_halted, then_given)

pub ruleset number_rules = (passed_on, number_halted, number_given)
