-- The value of a legacy function: by its stops, and by no expression. Source: own.
use Rattle.std.specs.Prelude.{ℕ, ◌+◌, ◌-◌, ℤ, List, [], ◌∷◌, length, map, Bool, true, false, not, Option, Some, None}
use Rattle.std.specs.Prelude.{option_map, unwrap_or, Ok, Err, if◌then◌else◌}
use Rattle.std.specs.List.{slice_get}
use Rattle.std.specs.Ordering.{int_eq}
use Rattle.prop_values.specs.Data.{Data, null, boolean, number as number_data, text, list, pairs_of}
use Rattle.prop_values.specs.Equality.{same_flag, same_text, at_key}
use Rattle.prop_values.specs.declared.fault.EvalFault.TheVariants.{WrongType}
use Rattle.prop_values.specs.declared.kinds.Want.{Want}
use Rattle.prop_values.specs.declared.kinds.Want.TheVariants as wants
use Rattle.prop_values.specs.declared.outcome.Curve.{Curve}
use Rattle.prop_values.specs.declared.outcome.Curve.TheVariants.{Linear, Exponential}
use Rattle.interpolate_fixed.specs.Places.{input_at, place_of, count_not_above}
use Rattle.interpolate_fixed.specs.Warp.{warp_of}
use Rattle.interpolate_fixed.specs.declared.place.StopPlace.{StopPlace}
use Rattle.interpolate_fixed.specs.declared.place.StopPlace.TheVariants.{First, Last, Between}
use Rattle.property_tables.specs.Defaults.{default_of}
use Rattle.property_tables.specs.Fitting.{fit}
use Rattle.property_tables.specs.Literals.{is_text}
use Rattle.property_tables.specs.Rows.{RowData}
use Rattle.tile_reader.specs.declared.tile.Feature.{Feature}
use Rattle.operator_values.specs.Arithmetic.{then_number}
use Rattle.operator_values.specs.Evaluated.{Evaluated, then_value}
use Rattle.operator_values.specs.Ramps.{between_of}
use Rattle.legacy_functions.specs.Function.{Spelled, Input, flag, number, word, Output, literal, tokens, Way, even}
use Rattle.legacy_functions.specs.Function.{curved, stepped, PropertyRule, numeric, categorical, Body, plain, zoomed}
use Rattle.legacy_functions.specs.Function.{identity, Function}
use Rattle.legacy_functions.specs.Tokens.{token_text}

-- ---- outputs, and the output where there is no stop

abbrev pub output_data : Feature → Output → Data
output_data feature (literal t d) = d
output_data feature (tokens s) = text (token_text s feature)

-- the default: the function's, else the row's, else null
abbrev pub default_data : RowData → Function → Feature → Data
default_data row f feature = unwrap_or (option_map (output_data feature) f.fallback) (unwrap_or (default_of row) null)

-- ---- from stop to stop: results at inputs that ascend

abbrev pub result_at : List Evaluated → ℕ → Evaluated
result_at results k = unwrap_or (slice_get results k) (Err WrongType)

-- the result of the greatest input that is not above, and the first below all
abbrev pub step_result : List ℤ → List Evaluated → ℤ → Evaluated
step_result inputs results x = result_at results (count_not_above x inputs - 1)

abbrev pub between_results : ℤ → ℤ → ℤ → Evaluated → Evaluated → Evaluated
between_results x x0 x1 (Ok d) (Ok e) = between_of x x0 d x1 e
between_results x x0 x1 (Ok d) (Err fault) = Err fault
between_results x x0 x1 (Err fault) later = Err fault

-- at or below the first input and at or above the last one result; else the lower result, then the upper,
-- then what is between
abbrev pub ramp_result : List ℤ → List Evaluated → ℤ → StopPlace → Evaluated
ramp_result inputs results x First = result_at results 0
ramp_result inputs results x Last = result_at results (length inputs - 1)
ramp_result inputs results x (Between i) =
    between_results x (input_at inputs i) (input_at inputs (i + 1)) (result_at results i) (result_at results (i + 1))

-- the input is first moved by the curve
abbrev pub curve_result : Curve → List ℤ → List Evaluated → ℤ → Evaluated
curve_result curve inputs results v =
    then_number (warp_of curve inputs v) (λ x. ramp_result inputs results x (place_of inputs x))

abbrev pub way_result : Way → List ℤ → List Evaluated → ℤ → Evaluated
way_result even inputs results v = curve_result Linear inputs results v
way_result (curved base) inputs results v = curve_result (Exponential base.value) inputs results v
way_result stepped inputs results v = step_result inputs results v

-- ---- rules

abbrev pub stop_inputs : List (Spelled × Output) → List ℤ
stop_inputs stops = map (λ (s : Spelled × Output). s.0.value) stops

abbrev pub stop_results : Want → Feature → List (Spelled × Output) → List Evaluated
stop_results want feature stops = map (λ (s : Spelled × Output). fit want (output_data feature s.1)) stops

abbrev pub numeric_result : RowData → Way → List (Spelled × Output) → Feature → ℤ → Evaluated
numeric_result row way stops feature v = way_result way (stop_inputs stops) (stop_results row.want feature stops) v

-- the input is equal to the value
abbrev pub is_input : Data → Input → Bool
is_input (boolean a) (flag b) = same_flag b a
is_input (number_data z) (number n) = int_eq n.value z
is_input (text s) (word t) = same_text t s
is_input _ _ = false

abbrev pub chosen_output : Data → List (Input × Output) → Option Output
chosen_output d [] = None
chosen_output d (s ∷ ss) = if is_input d s.0 then Some s.1 else chosen_output d ss

-- the output of the equal input, else the default
abbrev pub category_data : Data → Feature → Data → List (Input × Output) → Data
category_data default feature d stops = unwrap_or (option_map (output_data feature) (chosen_output d stops)) default

-- by a property: where it is a number, else the default
abbrev pub numeric_at : RowData → Way → List (Spelled × Output) → Data → Feature → Option Data → Evaluated
numeric_at row way stops default feature (Some (number_data z)) = numeric_result row way stops feature z
numeric_at row way stops default feature (Some _) = Ok default
numeric_at row way stops default feature None = Ok default

-- the result of a rule by a property, fitted to the row
abbrev pub rule_result : RowData → Data → Feature → Option Data → PropertyRule → Evaluated
rule_result row default feature found (numeric way stops) =
    then_value (numeric_at row way stops default feature found) (fit row.want)
rule_result row default feature found (categorical stops) =
    fit row.want (category_data default feature (unwrap_or found null) stops)

-- ---- identity: the property, where it is of the row's form, else the default

abbrev pub is_null : Data → Bool
is_null null = true
is_null _ = false

abbrev pub is_boolean : Data → Bool
is_boolean (boolean b) = true
is_boolean _ = false

abbrev pub is_number : Data → Bool
is_number (number_data z) = true
is_number _ = false

abbrev pub is_list : Data → Bool
is_list (list ds) = true
is_list _ = false

abbrev pub is_of_form : Want → Data → Bool
is_of_form wants.Number d = is_number d
is_of_form wants.Boolean d = is_boolean d
is_of_form (wants.List i n) d = is_list d
is_of_form (wants.EnumList c) d = is_list d
is_of_form wants.Shown d = not (is_null d)
is_of_form _ d = is_text d

abbrev pub identity_data : Want → Data → Option Data → Data
identity_data want default (Some d) = if is_of_form want d then d else default
identity_data want default None = default

-- ---- the whole

abbrev pub property_at : Option (List ℕ) → Feature → Option Data
property_at (Some name) feature = at_key name (pairs_of feature.properties)
property_at None feature = None

-- one rule goes by the property, or by the zoom where there is none
abbrev pub zoom_rule : RowData → Data → ℤ → Feature → PropertyRule → Evaluated
zoom_rule row default zoom feature (numeric way stops) = numeric_result row way stops feature zoom
zoom_rule row default zoom feature (categorical stops) = Ok default

abbrev pub plain_by : Option (List ℕ) → RowData → Data → ℤ → Feature → PropertyRule → Evaluated
plain_by (Some name) row default zoom feature rule =
    rule_result row default feature (at_key name (pairs_of feature.properties)) rule
plain_by None row default zoom feature rule = zoom_rule row default zoom feature rule

-- between zooms the results go linearly where the row ramps, else by interval
abbrev pub zoom_way : RowData → Way
zoom_way row = if row.reads.ramps then even else stepped

abbrev pub rule_zooms : List (Spelled × PropertyRule) → List ℤ
rule_zooms rules = map (λ (r : Spelled × PropertyRule). r.0.value) rules

abbrev pub rule_results : RowData → Data → Feature → Option Data → List (Spelled × PropertyRule) → List Evaluated
rule_results row default feature found rules =
    map (λ (r : Spelled × PropertyRule). rule_result row default feature found r.1) rules

abbrev pub body_result : RowData → Data → Function → ℤ → Feature → Body → Evaluated
body_result row default f zoom feature (plain rule) = plain_by f.property row default zoom feature rule
body_result row default f zoom feature (zoomed rules) =
    way_result (zoom_way row) (rule_zooms rules)
    (rule_results row default feature (property_at f.property feature) rules) zoom
body_result row default f zoom feature identity = Ok (identity_data row.want default (property_at f.property feature))

-- The value of a function of a row, at a zoom in millionths, fitted to the row; or its fault.
abbrev pub value_of : RowData → Function → ℤ → Feature → Evaluated
value_of row f zoom feature =
    then_value (body_result row (default_data row f feature) f zoom feature f.body) (fit row.want)
