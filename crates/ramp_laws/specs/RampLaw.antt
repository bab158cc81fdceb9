-- What is given at a stop is the output of the stop. Source: own.
use Rattle.std.specs.Prelude.{◌≡◌, ℕ, ◌+◌, ◌<◌, ℤ, List, length, Option, Some, None, Ok}
use Rattle.std.specs.List.{slice_get}
use Rattle.prop_values.specs.Data.{Data, number, pairs_of}
use Rattle.prop_values.specs.Equality.{at_key}
use Rattle.prop_values.specs.declared.kinds.Want.{Want}
use Rattle.prop_values.specs.declared.kinds.Want.TheVariants as wants
use Rattle.prop_values.specs.declared.outcome.Curve.{Curve}
use Rattle.interpolate_fixed.specs.PlaceFacts.{IsAscending}
use Rattle.interpolate_fixed.specs.Places.{input_at}
use Rattle.property_tables.specs.Fitting.{fit}
use Rattle.property_tables.specs.Rows.{RowData}
use Rattle.tile_reader.specs.declared.tile.Feature.{Feature}
use Rattle.expr_syntax.specs.Operators.{ramp_want}
use Rattle.expr_syntax.specs.Term.{Term, node, Terms, term}
use Rattle.expr_syntax.specs.declared.expression.Operator.TheVariants.{Step, Interpolate}
use Rattle.operator_values.specs.Evaluated.{then_value}
use Rattle.eval_face.specs.Branches.{output_at}
use Rattle.eval_face.specs.Meaning.{mean, means}
use Rattle.eval_face.specs.Names.{BoundOutcomes}
use Rattle.eval_face.specs.World.{World}
use Rattle.legacy_functions.specs.Function.{Spelled, Output, Way, PropertyRule, numeric, plain, zoomed, Function}
use Rattle.legacy_functions.specs.Meaning.{output_data, default_data, stop_inputs, rule_zooms, rule_result, property_at}
use Rattle.legacy_functions.specs.Meaning.{value_of}

-- ---- expressions; the inputs of each that was read ascend

-- Where the value of an `interpolate`, of any curve, is one of its inputs, and the `interpolate` gives a
-- value, it is the output of that input, fitted to the want. (At an input between others the next output is
-- evaluated too, and its fault counts; so does the fault WrongType where nothing is between the two.)
abbrev pub RampsGiveTheirOutputs : Type 0
RampsGiveTheirOutputs =
    (curve : Curve) (inputs : List ℤ) (value : Term) (outputs : Terms) (want : Want) (names : BoundOutcomes)
    (world : World) (i : ℕ) (d : Data) → IsAscending inputs → i < length inputs →
    mean value wants.Number names world ≡ Ok (number (input_at inputs i)) →
    mean (node (Interpolate (curve, inputs)) (term value outputs)) want names world ≡ Ok d →
    then_value (output_at (means outputs) i (ramp_want want) names world) (fit want) ≡ Ok d

-- Where the value of a `step` is one of its inputs, it gives what the output of that input gives, faults
-- included. The first output has no input.
abbrev pub StepsGiveTheirOutputs : Type 0
StepsGiveTheirOutputs =
    (inputs : List ℤ) (value : Term) (outputs : Terms) (want : Want) (names : BoundOutcomes) (world : World)
    (i : ℕ) → IsAscending inputs → i < length inputs →
    mean value wants.Number names world ≡ Ok (number (input_at inputs i)) →
    mean (node (Step inputs) (term value outputs)) want names world
    ≡ output_at (means outputs) (i + 1) want names world

-- ---- legacy functions; the stops of each that was read ascend

-- what a function goes by: the property, or the zoom where there is none
abbrev pub function_input : Option (List ℕ) → ℤ → Feature → Option Data
function_input (Some name) zoom feature = at_key name (pairs_of feature.properties)
function_input None zoom feature = Some (number zoom)

-- Where a function over numbers, even, curved or stepped, goes by the input of one of its stops, and it gives
-- a value, it is the output of that stop, fitted to the row.
abbrev pub FunctionsGiveTheirOutputs : Type 0
FunctionsGiveTheirOutputs =
    (row : RowData) (f : Function) (way : Way) (stops : List (Spelled × Output)) (zoom : ℤ) (feature : Feature)
    (i : ℕ) (stop : Spelled × Output) (d : Data) →
    f.body ≡ plain (numeric way stops) → IsAscending (stop_inputs stops) → slice_get stops i ≡ Some stop →
    function_input f.property zoom feature ≡ Some (number stop.0.value) →
    value_of row f zoom feature ≡ Ok d →
    fit row.want (output_data feature stop.1) ≡ Ok d

-- Where the zoom is one of those for which a function has rules, and the function gives a value, it is the
-- result of the rule for that zoom.
abbrev pub FunctionsGiveTheirRules : Type 0
FunctionsGiveTheirRules =
    (row : RowData) (f : Function) (rules : List (Spelled × PropertyRule)) (feature : Feature)
    (i : ℕ) (rule : Spelled × PropertyRule) (d : Data) →
    f.body ≡ zoomed rules → IsAscending (rule_zooms rules) → slice_get rules i ≡ Some rule →
    value_of row f rule.0.value feature ≡ Ok d →
    rule_result row (default_data row f feature) feature (property_at f.property feature) rule.1 ≡ Ok d

-- And the result of a rule over numbers is, where the property is the input of one of its stops, the output
-- of that stop.
abbrev pub RulesGiveTheirOutputs : Type 0
RulesGiveTheirOutputs =
    (row : RowData) (default : Data) (feature : Feature) (way : Way) (stops : List (Spelled × Output))
    (i : ℕ) (stop : Spelled × Output) (d : Data) →
    IsAscending (stop_inputs stops) → slice_get stops i ≡ Some stop →
    rule_result row default feature (Some (number stop.0.value)) (numeric way stops) ≡ Ok d →
    fit row.want (output_data feature stop.1) ≡ Ok d
