use Rattle.std.proofs.Common.{ap, sym, subst}
use Rattle.std.specs.Prelude.{map}
use Rattle.prop_values.specs.declared.outcome.Curve.TheVariants.{Exponential}
use Rattle.interpolate_fixed.specs.Places.{place_of}
use Rattle.interpolate_fixed.specs.Warp.{warp_of}
use Rattle.operator_values.specs.Evaluated.{GivesValue}
use Rattle.legacy_functions.specs.Function.{Way}
use Rattle.legacy_functions.specs.Meaning.{numeric_result, ramp_result}
use Rattle.legacy_functions.specs.FunctionView.{results_in}
use Rattle.legacy_functions.specs.Parts.{stop_seen}
use Rattle.legacy_functions.specs.Stops.{inputs_in}
use Rattle.legacy_functions.specs.View.{row_of, way_seen}
use Rattle.legacy_functions.proofs.MeaningLaws.{number_given}
use Rattle.legacy_functions.proofs.meaning.numeric_value.Goals as goal

pub returns-in_ok-moved-in-Curved : goal.returns-in_ok-moved-in-Curved
returns-in_ok-moved-in-Curved c =
    let f = c.args.function.now in
    let stops = c.args.stops.now in
    let feature = c.args.feature.now in
    let r = c.ramp_value-in-Curved.result in
    subst (λ (way : Way). GivesValue r (numeric_result (row_of f) way (map stop_seen stops) feature c.args.input)) (sym (ap way_seen c.in-Curved.is))
    (number_given r (warp_of (Exponential c.in-Curved.base.value) (inputs_in stops) c.args.input) c.in_ok-moved-in-Curved.moved
    (λ x. ramp_result (inputs_in stops) (results_in f feature stops) x (place_of (inputs_in stops) x)) c.in_ok-moved-in-Curved.ensures c.ramp_value-in-Curved.ensures)
