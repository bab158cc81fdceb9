use Rattle.std.proofs.Common.{◌∙◌, List, ap, sym, get_or}
use Rattle.property_tables.specs.Fitting.{fit}
use Rattle.legacy_functions.specs.Meaning.{output_data}
use Rattle.legacy_functions.specs.Parts.{output_seen}
use Rattle.legacy_functions.specs.View.{row_of}
use Rattle.legacy_functions.specs.declared.function.NumberStop.{NumberStop}
use Rattle.legacy_functions.specs.declared.function.Output.{Output}
use Rattle.legacy_functions.proofs.MeaningLaws.{stop_result_at}
use Rattle.legacy_functions.proofs.meaning.literal_result.Goals as goal

pub returns-in-Literal : goal.returns-in-Literal
returns-in-Literal c = λ feature.
    let stops = c.args.stops.now in
    let place = c.args.place in
    let stop = c.index-stops-place.result in
    let want = (row_of c.args.function.now).want in
    stop_result_at want feature stops place stop c.requires
    ∙ ap (λ (ss : List NumberStop). fit want (output_data feature (output_seen (get_or ss place stop).output))) (sym c.as_slice-stops.ensures.stops)
    ∙ ap (λ (o : Output). fit want (output_data feature (output_seen o))) c.in-Literal.is
    ∙ c.passes_by_kind.ensures c.if-passes_by_kind.true
