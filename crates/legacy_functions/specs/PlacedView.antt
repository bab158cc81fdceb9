-- What clauses see of stops as they are.
use Rattle.std.specs.Prelude.{Option, option_map}
use Rattle.legacy_functions.specs.declared.function.Input.{Input as InputValue}
use Rattle.legacy_functions.specs.declared.function.Spelled.{Spelled as SpelledValue}
use Rattle.legacy_functions.specs.declared.placed.PlacedStop.{PlacedStop as PlacedValue}
use Rattle.legacy_functions.specs.Form.{PlacedInput, PlacedStop}
use Rattle.legacy_functions.specs.Parts.{spelled_seen, input_seen, output_seen}

abbrev pub placed_input_seen : Option SpelledValue × InputValue → PlacedInput
placed_input_seen p = (option_map spelled_seen p.0, input_seen p.1)

abbrev pub placed_stop_seen : PlacedValue → PlacedStop
placed_stop_seen s = ((option_map spelled_seen s.zoom, input_seen s.stop.input), output_seen s.stop.output)
