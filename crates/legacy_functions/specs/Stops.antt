-- The inputs of stops over numbers.
use Rattle.std.specs.Prelude.{ℤ, List, map}
use Rattle.legacy_functions.specs.declared.function.NumberStop.{NumberStop}
use Rattle.legacy_functions.specs.Meaning.{stop_inputs}
use Rattle.legacy_functions.specs.Parts.{stop_seen}

-- in millionths
abbrev pub inputs_in : List NumberStop → List ℤ
inputs_in stops = stop_inputs (map stop_seen stops)
