use Rattle.std.proofs.Common.{◌≡◌, ◌++◌, drop}
use Rattle.legacy_functions.specs.Stops.{inputs_in}
use Rattle.legacy_functions.proofs.stops.stop_inputs.Given as goal

abbrev pub invariant-loop-stop : goal.invariant-loop-stop
invariant-loop-stop l = l.inputs.items ++ inputs_in (drop l.stop-index l.stops) ≡ inputs_in l.stops
