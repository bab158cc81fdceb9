use Rattle.std.proofs.Common.{◌≡◌, drop}
use Rattle.std.specs.Prelude.{map}
use Rattle.legacy_functions.specs.AskedParts.{stops_ask_feature}
use Rattle.legacy_functions.specs.Parts.{stop_seen}
use Rattle.legacy_functions.proofs.asked_parts.stops_ask_feature.Given as goal

abbrev pub invariant-loop-stop : goal.invariant-loop-stop
invariant-loop-stop l = stops_ask_feature (map stop_seen (drop l.stop-index l.stops)) ≡ stops_ask_feature (map stop_seen l.stops)
