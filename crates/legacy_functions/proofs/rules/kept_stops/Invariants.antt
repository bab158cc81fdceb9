use Rattle.std.proofs.Common.{◌≡◌, ◌++◌}
use Rattle.std.specs.Prelude.{None, map}
use Rattle.std.specs.Vec.Iter.{into_iter_items}
use Rattle.legacy_functions.specs.Form.{without_repeated, number_stops}
use Rattle.legacy_functions.specs.Parts.{category_seen, stop_seen}
use Rattle.legacy_functions.proofs.rules.kept_stops.Given as goal

abbrev pub invariant-loop-stop : goal.invariant-loop-stop
invariant-loop-stop l =
    map stop_seen l.kept.items ++ without_repeated l.before (number_stops (map category_seen (into_iter_items l.stop-iterator)))
    ≡ without_repeated None (number_stops (map category_seen l.fn.stops.items))
