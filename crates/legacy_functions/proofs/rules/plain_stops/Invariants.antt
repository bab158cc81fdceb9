use Rattle.std.proofs.Common.{◌≡◌}
use Rattle.std.specs.Prelude.{map}
use Rattle.std.specs.Vec.Iter.{into_iter_items}
use Rattle.legacy_functions.specs.Form.{plain_stops}
use Rattle.legacy_functions.specs.Parts.{category_seen}
use Rattle.legacy_functions.specs.PlacedView.{placed_stop_seen}
use Rattle.legacy_functions.proofs.StopLists.{after_found}
use Rattle.legacy_functions.proofs.rules.plain_stops.Given as goal

abbrev pub invariant-loop-placed : goal.invariant-loop-placed
invariant-loop-placed l = after_found (map category_seen l.plain.items) (plain_stops (map placed_stop_seen (into_iter_items l.placed-iterator))) ≡ plain_stops (map placed_stop_seen l.fn.stops.items)
