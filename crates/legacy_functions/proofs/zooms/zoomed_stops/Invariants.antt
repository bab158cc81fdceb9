use Rattle.std.proofs.Common.{◌≡◌}
use Rattle.std.specs.Prelude.{map}
use Rattle.std.specs.Vec.Iter.{into_iter_items}
use Rattle.legacy_functions.specs.Form.{zoomed_stops}
use Rattle.legacy_functions.specs.GroupView.{zoomed_stop_seen}
use Rattle.legacy_functions.specs.PlacedView.{placed_stop_seen}
use Rattle.legacy_functions.proofs.StopLists.{after_found}
use Rattle.legacy_functions.proofs.zooms.zoomed_stops.Given as goal

abbrev pub invariant-loop-placed : goal.invariant-loop-placed
invariant-loop-placed l = after_found (map zoomed_stop_seen l.zoomed.items) (zoomed_stops (map placed_stop_seen (into_iter_items l.placed-iterator))) ≡ zoomed_stops (map placed_stop_seen l.fn.stops.items)
