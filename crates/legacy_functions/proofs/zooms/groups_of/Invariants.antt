use Rattle.std.proofs.Common.{◌≡◌}
use Rattle.std.specs.Prelude.{map}
use Rattle.std.specs.Vec.Iter.{into_iter_items}
use Rattle.legacy_functions.specs.Form.{by_zoom}
use Rattle.legacy_functions.specs.GroupView.{zoomed_stop_seen, group_seen, onto}
use Rattle.legacy_functions.proofs.zooms.groups_of.Given as goal

abbrev pub invariant-loop-stop : goal.invariant-loop-stop
invariant-loop-stop l = onto (map group_seen l.groups.items) (by_zoom (map zoomed_stop_seen (into_iter_items l.stop-iterator))) ≡ by_zoom (map zoomed_stop_seen l.fn.stops.items)
