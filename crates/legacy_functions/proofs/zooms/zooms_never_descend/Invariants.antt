use Rattle.std.proofs.Common.{◌≡◌, drop}
use Rattle.std.specs.Prelude.{None, map}
use Rattle.legacy_functions.specs.Form.{zooms_never_descend}
use Rattle.legacy_functions.specs.GroupView.{zoomed_stop_seen}
use Rattle.legacy_functions.proofs.zooms.zooms_never_descend.Given as goal

abbrev pub invariant-loop-stop : goal.invariant-loop-stop
invariant-loop-stop l = zooms_never_descend l.before (map zoomed_stop_seen (drop l.stop-index l.stops)) ≡ zooms_never_descend None (map zoomed_stop_seen l.stops)
