use Rattle.std.proofs.Common.{◌≡◌}
use Rattle.std.specs.Prelude.{map}
use Rattle.std.specs.Vec.Iter.{into_iter_items}
use Rattle.legacy_functions.specs.Form.{rules_form}
use Rattle.legacy_functions.specs.FoundView.{way_read, way_seen_for}
use Rattle.legacy_functions.specs.GroupView.{group_seen}
use Rattle.legacy_functions.specs.View.{zoom_rule_seen}
use Rattle.legacy_functions.proofs.StopLists.{after_found}
use Rattle.legacy_functions.proofs.zooms.rules_form.Given as goal

abbrev pub invariant-loop-group : goal.invariant-loop-group
invariant-loop-group l =
    after_found (map (zoom_rule_seen (way_seen_for l.found)) l.rules.items) (rules_form (way_read l.found) (map group_seen (into_iter_items l.group-iterator)))
    ≡ rules_form (way_read l.found) (map group_seen l.fn.groups.items)
