use Rattle.std.proofs.Common.{◌≡◌, ◌∙◌, [], ap, sym, arith}
use Rattle.std.proofs.lemmas.Grind.{common_steps}
use Rattle.std.specs.Prelude.{map}
use Rattle.std.specs.Vec.Iter.{into_iter_items}
use Rattle.legacy_functions.specs.Form.{by_zoom}
use Rattle.legacy_functions.specs.GroupView.{zoomed_stop_seen, group_seen, onto}
use Rattle.legacy_functions.proofs.GroupLaws.{onto_none}
use Rattle.legacy_functions.proofs.zooms.groups_of.Goals as goal

pub returns : goal.returns
returns c =
    let groups = map group_seen c.loop-stop.groups.items in
    let none : into_iter_items c.loop-stop.stop-iterator ≡ [] = grind (arith, common_steps) in
    sym (onto_none groups) ∙ (ap (λ stops. onto groups (by_zoom (map zoomed_stop_seen stops))) (sym none) ∙ c.loop-stop.invariant)
