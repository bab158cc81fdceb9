use Rattle.std.proofs.Common.{take}
use Rattle.decimal_json.specs.View.{items_view}
use Rattle.edit_findings.specs.FoundAfter.{AreKeyed}
use Rattle.edit_findings.proofs.after.layers_have_distinct_members.Given as goal

abbrev pub invariant-loop-layer : goal.invariant-loop-layer
invariant-loop-layer l = AreKeyed (items_view (take l.layer-index l.layers))
