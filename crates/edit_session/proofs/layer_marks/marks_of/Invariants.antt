use Rattle.std.proofs.Common.{◌≡◌, ◌++◌, drop, map}
use Rattle.decimal_json.specs.View.{items_view}
use Rattle.edit_session.specs.LayerMarks.{layer_mark}
use Rattle.edit_session.proofs.layer_marks.marks_of.Given as goal

abbrev pub invariant-loop-layer : goal.invariant-loop-layer
invariant-loop-layer l =
    l.marks.items ++ map layer_mark (items_view (drop l.layer-index l.layers)) ≡ map layer_mark (items_view l.layers)
