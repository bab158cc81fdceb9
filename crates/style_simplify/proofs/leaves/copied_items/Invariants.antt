use Rattle.std.proofs.Common.{◌≡◌, ◌++◌, drop}
use Rattle.decimal_json.specs.View.{items_view}
use Rattle.style_simplify.proofs.leaves.copied_items.Given as goal

abbrev pub invariant-loop-item : goal.invariant-loop-item
invariant-loop-item l = l.made ++ items_view (drop l.item-index l.items) ≡ items_view l.items
