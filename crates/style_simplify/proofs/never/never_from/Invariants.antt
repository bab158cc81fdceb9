use Rattle.std.proofs.Common.{◌≡◌, ◌++◌, drop}
use Rattle.decimal_json.specs.View.{items_view}
use Rattle.style_simplify.specs.SimplifiedStyle.{never_from}
use Rattle.style_simplify.proofs.never.never_from.Given as goal

abbrev pub invariant-loop-number : goal.invariant-loop-number
invariant-loop-number l =
    l.made.items ++ never_from l.number (items_view (drop l.number l.before)) (items_view l.after) ≡ never_from 0 (items_view l.before) (items_view l.after)
