use Rattle.std.proofs.Common.{◌≡◌, drop}
use Rattle.interpolate_fixed.specs.LinearLists.{list_of}
use Rattle.interpolate_fixed.proofs.Lists.{after_items}
use Rattle.interpolate_fixed.proofs.list.linear_list.Given as goal

-- the answer is what was made, and then what the items that are left give
abbrev pub invariant-loop-i : goal.invariant-loop-i
invariant-loop-i l = list_of l.x l.x0 l.a l.x1 l.b ≡ after_items l.items.items (list_of l.x l.x0 (drop l.i l.a) l.x1 (drop l.i l.b))
