use Rattle.std.proofs.Common.{◌≡◌, drop, length}
use Rattle.prop_values.specs.ViewParts.{items}
use Rattle.expr_types.specs.Ramping.{are_items_near}
use Rattle.expr_types.proofs.ramping.are_items_near.Given as goal

abbrev pub invariant-loop-place : goal.invariant-loop-place
invariant-loop-place l = (length l.from ≡ length l.to) × (are_items_near l.x0 (items (drop l.place l.from)) l.x1 (items (drop l.place l.to)) ≡ are_items_near l.x0 (items l.from) l.x1 (items l.to))
