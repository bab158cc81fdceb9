use Rattle.std.proofs.Common.{◌≡◌, drop, length}
use Rattle.std.specs.Result.{is_ok}
use Rattle.prop_values.specs.ViewParts.{items}
use Rattle.operator_values.specs.Ramps.{pairs_in}
use Rattle.operator_values.proofs.ramps.are_pairs.Given as goal

abbrev pub invariant-loop-i : goal.invariant-loop-i
invariant-loop-i l = (length l.a ≡ length l.b) × (is_ok (pairs_in (items (drop l.i l.a)) (items (drop l.i l.b))) ≡ is_ok (pairs_in (items l.a) (items l.b)))
