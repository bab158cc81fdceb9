use Rattle.std.proofs.Common.{◌≡◌, drop, true}
use Rattle.std.specs.Result.{is_ok}
use Rattle.prop_values.specs.ViewParts.{items}
use Rattle.operator_values.specs.Ramps.{list_between, pairs_in}
use Rattle.operator_values.proofs.Lists.{after}
use Rattle.operator_values.proofs.ramps.list_between.Given as goal

abbrev pub invariant-loop-i : goal.invariant-loop-i
invariant-loop-i l = record {
  pairs : is_ok (pairs_in (items (drop l.i l.a)) (items (drop l.i l.b))) ≡ true;
  same : after l.between (list_between l.x l.x0 l.x1 (pairs_in (items (drop l.i l.a)) (items (drop l.i l.b)))) ≡ list_between l.x l.x0 l.x1 (pairs_in (items l.a) (items l.b));
}
