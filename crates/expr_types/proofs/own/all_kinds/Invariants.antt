use Rattle.std.proofs.Common.{◌≡◌, drop}
use Rattle.expr_types.specs.Own.{all_kinds}
use Rattle.expr_types.proofs.own.all_kinds.Given as goal

abbrev pub invariant-loop-other : goal.invariant-loop-other
invariant-loop-other l = all_kinds l.kind (drop l.other-index l.kinds) ≡ all_kinds l.kind l.kinds
