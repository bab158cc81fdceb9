use Rattle.std.proofs.Common.{◌≡◌, drop}
use Rattle.expr_types.specs.Own.{some_kind}
use Rattle.expr_types.proofs.own.some_kind.Given as goal

abbrev pub invariant-loop-other : goal.invariant-loop-other
invariant-loop-other l = some_kind l.kind (drop l.other-index l.kinds) ≡ some_kind l.kind l.kinds
