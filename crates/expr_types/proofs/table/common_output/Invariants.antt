use Rattle.std.proofs.Common.{◌≡◌, drop, length}
use Rattle.expr_types.specs.Own.{common_kind}
use Rattle.expr_types.specs.CommonKinds.{common_after}
use Rattle.expr_types.specs.OwnTable.{output_kinds}
use Rattle.expr_types.proofs.table.common_output.Given as goal

abbrev pub invariant-loop-place : goal.invariant-loop-place
invariant-loop-place l = common_after l.common (output_kinds (length l.kinds) l.place (drop l.place l.kinds)) ≡ common_kind (output_kinds (length l.kinds) 0 l.kinds)
