use Rattle.std.proofs.Common.{◌≡◌, ◌+◌, ap, ◌∙◌, drop, length, get_or}
use Rattle.prop_values.specs.declared.kinds.Kind.TheVariants as kinds
use Rattle.expr_types.specs.Own.{common_kind}
use Rattle.expr_types.specs.CommonKinds.{common_after}
use Rattle.expr_types.specs.OwnTable.{output_kinds}
use Rattle.expr_types.proofs.KindLaws.{output_turn}
use Rattle.expr_types.proofs.table.common_output.Goals as goal

pub loop-place-preserved : goal.loop-place-preserved
loop-place-preserved c =
    ap (λ o. common_after o (output_kinds (length c.args.kinds.now) (c.loop-place.place + 1) (drop (c.loop-place.place + 1) c.args.kinds.now))) c.noted-common.ensures ∙
    output_turn c.args.kinds.now (length c.args.kinds.now) c.loop-place.place kinds.Any c.loop-place.common c.is_output.result (common_kind (output_kinds (length c.args.kinds.now) 0 c.args.kinds.now)) c.loop-place.invariant c.loop-place-test.true c.is_output.ensures
