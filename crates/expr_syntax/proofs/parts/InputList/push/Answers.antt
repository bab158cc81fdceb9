use Rattle.std.proofs.Common.{sym, subst}
use Rattle.expr_syntax.specs.Stops.{IsAboveLast}
use Rattle.interpolate_fixed.specs.PlaceFacts.{IsAscending}
use Rattle.expr_syntax.proofs.StopLaws.{ascending_push}
use Rattle.expr_syntax.proofs.parts.InputList.push.Goals as goal

pub invariant_of-self-2 : goal.invariant_of-self-2
invariant_of-self-2 c =
    let above : IsAboveLast c.args.input c.self.inside.inputs.items = subst (IsAboveLast c.args.input) (sym c.self.view_is) c.requires in
    subst IsAscending (sym c.in_ok-push.ensures.items) (ascending_push c.self.inside.inputs.items c.args.input c.self.invariant above)
