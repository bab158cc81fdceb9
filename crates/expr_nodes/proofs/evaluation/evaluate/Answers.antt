use Rattle.std.proofs.Common.{◌∙◌, sym, ap, subst, arith, List}
use Rattle.expr_nodes.specs.declared.workspace.PromiseSlot.{PromiseSlot}
use Rattle.expr_nodes.specs.Outcome.{promises}
use Rattle.expr_nodes.specs.Slots.{pending, HoldPromises}
use Rattle.expr_nodes.proofs.NodeLaws.{size_pos}
use Rattle.expr_nodes.proofs.PromiseLaws.{promise_count}
use Rattle.expr_nodes.proofs.SlotLaws.{kept_waiting, pending_all}
use Rattle.expr_nodes.proofs.evaluation.evaluate.Goals as goal

pub evaluate_node-requires-clause-ready : goal.evaluate_node-requires-clause-ready
evaluate_node-requires-clause-ready g c =
    let world = g.W.WorldView.world c.args.world.now in
    let bs = g.B.Bindings.listed c.args.bindings.now in
    let P : List PromiseSlot → Type 0 = λ x. HoldPromises (promises bs world) x in
    record {
      within = omega (arith, c.count-limit.ensures);
      earlier = c.requires.earlier;
      kept = subst P (sym c.in-Ok.ensures) (kept_waiting (promises bs world) c.count-limit.result (promise_count bs world ∙ sym c.count-limit.ensures));
    }

pub returns-clause-most : goal.returns-clause-most
returns-clause-most g c =
    let bs = g.B.Bindings.listed c.args.bindings.now in
    let q = ap (pending c.count-limit.result bs) c.in-Ok.ensures in
    let r = pending_all bs c.count-limit.result (sym c.count-limit.ensures) in
    omega (arith, c.evaluate_node.ensures.all.most)

pub returns-in_default-clause-most : goal.returns-in_default-clause-most
returns-in_default-clause-most g c =
    let s = size_pos (g.N.NodeHandle.node c.args.tree) in
    omega (arith, c.tick.ensures)
