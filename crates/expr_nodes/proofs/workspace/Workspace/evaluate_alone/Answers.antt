use Rattle.std.proofs.Common.{arith, [], sym, subst}
use Rattle.expr_nodes.specs.Slots.{HoldPromises}
use Rattle.expr_nodes.proofs.workspace.Workspace.evaluate_alone.Goals as goal

pub evaluate_node-requires-clause-ready : goal.evaluate_node-requires-clause-ready
evaluate_node-requires-clause-ready g c =
    record {
      within = omega arith;
      earlier = λ i n e. absurd (cc);
      kept = subst (λ slots. HoldPromises [] slots) (sym c.clear.ensures) tt;
    }
