use Rattle.std.proofs.Common.{◌≡◌, ◌+◌, ◌≤◌, map, take}
use Rattle.prop_values.specs.ViewParts.{evaluated_of}
use Rattle.expr_nodes.specs.Node.{total_size}
use Rattle.expr_nodes.specs.Outcome.{promises}
use Rattle.expr_nodes.proofs.workspace.Workspace.evaluate_bindings.Given as goal

-- what the bindings so far gave
abbrev pub invariant-loop-slot : goal.invariant-loop-slot
invariant-loop-slot g l =
    let world = g.W.WorldView.world l.world in
    let before = take l.slot (g.B.Bindings.listed l.bindings) in
    record {
      gives : map evaluated_of l.given.items ≡ promises before world;
      rises : l.fn.steps ≤ l.steps;
      paid : l.steps ≤ l.fn.steps + total_size before;
    }
