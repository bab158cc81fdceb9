use Rattle.std.proofs.Common.{◌≡◌, replicate}
use Rattle.expr_nodes.specs.declared.workspace.PromiseSlot.TheVariants.{Waiting}
use Rattle.expr_nodes.proofs.workspace.Workspace.begin.Given as goal

abbrev pub invariant-loop-slot : goal.invariant-loop-slot
invariant-loop-slot l = l.self.slots.items ≡ replicate l._slot Waiting
