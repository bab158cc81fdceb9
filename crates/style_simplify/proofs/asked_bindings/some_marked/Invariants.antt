use Rattle.std.proofs.Common.{◌≡◌, drop}
use Rattle.style_simplify.specs.AskedBindings.{some_marked}
use Rattle.style_simplify.proofs.asked_bindings.some_marked.Given as goal

abbrev pub invariant-loop-mark : goal.invariant-loop-mark
invariant-loop-mark l = some_marked (drop l.mark-index l.marks) ≡ some_marked l.marks
