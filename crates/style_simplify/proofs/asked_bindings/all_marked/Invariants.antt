use Rattle.std.proofs.Common.{◌≡◌, drop}
use Rattle.style_simplify.specs.AskedBindings.{all_marked}
use Rattle.style_simplify.proofs.asked_bindings.all_marked.Given as goal

abbrev pub invariant-loop-mark : goal.invariant-loop-mark
invariant-loop-mark l = all_marked (drop l.mark-index l.marks) ≡ all_marked l.marks
