use Rattle.std.proofs.Common.{◌≡◌, ◌++◌, drop}
use Rattle.style_simplify.specs.AskedBindings.{asked_elements}
use Rattle.style_simplify.specs.View.{elements_seen}
use Rattle.style_simplify.proofs.asked_bindings.asked_elements.Given as goal

abbrev pub invariant-loop-at : goal.invariant-loop-at
invariant-loop-at l =
    elements_seen l.made.items ++ asked_elements l.marks l.at (elements_seen (drop l.at l.bindings)) ≡ asked_elements l.marks 0 (elements_seen l.bindings)
