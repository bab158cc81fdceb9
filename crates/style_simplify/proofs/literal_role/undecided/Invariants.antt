use Rattle.std.proofs.Common.{◌≡◌, ◌++◌, drop}
use Rattle.style_simplify.specs.ShorterNodes.{undecided}
use Rattle.style_simplify.specs.View.{elements_seen}
use Rattle.style_simplify.proofs.literal_role.undecided.Given as goal

abbrev pub invariant-loop-element : goal.invariant-loop-element
invariant-loop-element l =
    elements_seen l.made.items ++ undecided l.op (elements_seen (drop l.element-index l.elements)) ≡ undecided l.op (elements_seen l.elements)
