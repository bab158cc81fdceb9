use Rattle.std.proofs.Common.{◌≡◌, ◌++◌, ◌∷◌, drop}
use Rattle.style_simplify.specs.View.{element_seen, elements_seen}
use Rattle.style_simplify.proofs.literal_role.headed.Given as goal

abbrev pub invariant-loop-element : goal.invariant-loop-element
invariant-loop-element l =
    elements_seen l.made.items ++ elements_seen (drop l.element-index l.elements) ≡ element_seen l.head ∷ elements_seen l.elements
