use Rattle.std.proofs.Common.{◌≡◌, drop}
use Rattle.style_simplify.specs.SimpleElements.{argument_kinds}
use Rattle.style_simplify.specs.View.{elements_seen}
use Rattle.style_simplify.proofs.ElementLaws.{after_kinds}
use Rattle.style_simplify.proofs.element.argument_kinds.Given as goal

abbrev pub invariant-loop-element : goal.invariant-loop-element
invariant-loop-element l =
    after_kinds l.kinds.items (argument_kinds (elements_seen (drop l.element-index l.elements))) ≡ argument_kinds (elements_seen l.elements)
