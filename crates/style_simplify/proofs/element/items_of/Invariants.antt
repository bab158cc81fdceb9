use Rattle.std.proofs.Common.{◌≡◌, ◌++◌, map}
use Rattle.style_simplify.specs.SimpleElements.{tree_in}
use Rattle.style_simplify.specs.View.{elements_seen}
use Rattle.style_simplify.proofs.element.items_of.Given as goal

abbrev pub invariant-loop-element : goal.invariant-loop-element
invariant-loop-element l = l.items ++ map tree_in (elements_seen l.element-iterator.rest.items) ≡ map tree_in (elements_seen l.fn.elements.items)
