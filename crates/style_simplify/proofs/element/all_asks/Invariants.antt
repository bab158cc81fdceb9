use Rattle.std.proofs.Common.{◌≡◌, ◌++◌, drop}
use Rattle.style_simplify.specs.SimpleElements.{all_asks}
use Rattle.style_simplify.specs.View.{elements_seen}
use Rattle.style_simplify.proofs.element.all_asks.Given as goal

abbrev pub invariant-loop-element : goal.invariant-loop-element
invariant-loop-element l = l.made.items ++ all_asks (elements_seen (drop l.element-index l.elements)) ≡ all_asks (elements_seen l.elements)
