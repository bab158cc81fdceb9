use Rattle.std.proofs.Common.{◌≡◌, drop}
use Rattle.style_simplify.specs.SimpleElements.{some_reads}
use Rattle.style_simplify.specs.View.{elements_seen}
use Rattle.style_simplify.proofs.element.some_reads.Given as goal

abbrev pub invariant-loop-element : goal.invariant-loop-element
invariant-loop-element l = some_reads (elements_seen (drop l.element-index l.elements)) ≡ some_reads (elements_seen l.elements)
