use Rattle.std.proofs.Common.{◌≡◌, ◌+◌, ◌≤◌, drop, length}
use Rattle.style_simplify.specs.ShorterNodes.{arguments_in}
use Rattle.style_simplify.specs.View.{elements_seen}
use Rattle.style_simplify.proofs.shorter.argument_count.Given as goal

abbrev pub invariant-loop-element : goal.invariant-loop-element
invariant-loop-element l =
    (l.count + length (arguments_in (elements_seen (drop l.element-index l.elements))) ≡ length (arguments_in (elements_seen l.elements)))
    × (l.count ≤ l.element-index)
