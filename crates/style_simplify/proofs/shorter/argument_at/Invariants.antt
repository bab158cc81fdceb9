use Rattle.std.proofs.Common.{◌≡◌, drop}
use Rattle.std.specs.List.{slice_get}
use Rattle.style_simplify.specs.ShorterNodes.{arguments_in}
use Rattle.style_simplify.specs.View.{elements_seen}
use Rattle.style_simplify.proofs.shorter.argument_at.Given as goal

abbrev pub invariant-loop-element : goal.invariant-loop-element
invariant-loop-element l =
    slice_get (arguments_in (elements_seen (drop l.element-index l.elements))) l.before ≡ slice_get (arguments_in (elements_seen l.elements)) l.number
