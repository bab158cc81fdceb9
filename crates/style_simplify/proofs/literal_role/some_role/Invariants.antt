use Rattle.std.proofs.Common.{◌≡◌, drop}
use Rattle.style_simplify.specs.ShorterNodes.{some_role}
use Rattle.style_simplify.specs.View.{elements_seen}
use Rattle.style_simplify.proofs.literal_role.some_role.Given as goal

abbrev pub invariant-loop-element : goal.invariant-loop-element
invariant-loop-element l = some_role l.op (elements_seen (drop l.element-index l.elements)) ≡ some_role l.op (elements_seen l.elements)
