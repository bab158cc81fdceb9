use Rattle.std.proofs.Common.{◌≡◌, ◌++◌, drop}
use Rattle.style_simplify.specs.ShorterNodes.{open_pairs}
use Rattle.style_simplify.specs.View.{element_seen, elements_seen}
use Rattle.style_simplify.specs.declared.conditions.CaseTurn.TheVariants.{Condition}
use Rattle.style_simplify.proofs.conditions.open_pairs.Given as goal

abbrev pub invariant-loop-element : goal.invariant-loop-element
invariant-loop-element l =
    elements_seen l.made.items ++ open_pairs l.turn (elements_seen (drop l.element-index l.pairs)) (element_seen l.last)
    ≡ open_pairs Condition (elements_seen l.pairs) (element_seen l.last)
