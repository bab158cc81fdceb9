use Rattle.std.proofs.Common.{◌≡◌, drop, true}
use Rattle.style_simplify.specs.ShorterNodes.{some_condition}
use Rattle.style_simplify.specs.View.{elements_seen}
use Rattle.style_simplify.proofs.conditions.some_condition.Given as goal

abbrev pub invariant-loop-element : goal.invariant-loop-element
invariant-loop-element l = some_condition l.is_condition (elements_seen (drop l.element-index l.pairs)) ≡ some_condition true (elements_seen l.pairs)
