use Rattle.std.proofs.Common.{◌≡◌, ◌++◌, drop}
use Rattle.style_simplify.specs.SimpleElements.{without}
use Rattle.style_simplify.proofs.element.push_without.Given as goal

abbrev pub invariant-loop-asked : goal.invariant-loop-asked
invariant-loop-asked l = l.made.items ++ without l.names (drop l.asked-index l.asks) ≡ l.fn.made.items ++ without l.names l.asks
