use Rattle.std.proofs.Common.{◌≡◌, ◌++◌, length}
use Rattle.std.specs.Prelude.{replicate}
use Rattle.text_places.proofs.finding.find_here.Given as goal

abbrev pub invariant-loop-left : goal.invariant-loop-left
invariant-loop-left l = l.found.items ++ replicate l.left (length l.name) ≡ l.fn.found.items ++ replicate l.fn.count (length l.name)

abbrev pub decreases-loop-left : goal.decreases-loop-left
decreases-loop-left l = l.left
