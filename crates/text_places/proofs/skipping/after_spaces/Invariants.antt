use Rattle.std.proofs.Common.{◌≡◌, length}
use Rattle.text_places.specs.Skipping.{after_spaces}
use Rattle.text_places.proofs.skipping.after_spaces.Given as goal

abbrev pub invariant-loop-first : goal.invariant-loop-first
invariant-loop-first l = after_spaces l.rest ≡ after_spaces l.fn.text

abbrev pub decreases-loop-first : goal.decreases-loop-first
decreases-loop-first l = length l.rest
