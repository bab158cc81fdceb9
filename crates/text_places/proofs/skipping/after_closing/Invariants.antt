use Rattle.std.proofs.Common.{◌≡◌, false, length}
use Rattle.text_places.specs.Skipping.{after_closing}
use Rattle.text_places.proofs.skipping.after_closing.Given as goal

abbrev pub invariant-loop-first : goal.invariant-loop-first
invariant-loop-first l = after_closing l.escaped l.rest ≡ after_closing false l.fn.text

abbrev pub decreases-loop-first : goal.decreases-loop-first
decreases-loop-first l = length l.rest
