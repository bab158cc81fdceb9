use Rattle.edit_session.proofs.RangedSettling.{Settling}
use Rattle.edit_session.proofs.session.Session.settle.Given as goal

abbrev pub invariant-loop-place : goal.invariant-loop-place
invariant-loop-place l = Settling l.fn.self l.place l.end l.self
