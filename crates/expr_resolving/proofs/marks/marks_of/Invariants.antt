use Rattle.std.proofs.Common.{◌≡◌, ◌++◌, drop}
use Rattle.fit_laws.specs.MarkedNodes.{marks_of}
use Rattle.expr_resolving.proofs.marks.marks_of.Given as goal

abbrev pub invariant-loop-place : goal.invariant-loop-place
invariant-loop-place l = l.marks.items ++ marks_of (drop l.place-index l.places) ≡ marks_of l.places
