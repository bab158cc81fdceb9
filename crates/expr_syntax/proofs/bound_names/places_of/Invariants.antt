use Rattle.std.proofs.Common.{drop}
use Rattle.expr_syntax.proofs.NameIndexLaws.{ArePlacesWith}
use Rattle.expr_syntax.proofs.bound_names.places_of.Given as goal

abbrev pub invariant-loop-place : goal.invariant-loop-place
invariant-loop-place l = ArePlacesWith l.places l.place (drop l.place l.names) l.names
