use Rattle.std.proofs.Common.{◌≡◌, drop}
use Rattle.expr_syntax.specs.NameIndex.{last_place, or_last}
use Rattle.expr_syntax.proofs.bound_names.walked_place.Given as goal

abbrev pub invariant-loop-place : goal.invariant-loop-place
invariant-loop-place l = or_last (last_place l.place (drop l.place l.names) l.name) l.found ≡ last_place 0 l.names l.name
