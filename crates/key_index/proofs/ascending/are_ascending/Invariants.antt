use Rattle.std.proofs.Common.{take}
use Rattle.std.specs.Prelude.{map}
use Rattle.key_index.specs.Ascending.{IsAscending}
use Rattle.key_index.proofs.ascending.are_ascending.Given as goal

abbrev pub invariant-loop-place : goal.invariant-loop-place
invariant-loop-place g l = IsAscending (take l.place (map g.T.Keyed.key l.entries))
