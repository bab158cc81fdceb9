use Rattle.std.proofs.Common.{take}
use Rattle.std.specs.Prelude.{map}
use Rattle.key_index.specs.Table.{IsTable}
use Rattle.key_index.proofs.table.Table.of.Given as goal

abbrev pub invariant-loop-place : goal.invariant-loop-place
invariant-loop-place g l = IsTable l.table (take l.place (map g.T.Keyed.key l.entries))
