use Rattle.std.proofs.Common.{◌≡◌, ◌++◌, take}
use Rattle.tile_reader.proofs.properties.add_pairs.Given as goal

abbrev pub invariant-loop-key : goal.invariant-loop-key
invariant-loop-key l = l.pairs.items ≡ l.fn.pairs.items ++ take l.key-index l.more
