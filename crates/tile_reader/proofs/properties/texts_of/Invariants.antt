use Rattle.std.proofs.Common.{◌≡◌, take}
use Rattle.tile_reader.specs.View.{texts_seen}
use Rattle.tile_reader.proofs.properties.texts_of.Given as goal

abbrev pub invariant-loop-key : goal.invariant-loop-key
invariant-loop-key l = l.texts.items ≡ texts_seen (take l.key-index l.keys)
