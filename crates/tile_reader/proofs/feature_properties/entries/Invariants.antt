use Rattle.std.proofs.Common.{◌≡◌, take}
use Rattle.std.specs.Prelude.{map}
use Rattle.tile_reader.specs.Lookup.{pairs_seen}
use Rattle.prop_values.specs.View.{data_of}
use Rattle.tile_reader.proofs.feature_properties.entries.Given as goal

abbrev pub invariant-loop-key : goal.invariant-loop-key
invariant-loop-key l = l.entries ≡ pairs_seen l.keys (map data_of l.values) (take l.key-index l.pairs)
