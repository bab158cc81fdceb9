use Rattle.std.proofs.Common.{◌≡◌, take}
use Rattle.std.specs.Prelude.{map}
use Rattle.prop_values.specs.View.{data_of}
use Rattle.tile_reader.specs.View.{value_seen}
use Rattle.tile_reader.proofs.properties.values_of.Given as goal

abbrev pub invariant-loop-value : goal.invariant-loop-value
invariant-loop-value l = map data_of l.made.items ≡ map value_seen (take l.value-index l.held)
