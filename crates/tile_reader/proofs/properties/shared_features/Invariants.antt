use Rattle.std.proofs.Common.{◌≡◌, ◌++◌, drop}
use Rattle.std.specs.Prelude.{map}
use Rattle.prop_values.specs.View.{data_of}
use Rattle.tile_reader.specs.Ranges.{AreRanges, features_in}
use Rattle.tile_reader.proofs.properties.shared_features.Given as goal

abbrev pub invariant-loop-feature : goal.invariant-loop-feature
invariant-loop-feature l = record {
  ranges : AreRanges l.table.value.keys.items (map data_of l.table.value.values.items) l.table.value.pairs.items l.first (drop l.feature-index l.chosen);
  features : l.features ++ features_in l.table.value.keys.items (map data_of l.table.value.values.items) l.table.value.pairs.items l.rest l.first (drop l.feature-index l.chosen) ≡ features_in l.table.value.keys.items (map data_of l.table.value.values.items) l.table.value.pairs.items l.fn.ids 0 l.chosen;
}
