use Rattle.std.proofs.Common.{◌≡◌, [], drop, length}
use Rattle.std.specs.Prelude.{map}
use Rattle.tile_reader.specs.Properties.{features_of}
use Rattle.tile_reader.specs.Ranges.{AreRanges, features_in, count_of_pairs, count_of_ids}
use Rattle.prop_values.specs.View.{data_of}
use Rattle.tile_reader.specs.View.{HasAllTags, tagged_all}
use Rattle.tile_reader.proofs.properties.chosen_features.Given as goal

abbrev pub invariant-loop-feature : goal.invariant-loop-feature
invariant-loop-feature l = record {
  places : length l.choice.places.items ≡ length l.table.keys.now;
  tags : HasAllTags (drop l.feature-index l.tagged) l.rest;
  long : count_of_pairs l.chosen.items ≡ length l.pairs.items;
  many : count_of_ids l.chosen.items ≡ length l.ids.items;
  ranges : AreRanges l.table.keys.now (map data_of l.table.values.now) l.pairs.items 0 l.chosen.items;
  read : features_of l.table.keys.now (map data_of l.table.values.now) (features_in l.table.keys.now (map data_of l.table.values.now) l.pairs.items l.ids.items 0 l.chosen.items) (tagged_all (drop l.feature-index l.tagged) l.rest) ≡ features_of l.table.keys.now (map data_of l.table.values.now) [] (tagged_all l.tagged l.fn.tags);
}
