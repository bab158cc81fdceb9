use Rattle.std.proofs.Common.{◌≡◌, [], length}
use Rattle.std.specs.Prelude.{map}
use Rattle.tile_reader.specs.Lookup.{ArePlaces, AreInside, pairs_seen}
use Rattle.prop_values.specs.View.{data_of}
use Rattle.tile_reader.proofs.Chosen.{after_pairs}
use Rattle.tile_reader.proofs.properties.choose.Given as goal

abbrev pub invariant-loop-key : goal.invariant-loop-key
invariant-loop-key l = record {
  long : length l.choice.places.items ≡ length l.keys;
  places : ArePlaces l.choice.places.items l.choice.pairs.items;
  inside : AreInside l.firsts (length l.values) l.choice.pairs.items;
  left : after_pairs l.keys (map data_of l.values) (pairs_seen l.keys (map data_of l.values) l.choice.pairs.items) l.rest ≡ after_pairs l.keys (map data_of l.values) [] l.fn.tags;
}

abbrev pub decreases-loop-key : goal.decreases-loop-key
decreases-loop-key l = length l.rest
