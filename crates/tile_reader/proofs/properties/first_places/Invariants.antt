use Rattle.std.proofs.Common.{◌≡◌, ℕ, ◌<◌, [], length, take}
use Rattle.std.specs.Prelude.{Some, slice_index, slice_index_or}
use Rattle.tile_reader.specs.Lookup.{AreTextPlaces, text_place}
use Rattle.tile_reader.specs.View.{texts_seen}
use Rattle.tile_reader.proofs.properties.first_places.Given as goal

abbrev pub invariant-loop-index : goal.invariant-loop-index
invariant-loop-index l = record {
  long : length l.firsts.items ≡ l.index;
  places : AreTextPlaces l.places (take l.index (texts_seen l.keys));
  firsts : (i : ℕ) → i < l.index → text_place (slice_index_or (texts_seen l.keys) i []) (texts_seen l.keys) ≡ Some (slice_index l.firsts.items i);
}
