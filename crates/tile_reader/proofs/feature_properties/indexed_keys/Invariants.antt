use Rattle.std.proofs.Common.{◌≡◌, take}
use Rattle.key_index.specs.Index.{IsIndexed}
use Rattle.tile_reader.specs.Ranges.{pair_keys, key_texts}
use Rattle.tile_reader.proofs.feature_properties.indexed_keys.Given as goal

abbrev pub invariant-loop-key : goal.invariant-loop-key
invariant-loop-key l = record {
  keys : key_texts l.made.keys.items ≡ pair_keys l.keys (take l.key-index l.pairs);
  index : IsIndexed l.made.index (pair_keys l.keys (take l.key-index l.pairs));
}
