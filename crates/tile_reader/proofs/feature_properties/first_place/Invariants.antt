use Rattle.std.proofs.Common.{◌≡◌, drop}
use Rattle.key_index.specs.Keys.{place_from}
use Rattle.tile_reader.specs.Ranges.{pair_keys}
use Rattle.tile_reader.proofs.feature_properties.first_place.Given as goal

abbrev pub invariant-loop-place : goal.invariant-loop-place
invariant-loop-place l = place_from l.place l.key (pair_keys l.keys (drop l.place l.pairs)) ≡ place_from 0 l.key (pair_keys l.keys l.pairs)
