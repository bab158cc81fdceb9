use Rattle.std.proofs.Common.{List, ℕ, sym, subst}
use Rattle.std.specs.Prelude.{map}
use Rattle.key_index.specs.Keys as index
use Rattle.prop_values.specs.View.{data_of}
use Rattle.tile_reader.specs.Ranges.{pair_keys}
use Rattle.tile_reader.proofs.PairKeys.{distinct_pairs}
use Rattle.tile_reader.proofs.feature_properties.keys_of.Goals as goal

pub indexed_keys-requires-clause-distinct : goal.indexed_keys-requires-clause-distinct
indexed_keys-requires-clause-distinct c =
    subst (λ (ks : List (List ℕ)). index.HasDistinctKeys (pair_keys ks c.pairs_in-pairs.result.now)) (sym c.as_slice.ensures.value)
    (subst (λ (ps : List (ℕ × ℕ)). index.HasDistinctKeys (pair_keys c.args.table.now.keys.items ps)) (sym c.pairs_in-pairs.ensures)
    (distinct_pairs c.args.table.now.keys.items (map data_of c.args.table.now.values.items) _ c.requires.distinct))
