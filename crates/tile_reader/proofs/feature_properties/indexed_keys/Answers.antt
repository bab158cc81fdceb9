use Rattle.std.proofs.Common.{List, ℕ, sym, ◌∙◌, subst}
use Rattle.key_index.specs.Keys as index
use Rattle.tile_reader.proofs.PairKeys.{distinct_so_far, key_lacks}
use Rattle.tile_reader.proofs.feature_properties.indexed_keys.Goals as goal

pub push-requires-clause-distinct : goal.push-requires-clause-distinct
push-requires-clause-distinct c =
    subst index.HasDistinctKeys (sym c.loop-key.invariant.keys) (distinct_so_far c.args.keys.now c.args.pairs.now c.loop-key.key-index c.requires.distinct)

pub push-requires-clause-lacks : goal.push-requires-clause-lacks
push-requires-clause-lacks c =
    subst (λ (ks : List (List ℕ)). index.LacksKey c.in_ok-text.text ks) (sym c.loop-key.invariant.keys)
    (key_lacks c.args.keys.now c.args.pairs.now c.loop-key.key-index (0, 0) _ c.in_ok-text.text c.requires.distinct c.loop-key-test.true
    (c.requires.inside c.loop-key.key-index c.loop-key-test.true) (c.in_ok-text.ensures.same ∙ c.index-keys-key.is))
