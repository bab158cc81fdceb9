use Rattle.std.proofs.Common.{◌∙◌}
use Rattle.tile_reader.proofs.Pairs.{entries_lack}
use Rattle.tile_reader.proofs.feature_properties.entries.Goals as goal

pub push-requires : goal.push-requires
push-requires c =
    entries_lack c.args.keys.now _ c.args.pairs.now c.loop-key.key-index (0, 0) _ c.loop-key.entries c.in_ok-text.text c.requires.distinct c.loop-key-test.true
    ((c.requires.inside c.loop-key.key-index c.loop-key-test.true).0) c.loop-key.invariant (c.in_ok-text.ensures.same ∙ c.index-keys-key.is)
