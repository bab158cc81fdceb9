use Rattle.std.proofs.Common.{sym, subst}
use Rattle.feature_index.specs.Indexes.{AreEntries}
use Rattle.feature_index.proofs.IndexLaws.{entries_last}
use Rattle.feature_index.proofs.indexes.FeatureIndexes.add.Goals as goal

pub returns : goal.returns
returns c = λ tiles are.
    subst (AreEntries tiles) (sym c.in-Ok.ensures.items) (entries_last tiles c.args.self.now.layers.items _ are tt)
