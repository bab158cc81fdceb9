use Rattle.std.proofs.Common.{sym, subst}
use Rattle.std.specs.Prelude.{IfSome}
use Rattle.style_layout.specs.CodeView.{layer_seen}
use Rattle.feature_index.specs.Ids.{IsIndexed}
use Rattle.feature_index.specs.Indexes.{IsEntryOf, IsOfLayer, ids_of}
use Rattle.feature_index.proofs.IndexLaws.{entry_at, features_shown, some_of}
use Rattle.feature_index.proofs.indexes.FeatureIndexes.find.Goals as goal

pub returns-in-Some : goal.returns-in-Some
returns-in-Some c = λ tiles are.
    let es = c.args.self.now.layers.items in
    let layer = layer_seen c.args.layer.now in
    let place = c.in-Some.place in
    let entry = c.index.result.now in
    let right = subst (IsEntryOf tiles) (sym c.index.ensures) (entry_at tiles es place entry c.in-Some.ensures.within are) in
    let here = subst (IsOfLayer layer) (sym c.index.ensures) (c.in-Some.ensures.layer entry) in
    some_of _ (λ index. IsIndexed index _) c.as_ref.result entry.index c.as_ref.ensures.value
    (subst (λ fs. IfSome entry.index (λ index. IsIndexed index (ids_of fs))) (features_shown tiles layer entry here c.requires) right)
