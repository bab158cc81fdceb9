use Rattle.std.proofs.Common.{◌≡◌, ◌∙◌, ◌∷◌, ◌++◌, [], ap, drop, length, map, suc, sym, subst, take}
use Rattle.style_layout.specs.CodeView.{layer_seen, tile_seen}
use Rattle.style_layout.specs.Shown.{layer_features}
use Rattle.style_layout.specs.Walk.{features_left}
use Rattle.feature_index.specs.Ids.{IsIndexed}
use Rattle.feature_index.specs.Indexes.{ids_of}
use Rattle.feature_index.proofs.ChainLaws.{one_more}
use Rattle.feature_index.proofs.IndexLaws.{drop_more, ids_left, ids_numbered, take_more}
use Rattle.feature_index.proofs.indexes.index_of.Goals as goal

pub loop-next-init : goal.loop-next-init
loop-next-init c =
    let fs = layer_features (map tile_seen c.args.tiles.now) (layer_seen c.args.layer.now) in
    let none = c.new-index.ensures.counted in
    record {
      few = c.new-features.ensures.few;
      indexed = subst (λ n. IsIndexed c.new-index.result (take n (ids_of fs))) (sym none) c.new-index.ensures;
      left = ap ids_left c.new-features.ensures.left ∙ (ids_numbered 0 fs ∙ ap (λ n. drop n (ids_of fs)) (sym none));
    }

pub loop-next-preserved : goal.loop-next-preserved
loop-next-preserved c =
    let all = ids_of (layer_features (map tile_seen c.args.tiles.now) (layer_seen c.args.layer.now)) in
    let i = c.loop-next.invariant in
    let n = length c.loop-next.index.before.items in
    let id = c.in-Some.next.1.now.id in
    let later = ids_left (features_left c.next.new.self) in
    let more : id ∷ later ≡ drop n all = sym (ap ids_left c.in-Some.ensures.left) ∙ i.left in
    let pushed = subst (λ x. IsIndexed c.push.new.self (take n all ++ x ∷ [])) c.get.ensures (c.in_ok-push.ensures (take n all) i.indexed) in
    let count : length c.push.new.self.before.items ≡ suc n = pushed.counted ∙ (one_more (take n all) id ∙ ap suc (sym i.indexed.counted)) in
    record {
      few = c.next.ensures.few;
      indexed = subst (λ m. IsIndexed c.push.new.self (take m all)) (sym count) (subst (IsIndexed c.push.new.self) (take_more all n id later more) pushed);
      left = drop_more all n id later more ∙ ap (λ m. drop m all) (sym count);
    }
