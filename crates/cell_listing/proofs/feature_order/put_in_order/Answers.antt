use Rattle.std.proofs.Common.{rules}
use Rattle.std.proofs.lemmas.List.Sorted.{answers_always}
use Rattle.stable_order.proofs.KeyOrder.{by_key_in_order}
use Rattle.cell_listing.proofs.feature_order.put_in_order.Goals as goal

pub returns : goal.returns
returns c = by_key_in_order (λ k. k.key) _ _
    (c.in_ok-sort_by_key.ensures.sorted (λ k. k.key) (answers_always _ _ _ (λ f a r g h. search rules)))
    (c.sort_by_key.ensures.stable (λ k. k.key) (answers_always _ _ _ (λ f a r g h. search rules)))
