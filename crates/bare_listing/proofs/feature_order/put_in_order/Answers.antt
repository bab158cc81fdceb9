use Rattle.std.proofs.Common.{rules}
use Rattle.std.proofs.lemmas.List.Sorted.{answers_always}
use Rattle.layer_buckets.specs.Outcomes.{outcome_owned}
use Rattle.stable_order.proofs.KeyOrder.{by_key_in_order}
use Rattle.bare_listing.specs.SeenLayer.{key_by}
use Rattle.bare_listing.proofs.feature_order.put_in_order.Goals as goal

pub returns : goal.returns
returns c = by_key_in_order (λ k. key_by (outcome_owned k.value)) _ _
    (c.in_ok-sort_by_key.ensures.sorted (λ k. key_by (outcome_owned k.value)) (answers_always _ _ _ (λ f a r g h. search rules)))
    (c.sort_by_key.ensures.stable (λ k. key_by (outcome_owned k.value)) (answers_always _ _ _ (λ f a r g h. search rules)))
