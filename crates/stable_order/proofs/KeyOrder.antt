-- The test of keys is an order, and a stable sort by it gives the list in order.
use Rattle.std.proofs.Common.{◌≡◌, ℤ, List, Option}
use Rattle.std.specs.Cmp.{int_cmp_total}
use Rattle.std.specs.Cmp.Lexicographic.{options_total}
use Rattle.std.specs.Ordering.{int_cmp}
use Rattle.std.specs.List.Sorted.{IsSortedByKey, IsStableByKey}
use Rattle.std.specs.Option.{option_cmp}
use Rattle.std.proofs.lemmas.List.Sorted.{ranks_by}
use Rattle.stable_order.specs.InOrder.{in_order}
use Rattle.stable_order.specs.Keys.{key_before}
use Rattle.stable_order.specs.Laws.{KeysAreOrdered}
use Rattle.stable_order.proofs.OneOrder.{in_order_from_sort}

pub keys_are_ordered : {X : Type 0} → KeysAreOrdered X
keys_are_ordered key = ranks_by (options_total int_cmp_total) key

pub by_key_in_order : {X : Type 0} (key : X → Option ℤ) (xs ys : List X) → IsSortedByKey key (option_cmp int_cmp) ys
    → IsStableByKey key (option_cmp int_cmp) xs ys → ys ≡ in_order (λ a b. key_before (key a) (key b)) xs
by_key_in_order key xs ys sorted stable =
    in_order_from_sort (λ a b. key_before (key a) (key b)) (ranks_by (options_total int_cmp_total) key) xs ys sorted stable
