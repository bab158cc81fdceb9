-- What holds of a list in order. Source: own.
use Rattle.std.specs.Prelude.{◌≡◌, ℤ, Bool, List, Option, IsPermutation}
use Rattle.std.specs.Cmp.{IsStrictWeakOrder}
use Rattle.std.specs.List.Sorted.{IsStableBy, IsSortedBy}
use Rattle.stable_order.specs.InOrder.{in_order}
use Rattle.stable_order.specs.Keys.{key_before}

-- A list in order has the same elements, equal elements keep their order, and it ascends.
pub record IsInOrder {X : Type 0} (before : X → X → Bool) (xs ys : List X) : Type 0 where
  pub same : IsPermutation xs ys
  pub stable : IsStableBy before xs ys
  pub sorted : IsSortedBy before ys

abbrev pub EachOrderIsLawful : Type 0 → Type 0
EachOrderIsLawful X =
    (before : X → X → Bool) → IsStrictWeakOrder before → (xs : List X) → IsInOrder before xs (in_order before xs)

-- Whatever ascends and keeps ties is that list: so a stable sort by keys gives it.
abbrev pub OnlyOneListIsInOrder : Type 0 → Type 0
OnlyOneListIsInOrder X =
    (before : X → X → Bool) → IsStrictWeakOrder before → (xs ys : List X) → IsInOrder before xs ys →
    ys ≡ in_order before xs

-- the test of keys is such an order
abbrev pub KeysAreOrdered : Type 0 → Type 0
KeysAreOrdered X = (key : X → Option ℤ) → IsStrictWeakOrder (λ a b. key_before (key a) (key b))
