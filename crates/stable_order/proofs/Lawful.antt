-- A list in order ascends, keeps the order of equal elements, and has the same elements.
use Rattle.std.proofs.Common.{Bool, List, [], ◌∷◌, sym, subst, inl, inr}
use Rattle.std.specs.List.Sorted.{IsPermutation}
use Rattle.std.proofs.lemmas.Bool.{cond-true, cond-false, cases_Bool}
use Rattle.std.proofs.lemmas.List.Sorted.{IsPermutation-refl, IsPermutation-cons, IsPermutation-trans, IsPermutation-sym, IsPermutation-middle}
use Rattle.stable_order.specs.InOrder.{put, in_order}
use Rattle.stable_order.specs.Laws.{EachOrderIsLawful, OnlyOneListIsInOrder}
use Rattle.stable_order.proofs.OneOrder.{filter_in_order, in_order_from_sort, Up_next, Up_in_order}

module _ {X : Type 0} (lt : X → X → Bool) where
  put_permutes : (x : X) (ys : List X) → IsPermutation (x ∷ ys) (put lt x ys)
  put_permutes x [] = IsPermutation-refl (x ∷ [])
  put_permutes x (y ∷ ys) = elim (cases_Bool (lt y x)) [
    | inl past ↦ subst (IsPermutation (x ∷ y ∷ ys)) (sym (cond-true _ _ _ past))
        (IsPermutation-trans (x ∷ y ∷ ys) (y ∷ x ∷ ys) (y ∷ put lt x ys)
        (IsPermutation-sym (y ∷ x ∷ ys) (x ∷ y ∷ ys) (IsPermutation-middle (y ∷ []) x ys))
        (IsPermutation-cons y (x ∷ ys) (put lt x ys) (put_permutes x ys)))
    | inr here ↦ subst (IsPermutation (x ∷ y ∷ ys)) (sym (cond-false _ _ _ here)) (IsPermutation-refl (x ∷ y ∷ ys))
  ]

  pub in_order_permutes : (xs : List X) → IsPermutation xs (in_order lt xs)
  in_order_permutes [] = IsPermutation-refl []
  in_order_permutes (x ∷ xs) =
      IsPermutation-trans (x ∷ xs) (x ∷ in_order lt xs) (put lt x (in_order lt xs))
      (IsPermutation-cons x xs (in_order lt xs) (in_order_permutes xs)) (put_permutes x (in_order lt xs))

pub each_order_is_lawful : {X : Type 0} → EachOrderIsLawful X
each_order_is_lawful lt o xs = record {
  same = in_order_permutes lt xs;
  stable = λ z. filter_in_order lt o z xs;
  sorted = λ k d low below. Up_next lt o (in_order lt xs) (Up_in_order lt o xs) k d below;
}

pub only_one_list : {X : Type 0} → OnlyOneListIsInOrder X
only_one_list lt o xs ys h = in_order_from_sort lt o xs ys h.sorted h.stable
