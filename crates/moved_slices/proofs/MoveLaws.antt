-- A part of a list, turned by one element, is a list of which one element has moved.
use Rattle.std.proofs.Common.{◌≡◌, ◌<◌, ◌≤◌, ◌+◌, ◌-◌, ℕ, zero, suc, List, [], ◌∷◌, ◌++◌, length, get_or, take, drop, refl, ap, ◌∙◌, subst, arith}
use Rattle.std.specs.Prelude.{insert, map, remove}
use Rattle.std.proofs.lemmas.List.{length-take-le, length-drop}
use Rattle.moved_slices.specs.Moved.{IsMoved}

from_zero : (n : ℕ) → n ≡ zero + n
from_zero n = omega arith

from_next : (a n : ℕ) → suc (a + n) ≡ suc a + n
from_next a n = omega arith

module _ {X : Type 0} where
  -- the list in which a part of so many elements is others
  abbrev pub put_part : ℕ → ℕ → List X → List X → List X
  put_part a k xs ys = take a xs ++ (ys ++ drop k (drop a xs))

  joined : (xs ys : List X) (x : X) → (xs ++ x ∷ []) ++ ys ≡ xs ++ x ∷ ys
  joined [] ys x = refl
  joined (y ∷ xs) ys x = ap (λ zs. y ∷ zs) (joined xs ys x)

  inserted_between : (xs : List X) (n : ℕ) (x : X) → n ≤ length xs → take n xs ++ x ∷ drop n xs ≡ insert xs n x
  inserted_between [] zero x h = refl
  inserted_between [] (suc n) x h = absurd (omega (arith, h))
  inserted_between (y ∷ ys) zero x h = refl
  inserted_between (y ∷ ys) (suc n) x h = ap (λ zs. y ∷ zs) (inserted_between ys n x (omega (arith, h)))

  turned_up : (xs : List X) (a n : ℕ) (other : X) → a + suc n ≤ length xs
      → put_part a (suc n) xs (drop 1 (take (suc n) (drop a xs)) ++ take 1 (take (suc n) (drop a xs)))
      ≡ insert (remove xs a) (a + n) (get_or xs a other)
  turned_up [] a n other h = absurd (omega (arith, h))
  turned_up (y ∷ ys) zero n other h = joined (take n ys) (drop n ys) y
      ∙ (inserted_between ys n y (omega (arith, h)) ∙ ap (λ m. insert ys m y) (from_zero n))
  turned_up (y ∷ ys) (suc a) n other h = ap (λ zs. y ∷ zs) (turned_up ys a n other (omega (arith, h)))
      ∙ ap (λ m. insert (y ∷ remove ys a) m (get_or ys a other)) (from_next a n)

  last_taken : (xs : List X) (n : ℕ) (other : X) → n < length xs → drop n (take (suc n) xs) ≡ get_or xs n other ∷ []
  last_taken [] n other h = absurd (omega (arith, h))
  last_taken (y ∷ ys) zero other h = refl
  last_taken (y ∷ ys) (suc n) other h = last_taken ys n other (omega (arith, h))

  others_left : (xs : List X) (n : ℕ) → n < length xs → take n (take (suc n) xs) ++ drop (suc n) xs ≡ remove xs n
  others_left [] n h = absurd (omega (arith, h))
  others_left (y ∷ ys) zero h = refl
  others_left (y ∷ ys) (suc n) h = ap (λ zs. y ∷ zs) (others_left ys n (omega (arith, h)))

  turned_down : (xs : List X) (a n : ℕ) (other : X) → a + suc n ≤ length xs
      → put_part a (suc n) xs (drop n (take (suc n) (drop a xs)) ++ take n (take (suc n) (drop a xs)))
      ≡ insert (remove xs (a + n)) a (get_or xs (a + n) other)
  turned_down [] a n other h = absurd (omega (arith, h))
  turned_down (y ∷ ys) zero n other h =
      ap (λ zs. (zs ++ take n (take (suc n) (y ∷ ys))) ++ drop (suc n) (y ∷ ys)) (last_taken (y ∷ ys) n other (omega (arith, h)))
      ∙ (ap (λ zs. get_or (y ∷ ys) n other ∷ zs) (others_left (y ∷ ys) n (omega (arith, h)))
      ∙ ap (λ m. get_or (y ∷ ys) m other ∷ remove (y ∷ ys) m) (from_zero n))
  turned_down (y ∷ ys) (suc a) n other h = ap (λ zs. y ∷ zs) (turned_down ys a n other (omega (arith, h)))
      ∙ ap (λ m. insert (remove (y ∷ ys) m) (suc a) (get_or (y ∷ ys) m other)) (from_next a n)

  -- from a place up to another
  pub moved_up : (xs : List X) (from to : ℕ) → from ≤ to → to < length xs → IsMoved from to xs
      (put_part from (to + 1 - from) xs (drop 1 (take (to + 1 - from) (drop from xs)) ++ take 1 (take (to + 1 - from) (drop from xs))))
  moved_up xs from to order h other =
      subst (λ k. put_part from k xs (drop 1 (take k (drop from xs)) ++ take 1 (take k (drop from xs))) ≡ insert (remove xs from) to (get_or xs from other))
      (count) (turned_up xs from (to - from) other (omega (arith, h, order)) ∙ ap (λ m. insert (remove xs from) m (get_or xs from other)) (place)) where
        count : suc (to - from) ≡ to + 1 - from
        count = omega (arith, order)

        place : from + (to - from) ≡ to
        place = omega (arith, order)

  -- from a place down to another
  pub moved_down : (xs : List X) (from to : ℕ) → to ≤ from → from < length xs → IsMoved from to xs
      (put_part to (from + 1 - to) xs (drop (length (take (from + 1 - to) (drop to xs)) - 1) (take (from + 1 - to) (drop to xs))
      ++ take (length (take (from + 1 - to) (drop to xs)) - 1) (take (from + 1 - to) (drop to xs))))
  moved_down xs from to order h other =
      subst (λ k. put_part to k xs (drop (length (take k (drop to xs)) - 1) (take k (drop to xs)) ++ take (length (take k (drop to xs)) - 1) (take k (drop to xs)))
      ≡ insert (remove xs from) to (get_or xs from other)) count (
      ap (λ n. put_part to (suc (from - to)) xs (drop n (take (suc (from - to)) (drop to xs)) ++ take n (take (suc (from - to)) (drop to xs)))) least
      ∙ (turned_down xs to (from - to) other (omega (arith, h, order)) ∙ ap (λ m. insert (remove xs m) to (get_or xs m other)) place)) where
        count : suc (from - to) ≡ from + 1 - to
        count = omega (arith, order)

        place : to + (from - to) ≡ from
        place = omega (arith, order)

        least : length (take (suc (from - to)) (drop to xs)) - 1 ≡ from - to
        least = ap (λ n. n - 1) (length-take-le (suc (from - to)) (drop to xs) (omega (arith, h, order, length-drop to xs))) ∙ omega arith

-- ---- a list that is seen through a map

module _ {X Y : Type 0} (f : X → Y) where
  map_insert : (xs : List X) (i : ℕ) (x : X) → map f (insert xs i x) ≡ insert (map f xs) i (f x)
  map_insert [] zero x = refl
  map_insert [] (suc i) x = refl
  map_insert (y ∷ ys) zero x = refl
  map_insert (y ∷ ys) (suc i) x = ap (λ zs. f y ∷ zs) (map_insert ys i x)

  map_remove : (xs : List X) (i : ℕ) → map f (remove xs i) ≡ remove (map f xs) i
  map_remove [] zero = refl
  map_remove [] (suc i) = refl
  map_remove (y ∷ ys) zero = refl
  map_remove (y ∷ ys) (suc i) = ap (λ zs. f y ∷ zs) (map_remove ys i)

  map_element : (xs : List X) (i : ℕ) (x : X) (other : Y) → i < length xs → f (get_or xs i x) ≡ get_or (map f xs) i other
  map_element [] i x other h = absurd (omega (arith, h))
  map_element (y ∷ ys) zero x other h = refl
  map_element (y ∷ ys) (suc i) x other h = map_element ys i x other (omega (arith, h))

  -- an element moves in what is seen as it does in the list
  pub map_moved : (xs new : List X) (from to : ℕ) → from < length xs → IsMoved from to xs new → IsMoved from to (map f xs) (map f new)
  map_moved [] new from to h moved other = absurd (omega (arith, h))
  map_moved (y ∷ ys) new from to h moved other =
      ap (map f) (moved y)
      ∙ (map_insert (remove (y ∷ ys) from) to (get_or (y ∷ ys) from y)
      ∙ (ap (λ zs. insert zs to (f (get_or (y ∷ ys) from y))) (map_remove (y ∷ ys) from)
      ∙ ap (λ z. insert (remove (f y ∷ map f ys) from) to z) (map_element (y ∷ ys) from y other h)))
