-- One place after another follows its element.
use Rattle.std.proofs.Common.{◌≡◌, ◌<◌, ◌≤◌, ◌+◌, ℕ, zero, suc, List, [], ◌∷◌, ◌++◌, length, map, get_or, set, take, drop, nat_eq, refl, ap, ◌∙◌, subst, arith}
use Rattle.noted_places.proofs.NotedLaws.{below_get, either}
use Rattle.noted_places.specs.Places.{AreBelow, is_noted}

module _ (f : ℕ → ℕ) where
  -- the first of a list are followed
  abbrev pub followed : ℕ → List ℕ → List ℕ
  followed i xs = take i xs ++ map f (drop i xs)

  next : (xs : List ℕ) (i d : ℕ) → i < length xs → followed (suc i) (set xs i (f (get_or xs i d))) ≡ followed i xs
  next [] i d h = absurd (omega (arith, h))
  next (x ∷ xs) zero d h = refl
  next (x ∷ xs) (suc i) d h = ap (λ zs. x ∷ zs) (next xs i d (omega (arith, h)))

  pub follow_next : (xs : List ℕ) (i d : ℕ) → i < length xs → followed (i + 1) (set xs i (f (get_or xs i d))) ≡ followed i xs
  follow_next xs i d h =
      let more : i + 1 ≡ suc i = omega arith in
      ap (λ n. followed n (set xs i (f (get_or xs i d)))) more ∙ next xs i d h

  pub all_followed : (xs : List ℕ) (i : ℕ) → length xs ≤ i → followed i xs ≡ xs
  all_followed [] zero h = refl
  all_followed [] (suc i) h = refl
  all_followed (x ∷ xs) zero h = absurd (omega (arith, h))
  all_followed (x ∷ xs) (suc i) h = ap (λ zs. x ∷ zs) (all_followed xs i (omega (arith, h)))

pub below_at : (n : ℕ) (xs : List ℕ) (i d : ℕ) → i < length xs → AreBelow n (drop i xs) → get_or xs i d < n
below_at n [] i d h below = absurd (omega (arith, h))
below_at n (x ∷ xs) zero d h below = below_get n (x ∷ xs) 0 d (omega arith) below
below_at n (x ∷ xs) (suc i) d h below = below_at n xs i d (omega (arith, h)) below

below_suc : (n : ℕ) (xs : List ℕ) (i y : ℕ) → i < length xs → AreBelow n (drop i xs) → AreBelow n (drop (suc i) (set xs i y))
below_suc n [] i y h below = absurd (omega (arith, h))
below_suc n (x ∷ xs) zero y h below = λ q t. below q (either (nat_eq x q) (is_noted xs q) t)
below_suc n (x ∷ xs) (suc i) y h below = below_suc n xs i y (omega (arith, h)) below

pub below_next : (n : ℕ) (xs : List ℕ) (i y : ℕ) → i < length xs → AreBelow n (drop i xs) → AreBelow n (drop (i + 1) (set xs i y))
below_next n xs i y h below =
    let more : suc i ≡ i + 1 = omega arith in
    subst (λ k. AreBelow n (drop k (set xs i y))) more (below_suc n xs i y h below)
