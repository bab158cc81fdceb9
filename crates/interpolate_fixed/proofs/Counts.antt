-- Counts of inputs, and their places.
use Rattle.std.proofs.Common.{◌≡◌, ℕ, zero, suc, ◌+◌, ◌-◌, ◌<◌, ◌≤◌, ℤ, pos, List, [], ◌∷◌, length, get_or, take, refl, sym, ap, ◌∙◌, arith, true, false, inl, inr}
use Rattle.std.specs.Prelude.{Bool, int_le, ◌≤ℤ◌, ◌<ℤ◌}
use Rattle.std.specs.List.{count_by}
use Rattle.std.specs.List.Sorted.{IsPartitionedBy, IsPartitionPoint}
use Rattle.std.proofs.lemmas.Bool.{cases_Bool, cases_lt, cases_order}
use Rattle.std.specs.Int.Signed.{≤ℤ_refl, clash_ℤ}
use Rattle.std.proofs.lemmas.Int.{ints, by_lt_z}
use Rattle.std.proofs.lemmas.List.{take_all}
use Rattle.std.proofs.lemmas.List.Sums.{count_by_more_yes, count_by_more_no}
use Rattle.interpolate_fixed.specs.Places.{input_at, first_of, last_of, count_not_above, place_of}
use Rattle.interpolate_fixed.specs.PlaceFacts.{IsAscending, IsBetween, IsGreatestNotAbove}
use Rattle.interpolate_fixed.specs.declared.place.StopPlace.TheVariants.{First, Last, Between}

-- tests on numbers
yes : (a b : ℤ) → a ≤ℤ b → int_le a b ≡ true
yes a b h = grind (arith, ints)

no : (a b : ℤ) → b <ℤ a → int_le a b ≡ false
no a b h = grind (arith, ints)

-- the first i pass a test, and no other does
count_front : (p : ℤ → Bool) (xs : List ℤ) (i j : ℕ) → ((k : ℕ) → k < i → p (get_or xs k (pos 0)) ≡ true) → j ≤ i → j ≤ length xs → count_by p (take j xs) ≡ j
count_front p xs i zero front h within = refl
count_front p xs i (suc j) front h within =
    let next : suc j ≡ j + 1 = omega arith in
    let before : count_by p (take j xs) ≡ j = count_front p xs i j front (omega arith) (omega arith) in
    let more : count_by p (take (j + 1) xs) ≡ count_by p (take j xs) + 1 = count_by_more_yes p xs j (pos 0) (omega arith) (front j (omega arith)) in
    ap (λ n. count_by p (take n xs)) next ∙ more ∙ omega (arith, before)

count_back : (p : ℤ → Bool) (xs : List ℤ) (i j : ℕ) → count_by p (take i xs) ≡ i → ((k : ℕ) → i ≤ k → k < length xs → p (get_or xs k (pos 0)) ≡ false) → i + j ≤ length xs → count_by p (take (i + j) xs) ≡ i
count_back p xs i zero front back within = let same : i + 0 ≡ i = omega arith in ap (λ n. count_by p (take n xs)) same ∙ front
count_back p xs i (suc j) front back within =
    let next : i + suc j ≡ i + j + 1 = omega arith in
    ap (λ n. count_by p (take n xs)) next
    ∙ count_by_more_no p xs (i + j) (pos 0) (omega arith) (back (i + j) (omega arith) (omega arith))
    ∙ count_back p xs i j front back (omega arith)

count_at : (p : ℤ → Bool) (xs : List ℤ) (i : ℕ) → i ≤ length xs → ((k : ℕ) → k < i → p (get_or xs k (pos 0)) ≡ true) → ((k : ℕ) → i ≤ k → k < length xs → p (get_or xs k (pos 0)) ≡ false) → count_by p xs ≡ i
count_at p xs i within front back =
    let all : i + (length xs - i) ≡ length xs = omega arith in
    sym (ap (count_by p) (ap (λ n. take n xs) all ∙ take_all (length xs) xs (omega arith))) ∙ count_back p xs i (length xs - i) (count_front p xs i i front (omega arith) within) back (omega arith)

-- as many inputs are not above x as there are up to the one from which x is
pub count_is : (inputs : List ℤ) (x : ℤ) (i : ℕ) → IsAscending inputs → IsBetween inputs x i → i + 1 ≡ count_not_above x inputs
unfolding count_not_above
count_is inputs x i rising at = sym (count_at (λ input. int_le input x) inputs (i + 1) (omega (arith, at.within)) front back)
  where
    front : (k : ℕ) → k < i + 1 → int_le (get_or inputs k (pos 0)) x ≡ true
    front k h = elim (cases_lt k i) [
      | inl before ↦ yes (get_or inputs k (pos 0)) x (let less = rising k i (pos 0) before (omega (arith, at.within)) in omega (arith, ints, at.not_below))
      | inr not_before ↦ let same : k ≡ i = omega arith in rw same (yes (get_or inputs i (pos 0)) x at.not_below)
    ]

    back : (k : ℕ) → i + 1 ≤ k → k < length inputs → int_le (get_or inputs k (pos 0)) x ≡ false
    back k h j = elim (cases_lt (i + 1) k) [
      | inl after ↦ no (get_or inputs k (pos 0)) x (let less = rising (i + 1) k (pos 0) after j in omega (arith, ints, at.below_next))
      | inr not_after ↦ let same : k ≡ i + 1 = omega arith in rw same (no (get_or inputs (i + 1) (pos 0)) x at.below_next)
    ]

-- what ascends is parted at x
pub partitioned : (inputs : List ℤ) (x : ℤ) → IsAscending inputs → IsPartitionedBy (λ input. int_le input x) inputs
partitioned inputs x rising i j d upto within low = elim (cases_lt i j) [
  | inl before ↦ yes (get_or inputs i d) x (let less = rising i j d before within in let at = by_test (get_or inputs j d) x low in omega (arith, ints))
  | inr not_before ↦ let same : i ≡ j = omega arith in rw same low
]
  where
    by_test : (a b : ℤ) → int_le a b ≡ true → a ≤ℤ b
    by_test a b h = grind (arith, ints)

-- the place at which inputs begin to be above x is their count
pub counted : (inputs : List ℤ) (x : ℤ) (i : ℕ) → i ≤ length inputs → IsPartitionPoint (λ input. int_le input x ≡ true) (λ input. int_le input x ≡ false) inputs i → i ≡ count_not_above x inputs
unfolding count_not_above
counted inputs x i within (front, back) = sym (count_at (λ input. int_le input x) inputs i within (λ k h. front k (pos 0) (omega arith) h) (λ k h j. back k (pos 0) h j))

-- the place by comparisons
pub place_first : (inputs : List ℤ) (x : ℤ) → x ≤ℤ first_of inputs → First ≡ place_of inputs x
place_first inputs x h = rw (yes x (first_of inputs) h) refl

pub place_last : (inputs : List ℤ) (x : ℤ) → first_of inputs <ℤ x → last_of inputs ≤ℤ x → Last ≡ place_of inputs x
place_last inputs x h k = rw (no x (first_of inputs) h, yes (last_of inputs) x k) refl

pub place_between : (inputs : List ℤ) (x : ℤ) (i : ℕ) → first_of inputs <ℤ x → x <ℤ last_of inputs → i + 1 ≡ count_not_above x inputs → Between i ≡ place_of inputs x
place_between inputs x i h k e =
    let less : i ≡ count_not_above x inputs - 1 = omega arith in
    rw (no x (first_of inputs) h, no (last_of inputs) x k) (ap Between less)

-- some input is the last that is not above x
between_some : (inputs : List ℤ) (x : ℤ) (n : ℕ) → n < length inputs → first_of inputs ≤ℤ x → x <ℤ input_at inputs n → (i : ℕ) × IsBetween inputs x i
between_some inputs x zero h from below = clash_ℤ below from
between_some inputs x (suc n) h from below = by_lt_z x (input_at inputs n)
    (λ before. between_some inputs x n (omega arith) from before)
    (λ behind. (n, record { within = omega arith; not_below = behind; below_next = let next : n + 1 ≡ suc n = omega arith in rw next below }))

past_test : (a b : ℤ) → int_le a b ≡ false → b <ℤ a
past_test a b h = grind (arith, ints)

-- between the ends, the count gives that input
pub counted_between : (inputs : List ℤ) (x : ℤ) → IsAscending inputs → 0 < length inputs → first_of inputs <ℤ x → x <ℤ last_of inputs → (0 < count_not_above x inputs) × IsBetween inputs x (count_not_above x inputs - 1)
counted_between inputs x rising some up down =
    let (j, at) = between_some inputs x (length inputs - 1) (omega arith) (omega (arith, ints)) down in
    let counted = count_is inputs x j rising at in
    let place : count_not_above x inputs - 1 ≡ j = omega arith in
    (omega arith, rw place at)

pub place_is_between : (inputs : List ℤ) (x : ℤ) (i : ℕ) → IsAscending inputs → 0 < length inputs → place_of inputs x ≡ Between i → IsBetween inputs x i
place_is_between inputs x i rising some e = elim (cases_Bool (int_le x (first_of inputs))) [
  | inl first ↦ let e' = rw first at e in absurd (cc)
  | inr behind ↦ elim (cases_Bool (int_le (last_of inputs) x)) [
    | inl last ↦ let e' = rw (behind, last) at e in absurd (cc)
    | inr ahead ↦
        let e' = rw (behind, ahead) at e in
        let counted = counted_between inputs x rising some (past_test x (first_of inputs) behind) (past_test (last_of inputs) x ahead) in
        let same : count_not_above x inputs - 1 ≡ i = cc in rw (← same) counted.1
  ]
]

pub between_is_greatest : (inputs : List ℤ) (x : ℤ) (i : ℕ) → IsAscending inputs → IsBetween inputs x i → IsGreatestNotAbove inputs x i
between_is_greatest inputs x i rising at = record { within = omega (arith, at.within); not_above = at.not_below; greatest = greatest }
  where
    greatest : (k : ℕ) → k < length inputs → input_at inputs k ≤ℤ x → input_at inputs k ≤ℤ input_at inputs i
    greatest k h low = elim (cases_order k i) [
      | inl same ↦ rw same (≤ℤ_refl (input_at inputs i))
      | inr (inl before) ↦ let less = rising k i (pos 0) before (omega (arith, at.within)) in omega (arith, ints)
      | inr (inr after) ↦ elim (cases_lt (i + 1) k) [
        | inl further ↦ let less = rising (i + 1) k (pos 0) further h in omega (arith, ints, at.below_next)
        | inr next ↦ let same : k ≡ i + 1 = omega arith in let low' = rw same at low in clash_ℤ at.below_next low'
      ]
    ]

-- two inputs of which the first is below the second
pub two_ascend : (a b : ℤ) → a <ℤ b → IsAscending (a ∷ b ∷ [])
two_ascend a b h i j d before within = let first : i ≡ 0 = omega arith in let second : j ≡ 1 = omega arith in rw (first, second) h
