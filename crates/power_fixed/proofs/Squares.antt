-- Roots, found by a test on squares.
use Rattle.std.proofs.Common.{◌≡◌, ℕ, zero, suc, ◌+◌, ◌*◌, ◌<◌, ◌≤◌, ℤ, pos, negsuc, refl, sym, ap, ◌∙◌, arith, true, false, inl, inr}
use Rattle.std.specs.Prelude.{Bool, Ok, nat_le, unsigned_abs, ◌≤ℤ◌, ◌<ℤ◌}
use Rattle.std.proofs.lemmas.Bool.{cases_Bool, cases_lt, le-leb, lt-leb, leb-true, leb-false}
use Rattle.std.specs.Int.Signed.{clash_ℤ}
use Rattle.std.proofs.lemmas.Int.{ints, by_lt_z}
use Rattle.std.proofs.lemmas.Nat.{mul-le}
use Rattle.fixed_num.specs.Number.{bound, product}
use Rattle.fixed_num.specs.Rounding.{nearest}
use Rattle.power_fixed.specs.Root.{greatest_up_to, has_square_within, root_of, IsRoot}

-- the greatest number that passes is the one above which none does
greatest_is : (n : ℕ) (test : ℕ → Bool) (r : ℕ) → r ≤ n → test r ≡ true → ((s : ℕ) → r < s → test s ≡ false) → greatest_up_to n test ≡ r
unfolding greatest_up_to
greatest_is zero test r within passes last = omega arith
greatest_is (suc n) test r within passes last = elim (cases_lt r (suc n)) [
  | inl below ↦ let fails : test (suc n) ≡ false = last (suc n) below in rw fails (greatest_is n test r (omega arith) passes last)
  | inr top ↦ let same : r ≡ suc n = omega arith in let yes : test (suc n) ≡ true = ap test (sym same) ∙ passes in rw yes (sym same)
]

-- the test on squares, without division
square_within : (v r : ℕ) → r * r ≤ v * 1000000 + 499999 → has_square_within v r ≡ true
unfolding has_square_within
square_within v r h = le-leb (nearest (r * r) 1000000) v (omega arith)

square_past : (v r : ℕ) → v * 1000000 + 499999 < r * r → has_square_within v r ≡ false
unfolding has_square_within
square_past v r h = lt-leb (nearest (r * r) 1000000) v (omega arith)

-- squares rise
square_above : (r s : ℕ) → r < s → (r + 1) * (r + 1) ≤ s * s
square_above r s h = mul-le (r + 1) (r + 1) s s (omega arith) (omega arith)

root_near : (v r : ℕ) → r * r ≤ v * 1000000 + 499999 → r ≤ v + 1000000
root_near v r h = elim (cases_lt (v + 1000000) r) [
  | inl far ↦ let more : (v + 1000000 + 1) * (v + 1000000 + 1) ≤ r * r = square_above (v + 1000000) r far in absurd (omega arith)
  | inr near ↦ near
]

-- the root by whole numbers
pub root_is : (z : ℤ) (r : ℕ) → r * r ≤ unsigned_abs z * 1000000 + 499999 → unsigned_abs z * 1000000 + 499999 < (r + 1) * (r + 1) → pos r ≡ root_of z
unfolding root_of
root_is z r low high = ap pos (sym (greatest_is (unsigned_abs z + 1000000) (has_square_within (unsigned_abs z)) r (root_near (unsigned_abs z) r low) (square_within (unsigned_abs z) r low)
    (λ s above. square_past (unsigned_abs z) s (let more = square_above r s above in omega arith))))

-- the number that was found passes, and none of those after it does
greatest_passes : (n : ℕ) (test : ℕ → Bool) → test 0 ≡ true → test (greatest_up_to n test) ≡ true
unfolding greatest_up_to
greatest_passes zero test h = h
greatest_passes (suc n) test h = elim (cases_Bool (test (suc n))) [
  | inl passes ↦ rw passes passes
  | inr fails ↦ rw fails (greatest_passes n test h)
]

greatest_last : (n : ℕ) (test : ℕ → Bool) (s : ℕ) → greatest_up_to n test < s → s ≤ n → test s ≡ false
unfolding greatest_up_to
greatest_last zero test s above within = absurd (omega arith)
greatest_last (suc n) test s above within = elim (cases_Bool (test (suc n))) [
  | inl passes ↦ let above' = rw passes at above in absurd (omega arith)
  | inr fails ↦ let above' = rw fails at above in elim (cases_lt s (suc n)) [
    | inl below ↦ greatest_last n test s above' (omega arith)
    | inr top ↦ let same : s ≡ suc n = omega arith in ap test same ∙ fails
  ]
]

-- the same without the limit of the search
no_square_after : (v s : ℕ) → greatest_up_to (v + 1000000) (has_square_within v) < s → has_square_within v s ≡ false
no_square_after v s above = elim (cases_lt (v + 1000000) s) [
  | inl far ↦ let more : (v + 1000000 + 1) * (v + 1000000 + 1) ≤ s * s = square_above (v + 1000000) s far in square_past v s (omega arith)
  | inr near ↦ greatest_last (v + 1000000) (has_square_within v) s above near
]

-- the test is that of the product
pub square_of : (r : ℕ) (s : ℤ) → product (pos r) (pos r) ≡ Ok s → s ≡ pos (nearest (r * r) 1000000)
square_of r s h = grind arith

within_is : (v r : ℕ) → v ≤ bound → has_square_within v r ≡ true → (square : ℤ) × (product (pos r) (pos r) ≡ Ok square) × (square ≤ℤ pos v)
unfolding has_square_within
within_is v r small h =
    let low : nearest (r * r) 1000000 ≤ v = leb-true (nearest (r * r) 1000000) v h in
    let fits : nat_le (nearest (r * r) 1000000) bound ≡ true = le-leb (nearest (r * r) 1000000) bound (omega arith) in
    (pos (nearest (r * r) 1000000), rw fits refl, omega (arith, ints))

past_is : (v r : ℕ) (s : ℤ) → has_square_within v r ≡ false → product (pos r) (pos r) ≡ Ok s → pos v <ℤ s
unfolding has_square_within
past_is v r s h e =
    let high : v < nearest (r * r) 1000000 = leb-false (nearest (r * r) 1000000) v h in
    rw (square_of r s e) (omega (arith, ints))

-- the root is a root
pub root_of_is : (v : ℤ) → pos 0 ≤ℤ v → unsigned_abs v ≤ bound → IsRoot v (root_of v)
unfolding root_of
root_of_is (negsuc n) from small = absurd (omega (arith, ints))
root_of_is (pos v) from small = let found = within_is v _ small (greatest_passes (v + 1000000) (has_square_within v) (square_within v 0 (omega arith))) in record {
  not_negative = omega (arith, ints);
  square = found.0;
  is_square = found.1;
  not_above = found.2;
  greatest = later v;
}
  where
    later : (v : ℕ) (s square : ℤ) → pos (greatest_up_to (v + 1000000) (has_square_within v)) <ℤ s → product s s ≡ Ok square → pos v <ℤ square
    later v (negsuc m) square above e = absurd (omega (arith, ints))
    later v (pos m) square above e = past_is v m square (no_square_after v m (omega (arith, ints))) e

-- and no other number is
pub root_of_only : (v r : ℤ) → pos 0 ≤ℤ v → unsigned_abs v ≤ bound → IsRoot v r → r ≡ root_of v
root_of_only v r from small mine =
    by_lt_z r (root_of v)
    (λ above. clash_ℤ (mine.greatest (root_of v) found.square above found.is_square) found.not_above)
    (λ no_less. by_lt_z (root_of v) r
    (λ above. clash_ℤ (found.greatest r mine.square above mine.is_square) mine.not_above)
    (λ no_more. omega (arith, ints)))
  where
    found : IsRoot v (root_of v)
    found = root_of_is v from small
