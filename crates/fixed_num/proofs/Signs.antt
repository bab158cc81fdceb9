-- Clauses by sign and magnitude, joined to those by whole numbers.
use Rattle.std.proofs.Common.{◌≡◌, ℕ, zero, suc, ◌+◌, ◌*◌, ◌/◌, ◌%◌, ◌<◌, ◌≤◌, ℤ, pos, negsuc, neg_ℤ, ◌*ℤ◌, ◌-ℤ◌, ◌+ℤ◌, List, ◌∷◌, ◌++◌, Bool, refl, sym, ap, ◌∙◌, arith, length, take, set}
use Rattle.std.specs.Prelude.{int_div, int_rem, nat_abs, if◌then◌else◌, nat_lt, nat_eq, Ok, true, false, not}
use Rattle.std.proofs.lemmas.Bool.{le-leb}
use Rattle.std.proofs.lemmas.Int.{quot-rem}
use Rattle.std.proofs.Math.IntN.{+ℤ_comm, *ℤ_comm, +ℤ-neg_ℤ_cancel, negsuc-*ℤ-pos}
use Rattle.std.proofs.lemmas.List.{length-take-le, take_more_set}
use Rattle.std.proofs.lemmas.Nat.{div_below}
use lib.Signed.{lt_z}
use mathlib.Core.Bool.{beq}
use Rattle.fixed_num.specs.Number.{bound, floor_of, bounded, quotient, remainder}
use Rattle.fixed_num.specs.NumberText.{number_text, magnitude_text}
use Rattle.fixed_num.specs.Rounding.{nearest, rounded}

none_below : (n : ℕ) → nat_lt n 0 ≡ false
none_below n = grind arith

-- nothing, rounded
nearest_zero : (d : ℕ) → 0 < d → nearest 0 d ≡ 0
nearest_zero d h = omega (arith, div_below (2 * 0 + d) (2 * d) 1 (omega arith) (omega arith))

rounded-neg : (n d : ℕ) → 0 < d → rounded (neg_ℤ (pos n)) d ≡ neg_ℤ (pos (nearest n d))
rounded-neg zero d h = rw (nearest_zero d h) refl
rounded-neg (suc n) d h = refl

-- the quotient by sign and magnitudes
pub quotient_is : (x y : ℤ) → (nat_abs y ≡ 0 → ⊥) →
    bounded (if (not (beq (lt_z x (pos 0)) (lt_z y (pos 0)))) then neg_ℤ (pos (nearest (nat_abs x * 1000000) (nat_abs y))) else pos (nearest (nat_abs x * 1000000) (nat_abs y))) ≡ quotient x y
quotient_is x (pos zero) h = absurd (h refl)
quotient_is (pos a) (pos (suc d)) h = rw (none_below a, none_below (suc d)) refl
quotient_is (negsuc a) (pos (suc d)) h = rw (none_below (suc d)) (ap bounded (sym (rounded-neg (suc a * 1000000) (suc d) (omega arith))))
quotient_is (pos zero) (negsuc d) h = rw (nearest_zero (suc d) (omega arith)) refl
quotient_is (pos (suc a)) (negsuc d) h = rw (none_below (suc a)) (ap bounded (sym (rounded-neg (suc a * 1000000) (suc d) (omega arith))))
quotient_is (negsuc a) (negsuc d) h = refl

-- what the quotient leaves
pub remainder_is : (x y : ℤ) → int_rem x y ≡ x -ℤ y *ℤ int_div x y
remainder_is x y =
    let whole : x ≡ int_rem x y +ℤ y *ℤ int_div x y = sym (quot-rem x y) ∙ +ℤ_comm (int_div x y *ℤ y) (int_rem x y) ∙ ap (λ w. int_rem x y +ℤ w) (*ℤ_comm (int_div x y) y) in
    sym (ap (λ w. w -ℤ y *ℤ int_div x y) whole ∙ +ℤ-neg_ℤ_cancel (int_rem x y) (y *ℤ int_div x y))

-- the same by sign and magnitudes
rem_by_magnitudes : (x y : ℤ) → (if lt_z x (pos 0) then neg_ℤ (pos (nat_abs x % nat_abs y)) else pos (nat_abs x % nat_abs y)) ≡ int_rem x y
rem_by_magnitudes (pos n) y = rw (none_below n) refl
rem_by_magnitudes (negsuc n) y = refl

bounded_signed : (negative : Bool) (m : ℕ) → m ≤ bound → bounded (if negative then neg_ℤ (pos m) else pos m) ≡ Ok (if negative then neg_ℤ (pos m) else pos m)
bounded_signed true zero h = refl
bounded_signed true (suc m) h = rw (le-leb (suc m) bound h) refl
bounded_signed false m h = rw (le-leb m bound h) refl

pub remainder_by_magnitudes : (x y : ℤ) → nat_abs x ≤ bound → (nat_abs y ≡ 0 → ⊥) →
    bounded (if lt_z x (pos 0) then neg_ℤ (pos (nat_abs x % nat_abs y)) else pos (nat_abs x % nat_abs y)) ≡ remainder x y
remainder_by_magnitudes x y within h =
    let some : nat_eq (nat_abs y) 0 ≡ false = grind arith in
    let left : nat_abs x % nat_abs y ≤ bound = omega arith in
    rw some (bounded_signed (lt_z x (pos 0)) (nat_abs x % nat_abs y) left ∙ ap Ok (rem_by_magnitudes x y ∙ remainder_is x y))

-- the text by sign and magnitude
pub number_text_is : (z : ℤ) → (if lt_z z (pos 0) then 45 ∷ magnitude_text (nat_abs z) else magnitude_text (nat_abs z)) ≡ number_text z
unfolding number_text
number_text_is (pos n) = rw (none_below n) refl
number_text_is (negsuc n) = refl

-- a front that is a text is as long as it
pub front_length : (n : ℕ) (out text : List ℕ) → n ≤ length out → take n out ≡ text → n ≡ length text
front_length n out text h e = sym (length-take-le n out h) ∙ ap length e

-- the text of a negative number, after its sign
pub negative_text : (out shown text : List ℕ) (negative : Bool) → 0 < length out → negative ≡ true → shown ≡ take 1 (set out 0 45) ++ text → shown ≡ (if negative then 45 ∷ text else text)
negative_text out shown text negative h e f = rw e (f ∙ rw (take_more_set out 0 45 h) refl)

-- a floor is so many units
pub floor_units : (z : ℤ) → (units : ℤ) × (floor_of z ≡ units *ℤ pos 1000000)
floor_units (pos n) = (pos (n / 1000000), refl)
floor_units (negsuc n) =
    let more : n / 1000000 + 1 ≡ suc (n / 1000000) = omega arith in
    (negsuc (n / 1000000), ap (λ q. neg_ℤ (pos (q * 1000000))) more ∙ sym (negsuc-*ℤ-pos (n / 1000000) 1000000))
