-- The powers of one, and the powers to zero.
use Rattle.std.proofs.Common.{◌≡◌, ℕ, zero, suc, ◌-◌, ◌*◌, ◌/◌, ◌%◌, ℤ, pos, refl, sym, ap, ◌∙◌, arith, inl, inr}
use Rattle.std.specs.Prelude.{Ok, nat_eq, nat_le, unsigned_abs}
use Rattle.std.proofs.lemmas.Bool.{cases_Bool}
use Rattle.power_fixed.specs.Root.{root_of}
use Rattle.power_fixed.specs.Power.{one, whole_within, whole_of, rest_after, root_after, part_after, part_of, power_of}
use Rattle.power_fixed.proofs.Squares.{root_is}
use Rattle.power_fixed.proofs.WholePowers.{whole_zero}

-- a fraction of 0 has no digit that is 1
rest_zero : (k : ℕ) → rest_after 0 k ≡ 0
unfolding rest_after
rest_zero zero = refl
rest_zero (suc k) = rw (rest_zero k) refl

part_zero : (b : ℤ) (k : ℕ) → part_after b 0 k ≡ Ok one
unfolding part_after
part_zero b zero = refl
part_zero b (suc k) = rw (rest_zero k) (part_zero b k)

pub power_zero : (b : ℤ) → power_of b (pos 0) ≡ Ok one
unfolding power_of part_of
power_zero b = rw (whole_zero b, part_zero b 20) refl

-- each root of 1 is 1
root_one : root_of one ≡ one
root_one = sym (root_is one 1000000 (omega arith) (omega arith))

roots_one : (k : ℕ) → root_after one k ≡ one
unfolding root_after
roots_one zero = refl
roots_one (suc k) = ap root_of (roots_one k) ∙ root_one

part_one : (f k : ℕ) → part_after one f k ≡ Ok one
unfolding part_after
part_one f zero = refl
part_one f (suc k) = elim (cases_Bool (nat_le 1000000 (2 * rest_after f k))) [
  | inl digit ↦ rw (digit, part_one f k, roots_one (suc k)) refl
  | inr none ↦ rw none (part_one f k)
]

whole_one_within : (k n : ℕ) → whole_within k one n ≡ Ok one
unfolding whole_within
whole_one_within zero n = refl
whole_one_within (suc k) n = elim (cases_Bool (nat_eq n 0)) [
  | inl none ↦ rw none refl
  | inr some ↦ elim (cases_Bool (nat_eq (n % 2) 0)) [
    | inl even ↦ rw (some, even, whole_one_within k (n / 2)) refl
    | inr odd ↦ rw (some, odd, whole_one_within k (n - 1)) refl
  ]
]

whole_one : (n : ℕ) → whole_of one n ≡ Ok one
unfolding whole_of
whole_one n = whole_one_within n n

pub power_one : (y : ℤ) → power_of one y ≡ Ok one
unfolding power_of part_of
power_one y = rw (whole_one (unsigned_abs y / 1000000), part_one (unsigned_abs y % 1000000) 20) refl
