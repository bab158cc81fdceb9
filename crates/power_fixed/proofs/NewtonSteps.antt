-- Newton's steps to a root of whole numbers, from above.
use Rattle.std.proofs.Common.{◌≡◌, ℕ, zero, suc, ◌+◌, ◌-◌, ◌*◌, ◌/◌, ◌%◌, ◌^◌, ◌<◌, ◌≤◌, ◌∙◌, arith, inl, inr}
use Rattle.std.proofs.lemmas.Bool.{cases_lt}
use Rattle.std.proofs.lemmas.Nat.{mul-le, div-add-mod', mod_below, pow-add}
use Rattle.std.proofs.Math.Nat.{pow-suc, pow-le-pow_right, one-le-pow}

-- four times a product is at most the square of the sum
four_products : (a b : ℕ) → 4 * (a * b) ≤ (a + b) * (a + b)
four_products a b = elim (cases_lt a b) [
  | inl less ↦ ordered a b (b - a) (omega arith)
  | inr not_less ↦ turned a b (a - b) (omega arith)
]
  where
    ordered : (a b d : ℕ) → b ≡ a + d → 4 * (a * b) ≤ (a + b) * (a + b)
    ordered a b d e = rw e (omega arith)

    turned : (a b d : ℕ) → a ≡ b + d → 4 * (a * b) ≤ (a + b) * (a + b)
    turned a b d e = rw e (omega arith)

-- n is below the next product of the divisor
below_next : (n x : ℕ) → 0 < x → n < x * (n / x + 1)
below_next n x some =
    let whole : n / x * x + n % x ≡ n = div-add-mod' n x in
    let left : n % x < x = mod_below n x some in
    omega arith

-- a step stays at or above the root
pub step_above : (n x y : ℕ) → 0 < x → y ≡ (x + n / x) / 2 → n < (y + 1) * (y + 1)
step_above n x y some e =
    let next : n < x * (n / x + 1) = below_next n x some in
    let mean : 4 * (x * (n / x + 1)) ≤ (x + (n / x + 1)) * (x + (n / x + 1)) = four_products x (n / x + 1) in
    let half : x + (n / x + 1) ≤ 2 * (y + 1) = omega arith in
    let square : (x + (n / x + 1)) * (x + (n / x + 1)) ≤ 2 * (y + 1) * (2 * (y + 1)) = mul-le (x + (n / x + 1)) (x + (n / x + 1)) (2 * (y + 1)) (2 * (y + 1)) half half in
    omega arith

-- and is not zero
pub step_some : (n y : ℕ) → 0 < n → n < (y + 1) * (y + 1) → 0 < y
step_some n zero some above = absurd (omega arith)
step_some n (suc y) some above = omega arith

-- a step that does not go down began at the root
pub step_ends : (n x : ℕ) → 0 < x → x ≤ (x + n / x) / 2 → x * x ≤ n
step_ends n x some h =
    let whole : n / x * x + n % x ≡ n = div-add-mod' n x in
    let more : x ≤ n / x = omega arith in
    let square : x * x ≤ n / x * x = mul-le x x (n / x) x more (omega arith) in
    omega arith

-- the first number, a power of two, is above the root
pub start_above : (n k : ℕ) → n < 2 * 2 ^ k → n < (2 ^ (k / 2 + 1) + 1) * (2 ^ (k / 2 + 1) + 1)
start_above n k h =
    let power : 2 ^ suc k ≡ 2 * 2 ^ k = pow-suc 2 k ∙ omega arith in
    let more : 2 ^ suc k ≤ 2 ^ (k / 2 + 1 + (k / 2 + 1)) = pow-le-pow_right (omega arith) (omega arith) in
    let square : 2 ^ (k / 2 + 1 + (k / 2 + 1)) ≡ 2 ^ (k / 2 + 1) * 2 ^ (k / 2 + 1) = pow-add 2 (k / 2 + 1) (k / 2 + 1) in
    omega arith

pub start_small : (k : ℕ) → k < 64 → 2 ^ (k / 2 + 1) ≤ 2 ^ 32
start_small k h = pow-le-pow_right {n = 2} (omega arith) {i = k / 2 + 1} {j = 32} (omega arith)

pub start_some : (k : ℕ) → 0 < 2 ^ (k / 2 + 1)
start_some k = omega (arith, one-le-pow (k / 2 + 1) 2 (omega arith))
