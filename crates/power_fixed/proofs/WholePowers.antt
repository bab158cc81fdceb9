-- Whole powers, whatever the number of steps that their definition is given.
use Rattle.std.proofs.Common.{◌≡◌, ℕ, zero, suc, ◌+◌, ◌-◌, ◌*◌, ◌/◌, ◌%◌, ◌^◌, ◌<◌, ◌≤◌, ℤ, refl, sym, ap, ◌∙◌, arith, true, false, inl, inr}
use Rattle.std.specs.Prelude.{Ok, nat_eq}
use Rattle.std.proofs.lemmas.Bool.{cases_eq, eq-eqb, ne_eqb}
use Rattle.std.proofs.lemmas.Nat.{shr-shr, div_below}
use Rattle.std.proofs.Math.Nat.{pow-suc, one-le-pow}
use Rattle.power_fixed.specs.Power.{one, times, whole_within, whole_of}

-- one step, by the case of the exponent
step_zero : (k : ℕ) (b : ℤ) (n : ℕ) → n ≡ 0 → whole_within k b n ≡ Ok one
unfolding whole_within
step_zero zero b n h = refl
step_zero (suc k) b n h = let none : nat_eq n 0 ≡ true = eq-eqb n 0 h in rw none refl

step_even : (k : ℕ) (b : ℤ) (n : ℕ) → (n ≡ 0 → ⊥) → n % 2 ≡ 0 → whole_within (suc k) b n ≡ times (whole_within k b (n / 2)) (whole_within k b (n / 2))
unfolding whole_within
step_even k b n some h =
    let more : nat_eq n 0 ≡ false = ne_eqb n 0 some in
    let even : nat_eq (n % 2) 0 ≡ true = eq-eqb (n % 2) 0 h in
    rw (more, even) refl

step_odd : (k : ℕ) (b : ℤ) (n : ℕ) → n % 2 ≡ 1 → whole_within (suc k) b n ≡ times (Ok b) (whole_within k b (n - 1))
unfolding whole_within
step_odd k b n h =
    let more : nat_eq n 0 ≡ false = ne_eqb n 0 (λ e. omega arith) in
    let odd : nat_eq (n % 2) 0 ≡ false = ne_eqb (n % 2) 0 (λ e. omega arith) in
    rw (more, odd) refl

-- more steps than the exponent change nothing
enough : (j k : ℕ) (b : ℤ) (n : ℕ) → n ≤ j → n ≤ k → whole_within j b n ≡ whole_within k b n
enough zero k b n h i = step_zero zero b n (omega arith) ∙ sym (step_zero k b n (omega arith))
enough (suc j) zero b n h i = step_zero (suc j) b n (omega arith) ∙ sym (step_zero zero b n (omega arith))
enough (suc j) (suc k) b n h i = elim (cases_eq n 0) [
  | inl none ↦ step_zero (suc j) b n none ∙ sym (step_zero (suc k) b n none)
  | inr some ↦ elim (cases_eq (n % 2) 0) [
    | inl even ↦ step_even j b n some even ∙ ap (λ w. times w w) (enough j k b (n / 2) (omega arith) (omega arith)) ∙ sym (step_even k b n some even)
    | inr other ↦ let odd : n % 2 ≡ 1 = omega arith in
        step_odd j b n odd ∙ ap (times (Ok b)) (enough j k b (n - 1) (omega arith) (omega arith)) ∙ sym (step_odd k b n odd)
  ]
]

pub whole_zero : (b : ℤ) → whole_of b 0 ≡ Ok one
unfolding whole_of
whole_zero b = step_zero 0 b 0 refl

whole_even : (b : ℤ) (n : ℕ) → (n ≡ 0 → ⊥) → n % 2 ≡ 0 → whole_of b n ≡ times (whole_of b (n / 2)) (whole_of b (n / 2))
unfolding whole_of
whole_even b n some even =
    enough n (suc n) b n (omega arith) (omega arith) ∙ step_even n b n some even ∙ ap (λ w. times w w) (enough n (n / 2) b (n / 2) (omega arith) (omega arith))

whole_odd : (b : ℤ) (n : ℕ) → n % 2 ≡ 1 → whole_of b n ≡ times (Ok b) (whole_of b (n - 1))
unfolding whole_of
whole_odd b n odd =
    enough n (suc n) b n (omega arith) (omega arith) ∙ step_odd n b n odd ∙ ap (times (Ok b)) (enough n (n - 1) b (n - 1) (omega arith) (omega arith))

-- the laws of squaring
pub whole_double : (b : ℤ) (n : ℕ) → 0 < n → whole_of b (2 * n) ≡ times (whole_of b n) (whole_of b n)
whole_double b n some =
    let half : 2 * n / 2 ≡ n = omega arith in
    whole_even b (2 * n) (λ e. omega arith) (omega arith) ∙ ap (λ m. times (whole_of b m) (whole_of b m)) half

pub whole_double_one : (b : ℤ) (n : ℕ) → whole_of b (2 * n + 1) ≡ times (Ok b) (whole_of b (2 * n))
whole_double_one b n =
    let less : 2 * n + 1 - 1 ≡ 2 * n = omega arith in
    whole_odd b (2 * n + 1) (omega arith) ∙ ap (λ m. times (Ok b) (whole_of b m)) less

-- a power from that to half its exponent
pub doubled_even : (b : ℤ) (n : ℕ) → n % 2 ≡ 0 → whole_of b n ≡ times (whole_of b (n / 2)) (whole_of b (n / 2))
doubled_even b n even = elim (cases_eq n 0) [
  | inl none ↦ let half : n / 2 ≡ 0 = omega arith in rw (none, whole_zero b) refl
  | inr some ↦ whole_even b n some even
]

pub doubled_odd : (b : ℤ) (n : ℕ) → n % 2 ≡ 1 → whole_of b n ≡ times (Ok b) (times (whole_of b (n / 2)) (whole_of b (n / 2)))
doubled_odd b n odd =
    let half : (n - 1) / 2 ≡ n / 2 = omega arith in
    whole_odd b n odd ∙ ap (times (Ok b)) (doubled_even b (n - 1) (omega arith) ∙ ap (λ m. times (whole_of b m) (whole_of b m)) half)

-- an exponent without its last digits, and without one more
pub one_digit_less : (n j k : ℕ) → k ≡ j + 1 → n / 2 ^ j / 2 ≡ n / 2 ^ k
one_digit_less n j k h = shr-shr n j 1 ∙ ap (λ m. n / 2 ^ m) (sym h)

-- no digit is left
pub no_digits : (n highest k : ℕ) → n < 2 * 2 ^ highest → k ≡ suc highest → n / 2 ^ k ≡ 0
no_digits n highest k h e =
    let power : 2 ^ k ≡ 2 * 2 ^ highest = ap (λ m. 2 ^ m) e ∙ pow-suc 2 highest ∙ omega arith in
    omega (arith, div_below n (2 ^ k) 1 (omega (arith, one-le-pow highest 2 (omega arith))) (omega arith))
