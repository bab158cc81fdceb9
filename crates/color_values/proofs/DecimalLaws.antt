-- Laws of the numbers that digits write.
use Rattle.std.proofs.Common.{◌≡◌, ℕ, ◌+◌, ◌-◌, ◌*◌, ◌/◌, ◌^◌, ◌<◌, ◌≤◌, List, ◌++◌, length, take, drop, refl, sym, ap, ◌∙◌, append_assoc, length-drop, arith, true, false, inl, inr}
use Rattle.std.specs.Prelude.{nat_eq, nat_le}
use Rattle.std.specs.Char.{is_ascii_digit}
use Rattle.std.specs.List.{list_all}
use Rattle.std.proofs.lemmas.Bool.{and_parts, cases_lt, cases_eq, ne_eqb}
use Rattle.std.proofs.lemmas.List.{take-append-drop}
use Rattle.std.proofs.lemmas.List.Folds.{list_all-append}
use Rattle.std.proofs.lemmas.Nat.{div-mul-add}
use Rattle.std.proofs.Math.Nat.{mul-le-mul_left}
use Rattle.fixed_num.specs.Decimal.{number_of}
use Rattle.fixed_num.specs.Saturation.{saturated}
use Rattle.fixed_num.proofs.Decimals.{ten_pow, number_of-append, number_of-lt}
use Rattle.color_values.specs.ColorNumber.{most_units}

-- what is cut off at 10^27 is zero where the whole is
pub saturated_zero : (n : ℕ) → nat_eq (saturated n) 0 ≡ nat_eq n 0
saturated_zero n = elim (cases_eq n 0) [
  | inl none ↦ rw none refl
  | inr some ↦ ne_eqb (saturated n) 0 (λ e. some (omega arith)) ∙ sym (ne_eqb n 0 some)
]

-- a number against the bound, by its units W and what is after the point, F / t
pub below_bound : (W F t : ℕ) → F < t → W < most_units → nat_le (W * t + F) (most_units * t) ≡ true
below_bound W F t h k = let more : t * (W + 1) ≤ t * most_units = mul-le-mul_left t (omega arith) in grind arith

pub at_bound : (W F t : ℕ) → W ≡ most_units → nat_le (W * t + F) (most_units * t) ≡ nat_eq F 0
at_bound W F t e = rw e (grind arith)

pub past_bound : (W F t : ℕ) → 0 < t → most_units < W → nat_le (W * t + F) (most_units * t) ≡ false
past_bound W F t some h = let more : t * (most_units + 1) ≤ t * W = mul-le-mul_left t (omega arith) in grind arith

-- the first of some digits, and the others
both_digits : (ds : List ℕ) (k : ℕ) → list_all is_ascii_digit ds ≡ true → (list_all is_ascii_digit (take k ds) ≡ true) × (list_all is_ascii_digit (drop k ds) ≡ true)
both_digits ds k h =
    and_parts (list_all is_ascii_digit (take k ds)) (list_all is_ascii_digit (drop k ds))
    (sym (list_all-append is_ascii_digit (take k ds) (drop k ds)) ∙ ap (list_all is_ascii_digit) (take-append-drop k ds) ∙ h)

pub list_all-front : (ds : List ℕ) (k : ℕ) → list_all is_ascii_digit ds ≡ true → list_all is_ascii_digit (take k ds) ≡ true
list_all-front ds k h = (both_digits ds k h).0

-- the number without its last digits
pub number_of-front : (whole fraction : List ℕ) (k : ℕ) → k ≤ length fraction → list_all is_ascii_digit fraction ≡ true
    → number_of (whole ++ take k fraction) ≡ number_of (whole ++ fraction) / 10 ^ (length fraction - k)
number_of-front whole fraction k h digits =
    let rest = drop k fraction in
    let both : whole ++ fraction ≡ (whole ++ take k fraction) ++ rest = ap (λ ds. whole ++ ds) (sym (take-append-drop k fraction)) ∙ sym (append_assoc whole (take k fraction) rest) in
    let long : length rest ≡ length fraction - k = length-drop k fraction in
    rw (both, number_of-append (whole ++ take k fraction) rest, ← long) (sym (div-mul-add (number_of (whole ++ take k fraction)) (10 ^ length rest) (number_of rest) (number_of-lt rest (both_digits fraction k digits).1)))

-- the digits before the point are within the bound too
pub whole_within : (whole fraction : List ℕ) → number_of (whole ++ fraction) ≤ most_units * 10 ^ length fraction → number_of whole ≤ most_units
whole_within whole fraction h = elim (cases_lt most_units (number_of whole)) [
  | inl more ↦
      let t = 10 ^ length fraction in
      let some : 0 < t = ten_pow (length fraction) in
      let least : t * (most_units + 1) ≤ t * number_of whole = mul-le-mul_left t (omega arith) in
      absurd (omega (arith, number_of-append whole fraction))
  | inr within ↦ within
]
