-- A step from one end of a line towards the other.
use Rattle.std.proofs.Common.{◌≡◌, ℕ, zero, suc, ◌+◌, ◌*◌, ◌<◌, ◌≤◌, ℤ, pos, negsuc, neg_ℤ, ◌+ℤ◌, ◌-ℤ◌, ◌*ℤ◌, refl, sym, ap, ◌∙◌, arith, inl, inr}
use Rattle.std.specs.Prelude.{Result, Ok, Err, nat_le, unsigned_abs, ◌≤ℤ◌, ◌<ℤ◌, if◌then◌else◌}
use Rattle.std.proofs.lemmas.Bool.{cases_Bool}
use Rattle.std.proofs.lemmas.Int.{ints, unsigned_abs-mul, by_lt_z}
use Rattle.std.proofs.Math.IntN.{negsuc-*ℤ-pos}
use Rattle.std.proofs.lemmas.Nat.{div_below}
use Rattle.std.proofs.Math.Nat.{mul-le-mul_left}
use Rattle.fixed_num.specs.Number.{bound}
use Rattle.fixed_num.specs.Rounding.{nearest, rounded}
use Rattle.fixed_num.specs.declared.fixed.Arith.{Arith}
use Rattle.fixed_num.specs.declared.fixed.Arith.TheVariants.{Overflow}
use Rattle.interpolate_fixed.specs.Linear.{farthest, linear_of}
use Rattle.interpolate_fixed.specs.Share.{share_of}

-- a part of a number is not more than it
pub nearest_part : (w part whole : ℕ) → 0 < whole → part ≤ whole → nearest (w * part) whole ≤ w
nearest_part w part whole some within =
    let most : w * part ≤ w * whole = mul-le-mul_left w within in
    omega (arith, div_below (2 * (w * part) + whole) (2 * whole) (w + 1) (omega arith) (omega arith))

-- a step on the way, which does not go past its end or back
pub record IsPartOf (step way : ℤ) : Type 0 where
  pub not_farther : unsigned_abs step ≤ unsigned_abs way
  pub not_back : pos 0 ≤ℤ way → pos 0 ≤ℤ step
  pub not_ahead : way ≤ℤ pos 0 → step ≤ℤ pos 0

rounded_neg : (n d : ℕ) → 0 < d → rounded (neg_ℤ (pos n)) d ≡ neg_ℤ (pos (nearest n d))
rounded_neg zero d some = let none : nearest 0 d ≡ 0 = omega (arith, nearest_part 0 0 d some (omega arith)) in rw none refl
rounded_neg (suc n) d some = refl

part_back : (m n : ℕ) → m ≤ suc n → IsPartOf (neg_ℤ (pos m)) (negsuc n)
part_back zero n h = record { not_farther = omega arith; not_back = λ b. omega (arith, ints); not_ahead = λ b. omega (arith, ints) }
part_back (suc m) n h = record { not_farther = omega arith; not_back = λ b. omega (arith, ints); not_ahead = λ b. omega (arith, ints) }

pub rounded_part : (way : ℤ) (part whole : ℕ) → 0 < whole → part ≤ whole → IsPartOf (rounded (way *ℤ pos part) whole) way
rounded_part (pos n) part whole some within =
    let most = nearest_part n part whole some within in
    record { not_farther = most; not_back = λ h. omega (arith, ints); not_ahead = λ h. omega (arith, ints) }
rounded_part (negsuc n) part whole some within =
    rw (negsuc-*ℤ-pos n part, rounded_neg (suc n * part) whole some) (part_back (nearest (suc n * part) whole) n (nearest_part (suc n) part whole some within))

-- the end of a step
abbrev pub onward : ℤ → Result ℤ Arith → Result ℤ Arith
onward a (Ok step) = Ok (a +ℤ step)
onward a (Err fault) = Err fault

from_share : (a way : ℤ) (part whole : ℕ) → (if nat_le (unsigned_abs (way *ℤ pos part)) farthest then Ok (a +ℤ rounded (way *ℤ pos part) whole) else Err Overflow) ≡ onward a (share_of way part whole)
unfolding share_of
from_share a way part whole =
    rw (unsigned_abs-mul way (pos part))
    (elim (cases_Bool (nat_le (unsigned_abs way * part) farthest)) [ inl near ↦ rw near refl | inr far ↦ rw far refl ])

-- the line by a step
pub linear_is : (x x0 a x1 b : ℤ) → x0 ≤ℤ x → onward a (share_of (b -ℤ a) (unsigned_abs (x -ℤ x0)) (unsigned_abs (x1 -ℤ x0))) ≡ linear_of x x0 a x1 b
linear_is x x0 a x1 b from =
    let ahead : pos (unsigned_abs (x -ℤ x0)) ≡ x -ℤ x0 = omega (arith, ints) in
    sym (from_share a (b -ℤ a) (unsigned_abs (x -ℤ x0)) (unsigned_abs (x1 -ℤ x0)))
    ∙ ap (λ d. if nat_le (unsigned_abs ((b -ℤ a) *ℤ d)) farthest then Ok (a +ℤ rounded ((b -ℤ a) *ℤ d) (unsigned_abs (x1 -ℤ x0))) else Err Overflow) ahead

-- a step that was taken
pub share_part : (way : ℤ) (part whole : ℕ) (step : ℤ) → 0 < whole → part ≤ whole → share_of way part whole ≡ Ok step → IsPartOf step way
unfolding share_of
share_part way part whole step some within e = elim (cases_Bool (nat_le (unsigned_abs way * part) farthest)) [
  | inl near ↦ let e' = rw near at e in let same : rounded (way *ℤ pos part) whole ≡ step = cc in rw (← same) (rounded_part way part whole some within)
  | inr far ↦ let e' = rw far at e in absurd (cc)
]

-- it ends within the bound
pub part_fits : (a b step : ℤ) → unsigned_abs a ≤ bound → unsigned_abs b ≤ bound → IsPartOf step (b -ℤ a) → unsigned_abs (a +ℤ step) ≤ bound
part_fits a b step h k part = by_lt_z (b -ℤ a) (pos 0)
    (λ down. let low : step ≤ℤ pos 0 = part.not_ahead (omega (arith, ints)) in omega (arith, ints, part.not_farther))
    (λ up. let high : pos 0 ≤ℤ step = part.not_back up in omega (arith, ints, part.not_farther))

-- the line, and the bound of its end, by a share that was answered
pub linear_fault : (x x0 a x1 b way : ℤ) (part whole : ℕ) (fault : Arith) → Err fault ≡ share_of way part whole → x0 ≤ℤ x → way ≡ b -ℤ a → part ≡ unsigned_abs (x -ℤ x0) → whole ≡ unsigned_abs (x1 -ℤ x0) → Err fault ≡ linear_of x x0 a x1 b
linear_fault x x0 a x1 b way part whole fault is from e f g = let l = linear_is x x0 a x1 b from in cc

pub linear_step : (x x0 a x1 b way : ℤ) (part whole : ℕ) (step : ℤ) → Ok step ≡ share_of way part whole → x0 ≤ℤ x → way ≡ b -ℤ a → part ≡ unsigned_abs (x -ℤ x0) → whole ≡ unsigned_abs (x1 -ℤ x0) → Ok (a +ℤ step) ≡ linear_of x x0 a x1 b
linear_step x x0 a x1 b way part whole step is from e f g = let l = linear_is x x0 a x1 b from in cc

pub step_fits : (x x0 a x1 b way : ℤ) (part whole : ℕ) (step : ℤ) → Ok step ≡ share_of way part whole → x0 ≤ℤ x → x ≤ℤ x1 → x0 <ℤ x1 → way ≡ b -ℤ a → part ≡ unsigned_abs (x -ℤ x0) → whole ≡ unsigned_abs (x1 -ℤ x0) → unsigned_abs a ≤ bound → unsigned_abs b ≤ bound → unsigned_abs (a +ℤ step) ≤ bound
step_fits x x0 a x1 b way part whole step is from to apart e f g h k =
    let some : 0 < whole = omega (arith, ints) in
    let within : part ≤ whole = omega (arith, ints) in
    part_fits a b step h k (rw e at (share_part way part whole step some within (sym is)))
