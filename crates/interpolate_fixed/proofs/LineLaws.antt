-- Laws of lines.
use Rattle.std.proofs.Common.{◌≡◌, ℕ, suc, ◌*◌, ◌≤◌, ℤ, pos, negsuc, neg_ℤ, ◌+ℤ◌, ◌-ℤ◌, ◌*ℤ◌, refl, ap, ◌∙◌, arith, true}
use Rattle.std.specs.Prelude.{Result, Ok, Err, nat_le, unsigned_abs, ◌≤ℤ◌, ◌<ℤ◌}
use Rattle.std.proofs.lemmas.Bool.{le-leb}
use Rattle.std.proofs.lemmas.Int.{ints, by_lt_z, unsigned_abs-mul}
use Rattle.std.proofs.lemmas.Nat.{mul-le}
use Rattle.fixed_num.specs.Number.{bound}
use Rattle.std.proofs.Math.IntN.{pos-*ℤ-pos, negsuc-*ℤ-pos}
use Rattle.fixed_num.specs.Rounding.{nearest}
use Rattle.fixed_num.specs.declared.fixed.Arith.{Arith}
use Rattle.interpolate_fixed.specs.Linear.{farthest, linear_of, component_of}
use Rattle.interpolate_fixed.specs.Share.{share_of}
use Rattle.interpolate_fixed.proofs.Steps.{IsPartOf, nearest_part, linear_is, share_part}

-- what a line gives is a part of its way off
line_step : (x x0 a x1 b r : ℤ) → x0 ≤ℤ x → x ≤ℤ x1 → x0 <ℤ x1 → linear_of x x0 a x1 b ≡ Ok r → (step : ℤ) × IsPartOf step (b -ℤ a) × (r ≡ a +ℤ step)
line_step x x0 a x1 b r from to apart e =
    split (share_of (b -ℤ a) (unsigned_abs (x -ℤ x0)) (unsigned_abs (x1 -ℤ x0))) refl
  where
    part : ℕ
    part = unsigned_abs (x -ℤ x0)

    whole : ℕ
    whole = unsigned_abs (x1 -ℤ x0)

    split : (s : Result ℤ Arith) → share_of (b -ℤ a) part whole ≡ s → (step : ℤ) × IsPartOf step (b -ℤ a) × (r ≡ a +ℤ step)
    split (Ok step) is = (step, share_part (b -ℤ a) part whole step (omega (arith, ints)) (omega (arith, ints)) is, let l = linear_is x x0 a x1 b from in cc)
    split (Err fault) is = let l = linear_is x x0 a x1 b from in absurd (cc)

pub line_up : (x x0 a x1 b r : ℤ) → x0 ≤ℤ x → x ≤ℤ x1 → x0 <ℤ x1 → a ≤ℤ b → linear_of x x0 a x1 b ≡ Ok r → (a ≤ℤ r) × (r ≤ℤ b)
line_up x x0 a x1 b r from to apart up e =
    let (step, part, is) = line_step x x0 a x1 b r from to apart e in
    let ahead : pos 0 ≤ℤ step = part.not_back (omega (arith, ints)) in
    rw is (omega (arith, ints), omega (arith, ints, part.not_farther))

pub line_down : (x x0 a x1 b r : ℤ) → x0 ≤ℤ x → x ≤ℤ x1 → x0 <ℤ x1 → b ≤ℤ a → linear_of x x0 a x1 b ≡ Ok r → (b ≤ℤ r) × (r ≤ℤ a)
line_down x x0 a x1 b r from to apart down e =
    let (step, part, is) = line_step x x0 a x1 b r from to apart e in
    let back : step ≤ℤ pos 0 = part.not_ahead (omega (arith, ints)) in
    rw is (omega (arith, ints, part.not_farther), omega (arith, ints))

-- at the start of a line
times_none : (z : ℤ) → z *ℤ pos 0 ≡ pos 0
times_none (pos n) = let none : n * 0 ≡ 0 = omega arith in pos-*ℤ-pos n 0 ∙ ap pos none
times_none (negsuc n) = let none : suc n * 0 ≡ 0 = omega arith in negsuc-*ℤ-pos n 0 ∙ ap (λ m. neg_ℤ (pos m)) none

pub line_start : (x0 a x1 b : ℤ) → x0 <ℤ x1 → linear_of x0 x0 a x1 b ≡ Ok a
line_start x0 a x1 b apart =
    let none : x0 -ℤ x0 ≡ pos 0 = omega (arith, ints) in
    let nothing : nearest 0 (unsigned_abs (x1 -ℤ x0)) ≡ 0 = omega (arith, nearest_part 0 0 (unsigned_abs (x1 -ℤ x0)) (omega (arith, ints)) (omega arith)) in
    let same : a +ℤ pos 0 ≡ a = omega (arith, ints) in
    rw (none, times_none (b -ℤ a), nothing, same) refl

-- components of colors are near to each other
pub line_of_component : (x x0 a x1 b : ℤ) → unsigned_abs x ≤ bound → unsigned_abs x0 ≤ bound → pos 0 ≤ℤ a → a ≤ℤ pos 255000000 → pos 0 ≤ℤ b → b ≤ℤ pos 255000000 → linear_of x x0 a x1 b ≡ Ok (component_of x x0 a x1 b)
line_of_component x x0 a x1 b h k a_low a_high b_low b_high =
    let near : unsigned_abs (b -ℤ a) ≤ 255000000 = omega (arith, ints) in
    let far : unsigned_abs (x -ℤ x0) ≤ 2 * bound = omega (arith, ints) in
    let product : unsigned_abs (b -ℤ a) * unsigned_abs (x -ℤ x0) ≤ 255000000 * (2 * bound) = mul-le (unsigned_abs (b -ℤ a)) (unsigned_abs (x -ℤ x0)) 255000000 (2 * bound) near far in
    let small : unsigned_abs ((b -ℤ a) *ℤ (x -ℤ x0)) ≤ farthest = rw (unsigned_abs-mul (b -ℤ a) (x -ℤ x0)) (omega arith) in
    let passes : nat_le (unsigned_abs ((b -ℤ a) *ℤ (x -ℤ x0))) farthest ≡ true = le-leb (unsigned_abs ((b -ℤ a) *ℤ (x -ℤ x0))) farthest small in
    rw passes refl

-- what a line gives lies where its ends do
pub line_between : (x x0 a x1 b r low high : ℤ) → x0 ≤ℤ x → x ≤ℤ x1 → x0 <ℤ x1 → low ≤ℤ a → a ≤ℤ high → low ≤ℤ b → b ≤ℤ high → linear_of x x0 a x1 b ≡ Ok r → (low ≤ℤ r) × (r ≤ℤ high)
line_between x x0 a x1 b r low high from to apart a_low a_high b_low b_high e =
    by_lt_z a b
    (λ up. let (above, below) = line_up x x0 a x1 b r from to apart (omega (arith, ints)) e in (omega (arith, ints), omega (arith, ints)))
    (λ not_up. let (above, below) = line_down x x0 a x1 b r from to apart (omega (arith, ints)) e in (omega (arith, ints), omega (arith, ints)))
