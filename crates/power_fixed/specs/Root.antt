-- Square roots of numbers. A number is seen as its whole count of millionths. Source: own.
use Rattle.std.specs.Prelude.{◌≡◌, ℕ, zero, suc, ◌+◌, ◌*◌, ℤ, pos, ◌≤ℤ◌, ◌<ℤ◌, unsigned_abs, Bool, nat_le, Ok}
use Rattle.std.specs.Prelude.{if◌then◌else◌}
use Rattle.fixed_num.specs.Number.{product}
use Rattle.fixed_num.specs.Rounding.{nearest}

-- the greatest number up to n that passes a test, or 0 where none does
unfoldable pub greatest_up_to : ℕ → (ℕ → Bool) → ℕ
greatest_up_to zero test = 0
greatest_up_to (suc n) test = if test (suc n) then suc n else greatest_up_to n test

-- whether the square of r, rounded to millionths as each product is, is at most v
unfoldable pub has_square_within : ℕ → ℕ → Bool
has_square_within v r = nat_le (nearest (r * r) 1000000) v

-- the greatest number whose square is at most v, for v from 0. It is at most v and one unit more.
unfoldable pub root_of : ℤ → ℤ
root_of v = pos (greatest_up_to (unsigned_abs v + 1000000) (has_square_within (unsigned_abs v)))

-- r is the root of v: its square is a number and at most v, and no greater number has such a square
pub record IsRoot (v r : ℤ) : Type 0 where
  pub not_negative : pos 0 ≤ℤ r
  pub square : ℤ
  pub is_square : product r r ≡ Ok square
  pub not_above : square ≤ℤ v
  pub greatest : (s above : ℤ) → r <ℤ s → product s s ≡ Ok above → v <ℤ above
