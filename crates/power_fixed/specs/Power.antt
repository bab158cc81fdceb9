-- Powers of numbers. A number is seen as its whole count of millionths. Source: own.
--
-- The whole part of the exponent is taken by squaring, the fraction by its first twenty binary digits, each a
-- repeated square root. Each product is rounded to millionths, and is a fault where it is past the bound.
use Rattle.std.specs.Prelude.{ℕ, zero, suc, ◌-◌, ◌*◌, ◌/◌, ◌%◌, ℤ, pos, unsigned_abs, nat_eq, nat_le, Result, Ok, Err}
use Rattle.std.specs.Prelude.{if◌then◌else◌}
use Rattle.fixed_num.specs.Number.{product}
use Rattle.fixed_num.specs.declared.fixed.Arith.{Arith}
use Rattle.power_fixed.specs.Root.{root_of}

-- one
abbrev pub one : ℤ
one = pos 1000000

-- the product of two answers, of which the first fault is the fault
abbrev pub times : Result ℤ Arith → Result ℤ Arith → Result ℤ Arith
times (Ok x) (Ok y) = product x y
times (Ok x) (Err fault) = Err fault
times (Err fault) y = Err fault

-- b to the whole power n in at most `steps` steps, of which n are enough:
--   b^0 = 1
--   b^n = b^(n/2) * b^(n/2)   for an even n from 2
--   b^n = b * b^(n-1)         for an odd n
unfoldable pub whole_within : ℕ → ℤ → ℕ → Result ℤ Arith
whole_within zero b n = Ok one
whole_within (suc steps) b n =
    if nat_eq n 0 then Ok one else
    (if nat_eq (n % 2) 0 then times (whole_within steps b (n / 2)) (whole_within steps b (n / 2)) else
    times (Ok b) (whole_within steps b (n - 1)))

-- b to the whole power n
unfoldable pub whole_of : ℤ → ℕ → Result ℤ Arith
whole_of b n = whole_within n b n

-- what is left of the fraction f, in millionths, after its first k binary digits: each is taken off by
-- doubling, and by taking off 1 where that gives 1 or more
unfoldable pub rest_after : ℕ → ℕ → ℕ
rest_after f zero = f
rest_after f (suc k) = if nat_le 1000000 (2 * rest_after f k) then 2 * rest_after f k - 1000000 else 2 * rest_after f k

-- the root of b taken k times, which is b to the power 1/2^k
unfoldable pub root_after : ℤ → ℕ → ℤ
root_after b zero = b
root_after b (suc k) = root_of (root_after b k)

-- b to the power of the first k binary digits of f: the product, from 1 on and in order, of the roots at
-- the digits that are 1
unfoldable pub part_after : ℤ → ℕ → ℕ → Result ℤ Arith
part_after b f zero = Ok one
part_after b f (suc k) =
    if nat_le 1000000 (2 * rest_after f k) then times (part_after b f k) (Ok (root_after b (suc k))) else
    part_after b f k

-- b to the power of a fraction of f millionths, fewer than 10^6
unfoldable pub part_of : ℤ → ℕ → Result ℤ Arith
part_of b f = part_after b f 20

-- b to the power y, for b above 0 and y from 0
unfoldable pub power_of : ℤ → ℤ → Result ℤ Arith
power_of b y = times (whole_of b (unsigned_abs y / 1000000)) (part_of b (unsigned_abs y % 1000000))
