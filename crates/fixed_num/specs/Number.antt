-- Numbers, and the arithmetic on them. A number is seen as its whole count of millionths.
-- Each operation is the exact rational result, rounded once to the nearest millionth with halves
-- away from zero, and then tested against the bound. Source: own.
use Rattle.std.specs.Prelude.{ℕ, zero, suc, ◌+◌, ◌*◌, ◌/◌, ℤ, pos, negsuc, neg_ℤ, ◌+ℤ◌, ◌-ℤ◌, ◌*ℤ◌, int_div, nat_le}
use Rattle.std.specs.Prelude.{nat_eq, unsigned_abs, Result, Ok, Err, if◌then◌else◌}
use Rattle.fixed_num.specs.Rounding.{rounded}
use Rattle.fixed_num.specs.declared.fixed.Arith.{Arith}
use Rattle.fixed_num.specs.declared.fixed.Arith.TheVariants.{Overflow, DivideByZero}

-- the greatest magnitude of a number: 10^26 millionths, which are 10^20 units
abbrev pub bound : ℕ
bound = 100000000000000000000000000

-- the count itself, or that it is past the bound
abbrev pub bounded : ℤ → Result ℤ Arith
bounded z = if nat_le (unsigned_abs z) bound then Ok z else Err Overflow

abbrev pub sum : ℤ → ℤ → Result ℤ Arith
sum x y = bounded (x +ℤ y)

abbrev pub difference : ℤ → ℤ → Result ℤ Arith
difference x y = bounded (x -ℤ y)

-- x / 10^6 times y / 10^6, in millionths
abbrev pub product : ℤ → ℤ → Result ℤ Arith
product x y = bounded (rounded (x *ℤ y) 1000000)

-- x over y, in millionths; the divisor's sign goes to the dividend
abbrev pub quotient : ℤ → ℤ → Result ℤ Arith
quotient x (pos zero) = Err DivideByZero
quotient x (pos (suc d)) = bounded (rounded (x *ℤ pos 1000000) (suc d))
quotient x (negsuc d) = bounded (rounded (neg_ℤ x *ℤ pos 1000000) (suc d))

-- x - y * t, where t is the exact quotient with its fraction dropped
abbrev pub remainder : ℤ → ℤ → Result ℤ Arith
remainder x y = if nat_eq (unsigned_abs y) 0 then Err DivideByZero else Ok (x -ℤ y *ℤ int_div x y)

-- the magnitude
abbrev pub absolute : ℤ → ℤ
absolute z = pos (unsigned_abs z)

-- the greatest whole number of units that is not above z
abbrev pub floor_of : ℤ → ℤ
floor_of (pos n) = pos (n / 1000000 * 1000000)
floor_of (negsuc n) = neg_ℤ (pos ((n / 1000000 + 1) * 1000000))

-- the least whole number of units that is not below z
abbrev pub ceil_of : ℤ → ℤ
ceil_of z = neg_ℤ (floor_of (neg_ℤ z))

-- the nearest whole number of units, halves away from zero
abbrev pub round_of : ℤ → ℤ
round_of z = rounded z 1000000 *ℤ pos 1000000
