-- The input of an interpolation, moved between its neighbours so that a line through the stops is the
-- curve. Source: own.
use Rattle.std.specs.Prelude.{◌+◌, ℤ, unsigned_abs, List, Result, Ok, Err, nat_eq, ◌-ℤ◌, if◌then◌else◌}
use Rattle.std.specs.Int.{int_min, int_max}
use Rattle.fixed_num.specs.Number.{sum, difference, product, quotient}
use Rattle.fixed_num.specs.declared.fixed.Arith.{Arith}
use Rattle.power_fixed.specs.Power.{one, power_of}
use Rattle.prop_values.specs.declared.outcome.Curve.{Curve}
use Rattle.prop_values.specs.declared.outcome.Curve.TheVariants.{Linear, Exponential}
use Rattle.interpolate_fixed.specs.Places.{input_at, place_of}
use Rattle.interpolate_fixed.specs.declared.place.StopPlace.{StopPlace}
use Rattle.interpolate_fixed.specs.declared.place.StopPlace.TheVariants.{First, Last, Between}

-- what follows a step of arithmetic, or that step's fault
abbrev pub and_then : Result ℤ Arith → (ℤ → Result ℤ Arith) → Result ℤ Arith
and_then (Ok z) next = next z
and_then (Err fault) next = Err fault

-- z clamped to the numbers from low to high
abbrev pub held : ℤ → ℤ → ℤ → ℤ
held low high z = int_max low (int_min z high)

-- power(base, x - x0) - 1
abbrev pub growth_of : ℤ → ℤ → ℤ → Result ℤ Arith
growth_of base x0 x = and_then (difference x x0) (λ way. and_then (power_of base way) (λ grown. difference grown one))

-- x0 + (x1 - x0) * (n / m), clamped to x0 and x1
abbrev pub moved_by : ℤ → ℤ → ℤ → ℤ → Result ℤ Arith
moved_by x0 x1 n m =
    and_then (quotient n m)
    (λ share. and_then (difference x1 x0)
    (λ width. and_then (product width share) (λ step. and_then (sum x0 step) (λ z. Ok (held x0 x1 z)))))

-- x from x0 to below x1, with n = power(base, x - x0) - 1 and m = power(base, x1 - x0) - 1: x itself at x0
-- and where m is 0
unfoldable pub moved_between : ℤ → ℤ → ℤ → ℤ → Result ℤ Arith
moved_between base x0 x1 x =
    if nat_eq (unsigned_abs (x -ℤ x0)) 0 then Ok x else
    and_then (growth_of base x0 x) (λ n. and_then (growth_of base x0 x1) (λ m.
    if nat_eq (unsigned_abs m) 0 then Ok x else moved_by x0 x1 n m))

-- x at its place among the inputs: itself at or outside the ends
abbrev pub moved_at : ℤ → List ℤ → ℤ → StopPlace → Result ℤ Arith
moved_at base inputs x First = Ok x
moved_at base inputs x Last = Ok x
moved_at base inputs x (Between i) = moved_between base (input_at inputs i) (input_at inputs (i + 1)) x

-- the moved input of a curve
abbrev pub warp_of : Curve → List ℤ → ℤ → Result ℤ Arith
warp_of Linear inputs x = Ok x
warp_of (Exponential base) inputs x = moved_at base inputs x (place_of inputs x)
