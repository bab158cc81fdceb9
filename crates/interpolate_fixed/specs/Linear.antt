-- Interpolation along a line, on whole counts of millionths. Source: own.
use Rattle.std.specs.Prelude.{ℕ, ℤ, ◌+ℤ◌, ◌-ℤ◌, ◌*ℤ◌, unsigned_abs, nat_le, Result, Ok, Err, if◌then◌else◌}
use Rattle.std.specs.Result.{result_unwrap_or}
use Rattle.fixed_num.specs.Rounding.{rounded}
use Rattle.fixed_num.specs.declared.color.Color.{Color}
use Rattle.fixed_num.specs.declared.fixed.Arith.{Arith}
use Rattle.fixed_num.specs.declared.fixed.Arith.TheVariants.{Overflow}

-- the greatest magnitude of (b - a) * (x - x0): 10^38
abbrev pub farthest : ℕ
farthest = 100000000000000000000000000000000000000

-- at x on the line from a at x0 to b at x1: a + (b - a) * (x - x0) / (x1 - x0), the fraction rounded
abbrev pub linear_of : ℤ → ℤ → ℤ → ℤ → ℤ → Result ℤ Arith
linear_of x x0 a x1 b =
    if nat_le (unsigned_abs ((b -ℤ a) *ℤ (x -ℤ x0))) farthest
    then Ok (a +ℤ rounded ((b -ℤ a) *ℤ (x -ℤ x0)) (unsigned_abs (x1 -ℤ x0)))
    else Err Overflow

-- a component of a color: that of a where the line overflows, which no two components of colors do, since
-- they are at most 255 apart
abbrev pub component_of : ℤ → ℤ → ℤ → ℤ → ℤ → ℤ
component_of x x0 a x1 b = result_unwrap_or (linear_of x x0 a x1 b) a

-- a color, component by component
abbrev pub color_of : ℤ → ℤ → Color → ℤ → Color → Color
color_of x x0 a x1 b = record {
  r = component_of x x0 a.r x1 b.r;
  g = component_of x x0 a.g x1 b.g;
  b = component_of x x0 a.b x1 b.b;
  a = component_of x x0 a.a x1 b.a;
}
