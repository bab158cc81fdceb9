-- The range of a color. Source: own.
use Rattle.std.specs.Prelude.{pos, ◌≤ℤ◌}
use Rattle.fixed_num.specs.declared.color.Color.{Color}

-- red, green and blue from 0 to 255, and the opacity from 0 to 1, all in millionths
pub record IsInRange (c : Color) : Type 0 where
  pub red_from : pos 0 ≤ℤ c.r
  pub red_to : c.r ≤ℤ pos 255000000
  pub green_from : pos 0 ≤ℤ c.g
  pub green_to : c.g ≤ℤ pos 255000000
  pub blue_from : pos 0 ≤ℤ c.b
  pub blue_to : c.b ≤ℤ pos 255000000
  pub opacity_from : pos 0 ≤ℤ c.a
  pub opacity_to : c.a ≤ℤ pos 1000000
