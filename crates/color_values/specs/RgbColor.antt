-- Colors by red, green and blue. Source: own, after CSS Color Module Level 4 §5.1.
use Rattle.std.specs.Prelude.{ℕ, pos, if◌then◌else◌, Option, Some, None}
use Rattle.fixed_num.specs.declared.color.Color.{Color}
use Rattle.color_values.specs.ColorNumber.{Number, number_at, percent_at, is_percent, amount, opacity_of}
use Rattle.color_values.specs.Parts.{ColorArguments}

-- Each of three numbers clamped to 0 to `most`, in counts of 1 / unit, as millionths of red, green and
-- blue, and an opacity in millionths.
abbrev pub rgb_color_of : ℕ → ℕ → Option Number → Option Number → Option Number → Option ℕ → Option Color
rgb_color_of most unit (Some x) (Some y) (Some z) (Some a) =
    Some
    (record { r = pos (amount most unit x); g = pos (amount most unit y); b = pos (amount most unit z); a = pos a })
rgb_color_of most unit _ _ _ _ = None

-- All are numbers, clamped to 0 to 255, or all percentages, clamped to 0 to 100 and multiplied by 2.55.
unfoldable pub rgb_color : ColorArguments → Option Color
rgb_color p =
    if is_percent p.first then
    rgb_color_of 100 2550000 (percent_at p.first) (percent_at p.second) (percent_at p.third) (opacity_of p.opacity) else
    rgb_color_of 255 1000000 (number_at p.first) (number_at p.second) (number_at p.third) (opacity_of p.opacity)
