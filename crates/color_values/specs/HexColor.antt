-- Colors in hexadecimal. Source: CSS Color Module Level 4 §5.2, "The RGB Hexadecimal Notations".
use Rattle.std.specs.Prelude.{ℕ, ◌+◌, ◌-◌, ◌*◌, List, length, slice_index, nat_eq, nat_lt, pos, if◌then◌else◌, Option}
use Rattle.std.specs.Prelude.{Some, None}
use Rattle.std.specs.Char.{is_ascii_hexdigit, to_ascii_lowercase}
use Rattle.std.specs.List.{list_all}
use Rattle.fixed_num.specs.Rounding.{nearest}
use Rattle.fixed_num.specs.declared.color.Color.{Color}

-- The color of four bytes, in millionths: red, green and blue are whole, the opacity is its byte over
-- 255, rounded to the nearest.
abbrev pub color_of_bytes : ℕ → ℕ → ℕ → ℕ → Color
color_of_bytes r g b a =
    record { r = pos (r * 1000000); g = pos (g * 1000000); b = pos (b * 1000000); a = pos (nearest (a * 1000000) 255) }

-- the value of a hexadecimal digit: '0' is 48, 'a' is 97
abbrev pub digit_value : ℕ → ℕ
digit_value c = if nat_lt c 58 then c - 48 else to_ascii_lowercase c - 87

-- the byte of the digit at a place, doubled, and of the two digits from a place on
abbrev pub doubled : List ℕ → ℕ → ℕ
doubled bs i = 17 * digit_value (slice_index bs i)

abbrev pub two_digits : List ℕ → ℕ → ℕ
two_digits bs i = 16 * digit_value (slice_index bs i) + digit_value (slice_index bs (i + 1))

-- the color of so many digits: rgb, rgba, rrggbb, rrggbbaa
abbrev pub color_of_digits : List ℕ → Option Color
color_of_digits bs =
    if nat_eq (length bs) 3 then Some (color_of_bytes (doubled bs 0) (doubled bs 1) (doubled bs 2) 255) else
    (if nat_eq (length bs) 4 then Some (color_of_bytes (doubled bs 0) (doubled bs 1) (doubled bs 2) (doubled bs 3)) else
    (if nat_eq (length bs) 6 then Some (color_of_bytes (two_digits bs 0) (two_digits bs 2) (two_digits bs 4) 255) else
    (if nat_eq (length bs) 8 then Some
    (color_of_bytes (two_digits bs 0) (two_digits bs 2) (two_digits bs 4) (two_digits bs 6)) else
    None)))

-- what follows the '#'
unfoldable pub hexadecimal_color : List ℕ → Option Color
hexadecimal_color bs = if list_all is_ascii_hexdigit bs then color_of_digits bs else None
