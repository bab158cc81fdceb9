-- Which texts are colors, and which color each is. Source: the color strings of the MapLibre style
-- specification, version 8, by the grammar of these files.
use Rattle.std.specs.Prelude.{ℕ, ◌+◌, ◌-◌, ◌/◌, ◌%◌, List, length, take, drop, slice_index, not, nat_eq, ◌||◌, codes}
use Rattle.std.specs.Prelude.{if◌then◌else◌, Option, Some, None, option_map}
use Rattle.std.specs.List.{prefix_len}
use Rattle.std.specs.Str.{str_eq_ignore_ascii_case}
use Rattle.fixed_num.specs.declared.color.Color.{Color}
use Rattle.color_values.specs.ColorName.{value_of_name}
use Rattle.color_values.specs.HexColor.{color_of_bytes, hexadecimal_color}
use Rattle.color_values.specs.Parts.{trimmed, ColorArguments, parts_of}
use Rattle.color_values.specs.RgbColor.{rgb_color}
use Rattle.color_values.specs.HslColor.{hsl_color}

-- the opaque color of six hexadecimal digits
abbrev pub opaque_color : ℕ → Color
opaque_color value = color_of_bytes (value / 65536 % 256) (value / 256 % 256) (value % 256) 255

-- a name, its letters without case; `transparent` is black without opacity
unfoldable pub named_color : List ℕ → Option Color
named_color bs =
    if str_eq_ignore_ascii_case bs (codes "transparent") then Some (color_of_bytes 0 0 0 0) else
    option_map opaque_color (value_of_name bs)

-- a color by the name of its function, letters without case
abbrev pub color_by : List ℕ → ColorArguments → Option Color
color_by name parts =
    if str_eq_ignore_ascii_case name (codes "rgb") || str_eq_ignore_ascii_case name (codes "rgba")
    then rgb_color parts else
    (if str_eq_ignore_ascii_case name (codes "hsl") || str_eq_ignore_ascii_case name (codes "hsla")
    then hsl_color parts else
    None)

abbrev pub color_by_parts : List ℕ → Option ColorArguments → Option Color
color_by_parts name None = None
color_by_parts name (Some parts) = color_by name parts

-- how many bytes are before the first '(', which is 40
abbrev pub before_bracket : List ℕ → ℕ
before_bracket bs = prefix_len (λ c. not (nat_eq c 40)) bs

-- a function: its name up to the first '(', and its arguments up to the ')' at the end
unfoldable pub function_color : List ℕ → Option Color
function_color bs =
    color_by_parts (take (before_bracket bs) bs) (parts_of (drop (before_bracket bs + 1) (take (length bs - 1) bs)))

-- without spaces around it: '#' is 35, ')' is 41
unfoldable pub color_of_trimmed : List ℕ → Option Color
color_of_trimmed bs =
    if nat_eq (slice_index bs 0) 35 then hexadecimal_color (drop 1 bs) else
    (if nat_eq (slice_index bs (length bs - 1)) 41 then function_color bs else
    named_color bs)

-- The color of a text, or none. Spaces around the whole text are dropped.
abbrev pub color_of : List ℕ → Option Color
color_of text = color_of_trimmed (trimmed text)
