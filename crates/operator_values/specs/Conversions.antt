-- Conversions of values. Source: MapLibre style specification, version 8, expressions; the texts of numbers
-- are this project's own.
use Rattle.std.specs.Prelude.{ℕ, ◌-◌, ℤ, pos, List, [], ◌∷◌, length, take, drop, Bool, true, false, not, ◌&&◌, ◌||◌}
use Rattle.std.specs.Prelude.{nat_eq, int_le, Option, Some, None, Result, Ok, Err, if◌then◌else◌, slice_index}
use Rattle.std.specs.List.{prefix_len, suffix_len}
use Rattle.fixed_num.specs.Decimal.{read_text}
use Rattle.fixed_num.specs.declared.color.Color.{Color}
use Rattle.fixed_num.specs.declared.decimal.NumFault.{NumFault}
use Rattle.prop_values.specs.Data.{Data, null, boolean, number, text, color, list, map, list_of}
use Rattle.prop_values.specs.Forms.{kind_name, is_true}
use Rattle.prop_values.specs.ValueText.{shown_text}
use Rattle.prop_values.specs.declared.fault.EvalFault.TheVariants.{WrongType}
use Rattle.color_values.specs.ColorOf.{color_of}
use Rattle.operator_values.specs.Evaluated.{Evaluated}

-- ---- `to-boolean`, `to-string`, `typeof` and `!`

abbrev pub truth_of : List Data → Evaluated
truth_of (d ∷ []) = Ok (boolean (is_true d))
truth_of _ = Err WrongType

abbrev pub text_of : List Data → Evaluated
text_of (d ∷ []) = Ok (text (shown_text d))
text_of _ = Err WrongType

abbrev pub kind_of : List Data → Evaluated
kind_of (d ∷ []) = Ok (text (kind_name d))
kind_of _ = Err WrongType

abbrev pub negation_of : List Data → Evaluated
negation_of (boolean b ∷ []) = Ok (boolean (not b))
negation_of _ = Err WrongType

-- ---- `to-number`

-- space, tab, line feed and carriage return
abbrev pub is_blank : ℕ → Bool
is_blank c = nat_eq c 32 || (nat_eq c 9 || (nat_eq c 10 || nat_eq c 13))

abbrev pub without_blanks_before : List ℕ → List ℕ
without_blanks_before bs = drop (prefix_len is_blank bs) bs

abbrev pub without_blanks_behind : List ℕ → List ℕ
without_blanks_behind bs = take (length bs - suffix_len is_blank bs) bs

unfoldable pub without_blanks : List ℕ → List ℕ
without_blanks bs = without_blanks_behind (without_blanks_before bs)

abbrev pub value_of : Result ℤ NumFault → Option ℤ
value_of (Ok z) = Some z
value_of (Err fault) = None

-- whether a byte is the first
abbrev pub begins : ℕ → List ℕ → Bool
begins c bs = nat_eq (slice_index bs 0) c

-- a number of JSON, after a `+` one without a sign; '+' is 43 and '-' is 45
abbrev pub signed_number : List ℕ → Option ℤ
signed_number bs =
    if begins 43 bs then (if begins 45 (drop 1 bs) then None else value_of (read_text (drop 1 bs)))
    else value_of (read_text bs)

abbrev pub number_in_trimmed : List ℕ → Option ℤ
number_in_trimmed [] = Some (pos 0)
number_in_trimmed (b ∷ bs) = signed_number (b ∷ bs)

-- an empty text is 0
unfoldable pub number_in_text : List ℕ → Option ℤ
number_in_text s = number_in_trimmed (without_blanks s)

abbrev pub number_in : Data → Option ℤ
number_in null = Some (pos 0)
number_in (boolean false) = Some (pos 0)
number_in (boolean true) = Some (pos 1000000)
number_in (number z) = Some z
number_in (text s) = number_in_text s
number_in _ = None

-- ---- `to-color`

abbrev pub is_within : ℤ → ℤ → Bool
is_within most z = int_le (pos 0) z && int_le z most

-- red, green and blue from 0 to 255, and the opacity from 0 to 1
abbrev pub are_parts : ℤ → ℤ → ℤ → ℤ → Bool
are_parts r g b a =
    is_within (pos 255000000) r
    && (is_within (pos 255000000) g && (is_within (pos 255000000) b && is_within (pos 1000000) a))

abbrev pub color_of_parts : ℤ → ℤ → ℤ → ℤ → Option Color
color_of_parts r g b a = if are_parts r g b a then Some (record { r = r; g = g; b = b; a = a }) else None

-- without a fourth number it is opaque
abbrev pub color_of_list : List Data → Option Color
color_of_list (number r ∷ number g ∷ number b ∷ []) = color_of_parts r g b (pos 1000000)
color_of_list (number r ∷ number g ∷ number b ∷ number a ∷ []) = color_of_parts r g b a
color_of_list _ = None

abbrev pub color_in : Data → Option Color
color_in (color c) = Some c
color_in (text s) = color_of s
color_in (list ds) = color_of_list (list_of ds)
color_in _ = None
