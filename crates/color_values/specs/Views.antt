-- What contracts of private functions see of numbers, parts and names in a text.
use Rattle.std.specs.Prelude.{ℕ, List, [], ◌∷◌, Bool, true, ◌&&◌, ◌-◌, ◌*◌, ◌^◌, ◌≤◌, IsTrue, ◌++◌, length, take, drop}
use Rattle.std.specs.Prelude.{map, not, nat_eq, if◌then◌else◌, Option, Some, None, option_map}
use Rattle.std.specs.Option.{is_some}
use Rattle.std.specs.Char.{is_ascii_digit}
use Rattle.std.specs.List.{list_all, prefix_len}
use Rattle.std.specs.Borrow.{Bor}
use Rattle.std.specs.Cmp.Lexicographic.{slice_cmp}
use Rattle.std.specs.Ordering.{is_lt, nat_cmp}
use Rattle.std.specs.Str.{bytes_eq}
use Rattle.fixed_num.specs.Decimal.{number_of}
use Rattle.color_values.specs.ColorNumber.{Number, most_units}
use Rattle.decimal_limbs.specs.Limbs.{limbs_for}
use Rattle.color_values.specs.Parts.{ColorArguments, trimmed}
use Rattle.color_values.specs.declared.parts.ColorArguments.{ColorArguments as PartTexts}
use Rattle.color_values.specs.declared.number.Number.{Number as NumberText}

-- the number that a text has
abbrev pub number_view : NumberText → Number
number_view n =
    record { negative = n.negative; digits = number_of (n.whole.now ++ n.fraction.now); places = length n.fraction.now }

-- a number is within the bound
abbrev pub IsWithin : Number → Type 0
IsWithin n = n.digits ≤ most_units * 10 ^ n.places

-- the bytes after the point are digits
abbrev pub HasDigits : NumberText → Type 0
HasDigits n = IsTrue (list_all is_ascii_digit n.fraction.now)

-- The limbs of a number have zeros after its last digit: one at that digit is this many at the last place of
-- the limbs.
abbrev pub limb_scale : ℕ → ℕ
limb_scale places = 10 ^ (9 * limbs_for places - places)

-- names as the table has them
abbrev pub pairs_of : List (Bor (List ℕ) × ℕ) → List (List ℕ × ℕ)
pairs_of ns = map (λ n. (n.0.now, n.1)) ns

-- whether each name is below the next, byte by byte
abbrev pub rises : List (List ℕ × ℕ) → Bool
rises [] = true
rises (first ∷ []) = true
rises (first ∷ second ∷ rest) = is_lt (slice_cmp nat_cmp first.0 second.0) && rises (second ∷ rest)

-- the value at the very bytes of a name
abbrev pub value_among : List ℕ → List (List ℕ × ℕ) → Option ℕ
value_among name [] = None
value_among name ((text, value) ∷ rest) = if bytes_eq name text then Some value else value_among name rest

-- the bytes of a part, where there is one
abbrev pub bytes_of : Option (Bor (List ℕ)) → Option (List ℕ)
bytes_of part = option_map (λ b. b.now) part

-- the arguments that a text has
abbrev pub parts_view : PartTexts → ColorArguments
parts_view p = record { first = p.first.now; second = p.second.now; third = p.third.now; opacity = bytes_of p.opacity }

abbrev pub pair_of : Bor (List ℕ) × Bor (List ℕ) → List ℕ × List ℕ
pair_of p = (p.0.now, p.1.now)

-- what is before the first comma and what is after it; ',' is 44
abbrev pub before_comma : List ℕ → ℕ
before_comma bs = prefix_len (λ c. not (nat_eq c 44)) bs

unfoldable pub first_piece : List ℕ → Option (List ℕ × List ℕ)
first_piece bs =
    if nat_eq (before_comma bs) (length bs) then None else
    Some (take (before_comma bs) bs, drop 1 (drop (before_comma bs) bs))

-- the arguments whose last is an opacity, which contains no comma
unfoldable pub parts_with_last : List ℕ → List ℕ → List ℕ → List ℕ → Option ColorArguments
parts_with_last x y z a =
    if is_some (first_piece a) then None else
    Some (record { first = trimmed x; second = trimmed y; third = trimmed z; opacity = Some (trimmed a) })
