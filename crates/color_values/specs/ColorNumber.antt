-- The numbers of a color text. Source: own, after CSS Color Module Level 4 without exponents.
use Rattle.std.specs.Prelude.{ℕ, ◌-◌, ◌*◌, ◌^◌, min, List, [], ◌++◌, length, take, drop, slice_index, Bool, true, false}
use Rattle.std.specs.Prelude.{◌&&◌, nat_eq, nat_le, if◌then◌else◌, Option, Some, None, option_map}
use Rattle.fixed_num.specs.Decimal.{number_of, leading_digits, after_digits, is_digits}
use Rattle.fixed_num.specs.Rounding.{nearest}

-- A number is digits / 10^places, or that below zero.
pub record Number : Type 0 where
  pub negative : Bool
  pub digits : ℕ
  pub places : ℕ

-- the greatest magnitude of a number: 10^20, checked against the exact number
abbrev pub most_units : ℕ
most_units = 100000000000000000000

-- the number of these digits before and after the point, where it is within the bound
unfoldable pub number_with : Bool → List ℕ → List ℕ → Option Number
number_with negative whole fraction =
    if nat_le (number_of (whole ++ fraction)) (most_units * 10 ^ length fraction) then
    Some (record { negative = negative; digits = number_of (whole ++ fraction); places = length fraction }) else
    None

-- digits, digits '.' digits, or '.' digits: '.' is 46
unfoldable pub unsigned_at : Bool → List ℕ → Option Number
unsigned_at negative bs =
    if is_digits bs then number_with negative bs [] else
    (if nat_eq (slice_index (after_digits bs) 0) 46 && is_digits (drop 1 (after_digits bs)) then
    number_with negative (leading_digits bs) (drop 1 (after_digits bs)) else
    None)

-- a number: an optional sign, '-' is 45 and '+' is 43, and an unsigned number
unfoldable pub number_at : List ℕ → Option Number
number_at bs =
    if nat_eq (slice_index bs 0) 45 then unsigned_at true (drop 1 bs) else
    (if nat_eq (slice_index bs 0) 43 then unsigned_at false (drop 1 bs) else
    unsigned_at false bs)

-- whether the text ends with '%', which is 37
abbrev pub is_percent : List ℕ → Bool
is_percent bs = nat_eq (slice_index bs (length bs - 1)) 37

-- a percentage: a number, directly followed by '%'
unfoldable pub percent_at : List ℕ → Option Number
percent_at bs = if is_percent bs then number_at (take (length bs - 1) bs) else None

-- the digits of the number clamped to 0 to `most`: the clamped number is these / 10^places
abbrev pub held : ℕ → Number → ℕ
held most n = if n.negative then 0 else min n.digits (most * 10 ^ n.places)

-- the number clamped to 0 to `most`, in counts of 1 / unit, rounded to the nearest, a half up
unfoldable pub amount : ℕ → ℕ → Number → ℕ
amount most unit n = nearest (unit * held most n) (10 ^ n.places)

-- The opacity in millionths: a number clamped to 0 to 1, or a percentage clamped to 0 to 100.
unfoldable pub opacity_at : List ℕ → Option ℕ
opacity_at bs =
    if is_percent bs then option_map (amount 100 10000) (percent_at bs) else
    option_map (amount 1 1000000) (number_at bs)

-- the opacity of a part, or of none
abbrev pub opacity_of : Option (List ℕ) → Option ℕ
opacity_of None = Some 1000000
opacity_of (Some bs) = opacity_at bs
