-- What a JSON number text means. Source: RFC 8259 §6 for the grammar, own for the rounding.
--
--   number = [ minus ] int [ frac ] [ exp ]
--   int    = zero / ( digit1-9 *DIGIT )
--   frac   = decimal-point 1*DIGIT
--   exp    = e [ minus / plus ] 1*DIGIT
--
-- Each definition below reads one of these parts from the front of the bytes, and then the parts
-- that follow it. `negative` says that the minus was there, `whole` and `fraction` are the digits
-- of int and frac, `is_down` says that the exponent has a minus.
use Rattle.std.specs.Prelude.{ℕ, ◌+◌, ◌-◌, ◌*◌, ◌^◌, ℤ, pos, neg_ℤ, List, [], ◌∷◌, ◌++◌, length, take, drop}
use Rattle.std.specs.Prelude.{slice_index, Bool, true, false, not, ◌&&◌, ◌||◌, nat_eq, nat_lt, nat_le, if◌then◌else◌}
use Rattle.std.specs.Prelude.{Result, Ok, Err}
use Rattle.std.specs.Char.{is_ascii_digit}
use Rattle.std.specs.List.{prefix_len, list_all}
use Rattle.fixed_num.specs.Rounding.{nearest}
use Rattle.fixed_num.specs.Number.{bound}
use Rattle.fixed_num.specs.declared.decimal.NumFault.{NumFault}
use Rattle.fixed_num.specs.declared.decimal.NumFault.TheVariants.{NotNumber, Range}

-- the number that decimal digits write; '0' is 48
abbrev pub number_of : List ℕ → ℕ
number_of [] = 0
number_of (c ∷ cs) = (c - 48) * 10 ^ length cs + number_of cs

-- m * 10^(e - k) units in millionths, rounded; the exponent e is -size where it is down, else size
abbrev pub scaled : ℕ → ℕ → Bool → ℕ → ℕ
scaled m k false size = nearest (m * 10 ^ (size + 6)) (10 ^ k)
scaled m k true size = nearest (m * 10 ^ 6) (10 ^ (k + size))

-- the number of this sign and magnitude, or that it is past the bound
abbrev pub in_range : Bool → ℕ → Result ℤ NumFault
in_range negative n = if nat_le n bound then Ok (if negative then neg_ℤ (pos n) else pos n) else Err Range

-- the number of these parts
unfoldable pub value_of : Bool → List ℕ → List ℕ → Bool → List ℕ → Result ℤ NumFault
value_of negative whole fraction is_down exponent =
    in_range negative (scaled (number_of (whole ++ fraction)) (length fraction) is_down (number_of exponent))

-- the digits at the front, and what follows them
abbrev pub leading_digits : List ℕ → List ℕ
leading_digits bs = take (prefix_len is_ascii_digit bs) bs

abbrev pub after_digits : List ℕ → List ℕ
after_digits bs = drop (prefix_len is_ascii_digit bs) bs

-- 1*DIGIT and no more
abbrev pub is_digits : List ℕ → Bool
is_digits bs = nat_lt 0 (length bs) && list_all is_ascii_digit bs

-- the digits of int: one digit, or more of which the first is no zero
abbrev pub is_whole : List ℕ → Bool
is_whole ds = nat_eq (length ds) 1 || (nat_lt 1 (length ds) && not (nat_eq (slice_index ds 0) 48))

-- the digits of exp, to the end
unfoldable pub read_exponent_digits : Bool → List ℕ → List ℕ → Bool → List ℕ → Result ℤ NumFault
read_exponent_digits negative whole fraction is_down bs =
    if is_digits bs then value_of negative whole fraction is_down bs else Err NotNumber

-- [ minus / plus ] of exp: '-' is 45, '+' is 43
unfoldable pub read_exponent_sign : Bool → List ℕ → List ℕ → List ℕ → Result ℤ NumFault
read_exponent_sign negative whole fraction bs =
    if nat_eq (slice_index bs 0) 45 then read_exponent_digits negative whole fraction true (drop 1 bs) else
    (if nat_eq (slice_index bs 0) 43 then read_exponent_digits negative whole fraction false (drop 1 bs) else
    read_exponent_digits negative whole fraction false bs)

-- [ exp ]: 'e' is 101, 'E' is 69
unfoldable pub read_exponent : Bool → List ℕ → List ℕ → List ℕ → Result ℤ NumFault
read_exponent negative whole fraction bs =
    if nat_eq (length bs) 0 then value_of negative whole fraction false [] else
    (if nat_eq (slice_index bs 0) 101 || nat_eq (slice_index bs 0) 69
    then read_exponent_sign negative whole fraction (drop 1 bs) else
    Err NotNumber)

-- the digits of frac
unfoldable pub read_fraction_digits : Bool → List ℕ → List ℕ → Result ℤ NumFault
read_fraction_digits negative whole bs =
    if nat_eq (prefix_len is_ascii_digit bs) 0 then Err NotNumber else
    read_exponent negative whole (leading_digits bs) (after_digits bs)

-- [ frac ]: '.' is 46
unfoldable pub read_fraction : Bool → List ℕ → List ℕ → Result ℤ NumFault
read_fraction negative whole bs =
    if nat_eq (slice_index bs 0) 46 then read_fraction_digits negative whole (drop 1 bs) else
    read_exponent negative whole [] bs

-- int
unfoldable pub read_whole : Bool → List ℕ → Result ℤ NumFault
read_whole negative bs =
    if is_whole (leading_digits bs) then read_fraction negative (leading_digits bs) (after_digits bs) else
    Err NotNumber

-- a whole text: [ minus ] and the rest
unfoldable pub read_text : List ℕ → Result ℤ NumFault
read_text bs = if nat_eq (slice_index bs 0) 45 then read_whole true (drop 1 bs) else read_whole false bs
