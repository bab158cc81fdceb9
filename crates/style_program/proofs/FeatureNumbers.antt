-- The number of features that the bytes of a word say, from a byte on.
use Rattle.std.proofs.Common.{◌≡◌, ◌∙◌, refl, sym, ap, ℕ, ◌+◌, ◌-◌, ◌*◌, ◌<◌, ◌≤◌, List, [], ◌∷◌, Bool, true, false, drop, get_or, length, arith}
use Rattle.std.specs.Prelude.{Option, Some, None, ◌&&◌, nat_le, if◌then◌else◌}
use Rattle.std.specs.List.{list_all}
use Rattle.std.proofs.lemmas.List.{drop_more}
use Rattle.style_program.specs.Words.{digits_value, features_named, is_digit, most_features}

-- what the word says, if its bytes before these are digits that say a number
abbrev pub named_after : (count before : ℕ) → List ℕ → Option ℕ
named_after count before rest =
    if list_all is_digit rest && (nat_le count 6 && (nat_le 1 (digits_value before rest) && nat_le (digits_value before rest) most_features))
    then Some (digits_value before rest) else None

abbrev if_digits : Bool → (count value : ℕ) → Option ℕ
if_digits digits count value = if digits && (nat_le count 6 && (nat_le 1 value && nat_le value most_features)) then Some value else None

pub no_digit : (count before b : ℕ) (bs : List ℕ) → is_digit b ≡ false → named_after count before (b ∷ bs) ≡ None
no_digit count before b bs none = ap (λ (d : Bool). if_digits (d && list_all is_digit bs) count (digits_value before (b ∷ bs))) none

pub a_digit : (count before b : ℕ) (bs : List ℕ) → is_digit b ≡ true → named_after count before (b ∷ bs) ≡ named_after count (10 * before + (b - 48)) bs
a_digit count before b bs is = ap (λ (d : Bool). if_digits (d && list_all is_digit bs) count (digits_value before (b ∷ bs))) is

value_least : (before : ℕ) (bs : List ℕ) → before ≤ digits_value before bs
value_least before [] = omega arith
value_least before (b ∷ bs) = omega (arith, value_least (10 * before + (b - 48)) bs)

never : (a b c : Bool) → (a && (b && (c && false))) ≡ false
never true true true = refl
never true true false = refl
never true false c = refl
never false b c = refl

pub too_many : (count before : ℕ) (bs : List ℕ) → most_features < before → named_after count before bs ≡ None
too_many count before bs more =
    let value = digits_value before bs in
    let least : before ≤ value = value_least before bs in
    let past : nat_le value most_features ≡ false = grind arith in
    ap (λ (d : Bool). if list_all is_digit bs && (nat_le count 6 && (nat_le 1 value && d)) then Some value else None) past
    ∙ ap (λ (d : Bool). if d then Some value else None) (never (list_all is_digit bs) (nat_le count 6) (nat_le 1 value))

-- A digit more makes the number too great.
pub past_most : (word bytes : List ℕ) (features i : ℕ) → bytes ≡ word → i < length bytes → 48 ≤ get_or bytes i 0 → get_or bytes i 0 ≤ 57
    → most_features < 10 * features + (get_or bytes i 0 - 48) → named_after (length word) features (drop i word) ≡ features_named word
    → features_named word ≡ None
past_most word bytes features i same within low high more so_far =
    let rest : drop i bytes ≡ get_or bytes i 0 ∷ drop (i + 1) bytes = drop_more bytes i 0 within in
    let digit : is_digit (get_or bytes i 0) ≡ true = grind arith in
    sym so_far
    ∙ (ap (λ (w : List ℕ). named_after (length word) features (drop i w)) (sym same)
    ∙ (ap (λ (bs : List ℕ). named_after (length word) features bs) rest
    ∙ (a_digit (length word) features (get_or bytes i 0) (drop (i + 1) bytes) digit
    ∙ too_many (length word) (10 * features + (get_or bytes i 0 - 48)) (drop (i + 1) bytes) more)))
