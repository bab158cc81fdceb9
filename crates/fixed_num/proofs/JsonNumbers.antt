-- The texts that are read are the JSON numbers of `json_tokens`.
use Rattle.std.proofs.Common.{◌≡◌, ◌≢◌, ℕ, ◌+◌, suc, List, [], ◌∷◌, length, refl, sym, ap, ◌∙◌, arith, Bool, true, false, inl, inr, ℤ}
use Rattle.std.specs.Prelude.{nat_eq, nat_le, nat_lt, not, ◌&&◌, ◌||◌, Result, Ok, Err}
use Rattle.std.specs.Bool.{IsTrue}
use Rattle.std.specs.Char.{is_ascii_digit}
use Rattle.std.specs.List.{list_all, prefix_len}
use Rattle.std.proofs.lemmas.Bool.{cases_Bool, true≢false, ne_eqb, eqb-true, lt-ltb}
use Rattle.json_tokens.specs.Number.{is_number, is_unsigned, is_fraction, is_exponent, is_nothing, begins_with_digit, after_sign}
use Rattle.json_tokens.specs.Number.{after_digits as rest_after_digits}
use Rattle.fixed_num.specs.Decimal.{read_text, read_whole, read_fraction, read_fraction_digits, read_exponent, read_exponent_sign, read_exponent_digits, value_of, in_range, is_digits, is_whole, leading_digits, after_digits}
use Rattle.fixed_num.specs.Number.{bound}
use Rattle.fixed_num.specs.declared.decimal.NumFault.{NumFault}
use Rattle.fixed_num.specs.declared.decimal.NumFault.TheVariants.{NotNumber, Range}

-- whether an answer is not that the bytes are no number
abbrev pub is_read : Result ℤ NumFault → Bool
is_read (Ok z) = true
is_read (Err Range) = true
is_read (Err NotNumber) = false

in_range_read : (n : Bool) (m : ℕ) → is_read (in_range n m) ≡ true
in_range_read n m = elim (cases_Bool (nat_le m bound)) [
  | inl within ↦ rw within refl
  | inr beyond ↦ rw beyond refl
]

value_read : (n : Bool) (w f : List ℕ) (d : Bool) (ds : List ℕ) → is_read (value_of n w f d ds) ≡ true
unfolding value_of
value_read n w f d ds = in_range_read n _

-- the two ways to drop the digits at the front
after_same : (bs : List ℕ) → after_digits bs ≡ rest_after_digits bs
after_same [] = refl
after_same (c ∷ bs) = elim (cases_Bool (is_ascii_digit c)) [
  | inl digit ↦
      let more : 1 + prefix_len is_ascii_digit bs ≡ suc (prefix_len is_ascii_digit bs) = omega arith in
      rw (digit, more) (after_same bs)
  | inr other ↦ rw other refl
]

-- the two ways to say that all are digits
all_same : (bs : List ℕ) → list_all is_ascii_digit bs ≡ is_nothing (rest_after_digits bs)
all_same [] = refl
all_same (c ∷ bs) = elim (cases_Bool (is_ascii_digit c)) [
  | inl digit ↦ rw digit (all_same bs)
  | inr other ↦ rw other refl
]

digits_same : (bs : List ℕ) → is_digits bs ≡ begins_with_digit bs && is_nothing (rest_after_digits bs)
digits_same [] = refl
digits_same (c ∷ bs) =
    let some : nat_lt 0 (suc (length bs)) ≡ true = lt-ltb 0 (suc (length bs)) (omega arith) in
    elim (cases_Bool (is_ascii_digit c)) [
      | inl digit ↦ rw (some, digit) (all_same bs)
      | inr other ↦ rw (some, other) refl
    ]

exponent_digits : (n : Bool) (w f : List ℕ) (d : Bool) (bs : List ℕ) → is_read (read_exponent_digits n w f d bs) ≡ begins_with_digit bs && is_nothing (rest_after_digits bs)
unfolding read_exponent_digits
exponent_digits n w f d bs = elim (cases_Bool (is_digits bs)) [
  | inl all ↦ rw all (value_read n w f d bs ∙ sym all ∙ digits_same bs)
  | inr other ↦ rw other (sym other ∙ digits_same bs)
]

exponent_sign : (n : Bool) (w f bs : List ℕ) → is_read (read_exponent_sign n w f bs) ≡ begins_with_digit (after_sign bs) && is_nothing (rest_after_digits (after_sign bs))
unfolding read_exponent_sign
exponent_sign n w f [] = exponent_digits n w f false []
exponent_sign n w f (c ∷ bs) = elim (cases_Bool (nat_eq c 45)) [
  | inl minus ↦ rw minus (exponent_digits n w f true bs)
  | inr no_minus ↦ elim (cases_Bool (nat_eq c 43)) [
    | inl plus ↦ rw (no_minus, plus) (exponent_digits n w f false bs)
    | inr no_plus ↦ rw (no_minus, no_plus) (exponent_digits n w f false (c ∷ bs))
  ]
]

marks : (c : ℕ) → nat_eq c 101 ≡ false → nat_eq c 69 ≡ false → (nat_eq c 101 || nat_eq c 69) ≡ false
marks c h g = rw (h, g) refl

exponent : (n : Bool) (w f bs : List ℕ) → is_read (read_exponent n w f bs) ≡ is_exponent bs
unfolding read_exponent
exponent n w f [] = value_read n w f false []
exponent n w f (c ∷ bs) =
    let some : nat_eq (suc (length bs)) 0 ≡ false = ne_eqb (suc (length bs)) 0 (λ none. absurd (omega arith)) in
    elim (cases_Bool (nat_eq c 101)) [
      | inl lower ↦ rw (some, lower) (exponent_sign n w f bs)
      | inr no_lower ↦ elim (cases_Bool (nat_eq c 69)) [
        | inl upper ↦ rw (some, no_lower, upper) (exponent_sign n w f bs)
        | inr no_upper ↦ rw (some, no_lower, no_upper) refl
      ]
    ]

-- a fraction has digits where its first byte is one
begins_digits : (bs : List ℕ) → not (nat_eq (prefix_len is_ascii_digit bs) 0) ≡ begins_with_digit bs
begins_digits [] = refl
begins_digits (c ∷ bs) = elim (cases_Bool (is_ascii_digit c)) [
  | inl digit ↦
      let some : nat_eq (1 + prefix_len is_ascii_digit bs) 0 ≡ false = ne_eqb (1 + prefix_len is_ascii_digit bs) 0 (λ none. absurd (omega arith)) in
      rw (digit, some) refl
  | inr other ↦ rw other refl
]

fraction_digits : (n : Bool) (w bs : List ℕ) → is_read (read_fraction_digits n w bs) ≡ begins_with_digit bs && is_exponent (rest_after_digits bs)
unfolding read_fraction_digits
fraction_digits n w bs = elim (cases_Bool (nat_eq (prefix_len is_ascii_digit bs) 0)) [
  | inl none ↦ let no_digit = begins_digits bs in (rw (← no_digit, none) refl)
  | inr some ↦ let digit = begins_digits bs in (rw (← digit, some) (exponent n w (leading_digits bs) (after_digits bs) ∙ ap is_exponent (after_same bs)))
]

fraction : (n : Bool) (w bs : List ℕ) → is_read (read_fraction n w bs) ≡ is_fraction bs
unfolding read_fraction
fraction n w [] = exponent n w [] []
fraction n w (c ∷ bs) = elim (cases_Bool (nat_eq c 46)) [
  | inl point ↦ rw point (fraction_digits n w bs)
  | inr no_point ↦ rw no_point (exponent n w [] (c ∷ bs))
]

-- the digits of an integer, by its first byte
leading_cons : (c : ℕ) (bs : List ℕ) → is_ascii_digit c ≡ true → leading_digits (c ∷ bs) ≡ c ∷ leading_digits bs
leading_cons c bs digit =
    let more : 1 + prefix_len is_ascii_digit bs ≡ suc (prefix_len is_ascii_digit bs) = omega arith in
    rw (digit, more) refl

after_cons : (c : ℕ) (bs : List ℕ) → is_ascii_digit c ≡ true → after_digits (c ∷ bs) ≡ after_digits bs
after_cons c bs digit =
    let more : 1 + prefix_len is_ascii_digit bs ≡ suc (prefix_len is_ascii_digit bs) = omega arith in
    rw (digit, more) refl

whole_of_more : (c x : ℕ) (ds : List ℕ) → is_whole (c ∷ x ∷ ds) ≡ not (nat_eq c 48)
whole_of_more c x ds =
    let no_one : nat_eq (suc (suc (length ds))) 1 ≡ false = ne_eqb (suc (suc (length ds))) 1 (λ one. absurd (omega arith)) in
    let longer : nat_lt 1 (suc (suc (length ds))) ≡ true = lt-ltb 1 (suc (suc (length ds))) (omega arith) in
    rw (no_one, longer) refl

whole_with_zero : (bs : List ℕ) → is_whole (48 ∷ leading_digits bs) ≡ not (begins_with_digit bs)
whole_with_zero [] = refl
whole_with_zero (c ∷ bs) = elim (cases_Bool (is_ascii_digit c)) [
  | inl digit ↦ rw (leading_cons c bs digit, digit) (whole_of_more 48 c (leading_digits bs))
  | inr other ↦ rw other refl
]

whole_with_other : (c : ℕ) (ds : List ℕ) → nat_eq c 48 ≡ false → is_whole (c ∷ ds) ≡ true
whole_with_other c [] other = refl
whole_with_other c (x ∷ ds) other = whole_of_more c x ds ∙ ap not other

digit_is_not : (c b : ℕ) → is_ascii_digit c ≡ true → is_ascii_digit b ≡ false → nat_eq c b ≡ false
digit_is_not c b digit other = ne_eqb c b (λ same. true≢false (sym digit ∙ ap is_ascii_digit same ∙ other))

no_fraction : (bs : List ℕ) → begins_with_digit bs ≡ true → is_fraction bs ≡ false
no_fraction [] h = absurd (true≢false (sym h))
no_fraction (c ∷ bs) h = rw (digit_is_not c 46 h refl, digit_is_not c 101 h refl, digit_is_not c 69 h refl) refl

after_no_digit : (bs : List ℕ) → begins_with_digit bs ≡ false → after_digits bs ≡ bs
after_no_digit [] h = refl
after_no_digit (c ∷ bs) h = rw h refl

whole_from_zero : (n : Bool) (bs : List ℕ) → is_read (read_whole n (48 ∷ bs)) ≡ is_fraction bs
unfolding read_whole
whole_from_zero n bs = elim (cases_Bool (begins_with_digit bs)) [
  | inl more ↦
      let refused : is_whole (48 ∷ leading_digits bs) ≡ false = whole_with_zero bs ∙ ap not more in
      rw (leading_cons 48 bs refl, refused) (sym (no_fraction bs more))
  | inr alone ↦
      let whole : is_whole (48 ∷ leading_digits bs) ≡ true = whole_with_zero bs ∙ ap not alone in
      rw (leading_cons 48 bs refl, after_cons 48 bs refl, whole) (fraction n (48 ∷ leading_digits bs) (after_digits bs) ∙ ap is_fraction (after_no_digit bs alone))
]

whole_from_other : (n : Bool) (c : ℕ) (bs : List ℕ) → nat_eq c 48 ≡ false → is_read (read_whole n (c ∷ bs)) ≡ is_ascii_digit c && is_fraction (rest_after_digits bs)
unfolding read_whole
whole_from_other n c bs no_zero = elim (cases_Bool (is_ascii_digit c)) [
  | inl digit ↦ rw (leading_cons c bs digit, after_cons c bs digit, whole_with_other c (leading_digits bs) no_zero, digit) (fraction n (c ∷ leading_digits bs) (after_digits bs) ∙ ap is_fraction (after_same bs))
  | inr other ↦ rw other refl
]

whole : (n : Bool) (bs : List ℕ) → is_read (read_whole n bs) ≡ is_unsigned bs
unfolding read_whole
whole n [] = refl
whole n (c ∷ bs) = elim (cases_Bool (nat_eq c 48)) [
  | inl zero_first ↦ rw (eqb-true c 48 zero_first) (whole_from_zero n bs)
  | inr no_zero ↦ rw no_zero (whole_from_other n c bs no_zero)
]

text : (bs : List ℕ) → is_read (read_text bs) ≡ is_number bs
unfolding read_text read_whole
text [] = refl
text (c ∷ bs) = elim (cases_Bool (nat_eq c 45)) [
  | inl minus ↦ rw minus (whole true bs)
  | inr no_minus ↦ rw no_minus (whole false (c ∷ bs))
]

-- a JSON number is read, and what is read is one
pub json_number_is_read : (bs : List ℕ) → IsTrue (is_number bs) → read_text bs ≢ Err NotNumber
json_number_is_read bs h e = true≢false (sym h ∙ sym (text bs) ∙ ap is_read e)

pub read_is_json_number : (bs : List ℕ) → read_text bs ≢ Err NotNumber → IsTrue (is_number bs)
read_is_json_number bs h = sym (text bs) ∙ go (read_text bs) h
  where
    go : (r : Result ℤ NumFault) → r ≢ Err NotNumber → is_read r ≡ true
    go (Ok z) h = refl
    go (Err Range) h = refl
    go (Err NotNumber) h = absurd (h refl)
