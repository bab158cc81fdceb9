-- The text of a number is one of the grammar, and reading it gives the number back.
use Rattle.std.proofs.Common.{◌≡◌, ◌≢◌, ℕ, zero, suc, ◌+◌, ◌-◌, ◌*◌, ◌/◌, ◌%◌, ◌^◌, ◌<◌, ◌≤◌, ℤ, pos, negsuc, List, [], ◌∷◌, ◌++◌, inl, inr, length, length-append, refl, sym, ap, ◌∙◌, append-nil, arith, Bool, true, false}
use Rattle.std.specs.Prelude.{slice_index, nat_eq, ◌&&◌, Ok, decimal, unsigned_abs}
use Rattle.std.specs.Char.{is_ascii_digit}
use Rattle.std.specs.List.{list_all}
use Rattle.std.proofs.lemmas.Bool.{and_parts, and_from, cases_Bool, cases_eq, eqb-true, ne_eqb, le-leb}
use Rattle.std.proofs.lemmas.Fmt.{decimal_by_steps_wide}
use Rattle.std.proofs.lemmas.Nat.{div_below, mod_below, div-add-mod', pow-add}
use Rattle.std.proofs.lemmas.Str.{IsAscii-append}
use Rattle.std.proofs.lemmas.Str.Ascii.{IsAscii-nil, IsAscii-cons}
use Rattle.std.proofs.Math.Nat.{pow-suc}
use Rattle.std.specs.Bool.{IsTrue}
use Rattle.std.specs.Str.{IsAscii}
use Rattle.json_tokens.specs.Number.{is_number}
use Rattle.fixed_num.specs.Decimal.{read_text, value_of, in_range, number_of}
use Rattle.fixed_num.specs.Number.{bound}
use Rattle.fixed_num.specs.NumberGrammar.{IsDigits, IsWhole, IsFraction, minus_text}
use Rattle.fixed_num.specs.NumberText.{number_text, magnitude_text, fraction_text, without_end_zeros, last_digits}
use Rattle.fixed_num.specs.Rounding.{nearest}
use Rattle.fixed_num.proofs.Decimals.{digit_range, number_of-append, number_of-push, list_all_both, nearest-whole, ten_pow}
use Rattle.fixed_num.proofs.Grammar.{read_text-grammar, no_bytes}
use Rattle.fixed_num.proofs.JsonNumbers.{read_is_json_number}

digit_byte : (n : ℕ) → n < 10 → is_ascii_digit (48 + n) ≡ true
digit_byte n h = grind arith

-- what `decimal` writes of n
record IsDecimal (n : ℕ) (ds : List ℕ) : Type 0 where
  pub digits : IsDigits ds
  pub value : number_of ds ≡ n
  pub first : slice_index ds 0 ≡ 48 → n ≡ 0
  pub short : n < 10 → length ds ≡ 1

one_digit : (n : ℕ) → n < 10 → IsDecimal n ((48 + n) ∷ [])
one_digit n h = record {
  digits = record { some = omega arith; digits = and_from (is_ascii_digit (48 + n)) true (digit_byte n h) refl };
  value = omega arith;
  first = λ e. omega arith;
  short = λ _. refl;
}

first_of_more : (ds rest : List ℕ) → 0 < length ds → slice_index (ds ++ rest) 0 ≡ slice_index ds 0
first_of_more [] rest h = absurd (omega arith)
first_of_more (c ∷ ds) rest h = refl

more_digits : (n : ℕ) (ds : List ℕ) → 10 ≤ n → IsDecimal (n / 10) ds → IsDecimal n (ds ++ ((48 + n % 10) ∷ []))
more_digits n ds h d =
    let last : list_all is_ascii_digit ((48 + n % 10) ∷ []) ≡ true = and_from (is_ascii_digit (48 + n % 10)) true (digit_byte (n % 10) (omega arith)) refl in
    let longer = length-append ds ((48 + n % 10) ∷ []) in
    record {
      digits = record { some = omega arith; digits = list_all_both ds ((48 + n % 10) ∷ []) d.digits.digits last };
      value = number_of-push ds (48 + n % 10) ∙ omega (arith, d.value);
      first = λ e. absurd (omega (arith, d.first (sym (first_of_more ds ((48 + n % 10) ∷ []) d.digits.some) ∙ e)));
      short = λ small. absurd (omega arith);
    }

decimal_is : (n : ℕ) → n < 10 ^ 64 → IsDecimal n (decimal n)
decimal_is n h = decimal_by_steps_wide IsDecimal one_digit more_digits n h

whole_of_decimal : (n : ℕ) (ds : List ℕ) → IsDecimal n ds → IsWhole ds
whole_of_decimal n ds d = record { digits = d.digits; no_zero_before = λ e. d.short (omega (arith, d.first e)) }

-- the last digits of n
record AreLast (k n : ℕ) (ds : List ℕ) : Type 0 where
  pub long : length ds ≡ k
  pub digits : list_all is_ascii_digit ds ≡ true
  pub value : number_of ds ≡ n

last_digits_are : (k n : ℕ) → n < 10 ^ k → AreLast k n (last_digits k n)
unfolding last_digits
last_digits_are zero n h = record { long = refl; digits = refl; value = omega arith }
last_digits_are (suc k) n h =
    let rest = last_digits_are k (n % 10 ^ k) (mod_below n (10 ^ k) (ten_pow k)) in
    let power : 10 ^ suc k ≡ 10 * 10 ^ k = pow-suc 10 k ∙ omega arith in
    let same : 48 + n / 10 ^ k - 48 ≡ n / 10 ^ k = omega arith in
    let digit : n / 10 ^ k < 10 = div_below n (10 ^ k) 10 (ten_pow k) (omega arith) in
    record {
      long = ap suc rest.long;
      digits = and_from (is_ascii_digit (48 + n / 10 ^ k)) (list_all is_ascii_digit (last_digits k (n % 10 ^ k))) (digit_byte (n / 10 ^ k) digit) rest.digits;
      value = rw (rest.long, rest.value, same) (div-add-mod' n (10 ^ k));
    }

-- digits without the zeros at the end
record AreFront (ds cs : List ℕ) : Type 0 where
  pub digits : list_all is_ascii_digit cs ≡ true → list_all is_ascii_digit ds ≡ true
  pub short : length ds ≤ length cs
  pub value : (j : ℕ) → length ds + j ≡ length cs → number_of ds * 10 ^ j ≡ number_of cs

without_end_zeros_are : (cs : List ℕ) → AreFront (without_end_zeros cs) cs
unfolding without_end_zeros
without_end_zeros_are [] = record { digits = λ h. h; short = omega arith; value = λ j e. omega arith }
without_end_zeros_are (c ∷ cs) =
    let rest = without_end_zeros_are cs in
    elim (cases_Bool (nat_eq c 48 && nat_eq (length (without_end_zeros cs)) 0)) [
      | inl dropped ↦
          let both = and_parts (nat_eq c 48) (nat_eq (length (without_end_zeros cs)) 0) dropped in
          let zero : c - 48 ≡ 0 = omega (arith, eqb-true c 48 both.0) in
          let none : number_of (without_end_zeros cs) ≡ 0 = ap number_of (no_bytes (without_end_zeros cs) both.1) in
          let nothing : number_of cs ≡ 0 = sym (rest.value (length cs) (omega (arith, eqb-true (length (without_end_zeros cs)) 0 both.1))) ∙ ap (λ m. m * 10 ^ length cs) none ∙ omega arith in
          rw dropped (record { digits = λ h. refl; short = omega arith; value = λ j e. rw (zero, nothing) (omega arith) })
      | inr kept ↦ rw kept (record {
        digits = λ h.
            let both = and_parts (is_ascii_digit c) (list_all is_ascii_digit cs) h in
            and_from (is_ascii_digit c) (list_all is_ascii_digit (without_end_zeros cs)) both.0 (rest.digits both.1);
        short = omega (arith, rest.short);
        value = λ j e.
            let long : length (without_end_zeros cs) + j ≡ length cs = omega arith in
            let power : 10 ^ length (without_end_zeros cs) * 10 ^ j ≡ 10 ^ length cs = sym (pow-add 10 (length (without_end_zeros cs)) j) ∙ ap (λ m. 10 ^ m) long in
            let grouped : (c - 48) * 10 ^ length (without_end_zeros cs) * 10 ^ j ≡ (c - 48) * (10 ^ length (without_end_zeros cs) * 10 ^ j) = omega arith in
            let top : (c - 48) * 10 ^ length (without_end_zeros cs) * 10 ^ j ≡ (c - 48) * 10 ^ length cs = grouped ∙ ap (λ m. (c - 48) * m) power in
            omega (arith, top, rest.value j long);
      })
    ]

-- the text of a fraction of millionths
abbrev FractionFacts : ℕ → Type 0
FractionFacts f = (ds : List ℕ) × (j : ℕ) × IsFraction (fraction_text f) ds × (length ds + j ≡ 6) × (number_of ds * 10 ^ j ≡ f)

fraction_facts : (f : ℕ) → f < 10 ^ 6 → FractionFacts f
unfolding fraction_text
fraction_facts f h = elim (cases_eq f 0) [
  | inl none ↦ rw none ([], 6, inl (refl, refl), refl, refl)
  | inr some ↦
      let all = last_digits_are 6 f h in
      let front = without_end_zeros_are (last_digits 6 f) in
      let not_zero : nat_eq f 0 ≡ false = ne_eqb f 0 some in
      let long : length (without_end_zeros (last_digits 6 f)) + (6 - length (without_end_zeros (last_digits 6 f))) ≡ 6 = omega (arith, front.short, all.long) in
      let value : number_of (without_end_zeros (last_digits 6 f)) * 10 ^ (6 - length (without_end_zeros (last_digits 6 f))) ≡ f = front.value (6 - length (without_end_zeros (last_digits 6 f))) (long ∙ sym all.long) ∙ all.value in
      let digits : IsDigits (without_end_zeros (last_digits 6 f)) = record { some = some_digits (without_end_zeros (last_digits 6 f)) (6 - length (without_end_zeros (last_digits 6 f))) f some value; digits = front.digits all.digits } in
      rw not_zero (without_end_zeros (last_digits 6 f), 6 - length (without_end_zeros (last_digits 6 f)), inr (refl, digits), long, value)
]
  where
    some_digits : (ds : List ℕ) (j f : ℕ) → f ≢ 0 → number_of ds * 10 ^ j ≡ f → 0 < length ds
    some_digits [] j f some e = absurd (some (omega arith))
    some_digits (c ∷ ds) j f some e = omega arith

-- the number that whole part and fraction write
scale : (whole part front back f : ℕ) → front * back ≡ 1000000 → part * back ≡ f → (whole * front + part) * 1000000 ≡ (whole * 1000000 + f) * front
scale whole part front back f e g = rw (← e, ← g) (omega arith)

value_is : (n : Bool) (w f : ℕ) (ws ds : List ℕ) (j : ℕ) → number_of ws ≡ w → length ds + j ≡ 6 → number_of ds * 10 ^ j ≡ f → value_of n ws ds false [] ≡ in_range n (w * 1000000 + f)
unfolding value_of
value_is n w f ws ds j e long g =
    let power : 10 ^ length ds * 10 ^ j ≡ 1000000 = sym (pow-add 10 (length ds) j) ∙ ap (λ m. 10 ^ m) long in
    let top : number_of (ws ++ ds) * 1000000 ≡ (w * 1000000 + f) * 10 ^ length ds =
    ap (λ m. m * 1000000) (number_of-append ws ds ∙ ap (λ m. m * 10 ^ length ds + number_of ds) e) ∙ scale w (number_of ds) (10 ^ length ds) (10 ^ j) f power g in
    ap (in_range n) (ap (λ m. nearest m (10 ^ length ds)) top ∙ nearest-whole (w * 1000000 + f) (10 ^ length ds) (ten_pow (length ds)))

-- the text of a magnitude, with a sign or without
magnitude_is_read : (n : Bool) (m : ℕ) → m ≤ bound → read_text (minus_text n ++ magnitude_text m) ≡ in_range n m
unfolding magnitude_text
magnitude_is_read n m h =
    let whole = decimal_is (m / 1000000) (omega arith) in
    let (ds, j, is_fraction, long, value) = fraction_facts (m % 1000000) (omega arith) in
    read_text-grammar (minus_text n ++ (decimal (m / 1000000) ++ fraction_text (m % 1000000))) n (decimal (m / 1000000)) ds false [] (record {
      frac = fraction_text (m % 1000000);
      exp = [];
      all = ap (λ t. minus_text n ++ (decimal (m / 1000000) ++ t)) (sym (append-nil (fraction_text (m % 1000000))));
      is_whole = whole_of_decimal (m / 1000000) (decimal (m / 1000000)) whole;
      is_fraction = is_fraction;
      is_exponent = inl (refl, refl, refl);
    })
    ∙ value_is n (m / 1000000) (m % 1000000) (decimal (m / 1000000)) ds j whole.value long value
    ∙ ap (in_range n) (omega arith)

-- reading the text of a number gives it back
pub number_text_is_read : (z : ℤ) → unsigned_abs z ≤ bound → read_text (number_text z) ≡ Ok z
unfolding number_text
number_text_is_read (pos n) h = magnitude_is_read false n h ∙ rw (le-leb n bound h) refl
number_text_is_read (negsuc n) h = magnitude_is_read true (suc n) h ∙ rw (le-leb (suc n) bound h) refl

-- so it is a JSON number
pub written_number : (z : ℤ) → unsigned_abs z ≤ bound → IsTrue (is_number (number_text z))
written_number z h = read_is_json_number (number_text z) (λ refused. let same = sym (number_text_is_read z h) ∙ refused in cc)

-- the text of a number is ASCII
digits_ascii : (ds : List ℕ) → list_all is_ascii_digit ds ≡ true → IsAscii ds
digits_ascii [] h = IsAscii-nil
digits_ascii (c ∷ cs) h =
    let both = and_parts (is_ascii_digit c) (list_all is_ascii_digit cs) h in
    IsAscii-cons c cs (omega (arith, digit_range c both.0)) (digits_ascii cs both.1)

fraction_ascii : (f : ℕ) → f < 10 ^ 6 → IsAscii (fraction_text f)
unfolding fraction_text
fraction_ascii f h = elim (cases_eq f 0) [
  | inl none ↦ rw none IsAscii-nil
  | inr some ↦
      let not_zero : nat_eq f 0 ≡ false = ne_eqb f 0 some in
      let all = last_digits_are 6 f h in
      let front = without_end_zeros_are (last_digits 6 f) in
      rw not_zero (IsAscii-cons 46 (without_end_zeros (last_digits 6 f)) (omega arith) (digits_ascii (without_end_zeros (last_digits 6 f)) (front.digits all.digits)))
]

magnitude_ascii : (m : ℕ) → m ≤ bound → IsAscii (magnitude_text m)
unfolding magnitude_text
magnitude_ascii m h =
    let whole = decimal_is (m / 1000000) (omega arith) in
    IsAscii-append (decimal (m / 1000000)) (fraction_text (m % 1000000)) (digits_ascii (decimal (m / 1000000)) whole.digits.digits) (fraction_ascii (m % 1000000) (omega arith))

pub number_text_ascii : (z : ℤ) → unsigned_abs z ≤ bound → IsAscii (number_text z)
unfolding number_text
number_text_ascii (pos n) h = magnitude_ascii n h
number_text_ascii (negsuc n) h = IsAscii-cons 45 (magnitude_text (suc n)) (omega arith) (magnitude_ascii (suc n) h)
