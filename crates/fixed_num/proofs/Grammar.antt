-- A text of the grammar is read as its parts, and every text that is read is one of the grammar.
use Rattle.std.proofs.Common.{◌≡◌, ◌≢◌, ℕ, suc, List, [], ◌∷◌, ◌++◌, ◌⊎◌, inl, inr, length, take, drop, refl, sym, ap, ◌∙◌, append-nil, arith, Bool, true, false}
use Rattle.std.specs.Prelude.{slice_index, nat_eq, nat_lt, nat_le, not, ◌&&◌, Err}
use Rattle.std.specs.Char.{is_ascii_digit}
use Rattle.std.specs.List.{list_all, prefix_len}
use Rattle.std.proofs.lemmas.Bool.{and_parts, and_from, cases_Bool, ne_eqb, eqb-true, lt-ltb, ltb-true, eqb-false, not-true, true≢false}
use Rattle.std.proofs.lemmas.List.{take-append-drop}
use Rattle.std.proofs.lemmas.List.Folds.{length-prefix_len}
use Rattle.std.proofs.Math.Seq.{take-append_seam}
use Rattle.fixed_num.specs.Decimal.{read_text, read_whole, read_fraction, read_fraction_digits, read_exponent, read_exponent_sign, read_exponent_digits, value_of, in_range, is_digits, is_whole, leading_digits, after_digits}
use Rattle.fixed_num.specs.Number.{bound}
use Rattle.fixed_num.specs.declared.decimal.NumFault.TheVariants.{NotNumber}
use Rattle.fixed_num.specs.NumberGrammar.{IsDigits, IsWhole, IsFraction, IsMark, IsSign, IsExponent, IsNumberText, HasNumberParts, minus_text}
use Rattle.fixed_num.proofs.Decimals.{list_all-leading_digits}

-- what begins with no digit ends the digits before it
abbrev pub EndsDigits : List ℕ → Type 0
EndsDigits rest = is_ascii_digit (slice_index rest 0) ≡ false

prefix_len-front : (ds rest : List ℕ) → list_all is_ascii_digit ds ≡ true → EndsDigits rest → prefix_len is_ascii_digit (ds ++ rest) ≡ length ds
prefix_len-front [] [] h ends = refl
prefix_len-front [] (c ∷ rest) h ends = rw ends refl
prefix_len-front (c ∷ ds) rest h ends =
    let both = and_parts (is_ascii_digit c) (list_all is_ascii_digit ds) h in
    let more = prefix_len-front ds rest both.1 ends in
    rw both.0 (omega arith)

drop_front : (ds rest : List ℕ) → drop (length ds) (ds ++ rest) ≡ rest
drop_front [] rest = refl
drop_front (c ∷ ds) rest = drop_front ds rest

leading_digits-front : (ds rest : List ℕ) → list_all is_ascii_digit ds ≡ true → EndsDigits rest → leading_digits (ds ++ rest) ≡ ds
leading_digits-front ds rest h ends = ap (λ n. take n (ds ++ rest)) (prefix_len-front ds rest h ends) ∙ take-append_seam ds rest

after_digits-front : (ds rest : List ℕ) → list_all is_ascii_digit ds ≡ true → EndsDigits rest → after_digits (ds ++ rest) ≡ rest
after_digits-front ds rest h ends = ap (λ n. drop n (ds ++ rest)) (prefix_len-front ds rest h ends) ∙ drop_front ds rest

-- digits begin with a digit, whatever follows them
first_digit : (ds rest : List ℕ) → IsDigits ds → is_ascii_digit (slice_index (ds ++ rest) 0) ≡ true
first_digit [] rest h = absurd (omega (arith, h.some))
first_digit (c ∷ ds) rest h = (and_parts (is_ascii_digit c) (list_all is_ascii_digit ds) h.digits).0

not_byte : (x c : ℕ) → is_ascii_digit x ≡ true → is_ascii_digit c ≡ false → nat_eq x c ≡ false
not_byte x c h other = ne_eqb x c (λ same. true≢false (sym h ∙ ap (λ w. is_ascii_digit w) same ∙ other))

first_alone : (ds : List ℕ) → IsDigits ds → is_ascii_digit (slice_index ds 0) ≡ true
first_alone ds h = ap (λ w. is_ascii_digit (slice_index w 0)) (sym (append-nil ds)) ∙ first_digit ds [] h

first_is_not : (ds rest : List ℕ) (c : ℕ) → IsDigits ds → is_ascii_digit c ≡ false → nat_eq (slice_index (ds ++ rest) 0) c ≡ false
first_is_not ds rest c h other = not_byte (slice_index (ds ++ rest) 0) c (first_digit ds rest h) other

is_digits_true : (ds : List ℕ) → IsDigits ds → is_digits ds ≡ true
is_digits_true ds h = and_from (nat_lt 0 (length ds)) (list_all is_ascii_digit ds) (lt-ltb 0 (length ds) h.some) h.digits

-- the digits of an exponent
exponent_digits : (n : Bool) (w f : List ℕ) (d : Bool) (ds : List ℕ) → IsDigits ds → read_exponent_digits n w f d ds ≡ value_of n w f d ds
unfolding read_exponent_digits
exponent_digits n w f d ds h = rw (is_digits_true ds h) refl

-- its sign
exponent_sign : (n : Bool) (w f sign : List ℕ) (d : Bool) (ds : List ℕ) → IsSign sign d → IsDigits ds → read_exponent_sign n w f (sign ++ ds) ≡ value_of n w f d ds
unfolding read_exponent_sign
exponent_sign n w f sign d ds (inl (e, down)) h = rw (e, down) (exponent_digits n w f true ds h)
exponent_sign n w f sign d ds (inr (inl e, up)) h = rw (e, up) (exponent_digits n w f false ds h)
exponent_sign n w f sign d ds (inr (inr e, up)) h =
    let no_minus : nat_eq (slice_index ds 0) 45 ≡ false = not_byte (slice_index ds 0) 45 (first_alone ds h) refl in
    let no_plus : nat_eq (slice_index ds 0) 43 ≡ false = not_byte (slice_index ds 0) 43 (first_alone ds h) refl in
    rw (e, up, no_minus, no_plus) (exponent_digits n w f false ds h)

-- an exponent, or none
suc_not_zero : (m : ℕ) → nat_eq (suc m) 0 ≡ false
suc_not_zero m = ne_eqb (suc m) 0 (λ h. absurd (omega arith))

exponent_marked : (n : Bool) (w f : List ℕ) (mark : ℕ) (sign : List ℕ) (d : Bool) (ds : List ℕ) → IsMark mark → IsSign sign d → IsDigits ds → read_exponent n w f (mark ∷ (sign ++ ds)) ≡ value_of n w f d ds
unfolding read_exponent
exponent_marked n w f mark sign d ds (inl e) s h = rw (e, suc_not_zero (length (sign ++ ds))) (exponent_sign n w f sign d ds s h)
exponent_marked n w f mark sign d ds (inr e) s h = rw (e, suc_not_zero (length (sign ++ ds))) (exponent_sign n w f sign d ds s h)

exponent_text : (n : Bool) (w f text : List ℕ) (d : Bool) (ds : List ℕ) → IsExponent text d ds → read_exponent n w f text ≡ value_of n w f d ds
unfolding read_exponent
exponent_text n w f text d ds (inl (e, up, none)) = rw (e, up, none) refl
exponent_text n w f text d ds (inr power) = ap (λ t. read_exponent n w f t) power.all ∙ exponent_marked n w f power.mark power.sign d ds power.is_mark power.is_sign power.digits

-- an exponent begins with no digit and no point
exponent_ends : (text : List ℕ) (d : Bool) (ds : List ℕ) → IsExponent text d ds → EndsDigits text
exponent_ends text d ds (inl (e, up, none)) = rw e refl
exponent_ends text d ds (inr power) = ap (λ t. is_ascii_digit (slice_index t 0)) power.all ∙ mark_ends power.mark power.is_mark
  where
    mark_ends : (mark : ℕ) → IsMark mark → is_ascii_digit mark ≡ false
    mark_ends mark (inl e) = rw e refl
    mark_ends mark (inr e) = rw e refl

exponent_no_point : (text : List ℕ) (d : Bool) (ds : List ℕ) → IsExponent text d ds → nat_eq (slice_index text 0) 46 ≡ false
exponent_no_point text d ds (inl (e, up, none)) = rw e refl
exponent_no_point text d ds (inr power) = ap (λ t. nat_eq (slice_index t 0) 46) power.all ∙ mark_no_point power.mark power.is_mark
  where
    mark_no_point : (mark : ℕ) → IsMark mark → nat_eq mark 46 ≡ false
    mark_no_point mark (inl e) = rw e refl
    mark_no_point mark (inr e) = rw e refl

-- a fraction and an exponent
fraction_digits : (n : Bool) (w f exp : List ℕ) (d : Bool) (ds : List ℕ) → IsDigits f → IsExponent exp d ds → read_fraction_digits n w (f ++ exp) ≡ value_of n w f d ds
unfolding read_fraction_digits
fraction_digits n w f exp d ds h e =
    let ends = exponent_ends exp d ds e in
    let long = prefix_len-front f exp h.digits ends in
    let some : nat_eq (prefix_len is_ascii_digit (f ++ exp)) 0 ≡ false = ne_eqb (prefix_len is_ascii_digit (f ++ exp)) 0 (λ none. absurd (omega (arith, long, h.some))) in
    let front = leading_digits-front f exp h.digits ends in
    let back = after_digits-front f exp h.digits ends in
    rw (some, front, back) (exponent_text n w f exp d ds e)

fraction_text : (n : Bool) (w f frac exp : List ℕ) (d : Bool) (ds : List ℕ) → IsFraction frac f → IsExponent exp d ds → read_fraction n w (frac ++ exp) ≡ value_of n w f d ds
unfolding read_fraction
fraction_text n w f frac exp d ds (inl (none, empty)) e =
    let no_point = exponent_no_point exp d ds e in
    rw (none, empty, no_point) (exponent_text n w [] exp d ds e)
fraction_text n w f frac exp d ds (inr (all, h)) e = rw all (fraction_digits n w f exp d ds h e)

fraction_ends : (frac f exp : List ℕ) (d : Bool) (ds : List ℕ) → IsFraction frac f → IsExponent exp d ds → EndsDigits (frac ++ exp)
fraction_ends frac f exp d ds (inl (none, empty)) e = rw none (exponent_ends exp d ds e)
fraction_ends frac f exp d ds (inr (all, h)) e = rw all refl

-- a whole part and what follows
is_whole_true : (ds : List ℕ) → IsWhole ds → is_whole ds ≡ true
is_whole_true [] h = absurd (omega (arith, h.digits.some))
is_whole_true (c ∷ []) h = refl
is_whole_true (c ∷ x ∷ ds) h =
    let no_zero : nat_eq c 48 ≡ false = ne_eqb c 48 (λ zero. absurd (omega (arith, h.no_zero_before zero))) in
    let no_one : nat_eq (suc (suc (length ds))) 1 ≡ false = ne_eqb (suc (suc (length ds))) 1 (λ one. absurd (omega arith)) in
    let longer : nat_lt 1 (suc (suc (length ds))) ≡ true = lt-ltb 1 (suc (suc (length ds))) (omega arith) in
    rw (no_one, longer, no_zero) refl

whole_text : (n : Bool) (w f frac exp : List ℕ) (d : Bool) (ds : List ℕ) → IsWhole w → IsFraction frac f → IsExponent exp d ds → read_whole n (w ++ (frac ++ exp)) ≡ value_of n w f d ds
unfolding read_whole
whole_text n w f frac exp d ds h i e =
    let ends = fraction_ends frac f exp d ds i e in
    let front = leading_digits-front w (frac ++ exp) h.digits.digits ends in
    let back = after_digits-front w (frac ++ exp) h.digits.digits ends in
    let is = is_whole_true w h in
    rw (front, back, is) (fraction_text n w f frac exp d ds i e)

signed_text : (n : Bool) (w f frac exp : List ℕ) (d : Bool) (ds : List ℕ) → IsWhole w → IsFraction frac f → IsExponent exp d ds → read_text (minus_text n ++ (w ++ (frac ++ exp))) ≡ value_of n w f d ds
unfolding read_text
signed_text true w f frac exp d ds h i e = whole_text true w f frac exp d ds h i e
signed_text false w f frac exp d ds h i e =
    let no_minus = first_is_not w (frac ++ exp) 45 h.digits refl in
    rw no_minus (whole_text false w f frac exp d ds h i e)

-- a text of the grammar is read as the number of its parts
pub read_text-grammar : (bs : List ℕ) (n : Bool) (w f : List ℕ) (d : Bool) (ds : List ℕ) → IsNumberText bs n w f d ds → read_text bs ≡ value_of n w f d ds
read_text-grammar bs n w f d ds t = ap read_text t.all ∙ signed_text n w f t.frac t.exp d ds t.is_whole t.is_fraction t.is_exponent

-- a first byte that is not zero
bytes_by_first : (bs : List ℕ) (c : ℕ) → nat_eq (slice_index bs 0) (suc c) ≡ true → bs ≡ suc c ∷ drop 1 bs
bytes_by_first [] c h = absurd (omega (arith, eqb-true 0 (suc c) h))
bytes_by_first (x ∷ xs) c h = ap (λ w. w ∷ xs) (eqb-true x (suc c) h)

digits_or_not : (bs : List ℕ) → (is_digits bs ≡ false) ⊎ IsDigits bs
digits_or_not bs = elim (cases_Bool (is_digits bs)) [
  | inl all ↦
      let both = and_parts (nat_lt 0 (length bs)) (list_all is_ascii_digit bs) all in
      inr (record { some = ltb-true 0 (length bs) both.0; digits = both.1 })
  | inr other ↦ inl other
]

-- what reading refuses, or the parts that it found
abbrev pub SignParts : List ℕ → Type 0
SignParts bs = (sign : List ℕ) × (d : Bool) × (ds : List ℕ) × (bs ≡ sign ++ ds) × IsSign sign d × IsDigits ds

sign_parts : (n : Bool) (w f bs : List ℕ) → (read_exponent_sign n w f bs ≡ Err NotNumber) ⊎ SignParts bs
unfolding read_exponent_sign read_exponent_digits
sign_parts n w f bs = elim (cases_Bool (nat_eq (slice_index bs 0) 45)) [
  | inl minus ↦ elim (digits_or_not (drop 1 bs)) [
    | inl not_digits ↦ inl (rw (minus, not_digits) refl)
    | inr digits ↦ inr (45 ∷ [], true, drop 1 bs, bytes_by_first bs 44 minus, inl (refl, refl), digits)
  ]
  | inr no_minus ↦ elim (cases_Bool (nat_eq (slice_index bs 0) 43)) [
    | inl plus ↦ elim (digits_or_not (drop 1 bs)) [
      | inl not_digits ↦ inl (rw (no_minus, plus, not_digits) refl)
      | inr digits ↦ inr (43 ∷ [], false, drop 1 bs, bytes_by_first bs 42 plus, inr (inl refl, refl), digits)
    ]
    | inr no_plus ↦ elim (digits_or_not bs) [
      | inl not_digits ↦ inl (rw (no_minus, no_plus, not_digits) refl)
      | inr digits ↦ inr ([], false, bs, refl, inr (inr refl, refl), digits)
    ]
  ]
]

abbrev pub ExponentParts : List ℕ → Type 0
ExponentParts bs = (d : Bool) × (ds : List ℕ) × IsExponent bs d ds

marked_parts : (n : Bool) (w f bs : List ℕ) (mark : ℕ) → IsMark mark → bs ≡ mark ∷ drop 1 bs → (read_exponent_sign n w f (drop 1 bs) ≡ Err NotNumber) ⊎ ExponentParts bs
marked_parts n w f bs mark is all = elim (sign_parts n w f (drop 1 bs)) [
  | inl refused ↦ inl refused
  | inr parts ↦
      let (sign, d, ds, rest, is_sign, digits) = parts in
      inr (d, ds, inr (record { mark = mark; sign = sign; all = all ∙ ap (λ w. mark ∷ w) rest; is_mark = is; is_sign = is_sign; digits = digits }))
]

pub no_bytes : (bs : List ℕ) → nat_eq (length bs) 0 ≡ true → bs ≡ []
no_bytes [] h = refl
no_bytes (c ∷ bs) h = absurd (true≢false (sym h ∙ suc_not_zero (length bs)))

exponent_parts : (n : Bool) (w f bs : List ℕ) → (read_exponent n w f bs ≡ Err NotNumber) ⊎ ExponentParts bs
unfolding read_exponent
exponent_parts n w f bs = elim (cases_Bool (nat_eq (length bs) 0)) [
  | inl none ↦ inr (false, [], inl (no_bytes bs none, refl, refl))
  | inr some ↦ elim (cases_Bool (nat_eq (slice_index bs 0) 101)) [
    | inl lower ↦ elim (marked_parts n w f bs 101 (inl refl) (bytes_by_first bs 100 lower)) [
      | inl refused ↦ inl (rw (some, lower) refused)
      | inr parts ↦ inr parts
    ]
    | inr no_lower ↦ elim (cases_Bool (nat_eq (slice_index bs 0) 69)) [
      | inl upper ↦ elim (marked_parts n w f bs 69 (inr refl) (bytes_by_first bs 68 upper)) [
        | inl refused ↦ inl (rw (some, no_lower, upper) refused)
        | inr parts ↦ inr parts
      ]
      | inr no_upper ↦ inl (rw (some, no_lower, no_upper) refl)
    ]
  ]
]

leading_are_digits : (bs : List ℕ) → nat_eq (prefix_len is_ascii_digit bs) 0 ≡ false → IsDigits (leading_digits bs)
leading_are_digits bs h =
    let long : length (leading_digits bs) ≡ prefix_len is_ascii_digit bs = length-prefix_len is_ascii_digit bs in
    let none = eqb-false (prefix_len is_ascii_digit bs) 0 h in
    record { some = omega arith; digits = list_all-leading_digits bs }

split_again : (bs : List ℕ) → bs ≡ leading_digits bs ++ after_digits bs
split_again bs = sym (take-append-drop (prefix_len is_ascii_digit bs) bs)

abbrev pub TailParts : List ℕ → Type 0
TailParts bs = (f : List ℕ) × (frac : List ℕ) × (exp : List ℕ) × (d : Bool) × (ds : List ℕ) × (bs ≡ frac ++ exp) × IsFraction frac f × IsExponent exp d ds

fraction_parts : (n : Bool) (w bs : List ℕ) → (read_fraction n w bs ≡ Err NotNumber) ⊎ TailParts bs
unfolding read_fraction read_fraction_digits
fraction_parts n w bs = elim (cases_Bool (nat_eq (slice_index bs 0) 46)) [
  | inl point ↦ elim (cases_Bool (nat_eq (prefix_len is_ascii_digit (drop 1 bs)) 0)) [
    | inl none ↦ inl (rw (point, none) refl)
    | inr some ↦ elim (exponent_parts n w (leading_digits (drop 1 bs)) (after_digits (drop 1 bs))) [
      | inl refused ↦ inl (rw (point, some) refused)
      | inr parts ↦
          let (d, ds, e) = parts in
          inr (leading_digits (drop 1 bs), 46 ∷ leading_digits (drop 1 bs), after_digits (drop 1 bs), d, ds, bytes_by_first bs 45 point ∙ ap (λ w. 46 ∷ w) (split_again (drop 1 bs)), inr (refl, leading_are_digits (drop 1 bs) some), e)
    ]
  ]
  | inr no_point ↦ elim (exponent_parts n w [] bs) [
    | inl refused ↦ inl (rw no_point refused)
    | inr parts ↦ let (d, ds, e) = parts in inr ([], [], bs, d, ds, refl, inl (refl, refl), e)
  ]
]

whole_is : (ds : List ℕ) → list_all is_ascii_digit ds ≡ true → is_whole ds ≡ true → IsWhole ds
whole_is [] h e = absurd (true≢false (sym e))
whole_is (c ∷ []) h e = record { digits = record { some = omega arith; digits = h }; no_zero_before = λ _. refl }
whole_is (c ∷ x ∷ ds) h e =
    let no_one : nat_eq (suc (suc (length ds))) 1 ≡ false = ne_eqb (suc (suc (length ds))) 1 (λ one. absurd (omega arith)) in
    let longer : (nat_lt 1 (suc (suc (length ds))) && not (nat_eq c 48)) ≡ true = (rw no_one at e) in
    let no_zero : nat_eq c 48 ≡ false = not-true (nat_eq c 48) ((and_parts (nat_lt 1 (suc (suc (length ds)))) (not (nat_eq c 48)) longer).1) in
    record { digits = record { some = omega arith; digits = h }; no_zero_before = λ zero. absurd (eqb-false c 48 no_zero zero) }

abbrev pub WholeParts : List ℕ → Type 0
WholeParts bs = (w : List ℕ) × (f : List ℕ) × (frac : List ℕ) × (exp : List ℕ) × (d : Bool) × (ds : List ℕ) × (bs ≡ w ++ (frac ++ exp)) × IsWhole w × IsFraction frac f × IsExponent exp d ds

whole_parts : (n : Bool) (bs : List ℕ) → (read_whole n bs ≡ Err NotNumber) ⊎ WholeParts bs
unfolding read_whole
whole_parts n bs = elim (cases_Bool (is_whole (leading_digits bs))) [
  | inl whole ↦ elim (fraction_parts n (leading_digits bs) (after_digits bs)) [
    | inl refused ↦ inl (rw whole refused)
    | inr parts ↦
        let (f, frac, exp, d, ds, all, i, e) = parts in
        inr (leading_digits bs, f, frac, exp, d, ds, split_again bs ∙ ap (λ w. leading_digits bs ++ w) all, whole_is (leading_digits bs) (list_all-leading_digits bs) whole, i, e)
  ]
  | inr other ↦ inl (rw other refl)
]

-- every text that is read is one of the grammar
pub text_parts : (bs : List ℕ) → (read_text bs ≡ Err NotNumber) ⊎ HasNumberParts bs
unfolding read_text
text_parts bs = elim (cases_Bool (nat_eq (slice_index bs 0) 45)) [
  | inl minus ↦ elim (whole_parts true (drop 1 bs)) [
    | inl refused ↦ inl (rw minus refused)
    | inr parts ↦
        let (w, f, frac, exp, d, ds, all, h, i, e) = parts in
        inr (true, w, f, d, ds, record { frac = frac; exp = exp; all = bytes_by_first bs 44 minus ∙ ap (λ t. 45 ∷ t) all; is_whole = h; is_fraction = i; is_exponent = e })
  ]
  | inr no_minus ↦ elim (whole_parts false bs) [
    | inl refused ↦ inl (rw no_minus refused)
    | inr parts ↦
        let (w, f, frac, exp, d, ds, all, h, i, e) = parts in
        inr (false, w, f, d, ds, record { frac = frac; exp = exp; all = all; is_whole = h; is_fraction = i; is_exponent = e })
  ]
]

pub read_text_has_parts : (bs : List ℕ) → read_text bs ≢ Err NotNumber → HasNumberParts bs
read_text_has_parts bs h = elim (text_parts bs) [
  | inl refused ↦ absurd (h refused)
  | inr parts ↦ parts
]

-- a number that is read is one, or past the bound
in_range_is_number : (n : Bool) (m : ℕ) → in_range n m ≢ Err NotNumber
in_range_is_number n m e = elim (cases_Bool (nat_le m bound)) [
  | inl within ↦ let same = rw within at e in cc
  | inr beyond ↦ let same = rw beyond at e in cc
]

value_is_number : (n : Bool) (w f : List ℕ) (d : Bool) (ds : List ℕ) → value_of n w f d ds ≢ Err NotNumber
unfolding value_of
value_is_number n w f d ds e = in_range_is_number n _ e

pub grammar_is_read : (bs : List ℕ) (n : Bool) (w f : List ℕ) (d : Bool) (ds : List ℕ) → IsNumberText bs n w f d ds → read_text bs ≢ Err NotNumber
grammar_is_read bs n w f d ds t e = value_is_number n w f d ds (sym (read_text-grammar bs n w f d ds t) ∙ e)
