-- Laws of the numbers that digits write, and of their rounding.
use Rattle.std.proofs.Common.{◌≡◌, ℕ, zero, suc, ◌+◌, ◌-◌, ◌*◌, ◌^◌, ◌<◌, ◌≤◌, List, [], ◌∷◌, ◌++◌, length, take, drop, get_or, refl, sym, ap, ◌∙◌, append-nil, length-append, arith, true, inl, inr}
use Rattle.std.specs.Prelude.{min, nat_eq}
use Rattle.std.specs.Char.{is_ascii_digit}
use Rattle.std.specs.List.{list_all, prefix_len}
use Rattle.std.proofs.lemmas.Bool.{and_parts, cases_lt, cases_eq, cases_Bool, eq-eqb, ne_eqb, and_from}
use Rattle.std.proofs.lemmas.List.{take-append-drop, take_more, take-append-le, take_all, take_min, length-take-le}
use Rattle.std.proofs.lemmas.List.Folds.{list_all-append}
use Rattle.std.proofs.Math.Seq.{take-length, take-append-add, drop-cons}
use Rattle.std.proofs.lemmas.Nat.{div_below, le-div, pow-add}
use Rattle.std.proofs.Math.Nat.{pow-suc, one-le-pow, mul-le-mul_left, mul-div-mul_right}
use Rattle.fixed_num.specs.Rounding.{nearest}
use Rattle.fixed_num.specs.Decimal.{number_of, leading_digits}
use Rattle.fixed_num.specs.Saturation.{past, saturated}

-- powers of ten
pub ten_pow : (k : ℕ) → 0 < 10 ^ k
ten_pow k = one-le-pow k 10 (omega arith)

-- digits after digits
pub number_of-append : (xs ys : List ℕ) → number_of (xs ++ ys) ≡ number_of xs * 10 ^ length ys + number_of ys
number_of-append [] ys = omega arith
number_of-append (x ∷ xs) ys =
    let e : 10 ^ length (xs ++ ys) ≡ 10 ^ length xs * 10 ^ length ys = ap (λ n. 10 ^ n) (length-append xs ys) ∙ pow-add 10 (length xs) (length ys) in
    rw (e, number_of-append xs ys) (omega arith)

-- one digit more
pub number_of-push : (xs : List ℕ) (c : ℕ) → number_of (xs ++ c ∷ []) ≡ number_of xs * 10 + (c - 48)
number_of-push xs c = number_of-append xs (c ∷ []) ∙ omega arith

pub digit_range : (c : ℕ) → is_ascii_digit c ≡ true → (48 ≤ c) × (c ≤ 57)
digit_range c h = grind arith

eq_more : (a b : ℕ) → nat_eq (1 + a) (suc b) ≡ nat_eq a b
eq_more a b = elim (cases_eq a b) [
  | inl same ↦ eq-eqb (1 + a) (suc b) (omega arith) ∙ sym (eq-eqb a b same)
  | inr other ↦ ne_eqb (1 + a) (suc b) (λ h. other (omega arith)) ∙ sym (ne_eqb a b other)
]

-- as many digits at the front as bytes: all are digits
pub prefix_len-list_all : (bs : List ℕ) → nat_eq (prefix_len is_ascii_digit bs) (length bs) ≡ list_all is_ascii_digit bs
prefix_len-list_all [] = refl
prefix_len-list_all (c ∷ cs) = elim (cases_Bool (is_ascii_digit c)) [
  | inl digit ↦ let rest = prefix_len-list_all cs in rw digit (eq_more (prefix_len is_ascii_digit cs) (length cs) ∙ rest)
  | inr other ↦ rw other (grind arith)
]

-- so many digits write a number below the power of ten
pub number_of-lt : (ds : List ℕ) → list_all is_ascii_digit ds ≡ true → number_of ds < 10 ^ length ds
number_of-lt [] h = omega arith
number_of-lt (c ∷ cs) h =
    let both = and_parts (is_ascii_digit c) (list_all is_ascii_digit cs) h in
    let range = digit_range c both.0 in
    let rest = number_of-lt cs both.1 in
    let most : 10 ^ length cs * (c - 48) ≤ 10 ^ length cs * 9 = mul-le-mul_left (10 ^ length cs) (omega arith) in
    omega (arith, pow-suc 10 (length cs))

pub number_of-lt_both : (xs ys : List ℕ) → list_all is_ascii_digit (xs ++ ys) ≡ true → number_of (xs ++ ys) < 10 ^ (length xs + length ys)
number_of-lt_both xs ys h = let below = number_of-lt (xs ++ ys) h in rw (length-append xs ys) at below

-- the nearest number lies so
pub nearest_is : (n d r : ℕ) → 0 < d → r * (2 * d) ≤ 2 * n + d → 2 * n + d < (r + 1) * (2 * d) → nearest n d ≡ r
nearest_is n d r some low high = omega (arith, le-div r (2 * n + d) (2 * d) (omega arith) low, div_below (2 * n + d) (2 * d) (r + 1) (omega arith) high)

-- a whole number is nearest to itself
pub nearest-whole : (q d : ℕ) → 0 < d → nearest (q * d) d ≡ q
nearest-whole q d some = nearest_is (q * d) d q some (omega arith) (omega arith)

-- a common factor does not count
pub nearest-cancel : (n d c : ℕ) → 0 < c → nearest (n * c) (d * c) ≡ nearest n d
nearest-cancel n d c some =
    let top : 2 * (n * c) + d * c ≡ (2 * n + d) * c = omega arith in
    let low : 2 * (d * c) ≡ (2 * d) * c = omega arith in
    rw (top, low) (mul-div-mul_right (2 * n + d) (2 * d) some)

-- what is dropped counts by its first digit alone
nearest-up : (a c b w : ℕ) → 0 < w → b < w → 5 ≤ c → c ≤ 9 → nearest ((a * 10 + c) * w + b) (10 * w) ≡ a + 1
nearest-up a c b w some below low high =
    let least : w * 5 ≤ w * c = mul-le-mul_left w low in
    let most : w * c ≤ w * 9 = mul-le-mul_left w high in
    nearest_is ((a * 10 + c) * w + b) (10 * w) (a + 1) (omega arith) (omega arith) (omega arith)

nearest-down : (a c b w : ℕ) → 0 < w → b < w → c ≤ 4 → nearest ((a * 10 + c) * w + b) (10 * w) ≡ a
nearest-down a c b w some below high =
    let most : w * c ≤ w * 4 = mul-le-mul_left w high in
    nearest_is ((a * 10 + c) * w + b) (10 * w) a (omega arith) (omega arith) (omega arith)

-- past so many powers of ten, only zero is not past the bound
pub saturated-far : (m j : ℕ) → saturated (m * (past * 10 ^ j)) ≡ saturated (m * past)
saturated-far zero j = omega arith
saturated-far (suc m) j = let more : past * 1 ≤ past * 10 ^ j = mul-le-mul_left past (ten_pow j) in omega arith

-- with the point after all digits
pub nearest-all : (m n kept : ℕ) → n ≤ kept → nearest (m * 10 ^ kept) (10 ^ n) ≡ m * 10 ^ (kept - n)
nearest-all m n kept h =
    let e : 10 ^ kept ≡ 10 ^ (kept - n) * 10 ^ n = ap (λ k. 10 ^ k) (omega arith) ∙ pow-add 10 (kept - n) n in
    let p : m * 10 ^ kept ≡ (m * 10 ^ (kept - n)) * 10 ^ n = ap (λ w. m * w) e ∙ omega arith in
    ap (λ w. nearest w (10 ^ n)) p ∙ nearest-whole (m * 10 ^ (kept - n)) (10 ^ n) (ten_pow n)

-- the digits before a place, the one there and the rest
pub number_of-split : (xs : List ℕ) (c : ℕ) (ys : List ℕ) → number_of (xs ++ c ∷ ys) ≡ (number_of xs * 10 + (c - 48)) * 10 ^ length ys + number_of ys
number_of-split xs c ys =
    let e : 10 ^ length (c ∷ ys) ≡ 10 ^ length ys * 10 = pow-suc 10 (length ys) in
    number_of-append xs (c ∷ ys) ∙ rw e (omega arith)

-- the point after some digits: the next one decides
split_power : (k m : ℕ) → 10 ^ (k + suc m) ≡ (10 * 10 ^ m) * 10 ^ k
split_power k m = pow-add 10 k (suc m) ∙ ap (λ w. 10 ^ k * w) (pow-suc 10 m) ∙ omega arith

pub nearest-split-up : (xs : List ℕ) (c : ℕ) (ys : List ℕ) → list_all is_ascii_digit (c ∷ ys) ≡ true → 53 ≤ c → nearest (number_of (xs ++ c ∷ ys) * 10 ^ length xs) (10 ^ (length xs + suc (length ys))) ≡ number_of xs + 1
nearest-split-up xs c ys h low =
    let both = and_parts (is_ascii_digit c) (list_all is_ascii_digit ys) h in
    let range = digit_range c both.0 in
    rw (split_power (length xs) (length ys), number_of-split xs c ys)
    (nearest-cancel _ _ (10 ^ length xs) (ten_pow (length xs)) ∙ nearest-up (number_of xs) (c - 48) (number_of ys) (10 ^ length ys) (ten_pow (length ys)) (number_of-lt ys both.1) (omega arith) (omega arith))

pub nearest-split-down : (xs : List ℕ) (c : ℕ) (ys : List ℕ) → list_all is_ascii_digit (c ∷ ys) ≡ true → c < 53 → nearest (number_of (xs ++ c ∷ ys) * 10 ^ length xs) (10 ^ (length xs + suc (length ys))) ≡ number_of xs
nearest-split-down xs c ys h high =
    let both = and_parts (is_ascii_digit c) (list_all is_ascii_digit ys) h in
    rw (split_power (length xs) (length ys), number_of-split xs c ys)
    (nearest-cancel _ _ (10 ^ length xs) (ten_pow (length xs)) ∙ nearest-down (number_of xs) (c - 48) (number_of ys) (10 ^ length ys) (ten_pow (length ys)) (number_of-lt ys both.1) (omega arith))

-- one digit more, saturated
pub extended_step : (front number : ℕ) (digits : List ℕ) (i : ℕ) → i < length digits → number ≡ saturated (front * 10 ^ i + number_of (take i digits))
    → min (number * 10 + (get_or digits i 0 - 48)) past ≡ saturated (front * 10 ^ (i + 1) + number_of (take (i + 1) digits))
extended_step front number digits i h e =
    let p : 10 ^ (i + 1) ≡ 10 ^ i * 10 = pow-add 10 i 1 in
    rw (p, take_more digits i 0 h, number_of-push (take i digits) (get_or digits i 0), e) (omega arith)

-- one zero more, saturated
pub zero_step : (front number i : ℕ) → number ≡ saturated (front * 10 ^ i) → min (number * 10) past ≡ saturated (front * 10 ^ (i + 1))
zero_step front number i e =
    let p : 10 ^ (i + 1) ≡ 10 ^ i * 10 = pow-add 10 i 1 in
    rw (p, e) (omega arith)

-- 27 zeros are as good as more
pub zeros_enough : (front zeros i : ℕ) → i ≡ min zeros 27 → saturated (front * 10 ^ i) ≡ saturated (front * 10 ^ zeros)
zeros_enough front zeros i e = elim (cases_lt zeros 28) [
  | inl few ↦ let same : i ≡ zeros = omega arith in rw same refl
  | inr many ↦
      let same : i ≡ 27 = omega arith in
      let p : 10 ^ zeros ≡ past * 10 ^ (zeros - 27) = ap (λ n. 10 ^ n) (omega arith) ∙ pow-add 10 27 (zeros - 27) in
      rw (same, p) (sym (saturated-far front (zeros - 27)))
]

-- digits after a saturated number
pub saturated-front : (x p y : ℕ) → 0 < p → saturated (saturated x * p + y) ≡ saturated (x * p + y)
saturated-front x p y some = elim (cases_lt past x) [
  | inl more ↦
      let whole : saturated x ≡ past = omega arith in
      let least : past * 1 ≤ past * p = mul-le-mul_left past some in
      let most : p * past ≤ p * x = mul-le-mul_left p (omega arith) in
      rw whole (omega arith)
  | inr few ↦ let same : saturated x ≡ x = omega arith in rw same refl
]

-- the first digits of two texts
pub take-append_both : (xs ys : List ℕ) (k i j : ℕ) → i ≡ min k (length xs) → j ≡ min (k - i) (length ys) → take k (xs ++ ys) ≡ take i xs ++ take j ys
take-append_both xs ys k i j e f = elim (cases_lt k (length xs)) [
  | inl within ↦
      let here : i ≡ k = omega arith in
      let none : j ≡ 0 = omega arith in
      rw (here, none, append-nil (take k xs)) (take-append-le k xs ys (omega arith))
  | inr past_it ↦
      let all : i ≡ length xs = omega arith in
      let rest : j ≡ min (k - length xs) (length ys) = omega arith in
      let sum : k ≡ length xs + (k - length xs) = omega arith in
      rw (all, rest, take_min (k - length xs) ys, take-length xs) (ap (λ n. take n (xs ++ ys)) sum ∙ take-append-add xs ys (k - length xs))
]

-- the number that the first digits of two texts write, saturated
pub first_digits_is : (xs ys : List ℕ) (k i j front both : ℕ) → i ≡ min k (length xs) → j ≡ min (k - i) (length ys)
    → front ≡ saturated (0 * 10 ^ length (take i xs) + number_of (take i xs)) → both ≡ saturated (front * 10 ^ length (take j ys) + number_of (take j ys))
    → both ≡ saturated (number_of (take k (xs ++ ys)))
first_digits_is xs ys k i j front both e f one two =
    let first : front ≡ saturated (number_of (take i xs)) = one ∙ omega arith in
    rw (take-append_both xs ys k i j e f, number_of-append (take i xs) (take j ys))
    (two ∙ ap (λ n. saturated (n * 10 ^ length (take j ys) + number_of (take j ys))) first ∙ saturated-front (number_of (take i xs)) (10 ^ length (take j ys)) (number_of (take j ys)) (ten_pow (length (take j ys))))

-- digits before a place, at it and after it
pub digits_at : (ds : List ℕ) (k : ℕ) → k < length ds → ds ≡ take k ds ++ get_or ds k 0 ∷ drop (suc k) ds
digits_at ds k h = sym (take-append-drop k ds) ∙ ap (λ w. take k ds ++ w) (drop-cons ds k 0 h)

back_digits : (xs ys ds : List ℕ) → ds ≡ xs ++ ys → list_all is_ascii_digit ds ≡ true → list_all is_ascii_digit ys ≡ true
back_digits xs ys ds e h = (and_parts (list_all is_ascii_digit xs) (list_all is_ascii_digit ys) (sym (list_all-append is_ascii_digit xs ys) ∙ ap (λ w. list_all is_ascii_digit w) (sym e) ∙ h)).1

pub nearest-digits_up : (ds xs : List ℕ) (c : ℕ) (ys : List ℕ) (k : ℕ) → ds ≡ xs ++ c ∷ ys → k ≡ length xs → list_all is_ascii_digit ds ≡ true → 53 ≤ c → nearest (number_of ds * 10 ^ k) (10 ^ length ds) ≡ number_of xs + 1
nearest-digits_up ds xs c ys k e f h low =
    let back = back_digits xs (c ∷ ys) ds e h in
    rw (e, f, length-append xs (c ∷ ys)) (nearest-split-up xs c ys back low)

pub nearest-digits_down : (ds xs : List ℕ) (c : ℕ) (ys : List ℕ) (k : ℕ) → ds ≡ xs ++ c ∷ ys → k ≡ length xs → list_all is_ascii_digit ds ≡ true → c < 53 → nearest (number_of ds * 10 ^ k) (10 ^ length ds) ≡ number_of xs
nearest-digits_down ds xs c ys k e f h high =
    let back = back_digits xs (c ∷ ys) ds e h in
    rw (e, f, length-append xs (c ∷ ys)) (nearest-split-down xs c ys back high)

-- the point after the first k digits: where the next one rounds up, where it does not, and after all
pub moved-up : (ds : List ℕ) (k front : ℕ) → k < length ds → list_all is_ascii_digit ds ≡ true → 53 ≤ get_or ds k 0 → front ≡ saturated (number_of (take k ds))
    → min (front + 1) past ≡ saturated (nearest (number_of ds * 10 ^ k) (10 ^ length ds))
moved-up ds k front h digits low e =
    let long : k ≡ length (take k ds) = sym (length-take-le k ds (omega arith)) in
    rw (nearest-digits_up ds (take k ds) (get_or ds k 0) (drop (suc k) ds) k (digits_at ds k h) long digits low, e) (omega arith)

pub moved-down : (ds : List ℕ) (k front : ℕ) → k < length ds → list_all is_ascii_digit ds ≡ true → get_or ds k 0 < 53 → front ≡ saturated (number_of (take k ds))
    → front ≡ saturated (nearest (number_of ds * 10 ^ k) (10 ^ length ds))
moved-down ds k front h digits high e =
    let long : k ≡ length (take k ds) = sym (length-take-le k ds (omega arith)) in
    rw (nearest-digits_down ds (take k ds) (get_or ds k 0) (drop (suc k) ds) k (digits_at ds k h) long digits high) e

pub moved-all : (ds : List ℕ) (k front result : ℕ) → length ds ≤ k → front ≡ saturated (number_of (take k ds)) → result ≡ saturated (front * 10 ^ (k - length ds))
    → result ≡ saturated (nearest (number_of ds * 10 ^ k) (10 ^ length ds))
moved-all ds k front result h e f =
    let first : front ≡ saturated (number_of ds) = e ∙ ap (λ w. saturated (number_of w)) (take_all k ds h) in
    rw (nearest-all (number_of ds) (length ds) k h)
    (f ∙ ap (λ n. saturated (n * 10 ^ (k - length ds))) first ∙ ap saturated (omega arith) ∙ saturated-front (number_of ds) (10 ^ (k - length ds)) 0 (ten_pow (k - length ds)) ∙ ap saturated (omega arith))

-- the digits at the front are digits
pub list_all-leading_digits : (bs : List ℕ) → list_all is_ascii_digit (leading_digits bs) ≡ true
list_all-leading_digits [] = refl
list_all-leading_digits (c ∷ cs) = elim (cases_Bool (is_ascii_digit c)) [
  | inl digit ↦
      let more : 1 + prefix_len is_ascii_digit cs ≡ suc (prefix_len is_ascii_digit cs) = omega arith in
      let rest : list_all is_ascii_digit (take (prefix_len is_ascii_digit cs) cs) ≡ true = list_all-leading_digits cs in
      rw (digit, more) (and_from (is_ascii_digit c) (list_all is_ascii_digit (take (prefix_len is_ascii_digit cs) cs)) digit rest)
  | inr other ↦ rw other refl
]

-- digits after digits are digits
pub list_all_both : (xs ys : List ℕ) → list_all is_ascii_digit xs ≡ true → list_all is_ascii_digit ys ≡ true → list_all is_ascii_digit (xs ++ ys) ≡ true
list_all_both xs ys h k = list_all-append is_ascii_digit xs ys ∙ and_from (list_all is_ascii_digit xs) (list_all is_ascii_digit ys) h k
