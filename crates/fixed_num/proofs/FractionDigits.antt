-- The digits of a fraction one by one, which end where nothing is left.
use Rattle.std.proofs.Common.{◌≡◌, ◌≢◌, ℕ, zero, suc, ◌+◌, ◌*◌, ◌/◌, ◌%◌, ◌^◌, ◌<◌, List, [], ◌∷◌, ◌++◌, length, take, set, refl, sym, ap, ◌∙◌, append_assoc, append-nil, arith, false, inl, inr}
use Rattle.std.specs.Prelude.{nat_eq, ◌&&◌, if◌then◌else◌}
use Rattle.std.proofs.lemmas.Bool.{cases_eq, and_left, and_right}
use Rattle.std.proofs.lemmas.List.{take_more_set}
use Rattle.std.proofs.lemmas.Nat.{div-mul-add, mod_below, div-add-mod'}
use Rattle.std.proofs.Math.Nat.{pow-suc, one-le-pow, zero-div, zero-mod}
use Rattle.fixed_num.specs.NumberText.{last_digits, without_end_zeros, fraction_text}

-- the last k digits of n, the highest first, up to the place after which all are zero
unfoldable pub fraction : ℕ → ℕ → List ℕ
fraction zero n = []
fraction (suc k) n = if nat_eq n 0 then [] else (48 + n / 10 ^ k) ∷ fraction k (n % 10 ^ k)

-- one digit, and the others
pub fraction-cons : (k n : ℕ) → n ≢ 0 → fraction (suc k) n ≡ (48 + n / 10 ^ k) ∷ fraction k (n % 10 ^ k)
unfolding fraction
fraction-cons k n some = let not_zero : nat_eq n 0 ≡ false = grind arith in rw not_zero refl

-- no digits of a number
pub fraction-none : (n : ℕ) → fraction 0 n ≡ []
unfolding fraction
fraction-none n = refl

-- nothing is written of zero
pub fraction-zero : (k : ℕ) → fraction k 0 ≡ []
unfolding fraction
fraction-zero zero = refl
fraction-zero (suc k) = refl

-- something is written of each other number
fraction_some : (k n : ℕ) → n < 10 ^ k → n ≢ 0 → nat_eq (length (fraction k n)) 0 ≡ false
fraction_some zero n h some = absurd (some (omega arith))
fraction_some (suc k) n h some = rw (fraction-cons k n some) (grind arith)

-- zeros at the end are not written
zeros_end : (k : ℕ) → without_end_zeros (last_digits k 0) ≡ []
unfolding without_end_zeros last_digits
zeros_end zero = refl
zeros_end (suc k) = rw (zero-div (10 ^ k), zero-mod (10 ^ k), zeros_end k) refl

-- a digit is written where it is not zero or something follows it
digit_stays : (q k r : ℕ) → r < 10 ^ k → (q ≡ 0 → r ≢ 0) → (nat_eq (48 + q) 48 && nat_eq (length (fraction k r)) 0) ≡ false
digit_stays q k r h more = elim (cases_eq q 0) [
  | inl none ↦ and_right (nat_eq (48 + q) 48) (nat_eq (length (fraction k r)) 0) (fraction_some k r h (more none))
  | inr other ↦ and_left (nat_eq (48 + q) 48) (nat_eq (length (fraction k r)) 0) (grind arith)
]

-- what is left without the zeros at the end is what is written
pub without_end_zeros-last_digits : (k n : ℕ) → n < 10 ^ k → without_end_zeros (last_digits k n) ≡ fraction k n
unfolding without_end_zeros last_digits fraction
without_end_zeros-last_digits zero n h = refl
without_end_zeros-last_digits (suc k) n h =
    let some : 0 < 10 ^ k = one-le-pow k 10 (omega arith) in
    let below = mod_below n (10 ^ k) some in
    let rest = without_end_zeros-last_digits k (n % 10 ^ k) below in
    elim (cases_eq n 0) [
      | inl none ↦ rw none (zeros_end (suc k))
      | inr other ↦
          let all : n / 10 ^ k * 10 ^ k + n % 10 ^ k ≡ n = div-add-mod' n (10 ^ k) in
          let stays = digit_stays (n / 10 ^ k) k (n % 10 ^ k) below (λ none empty. other (omega (arith, ap (λ q. q * 10 ^ k) none))) in
          rw (rest, stays) (sym (fraction-cons k n other))
    ]

-- a tenth of a power of ten
pub tenth : (unit k : ℕ) → unit ≡ 10 ^ (suc k) → unit / 10 ≡ 10 ^ k
tenth unit k e = let p : 10 ^ (suc k) ≡ 10 ^ k * 10 + 0 = omega (arith, pow-suc 10 k) in ap (λ n. n / 10) (e ∙ p) ∙ div-mul-add (10 ^ k) 10 0 (omega arith)

-- what is left is below the unit
pub left_below : (unit k left : ℕ) → unit ≡ 10 ^ (suc k) → left % (unit / 10) < unit / 10
left_below unit k left e = let some : 0 < unit / 10 = omega (arith, tenth unit k e, one-le-pow k 10 (omega arith)) in mod_below left (unit / 10) some

-- one digit more
pub next_digit : (out : List ℕ) (at k unit left : ℕ) (whole : List ℕ) → at < length out → unit ≡ 10 ^ (suc k) → left ≢ 0 → take at out ++ fraction (suc k) left ≡ whole
    → take (at + 1) (set out at (48 + left / (unit / 10))) ++ fraction k (left % (unit / 10)) ≡ whole
next_digit out at k unit left whole h e some text =
    rw (tenth unit k e, take_more_set out at (48 + left / 10 ^ k) h) (append_assoc (take at out) ((48 + left / 10 ^ k) ∷ []) (fraction k (left % 10 ^ k)) ∙ ap (λ w. take at out ++ w) (sym (fraction-cons k left some)) ∙ text)

-- where nothing is left, all is written
pub all_written : (shown start : List ℕ) (k left n : ℕ) → n < 10 ^ 6 → fraction k left ≡ [] → shown ++ fraction k left ≡ start ++ fraction 6 n → shown ≡ start ++ without_end_zeros (last_digits 6 n)
all_written shown start k left n h none e =
    rw (without_end_zeros-last_digits 6 n h) (sym (append-nil shown) ∙ ap (λ w. shown ++ w) (sym none) ∙ e)

-- the text of a fraction that is zero, and of another
pub fraction_text-zero : (start : List ℕ) (n : ℕ) → n ≡ 0 → start ≡ start ++ fraction_text n
unfolding fraction_text
fraction_text-zero start n e = rw e (sym (append-nil start))

pub fraction_text-some : (shown out : List ℕ) (at n : ℕ) → at < length out → n ≢ 0 → shown ≡ take (at + 1) (set out at 46) ++ without_end_zeros (last_digits 6 n) → shown ≡ take at out ++ fraction_text n
unfolding fraction_text
fraction_text-some shown out at n h some e =
    let not_zero : nat_eq n 0 ≡ false = grind arith in
    rw not_zero (e ∙ rw (take_more_set out at 46 h) (append_assoc (take at out) (46 ∷ []) (without_end_zeros (last_digits 6 n))))
