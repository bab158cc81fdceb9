-- The text of a number is ASCII.
use Rattle.std.proofs.Common.{ℕ, zero, suc, ◌+◌, ◌/◌, ◌%◌, ◌^◌, ◌<◌, ◌≤◌, List, [], ◌∷◌, length, arith}
use Rattle.std.specs.Prelude.{ℤ, pos, negsuc, unsigned_abs, nat_eq, ◌&&◌, decimal}
use Rattle.std.specs.Str.{IsAscii}
use Rattle.std.proofs.lemmas.Bool.{cond_both}
use Rattle.std.proofs.lemmas.Fmt.{IsAscii-decimal_wide}
use Rattle.std.proofs.lemmas.Nat.{div_below, mod_below}
use Rattle.std.proofs.lemmas.Str.{IsAscii-append}
use Rattle.std.proofs.lemmas.Str.Ascii.{IsAscii-nil, IsAscii-cons}
use Rattle.std.proofs.Math.Nat.{one-le-pow}
use Rattle.fixed_num.specs.NumberText.{last_digits, without_end_zeros, fraction_text, magnitude_text, number_text}

digits_ascii : (k n : ℕ) → n < 10 ^ k → IsAscii (last_digits k n)
unfolding last_digits
digits_ascii zero n h = IsAscii-nil
digits_ascii (suc k) n h =
    let some : 0 < 10 ^ k = one-le-pow k 10 (omega arith) in
    let digit : n / 10 ^ k < 10 = div_below n (10 ^ k) 10 some (omega arith) in
    IsAscii-cons (48 + n / 10 ^ k) (last_digits k (n % 10 ^ k)) (omega arith) (digits_ascii k (n % 10 ^ k) (mod_below n (10 ^ k) some))

ends_ascii : (bs : List ℕ) → IsAscii bs → IsAscii (without_end_zeros bs)
unfolding without_end_zeros
ends_ascii [] h = IsAscii-nil
ends_ascii (c ∷ cs) h =
    cond_both (nat_eq c 48 && nat_eq (length (without_end_zeros cs)) 0) [] (c ∷ without_end_zeros cs) IsAscii (λ e. IsAscii-nil) (λ e. IsAscii-cons c (without_end_zeros cs) (h 0) (ends_ascii cs (λ i. h (suc i))))

fraction_ascii : (n : ℕ) → n < 10 ^ 6 → IsAscii (fraction_text n)
unfolding fraction_text
fraction_ascii n h =
    cond_both (nat_eq n 0) [] (46 ∷ without_end_zeros (last_digits 6 n)) IsAscii (λ e. IsAscii-nil) (λ e. IsAscii-cons 46 (without_end_zeros (last_digits 6 n)) (omega arith) (ends_ascii (last_digits 6 n) (digits_ascii 6 n h)))

magnitude_ascii : (n : ℕ) → n ≤ 100000000000000000000000000 → IsAscii (magnitude_text n)
unfolding magnitude_text
magnitude_ascii n h =
    IsAscii-append (decimal (n / 1000000)) (fraction_text (n % 1000000)) (IsAscii-decimal_wide (n / 1000000) (omega arith)) (fraction_ascii (n % 1000000) (omega arith))

pub number_ascii : (z : ℤ) → unsigned_abs z ≤ 100000000000000000000000000 → IsAscii (number_text z)
unfolding number_text
number_ascii (pos n) h = magnitude_ascii n h
number_ascii (negsuc n) h = IsAscii-cons 45 (magnitude_text (suc n)) (omega arith) (magnitude_ascii (suc n) h)
