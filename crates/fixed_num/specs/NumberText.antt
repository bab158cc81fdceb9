-- The text of a number: '-' where it is negative, the whole part without leading zeros, and where
-- the fraction is not zero '.' and up to six digits without zeros at the end. Source: own.
use Rattle.std.specs.Prelude.{ℕ, zero, suc, ◌+◌, ◌/◌, ◌%◌, ◌^◌, ℤ, pos, negsuc, List, [], ◌∷◌, ◌++◌, length, ◌&&◌}
use Rattle.std.specs.Prelude.{if◌then◌else◌, nat_eq, decimal}

-- the last k decimal digits of n, which has no more: '0' is 48
unfoldable pub last_digits : ℕ → ℕ → List ℕ
last_digits zero n = []
last_digits (suc k) n = (48 + n / 10 ^ k) ∷ last_digits k (n % 10 ^ k)

-- digits without the zeros at the end
unfoldable pub without_end_zeros : List ℕ → List ℕ
without_end_zeros [] = []
without_end_zeros (c ∷ cs) =
    if nat_eq c 48 && nat_eq (length (without_end_zeros cs)) 0 then [] else c ∷ without_end_zeros cs

-- the fraction of n millionths, fewer than 10^6: '.' is 46
unfoldable pub fraction_text : ℕ → List ℕ
fraction_text n = if nat_eq n 0 then [] else 46 ∷ without_end_zeros (last_digits 6 n)

-- n millionths: the whole part, then the fraction
unfoldable pub magnitude_text : ℕ → List ℕ
magnitude_text n = decimal (n / 1000000) ++ fraction_text (n % 1000000)

-- a number, '-' is 45
unfoldable pub number_text : ℤ → List ℕ
number_text (pos n) = magnitude_text n
number_text (negsuc n) = 45 ∷ magnitude_text (suc n)
