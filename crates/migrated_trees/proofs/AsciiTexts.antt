-- Names of operators are ASCII, so they are UTF-8.
use Rattle.std.proofs.Common.{◌≡◌, ℕ, zero, suc, ◌<◌, List, [], ◌∷◌, arith, true}
use Rattle.std.proofs.lemmas.Bool.{and_parts, ltb-true}
use Rattle.std.proofs.lemmas.Str.{IsUtf8-from_ascii}
use Rattle.std.specs.Char.{is_ascii}
use Rattle.std.specs.List.{list_all}
use Rattle.std.specs.Prelude.{IsUtf8, slice_index}

ascii_at : (s : List ℕ) (i : ℕ) → list_all is_ascii s ≡ true → slice_index s i < 128
ascii_at [] i h = omega arith
ascii_at (c ∷ s) zero h = ltb-true c 128 (and_parts (is_ascii c) (list_all is_ascii s) h).0
ascii_at (c ∷ s) (suc i) h = ascii_at s i (and_parts (is_ascii c) (list_all is_ascii s) h).1

pub ascii_is_utf8 : (s : List ℕ) → list_all is_ascii s ≡ true → IsUtf8 s
ascii_is_utf8 s h = IsUtf8-from_ascii s (λ i. ascii_at s i h)
