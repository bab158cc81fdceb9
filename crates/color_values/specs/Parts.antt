-- Spaces, commas and the parts of a color function. Source: own.
use Rattle.std.specs.Prelude.{ℕ, ◌-◌, List, [], ◌∷◌, length, take, drop, map, Bool, nat_eq, if◌then◌else◌, Option, Some}
use Rattle.std.specs.Prelude.{None}
use Rattle.std.specs.List.{prefix_len, suffix_len}

-- a space is U+0020 alone, a byte 32
abbrev pub is_space : ℕ → Bool
is_space c = nat_eq c 32

-- the bytes without the spaces before and after them
abbrev pub without_spaces_before : List ℕ → List ℕ
without_spaces_before bs = drop (prefix_len is_space bs) bs

abbrev pub without_spaces_behind : List ℕ → List ℕ
without_spaces_behind bs = take (length bs - suffix_len is_space bs) bs

unfoldable pub trimmed : List ℕ → List ℕ
trimmed bs = without_spaces_behind (without_spaces_before bs)

-- a byte before the first piece
abbrev pub before_first_piece : ℕ → List (List ℕ) → List (List ℕ)
before_first_piece c [] = (c ∷ []) ∷ []
before_first_piece c (piece ∷ pieces) = (c ∷ piece) ∷ pieces

-- the pieces between commas, one more than there are commas; ',' is 44
unfoldable pub cut : List ℕ → List (List ℕ)
cut [] = [] ∷ []
cut (c ∷ cs) = if nat_eq c 44 then [] ∷ cut cs else before_first_piece c (cut cs)

-- The arguments of a color function: three, or three and an opacity.
pub record ColorArguments : Type 0 where
  pub first : List ℕ
  pub second : List ℕ
  pub third : List ℕ
  pub opacity : Option (List ℕ)

abbrev pub three_or_four : List (List ℕ) → Option ColorArguments
three_or_four (x ∷ y ∷ z ∷ []) = Some (record { first = x; second = y; third = z; opacity = None })
three_or_four (x ∷ y ∷ z ∷ a ∷ []) = Some (record { first = x; second = y; third = z; opacity = Some a })
three_or_four _ = None

-- the arguments between the brackets, without the spaces around each
unfoldable pub parts_of : List ℕ → Option ColorArguments
parts_of bs = three_or_four (map trimmed (cut bs))
