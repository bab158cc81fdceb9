-- An index of names: their places in the order of the names.
use Rattle.std.specs.Prelude.{◌≡◌, ℕ, ◌<◌, List, [], ◌∷◌, Bool, true, ◌&&◌, map, length, ltb, eqb, get_or}
use Rattle.std.specs.List.{list_all, list_any, range_with_len}
use Rattle.std.specs.Ordering.{nat_cmp, is_lt}
use Rattle.std.specs.Cmp.Lexicographic.{slice_cmp}

-- the name at a place
abbrev pub name_at : List (List ℕ) → ℕ → List ℕ
name_at names i = get_or names i []

-- the name is before the other
abbrev pub is_before : List ℕ → List ℕ → Bool
is_before x y = is_lt (slice_cmp nat_cmp x y)

-- each is before all later ones
abbrev pub ascends : List (List ℕ) → Bool
ascends [] = true
ascends (x ∷ xs) = list_all (is_before x) xs && ascends xs

-- the places are those of all names, in the order of the names
unfoldable pub is_index : List (List ℕ) → List ℕ → Bool
is_index names order =
    list_all (λ k. ltb k (length names)) order
    && (ascends (map (name_at names) order)
    && list_all (λ i. list_any (eqb i) order) (range_with_len 0 (length names)))

-- the name is at the place, and nowhere else
pub record IsPlaceOf (names : List (List ℕ)) (name : List ℕ) (i : ℕ) : Type 0 where
  pub within : i < length names
  pub there : name_at names i ≡ name
  pub alone : (j : ℕ) → j < length names → name_at names j ≡ name → j ≡ i

-- the name is at no place
abbrev pub IsNowhere : List (List ℕ) → List ℕ → Type 0
IsNowhere names name = (i : ℕ) → i < length names → name_at names i ≡ name → ⊥
