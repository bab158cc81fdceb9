-- Keys in a list, each the list of its bytes.
use Rattle.std.specs.Prelude.{◌≢◌, ℕ, zero, suc, ◌+◌, List, [], ◌∷◌, Bool, false, Option, Some, None, if◌then◌else◌}
use Rattle.std.specs.Str.{bytes_eq}

-- The first place of a key, where places are counted from i. Source: own.
abbrev pub place_from : ℕ → List ℕ → List (List ℕ) → Option ℕ
place_from i key [] = None
place_from i key (k ∷ ks) = if bytes_eq k key then Some i else place_from (i + 1) key ks

-- The key is not in the list.
abbrev pub LacksKey : List ℕ → List (List ℕ) → Type 0
LacksKey key [] = Unit {0}
LacksKey key (k ∷ ks) = (k ≢ key) × LacksKey key ks

-- No key occurs twice.
abbrev pub HasDistinctKeys : List (List ℕ) → Type 0
HasDistinctKeys [] = Unit {0}
HasDistinctKeys (k ∷ ks) = LacksKey k ks × HasDistinctKeys ks

-- There is a key at the place, and it is this one.
abbrev pub is_at : List ℕ → List (List ℕ) → ℕ → Bool
is_at key [] place = false
is_at key (k ∷ ks) zero = bytes_eq k key
is_at key (k ∷ ks) (suc place) = is_at key ks place

-- ---- a list without one of its elements, whose place the last one takes

abbrev pub last_of : {X : Type 0} → X → List X → X
last_of x [] = x
last_of x (y ∷ ys) = last_of y ys

abbrev pub but_last : {X : Type 0} → X → List X → List X
but_last x [] = []
but_last x (y ∷ ys) = x ∷ but_last y ys

-- the last element, and the others after it
abbrev pub last_first : {X : Type 0} → List X → List X
last_first [] = []
last_first (x ∷ xs) = last_of x xs ∷ but_last x xs

-- A list from which the element at a place is taken out. Source: own.
abbrev pub taken_out : {X : Type 0} → ℕ → List X → List X
taken_out i [] = []
taken_out zero (x ∷ xs) = last_first xs
taken_out (suc i) (x ∷ xs) = x ∷ taken_out i xs
