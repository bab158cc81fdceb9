-- What the answers of a read say.
use Rattle.std.specs.Prelude.{◌≡◌, ℕ, ◌<◌, List, length, Option, Some, None}

-- what was read is the known bytes of the file; of a file with unknown bytes nothing is said
abbrev pub IsContent : Option (List ℕ) → List ℕ → Type 0
IsContent None got = Unit {0}
IsContent (Some told) got = got ≡ told

-- known bytes are longer than the limit
abbrev pub IsLongerIfTold : Option (List ℕ) → ℕ → Type 0
IsLongerIfTold None at_most = Unit {0}
IsLongerIfTold (Some told) at_most = at_most < length told
