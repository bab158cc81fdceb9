-- An index of the names that a `let` binds.
use Rattle.std.specs.Prelude.{◌≡◌, ◌<◌, ℕ, List, length, ◌+◌, [], ◌∷◌, Option, Some, None, if◌then◌else◌}
use Rattle.expr_syntax.specs.TextNumbers.{TextNumbers, number_of_text}
use Rattle.std.specs.Str.{bytes_eq}

-- a later place counts before an earlier one
abbrev pub or_last : Option ℕ → Option ℕ → Option ℕ
or_last (Some place) earlier = Some place
or_last None earlier = earlier

-- the place of the last of the names that is this one, counted from i
abbrev pub last_place : ℕ → List (List ℕ) → List ℕ → Option ℕ
last_place i [] asked = None
last_place i (name ∷ names) asked =
    or_last (last_place (i + 1) names asked) (if bytes_eq name asked then Some i else None)

-- A map has the last place of each of some names, and nothing else.
abbrev pub ArePlacesOf : TextNumbers → List (List ℕ) → Type 0
ArePlacesOf places names = (s : List ℕ) → number_of_text places s ≡ last_place 0 names s

-- Of more than eight names a map has the last places.
abbrev pub IsIndexOf : TextNumbers → List (List ℕ) → Type 0
IsIndexOf places names = 8 < length names → ArePlacesOf places names
