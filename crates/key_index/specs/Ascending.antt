-- Keys that ascend.
use Rattle.std.specs.Prelude.{◌≡◌, ℕ, List, [], ◌∷◌}
use Rattle.std.specs.Ordering.{nat_cmp}
use Rattle.std.specs.Cmp.Lexicographic.{slice_cmp}
use Rattle.std.specs.declared.cmp.Ordering.TheVariants.{Less}

-- The key is below each of these, in the order of bytes. Source: own.
abbrev pub IsBelow : List ℕ → List (List ℕ) → Type 0
IsBelow key [] = Unit {0}
IsBelow key (k ∷ ks) = (slice_cmp nat_cmp key k ≡ Less) × IsBelow key ks

-- Each key is below those after it.
abbrev pub IsAscending : List (List ℕ) → Type 0
IsAscending [] = Unit {0}
IsAscending (k ∷ ks) = IsBelow k ks × IsAscending ks
