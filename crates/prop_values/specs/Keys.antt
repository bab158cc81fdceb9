-- The keys of pairs.
use Rattle.std.specs.Prelude.{ℕ, List, map, ◌≢◌, [], ◌∷◌}
use Rattle.prop_values.specs.Data.{Data}

-- the keys of pairs, in order
abbrev pub keys : {X : Type 0} → List (List ℕ × X) → List (List ℕ)
keys {X} = map (λ (p : List ℕ × X). p.0)

-- No entry has this key.
abbrev pub LacksKey : List ℕ → List (List ℕ × Data) → Type 0
LacksKey key [] = Unit {0}
LacksKey key (p ∷ ps) = (p.0 ≢ key) × LacksKey key ps

-- No key occurs twice.
abbrev pub HasDistinctKeys : List (List ℕ × Data) → Type 0
HasDistinctKeys [] = Unit {0}
HasDistinctKeys (p ∷ ps) = LacksKey p.0 ps × HasDistinctKeys ps
