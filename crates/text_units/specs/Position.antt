-- Positions in a text are counted in Unicode scalar values. Texts are lists of those values here: `chars` of
-- the bytes.
use Rattle.std.specs.Prelude.{◌≡◌, ℕ, suc, ◌+◌, ◌<◌, ◌≤◌, List, [], ◌∷◌, ◌++◌, length, drop, Option, Some, None}
use Rattle.std.specs.Prelude.{if◌then◌else◌, nat_eq, nat_le}
use Rattle.std.specs.Option.{option_map}
use Rattle.std.specs.List.{starts_with}

-- the least position of the part
abbrev pub first_place : List ℕ → List ℕ → Option ℕ
first_place [] part = if starts_with nat_eq [] part then Some 0 else None
first_place (c ∷ text) part =
    if starts_with nat_eq (c ∷ text) part then Some 0 else option_map suc (first_place text part)

-- the least position of the part at or after `from`
abbrev pub place_from : List ℕ → List ℕ → ℕ → Option ℕ
place_from text part from =
    if nat_le from (length text) then option_map (λ place. from + place) (first_place (drop from text) part) else None

-- The part is at this position: as many values come before it. The empty part is at each position up to the
-- length.
abbrev pub StandsAt : List ℕ → List ℕ → ℕ → Type 0
StandsAt text part position =
    (before : List ℕ) × (after : List ℕ) × (text ≡ before ++ (part ++ after)) × (length before ≡ position)

-- what a search at and after `from` means, said by the positions of the part
abbrev pub IsFirstPlace : List ℕ → List ℕ → ℕ → Option ℕ → Type 0
IsFirstPlace text part from None = (position : ℕ) → from ≤ position → ¬ (StandsAt text part position)
IsFirstPlace text part from (Some place) =
    (from ≤ place) × StandsAt text part place
    × ((position : ℕ) → from ≤ position → position < place → ¬ (StandsAt text part position))
