-- Items and members that are changed in place.
use Rattle.std.specs.Prelude.{ℕ, List, [], ◌∷◌, if◌then◌else◌}
use Rattle.std.specs.Str.{bytes_eq}
use Rattle.decimal_json.specs.Tree.{Tree}

-- The members after a tree was put at a key: in place of the tree that is there, else in a new last member.
-- Source: own.
abbrev pub members_with : List ℕ → Tree → List (List ℕ × Tree) → List (List ℕ × Tree)
members_with key t [] = (key, t) ∷ []
members_with key t (m ∷ ms) = if bytes_eq m.0 key then (m.0, t) ∷ ms else m ∷ members_with key t ms

-- The members after a tree was put in place of the one at a key. Without the key they are as they were.
-- Source: own.
abbrev pub replaced_members : List ℕ → Tree → List (List ℕ × Tree) → List (List ℕ × Tree)
replaced_members key t [] = []
replaced_members key t (m ∷ ms) = if bytes_eq m.0 key then (m.0, t) ∷ ms else m ∷ replaced_members key t ms

-- The members but that of a key, in their order. Source: own.
abbrev pub members_without : List ℕ → List (List ℕ × Tree) → List (List ℕ × Tree)
members_without key [] = []
members_without key (m ∷ ms) = if bytes_eq m.0 key then ms else m ∷ members_without key ms
