-- Entries changed at their keys.
use Rattle.std.specs.Prelude.{ℕ, List, [], ◌∷◌, if◌then◌else◌}
use Rattle.key_index.specs.Keys.{last_first}
use Rattle.prop_values.specs.Data.{Data}
use Rattle.prop_values.specs.Equality.{same_text}

-- The entries with data set at a key: an entry that has the key keeps its place and takes the data, and
-- without one a new entry follows the others. Source: own.
abbrev pub with_member : List ℕ → Data → List (List ℕ × Data) → List (List ℕ × Data)
with_member key d [] = (key, d) ∷ []
with_member key d (p ∷ ps) = if same_text p.0 key then (p.0, d) ∷ ps else p ∷ with_member key d ps

-- The entries with each given one set, in the order in which they are given. Source: own.
abbrev pub merged : List (List ℕ × Data) → List (List ℕ × Data) → List (List ℕ × Data)
merged ps [] = ps
merged ps (q ∷ qs) = merged (with_member q.0 q.1 ps) qs

-- The entries without that of a key, whose place the last one takes. Source: own.
abbrev pub without_key : List ℕ → List (List ℕ × Data) → List (List ℕ × Data)
without_key key [] = []
without_key key (p ∷ ps) = if same_text p.0 key then last_first ps else p ∷ without_key key ps
