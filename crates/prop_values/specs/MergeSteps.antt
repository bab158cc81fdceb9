-- The two steps in which members are set: the keys that are missing, and then the values.
use Rattle.std.specs.Prelude.{ℕ, List, [], ◌∷◌, ◌++◌, is_some, if◌then◌else◌}
use Rattle.prop_values.specs.Data.{Data, null, pairs_of}
use Rattle.prop_values.specs.Equality.{same_text, at_key}

-- the entries with a key, which has null where it was not there
abbrev pub with_key : List ℕ → List (List ℕ × Data) → List (List ℕ × Data)
with_key key ps = if is_some (at_key key (pairs_of ps)) then ps else ps ++ (key, null) ∷ []

-- and with each key of others
abbrev pub with_keys : List (List ℕ × Data) → List (List ℕ × Data) → List (List ℕ × Data)
with_keys ps [] = ps
with_keys ps (q ∷ qs) = with_keys (with_key q.0 ps) qs

-- the entries with other data at a key, where it is there
abbrev pub replaced : List ℕ → Data → List (List ℕ × Data) → List (List ℕ × Data)
replaced key d [] = []
replaced key d (p ∷ ps) = if same_text p.0 key then (p.0, d) ∷ ps else p ∷ replaced key d ps

abbrev pub all_replaced : List (List ℕ × Data) → List (List ℕ × Data) → List (List ℕ × Data)
all_replaced ps [] = ps
all_replaced ps (q ∷ qs) = all_replaced (replaced q.0 q.1 ps) qs
