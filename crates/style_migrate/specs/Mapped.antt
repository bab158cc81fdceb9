-- The members of an object as pairs of a name and a value, each value replaced by its name and itself.
use Rattle.std.specs.Prelude.{ℕ, List, [], ◌∷◌}
use Rattle.decimal_json.specs.Tree.{Tree}

abbrev pub mapped_pairs : (List ℕ → Tree → Tree) → List (List ℕ × Tree) → List (List ℕ × Tree)
mapped_pairs change [] = []
mapped_pairs change (m ∷ ms) = (m.0, change m.0 m.1) ∷ mapped_pairs change ms

-- The items of an array, each replaced by itself.
abbrev pub mapped_list : (Tree → Tree) → List Tree → List Tree
mapped_list change [] = []
mapped_list change (t ∷ ts) = change t ∷ mapped_list change ts
