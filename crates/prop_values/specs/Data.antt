-- What a value is to a clause: finite data.
use Rattle.std.specs.Prelude.{ℕ, ℤ, List, [], ◌∷◌, Bool}
use Rattle.fixed_num.specs.declared.color.Color.{Color}

-- The seven forms of a value. A number is its count of millionths, a text the list of its UTF-8
-- bytes. Source: own.
mutual
  pub data Data : Type 0 where
    null : Data
    boolean : Bool → Data
    number : ℤ → Data
    text : List ℕ → Data
    color : Color → Data
    list : Items → Data
    map : Pairs → Data

  -- the items of a list, in order
  pub data Items : Type 0 where
    no_items : Items
    item : Data → Items → Items

  -- the entries of a map, in order, each a key and its data
  pub data Pairs : Type 0 where
    no_pairs : Pairs
    pair : List ℕ → Data → Pairs → Pairs

-- the items of a list, from a list
abbrev pub items_of : List Data → Items
items_of [] = no_items
items_of (d ∷ ds) = item d (items_of ds)

-- the entries of a map, from a list of pairs
abbrev pub pairs_of : List (List ℕ × Data) → Pairs
pairs_of [] = no_pairs
pairs_of (p ∷ ps) = pair p.0 p.1 (pairs_of ps)

-- and back
abbrev pub list_of : Items → List Data
list_of no_items = []
list_of (item d ds) = d ∷ list_of ds

abbrev pub entries_of : Pairs → List (List ℕ × Data)
entries_of no_pairs = []
entries_of (pair k d ps) = (k, d) ∷ entries_of ps
