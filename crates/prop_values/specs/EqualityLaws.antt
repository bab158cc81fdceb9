-- What equality of values means. The statements are to be believed; their proofs are in proofs/.
use Rattle.std.specs.Prelude.{◌≡◌, ◌↔◌, ℕ, List, Bool, true, false, Option, Some, None}
use Rattle.prop_values.specs.Data.{Data, null, boolean, number, text, color, list, map, Items, no_items, item, Pairs}
use Rattle.prop_values.specs.Data.{no_pairs, pair, pairs_of, entries_of}
use Rattle.prop_values.specs.Keys.{HasDistinctKeys}
use Rattle.prop_values.specs.Equality.{equal, at_key}

-- No map in the data has a key twice. Source: own.
abbrev mutual
  pub IsKeyed : Data → Type 0
  IsKeyed null = Unit {0}
  IsKeyed (boolean b) = Unit {0}
  IsKeyed (number n) = Unit {0}
  IsKeyed (text s) = Unit {0}
  IsKeyed (color c) = Unit {0}
  IsKeyed (list ds) = AreKeyed ds
  IsKeyed (map ps) = HasDistinctKeys (entries_of ps) × HasKeyedData ps

  pub AreKeyed : Items → Type 0
  AreKeyed no_items = Unit {0}
  AreKeyed (item d ds) = IsKeyed d × AreKeyed ds

  pub HasKeyedData : Pairs → Type 0
  HasKeyedData no_pairs = Unit {0}
  HasKeyedData (pair k d ps) = IsKeyed d × HasKeyedData ps

-- Both are nothing, or both are data that are equal. Source: own.
abbrev pub both_equal : Option Data → Option Data → Bool
both_equal None None = true
both_equal (Some a) (Some b) = equal a b
both_equal _ _ = false

-- Maps are equal exactly where at each key both have nothing, or equal values.
abbrev pub MapsAreEqualByKeys : Type 0
MapsAreEqualByKeys =
    (a b : List (List ℕ × Data)) → HasDistinctKeys a → HasDistinctKeys b →
    (equal (map (pairs_of a)) (map (pairs_of b)) ≡ true) ↔
    ((key : List ℕ) → both_equal (at_key key (pairs_of a)) (at_key key (pairs_of b)) ≡ true)

-- A value is equal to itself.
abbrev pub EqualityIsReflexive : Type 0
EqualityIsReflexive = (a : Data) → IsKeyed a → equal a a ≡ true

-- The order of two values that are compared does not matter.
abbrev pub EqualityIsSymmetric : Type 0
EqualityIsSymmetric = (a b : Data) → IsKeyed a → IsKeyed b → equal a b ≡ equal b a
