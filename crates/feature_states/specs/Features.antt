-- Which features are one, and which members are left of theirs.
use Rattle.std.specs.Prelude.{ℕ, List, [], Bool, ◌&&◌, nat_eq, Option, Some, None}
use Rattle.std.specs.Str.{bytes_eq}
use Rattle.prop_values.specs.Changes.{without_key}
use Rattle.prop_values.specs.Data.{Data}

-- Whether two features are one: of the same source, layer and id. Source: own.
abbrev pub same_feature : List ℕ → List ℕ → ℕ → List ℕ → List ℕ → ℕ → Bool
same_feature source layer id s l i = bytes_eq source s && (bytes_eq layer l && nat_eq id i)

-- The members that are left once one is removed, or, without a key, all. Source: own.
abbrev pub left_of : Option (List ℕ) → List (List ℕ × Data) → List (List ℕ × Data)
left_of None members = []
left_of (Some key) members = without_key key members
