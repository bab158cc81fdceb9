-- Where the parts of a value begin, and the places of paths that go on from it: for the walk down a tree.
use Rattle.std.specs.Prelude.{◌≡◌, ℕ, List, [], ◌∷◌, drop, length, map, Option, Some, None, slice_get}
use Rattle.std.specs.Borrow.{Bor}
use Rattle.key_index.specs.Index.{IsIndexed}
use Rattle.decimal_json.specs.Tree.{Tree, list, object, Trees, no_trees, tree, Fields, no_fields, field}
use Rattle.decimal_json.specs.View.{tree_of}
use Rattle.decimal_json.specs.declared.paths.PathPart.{PathPart}
use Rattle.text_places.specs.Skipping.{after_mark, next_item, next_member}
use Rattle.text_places.specs.ValuePlace.{PlacedValue, part_at, place_below}
use Rattle.text_places.specs.declared.starts.PlacedJson.{PlacedJson}
use Rattle.text_places.specs.declared.starts.Starts.{Starts}

-- slices of a text as lists of bytes, and paths as lists of parts
abbrev pub slices_seen : List (Bor (List ℕ)) → List (List ℕ)
slices_seen = map (λ (s : Bor (List ℕ)). s.now)

abbrev pub paths_seen : List (Bor (List PathPart)) → List (List PathPart)
paths_seen = map (λ (p : Bor (List PathPart)). p.now)

abbrev pub placed_seen : PlacedJson → PlacedValue
placed_seen p = record { value = tree_of p.json.now; name = p.name.now; at = p.value.now }

-- where each item begins, and each member
abbrev pub item_starts : Trees → List ℕ → List (List ℕ)
item_starts no_trees b = []
item_starts (tree t ts) b = b ∷ item_starts ts (next_item t b)

abbrev pub member_starts : Fields → List ℕ → List (List ℕ)
member_starts no_fields b = []
member_starts (field k t fs) b = b ∷ member_starts fs (next_member t b)

abbrev pub keys_of : Fields → List (List ℕ)
keys_of no_fields = []
keys_of (field k t fs) = k ∷ keys_of fs

-- these are the starts of the parts of a value at these bytes, and of the members of an object the keys are indexed
abbrev pub AreStarts : Starts → Tree → List ℕ → Type 0
AreStarts starts (list ts) b = slices_seen starts.parts.items ≡ item_starts ts (after_mark b)
AreStarts starts (object fs) b =
    (slices_seen starts.parts.items ≡ member_starts fs (after_mark b)) × IsIndexed starts.index (keys_of fs)
AreStarts starts _ b = Unit {0}

-- one step down by a part that may be there
abbrev pub step_at : Option PathPart → PlacedValue → Option PlacedValue
step_at (Some part) v = part_at part v.value v.at
step_at None v = None

-- the part of the first of these paths at a depth
abbrev pub first_part : (depth : ℕ) → List (List PathPart) → Option PathPart
first_part depth [] = None
first_part depth (p ∷ ps) = slice_get p depth

-- these paths have this part at a depth
abbrev pub AreAlike : (depth : ℕ) → Option PathPart → List (List PathPart) → Type 0
AreAlike depth part [] = Unit {0}
AreAlike depth part (p ∷ ps) = (slice_get p depth ≡ part) × AreAlike depth part ps

-- how many bytes there are from the places of paths on, which go on from a value at a depth
abbrev pub lefts_below : (depth : ℕ) → PlacedValue → List (List PathPart) → List ℕ
lefts_below depth v = map (λ (p : List PathPart). length (place_below (drop depth p) v))
