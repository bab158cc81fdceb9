-- Where the value at a path is in a JSON text, by the tree that the text spells. A place is given by the bytes from
-- there on.
use Rattle.std.specs.Prelude.{ℕ, zero, suc, List, [], ◌∷◌, Option, Some, None, option_map, unwrap_or, if◌then◌else◌}
use Rattle.std.specs.Str.{bytes_eq}
use Rattle.decimal_json.specs.Tree.{Tree, list, object, Trees, no_trees, tree, Fields, no_fields, field}
use Rattle.decimal_json.specs.declared.paths.PathPart.{PathPart}
use Rattle.decimal_json.specs.declared.paths.PathPart.TheVariants.{Key, Index}
use Rattle.text_places.specs.Skipping.{after_mark, after_spaces, member_value, next_item, next_member}

-- A value in a text: the bytes from its name on, or from the value on where it is no member, and those from the value
-- on.
pub record PlacedValue : Type 0 where
  pub value : Tree
  pub name : List ℕ
  pub at : List ℕ

-- the item of a number, where the first item is at these bytes
abbrev pub item_at : ℕ → Trees → List ℕ → Option PlacedValue
item_at i no_trees b = None
item_at zero (tree t ts) b = Some (record { value = t; name = b; at = b })
item_at (suc i) (tree t ts) b = item_at i ts (next_item t b)

-- the member of a key, where the first member is at these bytes
abbrev pub member_at : List ℕ → Fields → List ℕ → Option PlacedValue
member_at key no_fields b = None
member_at key (field k t fs) b =
    if bytes_eq k key then Some (record { value = t; name = b; at = member_value b }) else
    member_at key fs (next_member t b)

-- one step down from a value at these bytes
abbrev pub part_at : PathPart → Tree → List ℕ → Option PlacedValue
part_at (Index i) (list ts) b = item_at i ts (after_mark b)
part_at (Key key) (object fs) b = member_at key fs (after_mark b)
part_at _ _ b = None

-- The name or value at a path down from a value: where a part of it leads nowhere, the last that is there.
abbrev pub place_below : List PathPart → PlacedValue → List ℕ
place_below [] v = v.name
place_below (part ∷ path) v = unwrap_or (option_map (place_below path) (part_at part v.value v.at)) v.name

-- the whole value of a text, which white space may precede
abbrev pub whole_value : Tree → (text : List ℕ) → PlacedValue
whole_value t text = record { value = t; name = after_spaces text; at = after_spaces text }

-- The bytes of a text from the name or value at a path on.
abbrev pub from_place : (text : List ℕ) → Tree → List PathPart → List ℕ
from_place text t path = place_below path (whole_value t text)
