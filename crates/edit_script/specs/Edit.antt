-- What a command is to a clause.
use Rattle.std.specs.Prelude.{ℕ, ℤ, List, Option}
use Rattle.decimal_json.specs.Tree.{Tree}
use Rattle.prop_values.specs.Data.{Data, Pairs}

-- The edits, with their parts in the order of a line. A number is its count of millionths, an id the whole number, a
-- text the list of its UTF-8 bytes; `None` is null where a part may be null. Source: own.
pub data Edit : Type 0 where
  -- layer, name, value
  set_paint : List ℕ → List ℕ → Tree → Edit
  set_layout : List ℕ → List ℕ → Tree → Edit
  -- layer, filter
  set_filter : List ℕ → Tree → Edit
  -- layer, min, max
  set_range : List ℕ → Option ℤ → Option ℤ → Edit
  -- object, before
  add_layer : Tree → Option (List ℕ) → Edit
  -- id
  remove_layer : List ℕ → Edit
  -- id, before
  move_layer : List ℕ → Option (List ℕ) → Edit
  -- zoom
  set_zoom : ℤ → Edit
  -- source, source layer, id, members
  set_state : List ℕ → List ℕ → ℕ → Pairs → Edit
  -- source, source layer, id, key
  remove_state : List ℕ → List ℕ → ℕ → Option (List ℕ) → Edit
  -- name
  add_image : List ℕ → Edit
  remove_image : List ℕ → Edit
  -- name, value
  set_global : List ℕ → Data → Edit
  list : Edit
  stats : Edit
  style : Edit
