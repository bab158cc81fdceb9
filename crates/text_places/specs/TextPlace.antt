-- The line and column of the value at a path. Source: own.
use Rattle.std.specs.Prelude.{ℕ, ◌-◌, List, length, take}
use Rattle.decimal_json.specs.Tree.{Tree}
use Rattle.decimal_json.specs.declared.paths.PathPart.{PathPart}
use Rattle.text_places.specs.LineColumn.{after_bytes, first_place}
use Rattle.text_places.specs.ValuePlace.{from_place}
use Rattle.text_places.specs.declared.place.TextPlace.{TextPlace}

-- the place where `left` bytes are left of a text
abbrev pub place_before : (text : List ℕ) → ℕ → TextPlace
place_before text left = after_bytes first_place (take (length text - left) text)

-- the place of the name or value at a path of the tree that the text spells
abbrev pub text_place : (text : List ℕ) → Tree → List PathPart → TextPlace
text_place text t path = place_before text (length (from_place text t path))
