-- Marks of layers by their ids. Only contracts of private functions use it.
use Rattle.std.specs.Prelude.{◌≡◌, ℕ, List, map, codes, Option, Some, None}
use Rattle.std.specs.Hash.DefaultHasher as hasher
use Rattle.decimal_json.specs.Accessors.{text_at}
use Rattle.decimal_json.specs.Tree.{Tree}
use Rattle.edit_findings.specs.FoundAfter.{AreKeyed}
use Rattle.edit_session.specs.declared.layer_marks.LayerMarks.{LayerMarks}

-- a mark of an id
unfoldable pub mark_of : List ℕ → ℕ
mark_of id = hasher.finish (hasher.write hasher.initial id)

-- one of a layer, which without an id has any
abbrev pub mark_if : Option (List ℕ) → ℕ
mark_if (Some id) = mark_of id
mark_if None = 0

abbrev pub layer_mark : Tree → ℕ
layer_mark layer = mark_if (text_at (codes "id") layer)

-- They are the marks of these layers, in none of which a name occurs twice.
abbrev pub AreMarks : LayerMarks → List Tree → Type 0
AreMarks marks ts = (marks.marks.items ≡ map layer_mark ts) × AreKeyed ts
