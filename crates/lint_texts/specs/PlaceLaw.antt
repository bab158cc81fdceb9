-- The text at the place of a line. Source: own.
use Rattle.std.specs.Prelude.{◌≡◌, ℕ, List, ◌++◌, Some}
use Rattle.json_tokens.specs.Rules.{all_rules}
use Rattle.decimal_json.specs.Grammar.{Spells}
use Rattle.decimal_json.specs.Tree.{Tree}
use Rattle.text_places.specs.LineColumn.{after_bytes, first_place}
use Rattle.text_places.specs.PlaceLaw.{BeginsWith, value_at}
use Rattle.text_places.specs.declared.place.TextPlace.{TextPlace}
use Rattle.lint_texts.specs.DiagnosticLine.{diagnostic_line, diagnostic_path}
use Rattle.lint_texts.specs.Diagnostics.{StyleDiagnostic}

-- these bytes are the rest of a text from this place on
abbrev pub IsRest : (text : List ℕ) → TextPlace → (rest : List ℕ) → Type 0
IsRest text place rest = (front : List ℕ) × (text ≡ front ++ rest) × (place ≡ after_bytes first_place front)

-- Where the text of a file spells a style, and a line is about the value at a path, the text from the place of the line
-- on begins with the text of the value, and with its name before it where it is a member.
abbrev pub LinesSpellTheirValues : Type 0
LinesSpellTheirValues =
    (text : List ℕ) (t v : Tree) (d : StyleDiagnostic) → Spells all_rules text t →
    value_at (diagnostic_path d) t ≡ Some v
    → (rest : List ℕ) × IsRest text (diagnostic_line text t d).place rest × BeginsWith (diagnostic_path d) v rest
