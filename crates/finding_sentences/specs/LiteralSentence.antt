-- Why a literal is none of its property, V15. Source: own.
use Rattle.std.specs.Prelude.{ℕ, List, [], ◌∷◌, codes, Bool, Option, Some, None, is_some, if◌then◌else◌}
use Rattle.decimal_json.specs.JsonText.{text_json}
use Rattle.decimal_json.specs.Tree.{Tree, list}
use Rattle.expr_syntax.specs.Elements.{head_text}
use Rattle.expr_syntax.specs.Names.{name_of}
use Rattle.property_tables.specs.Rows.{RowData}
use Rattle.finding_sentences.specs.Wanted.{row_words}
use Rattle.finding_sentences.specs.Words.{unlike, words}

-- an array that begins with a text may be meant as an expression
unfoldable pub is_operator : List ℕ → Bool
is_operator name = is_some (name_of name)

unfoldable pub no_operator : List ℕ → List ℕ
no_operator name = words (codes ", and " ∷ text_json name ∷ codes " is no operator" ∷ [])

abbrev pub unknown_operator : Option (List ℕ) → List ℕ
unknown_operator (Some name) = if is_operator name then [] else no_operator name
unknown_operator None = []

abbrev pub operator_hint : Tree → List ℕ
operator_hint (list ts) = unknown_operator (head_text ts)
operator_hint _ = []

abbrev pub literal_sentence : RowData → Tree → List ℕ
literal_sentence row t = words (unlike (row_words row) t ∷ operator_hint t ∷ [])
