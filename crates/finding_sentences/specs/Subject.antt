-- What a line is about: the layer by its id, or by its place from 0 where it has none, and the property or member.
-- Source: own.
use Rattle.std.specs.Prelude.{ℕ, List, [], ◌∷◌, codes, decimal, Option, Some, None}
use Rattle.std.specs.Option.{option_and_then}
use Rattle.decimal_json.specs.Accessors.{text_at}
use Rattle.decimal_json.specs.JsonText.{text_json}
use Rattle.decimal_json.specs.Tree.{Tree}
use Rattle.decimal_json.specs.declared.paths.PathPart.{PathPart}
use Rattle.decimal_json.specs.declared.paths.PathPart.TheVariants.{Key, Index}
use Rattle.style_parts.specs.Parts.{layer_at, layers_of}
use Rattle.finding_sentences.specs.Words.{name_text, shown_text, words}

abbrev pub id_or_place : ℕ → Option (List ℕ) → List ℕ
id_or_place i (Some id) = shown_text id
id_or_place i None = decimal i

abbrev pub layer_words : Tree → ℕ → List ℕ
layer_words document i =
    words (codes "layer " ∷ id_or_place i
    (option_and_then (text_at (codes "id")) (layer_at i (layers_of document))) ∷ [])

-- of the members of a layer `layout` and `paint` are not named, but the property in them is
abbrev pub member_words : List PathPart → List ℕ
member_words (Key m ∷ Key name ∷ more) = words (codes ", " ∷ name_text name ∷ [])
member_words (Key m ∷ more) = words (codes ", " ∷ name_text m ∷ [])
member_words _ = []

abbrev pub subject : Tree → List PathPart → List ℕ
subject document (Key k ∷ Index i ∷ more) = words (layer_words document i ∷ member_words more ∷ [])
subject document (Key k ∷ Key name ∷ more) = words (name_text k ∷ codes " " ∷ text_json name ∷ [])
subject document (Key k ∷ []) = name_text k
subject document _ = codes "style"
