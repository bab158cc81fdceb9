-- The text of a line of `lint` in both forms. Source: own; the annotations are workflow commands of GitHub.
use Rattle.std.specs.Prelude.{ℕ, List, [], ◌∷◌, codes, decimal, flat_map, nat_eq, if◌then◌else◌}
use Rattle.finding_sentences.specs.Words.{words}
use Rattle.text_places.specs.declared.place.TextPlace.{TextPlace}
use Rattle.lint_texts.specs.LintLine.{LintLine}
use Rattle.lint_texts.specs.declared.form.LintForm.{LintForm}
use Rattle.lint_texts.specs.declared.form.LintForm.TheVariants.{Plain, Annotations}
use Rattle.lint_texts.specs.declared.line.Severity.{Severity}
use Rattle.lint_texts.specs.declared.line.Severity.TheVariants.{Error, Warning, Note}

-- ---- as compilers write: `FILE:LINE:COLUMN: error: MESSAGE`

abbrev pub plain_severity : Severity → List ℕ
plain_severity Error = codes "error"
plain_severity Warning = codes "warning"
plain_severity Note = codes "note"

abbrev pub plain_place : (file : List ℕ) → TextPlace → List ℕ
plain_place file p = words (file ∷ codes ":" ∷ decimal p.line ∷ codes ":" ∷ decimal p.column ∷ codes ": " ∷ [])

abbrev pub plain_text : (file : List ℕ) → LintLine → List ℕ
plain_text file l =
    words (plain_place file l.place ∷ plain_severity l.severity ∷ codes ": " ∷ l.message ∷ codes "\n" ∷ [])

-- ---- as annotations: `::error file=FILE,line=LINE,col=COLUMN::MESSAGE`

abbrev pub annotation_severity : Severity → List ℕ
annotation_severity Error = codes "::error"
annotation_severity Warning = codes "::warning"
annotation_severity Note = codes "::notice"

-- in a message a percent sign, which is 37, a CR, which is 13, and a LF, which is 10, are escaped
abbrev pub message_byte : ℕ → List ℕ
message_byte c =
    if nat_eq c 37 then codes "%25" else
    if nat_eq c 13 then codes "%0D" else
    if nat_eq c 10 then codes "%0A" else
    c ∷ []

-- in a property also a colon, which is 58, and a comma, which is 44
abbrev pub property_byte : ℕ → List ℕ
property_byte c =
    if nat_eq c 58 then codes "%3A" else
    if nat_eq c 44 then codes "%2C" else
    message_byte c

abbrev pub annotation_place : (file : List ℕ) → TextPlace → List ℕ
annotation_place file p =
    words (
    codes " file=" ∷ flat_map property_byte file ∷
    codes ",line=" ∷ decimal p.line ∷
    codes ",col=" ∷ decimal p.column ∷
    codes "::" ∷ [])

abbrev pub annotation_text : (file : List ℕ) → LintLine → List ℕ
annotation_text file l =
    words (
    annotation_severity l.severity ∷ annotation_place file l.place ∷
    flat_map message_byte l.message ∷ codes "\n" ∷ [])

abbrev pub line_text : LintForm → (file : List ℕ) → LintLine → List ℕ
line_text Plain file l = plain_text file l
line_text Annotations file l = annotation_text file l
