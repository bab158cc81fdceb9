-- What `lint` writes of a style: the text of its lines, and how many of them are errors and warnings. Source: own.
use Rattle.std.specs.Prelude.{◌≡◌, ℕ, ◌<◌, ◌≤◌, List, [], ◌∷◌, count_by, flat_map, length, map, ◌⊎◌}
use Rattle.json_tokens.specs.Rules.{all_rules}
use Rattle.json_tokens.specs.declared.kind.JsonKind.{JsonKind}
use Rattle.decimal_json.specs.Grammar.{Spells}
use Rattle.decimal_json.specs.Parses.{IsAccepted, IsKind, IsPlace}
use Rattle.decimal_json.specs.Tree.{Tree}
use Rattle.lint_texts.specs.BrokenText.{broken_line, file_line, long_file_message, style_limit}
use Rattle.lint_texts.specs.LineText.{line_text}
use Rattle.lint_texts.specs.LintLine.{LintLine, is_error, is_warning}
use Rattle.lint_texts.specs.Diagnostics.{StyleDiagnostic, style_diagnostics}
use Rattle.lint_texts.specs.DiagnosticLine.{diagnostic_line}
use Rattle.lint_texts.specs.declared.form.LintForm.{LintForm}
use Rattle.lint_texts.specs.declared.linted.Linted.{Linted}

pub record LintedStyle : Type 0 where
  pub text : List ℕ
  pub errors : ℕ
  pub warnings : ℕ

-- what a value of the program is
abbrev pub linted_seen : Linted → LintedStyle
linted_seen l = record { text = l.text.items; errors = l.errors; warnings = l.warnings }

-- these lines of a file
abbrev pub linted_lines : LintForm → (file : List ℕ) → List LintLine → LintedStyle
linted_lines form file lines = record {
  text = flat_map (line_text form file) lines;
  errors = count_by (λ (l : LintLine). is_error l.severity) lines;
  warnings = count_by (λ (l : LintLine). is_warning l.severity) lines;
}

-- these diagnostics of a style that the text of the file spells
abbrev pub linted_diagnostics : LintForm → (file text : List ℕ) → Tree → List StyleDiagnostic → LintedStyle
linted_diagnostics form file text t ds = linted_lines form file (map (diagnostic_line text t) ds)

-- a style that the text of the file spells: a line for all that `validate` reports, in its order, and no other
abbrev pub linted_document : LintForm → (file text : List ℕ) → Tree → LintedStyle
linted_document form file text t = linted_diagnostics form file text t (style_diagnostics t)

-- a file that is no JSON text
abbrev pub linted_broken_text : LintForm → (file bytes : List ℕ) → JsonKind → (at : ℕ) → LintedStyle
linted_broken_text form file bytes kind at = linted_lines form file (broken_line bytes kind at ∷ [])

-- a file of which there is nothing but an error to say
abbrev pub linted_file_error : LintForm → (file message : List ℕ) → LintedStyle
linted_file_error form file message = linted_lines form file (file_line message ∷ [])

-- a file that is longer than a style may be
abbrev pub linted_long_file : LintForm → (file : List ℕ) → LintedStyle
linted_long_file form file = linted_file_error form file long_file_message

-- ---- what is written of a file of these bytes

-- they spell a style
abbrev pub IsLintedDocument : LintForm → (file bytes : List ℕ) → LintedStyle → Type 0
IsLintedDocument form file bytes linted =
    (t : Tree) × Spells all_rules bytes t × (linted ≡ linted_document form file bytes t)

-- they are no JSON text: they have one fault
abbrev pub IsLintedBrokenText : LintForm → (file bytes : List ℕ) → LintedStyle → Type 0
IsLintedBrokenText form file bytes linted =
    (kind : JsonKind) × (at : ℕ) × (IsAccepted all_rules bytes → ⊥) × IsPlace bytes at × IsKind kind bytes at
    × (linted ≡ linted_broken_text form file bytes kind at)

-- they are too many, or one of these
abbrev pub IsLinted : LintForm → (file bytes : List ℕ) → LintedStyle → Type 0
IsLinted form file bytes linted =
    ((style_limit < length bytes) × (linted ≡ linted_long_file form file))
    ⊎ ((length bytes ≤ style_limit)
    × (IsLintedDocument form file bytes linted ⊎ IsLintedBrokenText form file bytes linted))
