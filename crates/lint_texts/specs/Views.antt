-- What contracts see of the program's values.
use Rattle.std.specs.Prelude.{ℕ, List, [], ◌∷◌, ◌++◌}
use Rattle.decimal_json.specs.Tree.{Tree}
use Rattle.text_places.specs.declared.place.TextPlace.{TextPlace}
use Rattle.lint_texts.specs.Diagnostics.{StyleDiagnostic, finding, note, may}
use Rattle.lint_texts.specs.LineText.{line_text}
use Rattle.lint_texts.specs.LintLine as lint
use Rattle.lint_texts.specs.DiagnosticLine.{placed_line}
use Rattle.lint_texts.specs.declared.form.LintForm.{LintForm}
use Rattle.lint_texts.specs.declared.line.LintLine.{LintLine}
use Rattle.lint_texts.specs.declared.diagnostic.BorrowedDiagnostic.{BorrowedDiagnostic}
use Rattle.lint_texts.specs.declared.diagnostic.BorrowedDiagnostic.TheVariants.{Finding, Note, May}

abbrev pub line_seen : LintLine → lint.LintLine
line_seen l = record { severity = l.severity; place = l.place; message = l.message.now }

abbrev pub diagnostic_seen : BorrowedDiagnostic → StyleDiagnostic
diagnostic_seen (Finding path rule) = finding path.now rule
diagnostic_seen (Note path) = note path.now
diagnostic_seen (May path faults) = may path.now faults

-- the lines of diagnostics, each at the place of its number
abbrev pub placed_text : LintForm → (file : List ℕ) → Tree → List TextPlace → List StyleDiagnostic → List ℕ
placed_text form file t [] ds = []
placed_text form file t (place ∷ places) [] = []
placed_text form file t (place ∷ places) (d ∷ ds) =
    line_text form file (placed_line t place d) ++ placed_text form file t places ds
