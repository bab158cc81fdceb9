-- What is written of a file, and the counts of its lines.
use Rattle.std.specs.Prelude.{◌≡◌, ℕ, ◌≤◌, List, length, Result}
use Rattle.decimal_json.specs.Tree.{Tree}
use Rattle.decimal_json.specs.declared.fault.JsonFault.{JsonFault}
use Rattle.lint_texts.specs.LintedStyle.{LintedStyle}
use Rattle.lint_texts.specs.declared.form.LintForm.{LintForm}
use Rattle.lint_runs.specs.LintRun.{linted_parsed}
use Rattle.program_runs.specs.Runs.{IsParsed}

-- no more errors are counted than the text has bytes, nor warnings
abbrev pub HasLines : LintedStyle → Type 0
HasLines l = (l.errors ≤ length l.text) × (l.warnings ≤ length l.text)

-- what is written of a file of these bytes
abbrev pub IsLintedFile : LintForm → (file bytes : List ℕ) → LintedStyle → Type 0
IsLintedFile form file bytes linted =
    (parsed : Result Tree JsonFault) × IsParsed bytes parsed × (linted ≡ linted_parsed form file bytes parsed)
