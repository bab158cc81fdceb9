-- A file has one lint. Source: own.
use Rattle.std.specs.Prelude.{◌≡◌, ℕ, List}
use Rattle.lint_texts.specs.LintedStyle.{IsLinted, LintedStyle}
use Rattle.lint_texts.specs.declared.form.LintForm.{LintForm}

-- What is written of a file depends on its name and its bytes alone.
abbrev pub EachFileHasOneLint : Type 0
EachFileHasOneLint =
    (form : LintForm) (file bytes : List ℕ) (first other : LintedStyle)
    → IsLinted form file bytes first → IsLinted form file bytes other → first ≡ other
