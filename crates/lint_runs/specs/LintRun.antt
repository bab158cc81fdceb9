-- The run of `lint`: the lines of each style in the order of the words, then how many of them are errors and how many
-- are warnings. Source: own.
use Rattle.std.specs.Prelude.{ℕ, ◌+◌, ◌-◌, min, nat_lt, List, [], ◌∷◌, ◌++◌, length, codes, decimal, nat_eq, Option}
use Rattle.std.specs.Prelude.{Some, None, Result, Ok, Err, if◌then◌else◌}
use Rattle.decimal_json.specs.Tree.{Tree}
use Rattle.decimal_json.specs.declared.fault.JsonFault.{JsonFault}
use Rattle.lint_texts.specs.BrokenText.{style_limit}
use Rattle.lint_texts.specs.LintedStyle.{LintedStyle, linted_broken_text, linted_document, linted_file_error}
use Rattle.lint_texts.specs.LintedStyle.{linted_long_file}
use Rattle.lint_texts.specs.declared.form.LintForm.{LintForm}
use Rattle.program_runs.specs.declared.status.Ending.{Ending}
use Rattle.program_runs.specs.declared.status.Ending.TheVariants.{Fine, Found}
use Rattle.program_runs.specs.Outcome.{RunOutcome, line, said}
use Rattle.program_runs.specs.Runs.{Run, ends, explains, may_read}

-- ---- one style: the run goes on with what is written of it

-- a file of these bytes, by what they were parsed as
abbrev pub linted_parsed : LintForm → (file bytes : List ℕ) → Result Tree JsonFault → LintedStyle
linted_parsed form file bytes (Ok t) = linted_document form file bytes t
linted_parsed form file bytes (Err fault) = linted_broken_text form file bytes fault.kind fault.at

-- the most bytes that all styles have together
abbrev pub styles_limit : ℕ
styles_limit = 33554432

-- what is written of styles, and how many bytes those that come may have together
pub record LintedStyles : Type 0 where
  pub linted : LintedStyle
  pub left : ℕ

abbrev pub most_bytes : (left : ℕ) → ℕ
most_bytes left = min style_limit left

abbrev pub too_much_message : List ℕ
too_much_message = codes "styles: must have at most 33554432 bytes together [TooLong]"

-- a file that is longer than a style may be, or than what is left for it
abbrev pub linted_too_long : LintForm → (left : ℕ) → (file : List ℕ) → LintedStyle
linted_too_long form left file =
    if nat_lt left style_limit then linted_file_error form file too_much_message else linted_long_file form file

-- a file by its bytes, or of which there are too many
abbrev pub bytes_part : LintForm → (left : ℕ) → (file : List ℕ) → Option (List ℕ) → (LintedStyles → Run) → Run
bytes_part form left file None after = after (record { linted = linted_too_long form left file; left = left })
bytes_part form left file (Some bytes) after =
    explains bytes
    (λ parsed. after (record { linted = linted_parsed form file bytes parsed; left = left - length bytes }))

abbrev pub lint_part : LintForm → (left : ℕ) → (file : List ℕ) → (LintedStyles → Run) → Run
lint_part form left file after = may_read file (most_bytes left) (λ bytes. bytes_part form left file bytes after)

-- ---- all styles, in the order of the words

abbrev pub none_linted : LintedStyles
none_linted = record { linted = record { text = []; errors = 0; warnings = 0 }; left = styles_limit }

-- a style after others
abbrev pub and_linted : LintedStyle → LintedStyle → LintedStyle
and_linted all one = record {
  text = all.text ++ one.text;
  errors = all.errors + one.errors;
  warnings = all.warnings + one.warnings;
}

abbrev pub and_styles : LintedStyles → LintedStyles → LintedStyles
and_styles all one = record { linted = and_linted all.linted one.linted; left = one.left }

abbrev pub lint_parts : LintForm → (all : LintedStyles) → (files : List (List ℕ)) → (LintedStyles → Run) → Run
lint_parts form all [] after = after all
lint_parts form all (file ∷ files) after =
    lint_part form all.left file (λ one. lint_parts form (and_styles all one) files after)

-- ---- the end

abbrev pub counts_line : (errors warnings styles : ℕ) → List ℕ
counts_line errors warnings styles =
    line (decimal errors ++ (codes " errors, " ++ (decimal warnings ++ (codes " warnings in " ++
    (decimal styles ++ codes " styles")))))

abbrev pub lint_ending : (errors : ℕ) → Ending
lint_ending errors = if nat_eq errors 0 then Fine else Found

abbrev pub lint_outcome : (styles : ℕ) → LintedStyle → RunOutcome
lint_outcome styles all = said (all.text ++ counts_line all.errors all.warnings styles) (lint_ending all.errors)

abbrev pub lint_run : LintForm → (files : List (List ℕ)) → Run
lint_run form files = lint_parts form none_linted files (λ all. ends (lint_outcome (length files) all.linted))
