-- What is written of a file, and the part of the run that goes on with it.
use Rattle.std.specs.Prelude.{◌≡◌, ℕ, ◌-◌, nat_lt, List, [], ◌∷◌, length, map, Bool, true, false, Option, Some, None, Result, Ok, Err, IfOk, if◌then◌else◌}
use Rattle.std.proofs.Common.{sym, subst}
use Rattle.decimal_json.specs.Parsed.{Parses}
use Rattle.decimal_json.specs.View.{tree_of}
use Rattle.decimal_json.specs.Tree.{Tree}
use Rattle.decimal_json.specs.declared.fault.JsonFault.{JsonFault}
use Rattle.decimal_json.specs.declared.tree.Json.{Json}
use Rattle.lint_texts.specs.BrokenText.{broken_line, file_line, long_file_message, style_limit}
use Rattle.lint_texts.specs.DiagnosticLine.{diagnostic_line}
use Rattle.lint_texts.specs.Diagnostics.{style_diagnostics}
use Rattle.lint_texts.specs.LintLine.{LintLine, is_error, is_warning}
use Rattle.lint_texts.specs.LintedStyle.{LintedStyle, linted_broken_text, linted_document, linted_file_error, linted_lines, linted_long_file, linted_seen}
use Rattle.lint_texts.specs.declared.form.LintForm.{LintForm}
use Rattle.lint_texts.specs.declared.linted.Linted.{Linted}
use Rattle.lint_runs.proofs.LineCounts.{counted_lines}
use Rattle.lint_runs.specs.Counting.{HasLines, IsLintedFile}
use Rattle.lint_runs.specs.LintRun.{bytes_part, linted_parsed, linted_too_long, too_much_message}
use Rattle.program_runs.specs.Progress.{ComesTo, GoesOn}
use Rattle.program_runs.proofs.Going.{goes_explained}

module _ (form : LintForm) (file : List ℕ) where
  has_lines : (ls : List LintLine) → HasLines (linted_lines form file ls)
  has_lines ls = (
    counted_lines (λ (l : LintLine). is_error l.severity) form file ls,
    counted_lines (λ (l : LintLine). is_warning l.severity) form file ls,
  )

  parsed_has_lines : (bytes : List ℕ) (parsed : Result Tree JsonFault) → HasLines (linted_parsed form file bytes parsed)
  parsed_has_lines bytes (Ok t) = has_lines (map (diagnostic_line bytes t) (style_diagnostics t))
  parsed_has_lines bytes (Err fault) = has_lines (broken_line bytes fault.kind fault.at ∷ [])

  too_long_has_lines : (b : Bool) → HasLines (if b then linted_file_error form file too_much_message else linted_long_file form file)
  too_long_has_lines true = has_lines (file_line too_much_message ∷ [])
  too_long_has_lines false = has_lines (file_line long_file_message ∷ [])

  pub long_has_lines : (left : ℕ) (l : LintedStyle) → l ≡ linted_too_long form left file → HasLines l
  long_has_lines left l is = subst HasLines (sym is) (too_long_has_lines (nat_lt left style_limit))

  pub file_has_lines : (bytes : List ℕ) (l : LintedStyle) → IsLintedFile form file bytes l → HasLines l
  file_has_lines bytes l (parsed, parses, is) = subst HasLines (sym is) (parsed_has_lines bytes parsed)

  pub document_linted : {E : Type 0} (bytes : List ℕ) (json : Json) (r : Result Linted E) → Parses bytes (Ok json)
      → IfOk r (λ l. linted_seen l ≡ linted_document form file bytes (tree_of json)) → IfOk r (λ l. IsLintedFile form file bytes (linted_seen l))
  document_linted bytes json (Ok l) parses is = (Ok (tree_of json), parses.0, is)
  document_linted bytes json (Err e) parses is = tt

  pub broken_linted : {E : Type 0} (bytes : List ℕ) (fault : JsonFault) (r : Result Linted E) → Parses bytes (Err fault)
      → IfOk r (λ l. linted_seen l ≡ linted_broken_text form file bytes fault.kind fault.at) → IfOk r (λ l. IsLintedFile form file bytes (linted_seen l))
  broken_linted bytes fault (Ok l) parses is = (Err fault, (parses.2, parses.0, parses.1), is)
  broken_linted bytes fault (Err e) parses is = tt

  pub bytes_go : (left : ℕ) (bytes : List ℕ) (l : LintedStyle) (files : List ℕ → Option (List ℕ)) (asked : List (List ℕ))
      → IsLintedFile form file bytes l
      → GoesOn files (bytes_part form left file (Some bytes)) asked asked (record { linted = l; left = left - length bytes })
  bytes_go left bytes l files asked (parsed, parses, is) = λ k.
      subst (λ (s : LintedStyle). ComesTo files (bytes_part form left file (Some bytes) k) (k (record { linted = s; left = left - length bytes })) asked asked) (sym is)
      (goes_explained files bytes parsed asked parses (λ p. k (record { linted = linted_parsed form file bytes p; left = left - length bytes })))

  pub long_goes : (left : ℕ) (l : LintedStyle) (files : List ℕ → Option (List ℕ)) (asked : List (List ℕ))
      → l ≡ linted_too_long form left file → GoesOn files (bytes_part form left file None) asked asked (record { linted = l; left = left })
  long_goes left l files asked is = λ k.
      subst (λ (s : LintedStyle). ComesTo files (k (record { linted = linted_too_long form left file; left = left })) (k (record { linted = s; left = left })) asked asked) (sym is)
      (record { outcomes = λ all o d. d; reads = λ now r. r; says = λ now text s. s; counts = λ now steps s. s })
