-- A line of `lint`: how severe it is, the place in the file, and what it says. Source: own.
use Rattle.std.specs.Prelude.{ℕ, List, Bool, true, false}
use Rattle.text_places.specs.declared.place.TextPlace.{TextPlace}
use Rattle.lint_texts.specs.declared.line.Severity.{Severity}
use Rattle.lint_texts.specs.declared.line.Severity.TheVariants.{Error, Warning, Note}

pub record LintLine : Type 0 where
  pub severity : Severity
  pub place : TextPlace
  pub message : List ℕ

abbrev pub is_error : Severity → Bool
is_error Error = true
is_error Warning = false
is_error Note = false

abbrev pub is_warning : Severity → Bool
is_warning Error = false
is_warning Warning = true
is_warning Note = false
