-- From what was read and answered to the outcome that is defined.
use Rattle.std.specs.Prelude.{◌≡◌, ℕ, List, codes, Bool, Option}
use Rattle.std.proofs.Common.{subst}
use Rattle.expr_syntax.specs.Reading.{reading}
use Rattle.program_runs.specs.Outcome.{RunOutcome}
use Rattle.program_runs.specs.Progress.{HaltsAt}
use Rattle.program_runs.specs.Runs.{Run, HasOutcome, ends, parses}
use Rattle.program_runs.specs.declared.halt.RunHalt.{RunHalt}
use Rattle.style_program.specs.ValueRun.{value_run, expression_outcome}

-- the bytes that were parsed are those of the word
module _ (files : List ℕ → Option (List ℕ)) (images scripts : List ℕ → Bool) (text bytes : List ℕ) where
  abbrev run_over : List ℕ → Run
  run_over b = parses (codes "expr") b (λ t. ends (expression_outcome images scripts (reading t)))

  pub of_text : (asked : List (List ℕ)) (o : RunOutcome) → bytes ≡ text → HasOutcome files (run_over bytes) asked asked o → HasOutcome files (value_run images scripts text) asked asked o
  of_text asked o same = subst (λ b. HasOutcome files (run_over b) asked asked o) same

  pub halt_of_text : (count : ℕ) (failed : Option (List ℕ)) (asked : List (List ℕ)) (h : RunHalt) → bytes ≡ text → HaltsAt files (run_over bytes) count count failed failed asked asked h → HaltsAt files (value_run images scripts text) count count failed failed asked asked h
  halt_of_text count failed asked h same = subst (λ b. HaltsAt files (run_over b) count count failed failed asked asked h) same
