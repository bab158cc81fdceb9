-- The run of `generate`, from its style on.
use Rattle.std.proofs.Common.{◌≡◌, sym, subst, ℕ, pos, List, [], Bool}
use Rattle.std.specs.Prelude.{Option, None}
use Rattle.decimal_json.specs.Tree.{Tree}
use Rattle.edit_session.specs.Opening.{cell_limit, tiles_fault}
use Rattle.edit_session.specs.SessionState.{SessionState, opened}
use Rattle.generated_runs.specs.Counted.{counted}
use Rattle.generated_runs.specs.GeneratedScript.{generated_lines, generated_style}
use Rattle.generated_runs.specs.GeneratedTile.{generated_tiles}
use Rattle.program_runs.specs.Outcome.{RunOutcome}
use Rattle.program_runs.specs.Progress.{GoesOn}
use Rattle.program_runs.specs.Runs.{Run, HasCounted, HasOutcome, parses}
use Rattle.program_runs.specs.Written.{StepsAreDue}
use Rattle.script_runs.specs.ScriptRun.{lines_run}
use Rattle.style_layout.specs.Shown.{SourceTile}
use Rattle.std.specs.Prelude.{codes, false}
use Rattle.style_program.specs.EvalRun.{opened_or_refused}
use Rattle.style_program.specs.GenerateRun.{generate_run, opened_run}
use Rattle.style_program.specs.ShownRun.{sound_or_broken}
use Rattle.style_rules.specs.Findings.{findings}

-- what comes after the style
abbrev pub behind_style : (features : ℕ) (images scripts : List ℕ → Bool) (can_change : Bool) → Tree → Run
behind_style features images scripts can_change document = sound_or_broken (findings document) (opened_run features images scripts can_change document)

module _ (files : List ℕ → Option (List ℕ)) (features : ℕ) (images scripts : List ℕ → Bool) (can_change : Bool) (asked : List (List ℕ)) where
  pub generated_made : (document : Tree) (o : RunOutcome) → GoesOn files (parses (codes "style") generated_style) asked asked document → findings document ≡ []
      → HasOutcome files (opened_run features images scripts can_change document) asked asked o
      → HasOutcome files (generate_run features images scripts can_change) asked asked o
  generated_made document o goes sound made =
      (goes (behind_style features images scripts can_change)).outcomes asked o
      (subst (λ f. HasOutcome files (sound_or_broken f (opened_run features images scripts can_change document)) asked asked o) (sym sound) made)

  -- the steps are due, where those of the opened style are
  pub generated_due : (document : Tree) (old new : ℕ) → GoesOn files (parses (codes "style") generated_style) asked asked document → findings document ≡ []
      → StepsAreDue files (opened_run features images scripts can_change document) asked asked old new
      → StepsAreDue files (generate_run features images scripts can_change) asked asked old new
  generated_due document old new goes sound (most, counted, few) = (
    most,
    (goes (behind_style features images scripts can_change)).counts asked most
        (subst (λ f. HasCounted files (sound_or_broken f (opened_run features images scripts can_change document)) asked asked most) (sym sound) counted),
    few,
  )

-- the run of a style that was opened, which the code has by other names
pub opened_is : (features : ℕ) (images scripts : List ℕ → Bool) (can_change : Bool) (document : Tree) (p : SessionState) (tiles : List SourceTile)
    → tiles ≡ generated_tiles features → None ≡ tiles_fault cell_limit document (generated_tiles features) (pos 0) → p ≡ opened cell_limit document (pos 0) images
    → counted features (lines_run tiles scripts can_change 1 p false (generated_lines features)) ≡ opened_run features images scripts can_change document
opened_is features images scripts can_change document p tiles over none first =
    λ j. opened_or_refused (none j) (counted features (lines_run (over j) scripts can_change 1 (first j) false (generated_lines features)))
