-- A style that was opened, or could not be.
use Rattle.std.proofs.Common.{◌≡◌, ℕ, List, refl, subst}
use Rattle.std.specs.Prelude.{Option, Some, Result, Ok, Err, IfOk}
use Rattle.edit_session.specs.Opening.{Fault}
use Rattle.program_runs.specs.Progress.{IsAnswered, outcome_of}
use Rattle.program_runs.specs.Runs.{Run, HasOutcome}
use Rattle.program_runs.specs.declared.answer.RunOutput.{RunOutput}
use Rattle.style_program.specs.EvalRun.{opened_or_refused}
use Rattle.style_program.specs.Refusals.{not_opened}
use Rattle.style_program.proofs.AnsweredSteps.{answered_still}

-- what holds of any value that was answered holds of this
pub of_ok : {T E : Type 0} (P : T → Type 0) (r : Result T E) (t : T) → r ≡ Ok t → IfOk r P → P t
of_ok P r t is h = subst (λ x. IfOk x P) is h

-- a style that cannot be opened is refused, and no step is counted
pub refused_at_first : {E : Type 0} (next : Run) (expected : Option Fault) (fault : Fault) → Some fault ≡ expected → (steps : ℕ) (r : Result RunOutput E)
    → IfOk r (λ a. outcome_of a ≡ not_opened fault) → (files : List ℕ → Option (List ℕ)) (asked : List (List ℕ))
    → IfOk r (IsAnswered files (opened_or_refused expected next) asked asked steps steps)
refused_at_first next expected fault is steps (Ok a) made files asked =
    answered_still files (opened_or_refused expected next) asked asked steps steps a refl
    (subst (λ (f : Option Fault). HasOutcome files (opened_or_refused f next) asked asked (outcome_of a)) is (made, refl))
refused_at_first next expected fault is steps (Err lacks) made files asked = tt
