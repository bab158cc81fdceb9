-- What contracts of private functions see of a script whose answers are counted.
use Rattle.std.specs.Prelude.{ℕ, ◌+◌, ◌*◌, ◌^◌, ◌≤◌, List, Bool, Option}
use Rattle.edit_session.specs.View.{session_state, tiles_of}
use Rattle.edit_session.specs.declared.session.Session.{Session}
use Rattle.program_runs.specs.Outcome.{RunOutcome}
use Rattle.program_runs.specs.Runs.{Run, HasOutcome, HasCounted, after_counts}
use Rattle.program_runs.specs.Written.{RoseBetween}
use Rattle.script_runs.specs.ScriptRun.{lines_run}
use Rattle.generated_runs.specs.Counted.{counted_after}
use Rattle.generated_runs.specs.declared.counting.Counting.{Counting}

-- the run of the lines that are left, over so many features, with the counts of those before
abbrev pub lines_left : (features : ℕ) (scripts : List ℕ → Bool) (can_change : Bool) (has_image : List ℕ → Bool)
    → Session → Counting → List (List ℕ) → Run
lines_left features scripts can_change has_image session counting lines =
    counted_after features counting.lines counting.bytes
    (lines_run (tiles_of session) scripts can_change counting.number (session_state session has_image)
    counting.any lines)

-- The run makes evaluations of so many steps, and then ends as the rest does.
pub record EndsAfter (run rest : Run) (least most : ℕ) : Type 0 where
  pub outcomes : (files : List ℕ → Option (List ℕ)) (asked all : List (List ℕ)) (o : RunOutcome)
      → HasOutcome files rest asked all o → HasOutcome files run asked all (after_counts least most o)
  pub counts : (files : List ℕ → Option (List ℕ)) (asked now : List (List ℕ)) (more : ℕ)
      → HasCounted files rest asked now more → HasCounted files run asked now (most + more)

-- so it is, and the steps rose as those evaluations count
abbrev pub EndsAs : (steps_old steps_new : ℕ) → (run rest : Run) → Type 0
EndsAs steps_old steps_new run rest =
    (least : ℕ) × (most : ℕ) × EndsAfter run rest least most × RoseBetween steps_old steps_new least most

-- the counts have room for more
pub record IsSmall (counting : Counting) : Type 0 where
  pub number : counting.number ≤ 2 ^ 33
  pub lines : counting.lines ≤ counting.number * 2 ^ 64
  pub bytes : counting.bytes ≤ counting.number * 2 ^ 64
