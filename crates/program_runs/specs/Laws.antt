-- What holds of every run.
use Rattle.std.specs.Prelude.{◌≡◌, ℕ, List, Option}
use Rattle.program_runs.specs.Outcome.{RunOutcome}
use Rattle.program_runs.specs.Runs.{Run, HasOutcome, AreTold}

-- No run has two outcomes, nor reads other files, where the contents of the files that it comes to read are known.
abbrev pub EachRunHasOneOutcome : Type 0
EachRunHasOneOutcome =
    (files : List ℕ → Option (List ℕ)) (run : Run) → AreTold files run →
    (before after others : List (List ℕ)) (o p : RunOutcome)
    → HasOutcome files run before after o → HasOutcome files run before others p → (o ≡ p) × (after ≡ others)
