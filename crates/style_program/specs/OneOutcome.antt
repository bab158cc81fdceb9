-- No words have two outcomes.
use Rattle.std.specs.Prelude.{◌≡◌, ℕ, List, Bool, Option}
use Rattle.program_runs.specs.Outcome.{RunOutcome}
use Rattle.program_runs.specs.Runs.{HasOutcome, AreTold}
use Rattle.style_program.specs.Commands.{run_of}

-- Two outcomes of the same words are equal, and so are the names of the files that were read, where the contents of the
-- files that their run comes to read are known.
abbrev pub EachHasOneOutcome : Type 0
EachHasOneOutcome = (files : List ℕ → Option (List ℕ)) (images scripts : List ℕ → Bool) (can_change : Bool)
    (ws before after others : List (List ℕ)) (o p : RunOutcome) →
    AreTold files (run_of images scripts can_change ws) →
    HasOutcome files (run_of images scripts can_change ws) before after o
    → HasOutcome files (run_of images scripts can_change ws) before others p → (o ≡ p) × (after ≡ others)
