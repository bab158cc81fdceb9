-- Whether a read failed in a run, by the count of failed reads, the name of the last of them, and the names that were
-- read.
use Rattle.std.specs.Prelude.{◌≡◌, ℕ, List, [], ◌∷◌, ◌++◌, Option, Some}
use Rattle.outside_io.specs.Counts.{raised}
use Rattle.program_runs.specs.Runs.{Run, HasAsked}

-- no read failed: the count of faults and the name of the last read that failed are as they were
abbrev pub NoneFailed : (old new : ℕ) → (failed_old failed_new : Option (List ℕ)) → Type 0
NoneFailed old new failed_old failed_new = (new ≡ old) × (failed_new ≡ failed_old)

-- One read failed: the count of faults was raised by one, the name of the read that failed is this, and it was the last
-- that the run read.
pub record ReadFails (files : List ℕ → Option (List ℕ)) (run : Run) (old new : ℕ) (failed : Option (List ℕ))
    (asked_old asked_new : List (List ℕ)) (name : List ℕ) : Type 0 where
  pub counted : new ≡ raised old
  pub noted : failed ≡ Some name
  pub reached : HasAsked files run asked_old asked_new
  pub last : (earlier : List (List ℕ)) × (asked_new ≡ earlier ++ name ∷ [])
