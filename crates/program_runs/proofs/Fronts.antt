-- A prefix of what was to be written is one of what is defined.
use Rattle.std.proofs.Common.{ℕ, List, subst}
use Rattle.std.specs.Prelude.{Option}
use Rattle.outside_io.specs.Writing.{GainsPrefix}
use Rattle.program_runs.specs.Outcome.{RunOutcome}
use Rattle.program_runs.specs.Runs.{Run, HasOutcome, AreTold}
use Rattle.program_runs.proofs.RunLaws.{one_outcome}

pub front : (files : List ℕ → Option (List ℕ)) (run : Run) (before after : List (List ℕ)) (made : RunOutcome) (a b : Option (List ℕ)) (text : RunOutcome → List ℕ)
    → HasOutcome files run before after made → GainsPrefix a b (text made)
    → (all : List (List ℕ)) (o : RunOutcome) → AreTold files run → HasOutcome files run before all o → GainsPrefix a b (text o)
front files run before after made a b text defined held all o told d =
    let P : RunOutcome → Type 0 = λ x. GainsPrefix a b (text x) in
    subst P (one_outcome files run told before after all made o defined d).0 held
