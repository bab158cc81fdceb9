-- The steps of runs that are answered or go no further.
use Rattle.std.proofs.Common.{◌≡◌, refl, ℕ, ◌+◌, ◌≤◌, List, Bool, true, false, arith}
use Rattle.std.specs.Prelude.{Option, Result, Ok, Err, IfErr, OnErr}
use Rattle.program_runs.specs.Progress.{HaltSteps, HaltsAt, IsAnswered, IsStop, outcome_of}
use Rattle.program_runs.specs.Runs.{Run, HasOutcome}
use Rattle.program_runs.specs.Written.{RoseBetween, StepsAreDue}
use Rattle.program_runs.specs.declared.answer.RunOutput.{RunOutput}
use Rattle.program_runs.specs.declared.halt.RunHalt.{RunHalt}
use Rattle.program_runs.specs.declared.halt.RunHalt.TheVariants.{Stopped, Refused}
use Rattle.program_runs.specs.declared.halt.RunStop.{RunStop}
use Rattle.program_runs.specs.declared.halt.RunStop.TheVariants.{NoMemory, Unread}
use Rattle.program_runs.proofs.Counting.{no_steps}
use Rattle.style_program.specs.Commands.{lists_cells}
use Rattle.style_program.specs.WordsView.{listing_asked}
use Rattle.style_program.specs.declared.words.ListingRequest.{ListingRequest}
use Rattle.style_program.specs.declared.words.ListingRequest.TheVariants.{Eval, Generate}

pub never_both : (b : Bool) → b ≡ true → b ≡ false → ⊥
never_both true is other = absurd (cc)
never_both false is other = absurd (cc)

-- what lists is asked to list
pub always_lists : (r : ListingRequest) → lists_cells (listing_asked r) ≡ false → ⊥
always_lists (Eval r) none = absurd (cc)
always_lists (Generate features) none = absurd (cc)

pub answered_rose : (old new least most : ℕ) → RoseBetween old new least most → RoseBetween old new (least + 0) (most + 0)
answered_rose old new least most rose = (omega (arith, rose.0), omega (arith, rose.1))

module _ (files : List ℕ → Option (List ℕ)) (run : Run) (asked_old asked_new : List (List ℕ)) where
  -- no step was counted
  pub answered_still : (old new : ℕ) (a : RunOutput) → new ≡ old → HasOutcome files run asked_old asked_new (outcome_of a)
      → IsAnswered files run asked_old asked_new old new a
  answered_still old new a still made = (0, 0, made, (omega (arith, still), omega (arith, still)))

  pub stop_due : (old new : ℕ) (failed_old failed_new : Option (List ℕ)) (steps_old steps_new : ℕ) (stop : RunStop)
      → IsStop files run old new failed_old failed_new asked_old asked_new stop → steps_new ≤ steps_old
      → StepsAreDue files run asked_old asked_new steps_old steps_new
  stop_due old new failed_old failed_new steps_old steps_new NoMemory (none, asked) few = no_steps files run asked_old asked_new steps_old steps_new asked few
  stop_due old new failed_old failed_new steps_old steps_new (Unread name) fails few =
      no_steps files run asked_old asked_new steps_old steps_new fails.reached few

  pub stops_due : {A : Type 0} (old new : ℕ) (failed_old failed_new : Option (List ℕ)) (steps : ℕ) (r : Result A RunStop)
      → IfErr r (λ stop. IsStop files run old new failed_old failed_new asked_old asked_new stop) → OnErr r (StepsAreDue files run asked_old asked_new steps steps)
  stops_due old new failed_old failed_new steps (Ok x) stops = tt
  stops_due old new failed_old failed_new steps (Err stop) stops = stop_due old new failed_old failed_new steps steps stop stops (omega arith)

  pub halt_still : (old new : ℕ) (failed_old failed_new : Option (List ℕ)) (steps : ℕ) (h : RunHalt)
      → HaltsAt files run old new failed_old failed_new asked_old asked_new h → HaltSteps files run asked_old asked_new steps steps h
  halt_still old new failed_old failed_new steps (Stopped stop) halts = stop_due old new failed_old failed_new steps steps stop halts (omega arith)
  halt_still old new failed_old failed_new steps (Refused answer) halts = refl
