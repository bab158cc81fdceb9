-- How far a run came, and how it stopped.
use Rattle.std.specs.Prelude.{◌≡◌, ℕ, ◌+◌, List, [], ◌++◌, Option, ◌⊎◌}
use Rattle.outside_io.specs.Counts.{raised}
use Rattle.outside_io.specs.Writing.{Gains}
use Rattle.program_runs.specs.declared.answer.RunOutput.{RunOutput}
use Rattle.program_runs.specs.declared.halt.RunHalt.{RunHalt}
use Rattle.program_runs.specs.declared.halt.RunHalt.TheVariants.{Stopped, Refused}
use Rattle.program_runs.specs.declared.halt.RunStop.{RunStop}
use Rattle.program_runs.specs.declared.halt.RunStop.TheVariants.{NoMemory, Unread}
use Rattle.program_runs.specs.declared.halt.WriteStop.{WriteStop}
use Rattle.program_runs.specs.declared.halt.WriteStop.TheVariants as write
use Rattle.program_runs.specs.declared.status.Ending.{Ending}
use Rattle.program_runs.specs.FailedReads.{NoneFailed, ReadFails}
use Rattle.program_runs.specs.Outcome.{RunOutcome, plain_outcome}
use Rattle.program_runs.specs.Runs.{Run, HasOutcome, HasAsked, HasSaid, HasCounted, IsFront, after_counts, after_text}
use Rattle.program_runs.specs.Written.{OutTextIsDue, RoseBetween, StepsAreDue}

abbrev pub outcome_of : RunOutput → RunOutcome
outcome_of a = plain_outcome a.out.items a.err.items a.ending

-- The run comes to the rest of it, once it has read the files of some more names: outcomes of the rest are outcomes of
-- the run, and what the rest reads, writes and counts the run reads, writes and counts.
pub record ComesTo (files : List ℕ → Option (List ℕ)) (run rest : Run)
    (asked_old asked_new : List (List ℕ)) : Type 0 where
  pub outcomes : (all : List (List ℕ)) (o : RunOutcome) → HasOutcome files rest asked_new all o →
      HasOutcome files run asked_old all o
  pub reads : (now : List (List ℕ)) → HasAsked files rest asked_new now → HasAsked files run asked_old now
  pub says : (now : List (List ℕ)) (text : List ℕ) → HasSaid files rest asked_new now text →
      HasSaid files run asked_old now text
  pub counts : (now : List (List ℕ)) (steps : ℕ) → HasCounted files rest asked_new now steps →
      HasCounted files run asked_old now steps

-- No answer: an allocation failed, or a read of the run's failed. The arguments after the run are the count of failed
-- reads before and after, the name of the last of them before and after, and the names that were read.
abbrev pub IsStop : (List ℕ → Option (List ℕ)) → Run → (old new : ℕ) → (failed_old failed_new : Option (List ℕ))
    → (asked_old asked_new : List (List ℕ)) → RunStop → Type 0
IsStop files run old new failed_old failed_new asked_old asked_new NoMemory =
    NoneFailed old new failed_old failed_new × HasAsked files run asked_old asked_new
IsStop files run old new failed_old failed_new asked_old asked_new (Unread name) =
    ReadFails files run old new failed_new asked_old asked_new name.now

-- no answer, or what was read is refused, and that is an outcome
abbrev pub HaltsAt : (List ℕ → Option (List ℕ)) → Run → (old new : ℕ) → (failed_old failed_new : Option (List ℕ))
    → (asked_old asked_new : List (List ℕ)) → RunHalt → Type 0
HaltsAt files run old new failed_old failed_new asked_old asked_new (Stopped stop) =
    IsStop files run old new failed_old failed_new asked_old asked_new stop
HaltsAt files run old new failed_old failed_new asked_old asked_new (Refused answer) =
    NoneFailed old new failed_old failed_new × HasOutcome files run asked_old asked_new (outcome_of answer)

-- The run has this outcome, once evaluations were made, and the steps rose as they count.
abbrev pub IsAnswered : (List ℕ → Option (List ℕ)) → Run → (asked_old asked_new : List (List ℕ)) →
    (steps_old steps_new : ℕ) → RunOutput → Type 0
IsAnswered files run asked_old asked_new steps_old steps_new answer =
    (least : ℕ) × (most : ℕ) × HasOutcome files run asked_old asked_new (after_counts least most (outcome_of answer))
    × RoseBetween steps_old steps_new least most

-- The steps of a run that goes no further: none were counted before a refusal.
abbrev pub HaltSteps : (List ℕ → Option (List ℕ)) → Run → (asked_old asked_new : List (List ℕ)) →
    (steps_old steps_new : ℕ) → RunHalt → Type 0
HaltSteps files run asked_old asked_new steps_old steps_new (Stopped stop) =
    StepsAreDue files run asked_old asked_new steps_old steps_new
HaltSteps files run asked_old asked_new steps_old steps_new (Refused answer) = steps_new ≡ steps_old

module _ {A : Type 0} (files : List ℕ → Option (List ℕ)) (part : (A → Run) → Run) where
  -- whatever the run goes on with, it comes to that, at this value
  abbrev pub GoesOn : (asked_old asked_new : List (List ℕ)) → A → Type 0
  GoesOn asked_old asked_new x = (k : A → Run) → ComesTo files (part k) (k x) asked_old asked_new

  -- whatever the run would go on with, it stops before that
  abbrev pub Halts : (old new : ℕ) → (failed_old failed_new : Option (List ℕ)) → (asked_old asked_new : List (List ℕ))
      → RunHalt → Type 0
  Halts old new failed_old failed_new asked_old asked_new halt =
      (k : A → Run) → HaltsAt files (part k) old new failed_old failed_new asked_old asked_new halt

-- ---- a run whose answers are written one after another, and which reads no file meanwhile

-- A stretch of a run: the text that it writes, and the steps that its evaluations count, at least so many and at most
-- so many.
pub record Stretch : Type 0 where
  pub text : List ℕ
  pub least : ℕ
  pub most : ℕ

abbrev pub no_stretch : Stretch
no_stretch = record { text = []; least = 0; most = 0 }

-- a stretch and the next
abbrev pub then_stretch : Stretch → Stretch → Stretch
then_stretch first next =
    record { text = first.text ++ next.text; least = first.least + next.least; most = first.most + next.most }

-- an outcome, after a stretch
abbrev pub after_stretch : Stretch → RunOutcome → RunOutcome
after_stretch s o = after_text s.text (after_counts s.least s.most o)

-- the outcome of a run that is this stretch
abbrev pub stretch_outcome : Stretch → Ending → RunOutcome
stretch_outcome s ending = record { out = s.text; err = []; ending = ending; least = s.least; most = s.most }

-- It makes this stretch, and comes to the rest of it.
pub record Writes (run : Run) (s : Stretch) (rest : Run) : Type 0 where
  pub outcomes : (files : List ℕ → Option (List ℕ)) (asked all : List (List ℕ)) (o : RunOutcome)
      → HasOutcome files rest asked all o → HasOutcome files run asked all (after_stretch s o)
  pub says : (files : List ℕ → Option (List ℕ)) (asked now : List (List ℕ)) (more : List ℕ)
      → HasSaid files rest asked now more → HasSaid files run asked now (s.text ++ more)
  pub counts : (files : List ℕ → Option (List ℕ)) (asked now : List (List ℕ)) (more : ℕ)
      → HasCounted files rest asked now more → HasCounted files run asked now (s.most + more)
  pub begins : (files : List ℕ → Option (List ℕ)) (asked : List (List ℕ)) (front : List ℕ)
      → IsFront front s.text → HasSaid files run asked asked front

-- It has made this stretch so far, and has come to the rest of it.
pub record HasWritten (run : Run) (s : Stretch) (rest : Run) : Type 0 where
  pub outcomes : (files : List ℕ → Option (List ℕ)) (asked all : List (List ℕ)) (o : RunOutcome)
      → HasOutcome files rest asked all o → HasOutcome files run asked all (after_stretch s o)
  pub says : (files : List ℕ → Option (List ℕ)) (asked now : List (List ℕ)) (more : List ℕ)
      → HasSaid files rest asked now more → HasSaid files run asked now (s.text ++ more)
  pub counts : (files : List ℕ → Option (List ℕ)) (asked now : List (List ℕ)) (more : ℕ)
      → HasCounted files rest asked now more → HasCounted files run asked now (s.most + more)
  pub so_far : (files : List ℕ → Option (List ℕ)) (asked : List (List ℕ)) →
      (s.text ≡ []) ⊎ HasSaid files run asked asked s.text

-- by what out held before and holds now
module _ (files : List ℕ → Option (List ℕ)) (run : Run) (asked : List (List ℕ)) (old new : Option (List ℕ)) where
  -- some of it was written: what the run has come to write, or nothing
  abbrev pub IsBegun : Type 0
  IsBegun = (text : List ℕ) × Gains old new text × ((text ≡ []) ⊎ HasSaid files run asked asked text)

  -- by the steps before and now
  module _ (steps_old steps_new : ℕ) where
    -- all of it was written: the text of an outcome, and the steps rose as that says
    abbrev pub IsWritten : Ending → Type 0
    IsWritten ending =
        (s : Stretch) × HasOutcome files run asked asked (stretch_outcome s ending) × Gains old new s.text
        × RoseBetween steps_old steps_new s.least s.most

    -- an allocation failed, or a write while a text was due; by the count of failed writes before and now
    abbrev pub IsCut : (faults_old faults_new : ℕ) → WriteStop → Type 0
    IsCut faults_old faults_new write.NoMemory =
        IsBegun × StepsAreDue files run asked asked steps_old steps_new × (faults_new ≡ faults_old)
    IsCut faults_old faults_new write.Unwritten =
        IsBegun × StepsAreDue files run asked asked steps_old steps_new × OutTextIsDue files run asked asked
        × (faults_new ≡ raised faults_old)
