-- What a run does to files and to its two sinks.
use Rattle.std.specs.Prelude.{◌≡◌, ℕ, ◌+◌, ◌<◌, ◌≤◌, List, ◌++◌, codes, length, Option, ◌⊎◌}
use Rattle.outside_io.specs.Counts.{raised}
use Rattle.outside_io.specs.Writing.{Gains, GainsPrefix}
use Rattle.decimal_json.specs.JsonText.{text_json}
use Rattle.program_runs.specs.declared.status.Status.{Status}
use Rattle.program_runs.specs.declared.status.Status.TheVariants as status
use Rattle.program_runs.specs.Ending.{status_of}
use Rattle.program_runs.specs.Outcome.{RunOutcome, line}
use Rattle.program_runs.specs.FailedReads.{NoneFailed, ReadFails}
use Rattle.program_runs.specs.Runs.{Run, HasOutcome, HasSaid, HasCounted, AreTold}

-- the line of a file that could not be read
abbrev pub unread_line : List ℕ → List ℕ
unread_line name = line (codes "read " ++ text_json name)

-- how a run ends once a read has failed, by the count of failed writes of err: the line was written, or its
-- write failed, or its allocation failed
abbrev pub EndsUnread : Status → (err_old err_new : Option (List ℕ)) → (faults_old faults_new : ℕ) → List ℕ → Type 0
EndsUnread status.ReadFault err_old err_new faults_old faults_new name =
    Gains err_old err_new (unread_line name) × (faults_new ≡ faults_old)
EndsUnread status.WriteFault err_old err_new faults_old faults_new name = faults_new ≡ raised faults_old
EndsUnread status.NoMemory err_old err_new faults_old faults_new name = faults_new ≡ faults_old
EndsUnread _ err_old err_new faults_old faults_new name = ⊥

-- the answers that come without an outcome
abbrev pub HasNoOutcome : Status → Type 0
HasNoOutcome status.ReadFault = Unit {0}
HasNoOutcome status.WriteFault = Unit {0}
HasNoOutcome status.NoMemory = Unit {0}
HasNoOutcome _ = ⊥

-- The first read that fails ends the run: none failed, or one did, and the run has no outcome.
abbrev pub EndsAtFailedRead : Status → (old new : ℕ) → (failed_old failed_new : Option (List ℕ)) → Type 0
EndsAtFailedRead answer old new failed_old failed_new =
    NoneFailed old new failed_old failed_new ⊎ ((new ≡ raised old) × HasNoOutcome answer)

-- the count of steps rose by at least so many, and by at most so many
abbrev pub RoseBetween : (old new least most : ℕ) → Type 0
RoseBetween old new least most = (old + least ≤ new) × (new ≤ old + most)

-- over the names that were read before the run and after it
module _ (files : List ℕ → Option (List ℕ)) (run : Run) (asked_old asked_new : List (List ℕ)) where
  -- the run has an outcome, both its texts were written whole, the status is its own, and the steps rose as it says
  pub record Completes (answer : Status) (out_old out_new err_old err_new : Option (List ℕ))
      (steps_old steps_new : ℕ) : Type 0 where
    pub outcome : RunOutcome
    pub defined : HasOutcome files run asked_old asked_new outcome
    pub status : answer ≡ status_of outcome.ending
    pub out : Gains out_old out_new outcome.out
    pub err : Gains err_old err_new outcome.err
    pub steps : RoseBetween steps_old steps_new outcome.least outcome.most

  -- what out holds more is a prefix of the out text, where the contents of files are known
  pub record OutFront (old new : Option (List ℕ)) : Type 0 where
    pub front : (all : List (List ℕ)) (o : RunOutcome) → AreTold files run → HasOutcome files run asked_old all o →
        GainsPrefix old new o.out

  -- What err holds more is a prefix of the err text, where the contents of files are known; or, where a read
  -- failed, of the line that says so. The first three arguments are the count of failed reads before and
  -- after, and the name of the last of them.
  pub record ErrFront (reads_old reads_new : ℕ) (failed : Option (List ℕ)) (old new : Option (List ℕ)) : Type 0 where
    pub front :
        ((all : List (List ℕ)) (o : RunOutcome) → AreTold files run → HasOutcome files run asked_old all o →
        GainsPrefix old new o.err)
        ⊎ ((name : List ℕ) × ReadFails files run reads_old reads_new failed asked_old asked_new name
        × GainsPrefix old new (unread_line name))

  -- the steps rose by no more than the run may have counted
  abbrev pub StepsAreDue : (old new : ℕ) → Type 0
  StepsAreDue old new = (most : ℕ) × HasCounted files run asked_old asked_new most × (new ≤ old + most)

  -- they rose by no more than an outcome says, where the contents of files are known
  pub record StepsFront (old new : ℕ) : Type 0 where
    pub front : (all : List (List ℕ)) (o : RunOutcome) → AreTold files run → HasOutcome files run asked_old all o →
        new ≤ old + o.most

  -- an out text is due: the run has come to write one
  abbrev pub OutTextIsDue : Type 0
  OutTextIsDue = (text : List ℕ) × HasSaid files run asked_old asked_new text × (0 < length text)

  -- an err line is due: the run has an outcome with one, or a read failed
  abbrev pub ErrLineIsDue : ℕ → ℕ → Option (List ℕ) → Type 0
  ErrLineIsDue reads_old reads_new failed =
      ((o : RunOutcome) × HasOutcome files run asked_old asked_new o × (0 < length o.err))
      ⊎ ((name : List ℕ) × ReadFails files run reads_old reads_new failed asked_old asked_new name)

  -- One write failed: of out while an out text was due, or of err while an err line was due. Its count of
  -- faults was raised by one, and that of the other is as it was.
  pub record WriteFails (reads_old reads_new : ℕ) (failed : Option (List ℕ))
      (out_old out_new err_old err_new : ℕ) : Type 0 where
    pub cause :
        (OutTextIsDue × (out_new ≡ raised out_old) × (err_new ≡ err_old))
        ⊎ (ErrLineIsDue reads_old reads_new failed × (out_new ≡ out_old) × (err_new ≡ raised err_old))
