-- What `run_style` promises of the run that its words ask for, of its status, and of what is outside.
use Rattle.std.specs.Prelude.{◌≡◌, ◌≢◌, ℕ, List, [], Option}
use Rattle.outside_io.specs.Counts.{Still}
use Rattle.outside_io.specs.Writing.{Gains}
use Rattle.program_runs.specs.declared.status.Status.{Status}
use Rattle.program_runs.specs.declared.status.Status.TheVariants.{NoMemory, ReadFault, WriteFault}
use Rattle.program_runs.specs.FailedReads.{ReadFails}
use Rattle.program_runs.specs.Runs.{Run, HasAsked, IsFileless}
use Rattle.program_runs.specs.Written.{Completes, OutFront, ErrFront, StepsAreDue, StepsFront, WriteFails}
use Rattle.program_runs.specs.Written.{EndsAtFailedRead, unread_line}

-- What is seen of files, sinks and the ledger of steps, before a run or after it.
pub record Outside : Type 0 where
  -- how many reads failed so far, and the name of the file of the last of them
  pub failed_reads : ℕ
  pub unread : Option (List ℕ)
  -- the names of the files that were read so far, in their order
  pub asked : List (List ℕ)
  -- the bytes that each sink took, where it shows them, and how many of its writes failed
  pub out : Option (List ℕ)
  pub failed_outs : ℕ
  pub err : Option (List ℕ)
  pub failed_errs : ℕ
  -- the steps that evaluations counted so far
  pub steps : ℕ

abbrev pub outside : (failed_reads : ℕ) (unread : Option (List ℕ)) (asked : List (List ℕ)) (out : Option (List ℕ))
    (failed_outs : ℕ)
    (err : Option (List ℕ)) (failed_errs steps : ℕ) → Outside
outside failed_reads unread asked out failed_outs err failed_errs steps = record {
  failed_reads = failed_reads;
  unread = unread;
  asked = asked;
  out = out;
  failed_outs = failed_outs;
  err = err;
  failed_errs = failed_errs;
  steps = steps;
}

-- `files` gives the known contents of files, and `FilesStay` says that the value through which they are read
-- is as it was.
pub record KeepsPromises (files : List ℕ → Option (List ℕ)) (run : Run) (status : Status)
    (before after : Outside) (FilesStay : Type 0) : Type 0 where
  -- Where memory suffices and nothing outside fails, the run is its outcome.
  pub exact :
      status ≢ NoMemory → Still before.failed_reads after.failed_reads → Still before.failed_outs after.failed_outs
      → Still before.failed_errs after.failed_errs
      → Completes files run before.asked after.asked status before.out after.out before.err after.err
      before.steps after.steps
  -- So it is after every answer but three, whatever the counts of faults.
  pub completes :
      status ≢ NoMemory → status ≢ ReadFault → status ≢ WriteFault
      → Completes files run before.asked after.asked status before.out after.out before.err after.err
      before.steps after.steps
  -- In every run what is written is a prefix of what is defined, or of the line of a read that failed.
  pub out_front : OutFront files run before.asked after.asked before.out after.out
  pub err_front : ErrFront files run before.asked after.asked before.failed_reads after.failed_reads after.unread
      before.err after.err
  -- A read fault has its cause and its line, and a write fault has its cause.
  pub read_fault :
      status ≡ ReadFault →
      (name : List ℕ) × ReadFails files run before.failed_reads after.failed_reads after.unread before.asked
      after.asked name
      × Gains before.out after.out [] × Gains before.err after.err (unread_line name)
  pub write_fault :
      status ≡ WriteFault → WriteFails files run before.asked after.asked
      before.failed_reads after.failed_reads after.unread
      before.failed_outs after.failed_outs before.failed_errs after.failed_errs
  -- The first read that fails ends the run, and so does the first write.
  pub reads : EndsAtFailedRead status before.failed_reads after.failed_reads before.unread after.unread
  pub writes : status ≢ WriteFault → (after.failed_outs ≡ before.failed_outs) × (after.failed_errs ≡ before.failed_errs)
  -- Of the files that the run comes to read, in their order, each is read once at most, and no other. Where the run has
  -- its outcome, as above, each was read.
  pub names : HasAsked files run before.asked after.asked
  -- In every run the steps rise by no more than the evaluations count to which it came, nor than its outcome says.
  pub steps : StepsAreDue files run before.asked after.asked before.steps after.steps
  pub steps_front : StepsFront files run before.asked after.asked before.steps after.steps
  -- A run that names no file reads none.
  pub fileless : IsFileless run → FilesStay
