-- What contracts see of a run once all its reading is done.
use Rattle.std.specs.Prelude.{◌≡◌, ℕ, List, Bool, true, Option}
use Rattle.edit_script.specs.Edit.{list}
use Rattle.edit_session.specs.Applied.{least_steps, listing_of, most_steps}
use Rattle.edit_session.specs.SessionState.{SessionState}
use Rattle.edit_session.specs.View.{session_state, tiles_of, IsSoundSession}
use Rattle.edit_session.specs.declared.session.Session.{Session}
use Rattle.program_runs.specs.Outcome.{said}
use Rattle.program_runs.specs.Progress.{ComesTo, IsAnswered}
use Rattle.program_runs.specs.Runs.{Run, counts, ends}
use Rattle.program_runs.specs.declared.status.Ending.TheVariants.{Fine}
use Rattle.style_layout.specs.Shown.{SourceTile}
use Rattle.style_program.specs.Commands.{lists_cells}
use Rattle.style_program.specs.ReplayRun.{answered_by}
use Rattle.style_program.specs.Words.{Asked}
use Rattle.style_program.specs.declared.opened_run.OpenedRun.{OpenedRun}
use Rattle.style_program.specs.declared.opened_run.OpenedRun.TheVariants as runs
use Rattle.style_program.specs.declared.replay_command.OpenedScript.{OpenedScript}
use Rattle.style_program.specs.declared.reply.PreparedRun.{PreparedRun}
use Rattle.style_program.specs.declared.reply.PreparedRun.TheVariants.{Ended, Opened}

-- The run that lists what is shown over tiles, with the test on texts that can be shown. It is the rest of `listed_run`
-- where the style was opened.
abbrev pub listing_run : List SourceTile → (scripts : List ℕ → Bool) → SessionState → Run
listing_run tiles scripts p =
    counts (least_steps tiles scripts p list) (most_steps tiles scripts p list)
    (ends (said (listing_of tiles scripts p) Fine))

-- the session of a run that was opened
abbrev pub session_of : OpenedRun → Session
session_of (runs.Listing session) = session
session_of (runs.Script script) = script.session

-- over the tests of images and scripts
abbrev pub session_run : (images scripts : List ℕ → Bool) → Session → Run
session_run images scripts session = listing_run (tiles_of session) scripts (session_state session images)

-- over these tests, and whether the test of images can change
module _ (images scripts : List ℕ → Bool) (can_change : Bool) where
  -- the run of a script that is to be answered
  abbrev pub opened_script_run : OpenedScript → Run
  opened_script_run opened =
      answered_by opened.kind scripts can_change (tiles_of opened.session) (session_state opened.session images)
      opened.script.items

  -- the rest of a run that was opened: what it writes
  abbrev pub opened_run : OpenedRun → Run
  opened_run (runs.Listing session) = session_run images scripts session
  opened_run (runs.Script script) = opened_script_run script

  -- The run has this outcome, and the steps rose as it says; or it comes to what is to be written, and none were
  -- counted.
  abbrev pub IsPrepared : (files : List ℕ → Option (List ℕ)) (run : Run) (asked_old asked_new : List (List ℕ))
      (steps_old steps_new : ℕ) → PreparedRun → Type 0
  IsPrepared files run asked_old asked_new steps_old steps_new (Ended answer) =
      IsAnswered files run asked_old asked_new steps_old steps_new answer
  IsPrepared files run asked_old asked_new steps_old steps_new (Opened opened) =
      IsSoundSession (session_of opened) images scripts × ComesTo files run (opened_run opened) asked_old asked_new
      × (steps_new ≡ steps_old)

-- what was opened lists cells
abbrev pub MayList : Asked → PreparedRun → Type 0
MayList ask (Ended answer) = Unit {0}
MayList ask (Opened opened) = lists_cells ask ≡ true
