-- The runs of `replay` and `desk`: what a style shows over tiles while a script edits it. Source: own.
use Rattle.std.specs.Prelude.{ℕ, List, [], codes, Bool}
use Rattle.edit_session.specs.Opening.{cell_limit, tiles_fault}
use Rattle.edit_session.specs.SessionState.{SessionState, opened}
use Rattle.program_runs.specs.Refusals.{too_long}
use Rattle.program_runs.specs.Runs.{Run, reads}
use Rattle.script_runs.specs.ScriptRun.{script_run}
use Rattle.style_layout.specs.Shown.{SourceTile}
use Rattle.style_program.specs.EvalRun.{opened_or_refused}
use Rattle.style_program.specs.ShownRun.{LoadedStyle, load_part}
use Rattle.style_program.specs.Words.{ScriptWords}
use Rattle.style_program.specs.declared.words.ScriptKind.{ScriptKind}
use Rattle.style_program.specs.declared.words.ScriptKind.TheVariants.{Replay, Desk}
use Rattle.view_desk.specs.DeskRun.{desk_script_run}
use Rattle.view_desk.specs.DeskState.{desk_limit, desk_over}

-- in bytes
abbrev pub script_limit : ℕ
script_limit = 16777216

-- the lines of a script are read
abbrev pub script_part : (name : List ℕ) → (List ℕ → Run) → Run
script_part name after = reads (too_long (codes "script") []) name script_limit after

-- the run of a script over tiles, by what the style shows before it
abbrev pub Answered : Type 0
Answered = List SourceTile → SessionState → List ℕ → Run

-- of a style that may have so many cells
module _ (limit : ℕ) (w : ScriptWords) (images : List ℕ → Bool) (answered : Answered) where
  -- the style is opened, and answers the script
  abbrev pub edited_run : LoadedStyle → List ℕ → Run
  edited_run shown script =
      opened_or_refused (tiles_fault limit shown.0 shown.1 w.shown.zoom)
      (answered shown.1 (opened limit shown.0 w.shown.zoom images) script)

  abbrev pub scripted_run : Run
  scripted_run = load_part w.shown (λ shown. script_part w.script (edited_run shown))

abbrev pub limit_of : ScriptKind → ℕ
limit_of Replay = cell_limit
limit_of Desk = desk_limit

abbrev pub answered_by : ScriptKind → (scripts : List ℕ → Bool) (can_change : Bool) → Answered
answered_by Replay scripts can_change tiles p script = script_run tiles scripts can_change p script
answered_by Desk scripts can_change tiles p script = desk_script_run tiles scripts can_change (desk_over p) script

abbrev pub script_kind_run : ScriptKind → ScriptWords → (images scripts : List ℕ → Bool) (can_change : Bool) → Run
script_kind_run kind w images scripts can_change =
    scripted_run (limit_of kind) w images (answered_by kind scripts can_change)

abbrev pub replay_run : ScriptWords → (images scripts : List ℕ → Bool) (can_change : Bool) → Run
replay_run w images scripts can_change = script_kind_run Replay w images scripts can_change
