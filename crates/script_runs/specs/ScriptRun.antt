-- The run of a script: line by line, what is written and what the style then is. Source: own.
use Rattle.std.specs.Prelude.{ℕ, ◌+◌, List, [], ◌∷◌, Bool, true, false, ◌||◌, Option, Some, None, Result, Ok, Err}
use Rattle.std.specs.Prelude.{if◌then◌else◌}
use Rattle.decimal_json.specs.Tree.{Tree}
use Rattle.edit_script.specs.Command.{command_of}
use Rattle.edit_script.specs.Edit.{Edit}
use Rattle.edit_script.specs.declared.command.LineFault.{LineFault}
use Rattle.edit_script.specs.declared.command.LineFault.TheVariants.{Json}
use Rattle.edit_session.specs.Applied.{Reply, applied, least_steps, most_steps}
use Rattle.edit_session.specs.SessionState.{SessionState}
use Rattle.program_runs.specs.declared.status.Ending.{Ending}
use Rattle.program_runs.specs.declared.status.Ending.TheVariants.{Fine, Found}
use Rattle.program_runs.specs.Outcome.{said}
use Rattle.program_runs.specs.Runs.{Run, ends, says, counts, may_parse}
use Rattle.script_runs.specs.AnswerTexts.{fault_name, refused_line, reply_text, is_refused}
use Rattle.script_runs.specs.ScriptLines.{script_lines}
use Rattle.style_layout.specs.Shown.{SourceTile}

-- the command of a line, by the tree that it spells, if it spells one
abbrev pub line_command : Option Tree → Result Edit LineFault
line_command (Some t) = command_of t
line_command None = Err Json

-- what a line gives: what is shown after it, the text that is written, and whether it is refused
pub record LineOut : Type 0 where
  pub after : SessionState
  pub text : List ℕ
  pub is_refused : Bool

abbrev pub replied : ℕ → SessionState × Reply → LineOut
replied number a = record { after = a.0; text = reply_text number a.1; is_refused = is_refused a.1 }

-- how a run ends, by whether a line was refused
abbrev pub ending_by : Bool → Ending
ending_by any = if any then Found else Fine

-- over tiles, with the test on texts that can be shown
module _ (tiles : List SourceTile) (scripts : List ℕ → Bool) where
  -- the steps that the evaluations of a line count: at least so many, and at most so many
  abbrev pub line_least : SessionState → Result Edit LineFault → ℕ
  line_least p (Ok edit) = least_steps tiles scripts p edit
  line_least p (Err fault) = 0

  abbrev pub line_most : SessionState → Result Edit LineFault → ℕ
  line_most p (Ok edit) = most_steps tiles scripts p edit
  line_most p (Err fault) = 0

-- over tiles, with the test on texts that can be shown; `can_change` says whether the test of images can
-- change
module _ (tiles : List SourceTile) (scripts : List ℕ → Bool) (can_change : Bool) where
  -- a line that is no command changes nothing
  abbrev pub line_out : ℕ → SessionState → Result Edit LineFault → LineOut
  line_out number p (Ok edit) = replied number (applied tiles scripts can_change p edit)
  line_out number p (Err fault) = record { after = p; text = refused_line number (fault_name fault); is_refused = true }

  -- The run of lines from this number on: each is answered before the next is looked at. `any` says whether a line
  -- before them was refused.
  abbrev pub lines_run : (number : ℕ) → SessionState → (any : Bool) → List (List ℕ) → Run
  lines_run number p any [] = ends (said [] (ending_by any))
  lines_run number p any (l ∷ ls) =
      may_parse l (λ t.
      counts (line_least tiles scripts p (line_command t)) (line_most tiles scripts p (line_command t))
      (says (line_out number p (line_command t)).text
      (lines_run (number + 1) (line_out number p (line_command t)).after
      (any || (line_out number p (line_command t)).is_refused) ls)))

  -- The run of a script.
  abbrev pub script_run : SessionState → List ℕ → Run
  script_run p script = lines_run 1 p false (script_lines script)
