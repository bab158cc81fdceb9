-- The run of a script of a desk: line by line, what is written and what the desk then represents. Source: own.
use Rattle.std.specs.Prelude.{ℕ, ◌+◌, List, [], ◌∷◌, ◌++◌, codes, Bool, true, false, ◌||◌, Option, Some, None, Result}
use Rattle.std.specs.Prelude.{Ok, Err}
use Rattle.decimal_json.specs.JsonText.{text_json}
use Rattle.decimal_json.specs.Tree.{Tree}
use Rattle.edit_script.specs.declared.command.LineFault.{LineFault}
use Rattle.edit_script.specs.declared.command.LineFault.TheVariants.{Json}
use Rattle.program_runs.specs.Outcome.{line, said}
use Rattle.program_runs.specs.Runs.{Run, ends, says, counts, may_parse}
use Rattle.script_runs.specs.AnswerTexts as texts
use Rattle.script_runs.specs.AnswerTexts.{fault_name, ok_line, refused_line, reply_text}
use Rattle.script_runs.specs.ScriptLines.{script_lines}
use Rattle.script_runs.specs.ScriptRun.{ending_by}
use Rattle.style_layout.specs.Shown.{SourceTile}
use Rattle.view_desk.specs.DeskLines.{DeskEdit, desk_command}
use Rattle.view_desk.specs.DeskState.{DeskState, DeskReply, faulty, refused, done, style_reply, view_reply}
use Rattle.view_desk.specs.DeskState.{desk_applied, desk_least, desk_most}
use Rattle.view_desk.specs.declared.answers.DeskRefusal.{DeskRefusal}
use Rattle.view_desk.specs.declared.answers.DeskRefusal.TheVariants.{UnknownView, ViewTaken, ZoomRange, ViewLimit}

-- ---- what is written of an answer

abbrev pub desk_refusal_name : DeskRefusal → List ℕ
desk_refusal_name UnknownView = codes "UnknownView"
desk_refusal_name ViewTaken = codes "ViewTaken"
desk_refusal_name ZoomRange = codes "ZoomRange"
desk_refusal_name ViewLimit = codes "ViewLimit"

-- the line that says of which view an answer is, its name as a JSON string
abbrev pub view_line : (name : List ℕ) → List ℕ
view_line name = line (codes "view " ++ text_json name)

-- what is written of the answer to the line of this number: after the line of a view what a session would write
abbrev pub desk_text : ℕ → DeskReply → List ℕ
desk_text number (faulty fault) = refused_line number (fault_name fault)
desk_text number (refused refusal) = refused_line number (desk_refusal_name refusal)
desk_text number done = ok_line number
desk_text number (style_reply reply) = reply_text number reply
desk_text number (view_reply name reply) = view_line name ++ reply_text number reply

abbrev pub is_desk_refused : DeskReply → Bool
is_desk_refused (faulty fault) = true
is_desk_refused (refused refusal) = true
is_desk_refused done = false
is_desk_refused (style_reply reply) = texts.is_refused reply
is_desk_refused (view_reply name reply) = texts.is_refused reply

-- ---- lines

-- what a line says, by the tree that it spells, if it spells one
abbrev pub desk_line : Option Tree → Result DeskEdit LineFault
desk_line (Some t) = desk_command t
desk_line None = Err Json

-- what a line gives: what the desk then represents, what is written, and whether it is refused
pub record DeskOut : Type 0 where
  pub after : DeskState
  pub text : List ℕ
  pub is_refused : Bool

abbrev pub desk_replied : ℕ → DeskState × DeskReply → DeskOut
desk_replied number a = record { after = a.0; text = desk_text number a.1; is_refused = is_desk_refused a.1 }

-- over tiles, with the test on texts that can be shown; `can_change` says whether the test of images can change
module _ (tiles : List SourceTile) (scripts : List ℕ → Bool) (can_change : Bool) where
  -- a line with a fault changes nothing
  abbrev pub desk_answered : DeskState → Result DeskEdit LineFault → DeskState × DeskReply
  desk_answered d (Ok edit) = desk_applied tiles scripts can_change d edit
  desk_answered d (Err fault) = (d, faulty fault)

  abbrev pub desk_out : ℕ → DeskState → Result DeskEdit LineFault → DeskOut
  desk_out number d read = desk_replied number (desk_answered d read)

  -- The run of lines from this number on: each is answered before the next is looked at. `any` says whether a line
  -- before them was refused.
  abbrev pub desk_lines_run : (number : ℕ) → DeskState → (any : Bool) → List (List ℕ) → Run
  desk_lines_run number d any [] = ends (said [] (ending_by any))
  desk_lines_run number d any (l ∷ ls) =
      may_parse l (λ t.
      counts (desk_least tiles scripts d (desk_line t)) (desk_most tiles scripts d (desk_line t)) (
      says (desk_out number d (desk_line t)).text (
      desk_lines_run (number + 1) (desk_out number d (desk_line t)).after
      (any || (desk_out number d (desk_line t)).is_refused) ls)))

  -- The run of a script of a desk.
  abbrev pub desk_script_run : DeskState → List ℕ → Run
  desk_script_run d script = desk_lines_run 1 d false (script_lines script)
