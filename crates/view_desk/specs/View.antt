-- What the program's values are to a clause.
use Rattle.std.specs.Prelude.{◌≡◌, ◌≤◌, ℕ, ◌+◌, List, ◌++◌, map, Bool, true, false, Result, Ok, Err, ◌⊎◌}
use Rattle.edit_script.specs.View.{command_seen}
use Rattle.edit_script.specs.declared.command.LineFault.{LineFault}
use Rattle.edit_session.specs.Applied.{is_of_view}
use Rattle.edit_session.specs.View.{reply_seen, session_state, tiles_of, view_seen, AreSoundViews, IsSoundSession}
use Rattle.program_runs.specs.Written.{RoseBetween}
use Rattle.script_runs.specs.ImageReports.{images_after}
use Rattle.style_layout.specs.Shown.{SourceTile}
use Rattle.view_desk.specs.DeskLines.{DeskEdit, open_view, close_view, in_view, of_style, AnswersDeskLine}
use Rattle.view_desk.specs.DeskRun.{DeskOut, desk_answered, desk_out}
use Rattle.view_desk.specs.DeskState.{DeskReply, DeskState, faulty, refused, done, style_reply, view_reply, desk_least}
use Rattle.view_desk.specs.DeskState.{desk_most, desk_image_reports_after}
use Rattle.view_desk.specs.declared.answers.DeskAnswer.{DeskAnswer}
use Rattle.view_desk.specs.declared.answers.DeskAnswer.TheVariants.{Fault, Refused, Done, Style, View}
use Rattle.view_desk.specs.declared.desk.Desk.{Desk}
use Rattle.view_desk.specs.declared.lines.DeskCommand.{DeskCommand}
use Rattle.view_desk.specs.declared.lines.DeskCommand.TheVariants.{OpenView as OpensView, CloseView, InView, OfStyle}
use Rattle.view_desk.specs.declared.script.DeskLineAnswer.{DeskLineAnswer}

abbrev pub desk_command_seen : DeskCommand → DeskEdit
desk_command_seen (OpensView name zoom) = open_view name zoom
desk_command_seen (CloseView name) = close_view name
desk_command_seen (InView name command) = in_view name (command_seen command)
desk_command_seen (OfStyle command) = of_style (command_seen command)

abbrev pub desk_read_seen : Result DeskCommand LineFault → Result DeskEdit LineFault
desk_read_seen (Ok command) = Ok (desk_command_seen command)
desk_read_seen (Err fault) = Err fault

-- What is to be done in a view belongs to one, and what is to be done to the style does not.
abbrev pub IsWellSorted : DeskCommand → Type 0
IsWellSorted (OpensView name zoom) = Unit {0}
IsWellSorted (CloseView name) = Unit {0}
IsWellSorted (InView name command) = is_of_view (command_seen command) ≡ true
IsWellSorted (OfStyle command) = is_of_view (command_seen command) ≡ false

abbrev pub answer_seen : DeskAnswer → DeskReply
answer_seen (Fault fault) = faulty fault
answer_seen (Refused refusal) = refused refusal
answer_seen Done = done
answer_seen (Style answer) = style_reply (reply_seen answer)
answer_seen (View name answer) = view_reply name (reply_seen answer)

-- ---- a desk

-- What a desk represents, with the test of images that is handed in. Source: own.
abbrev pub desk_state : Desk → (List ℕ → Bool) → DeskState
desk_state desk has_image =
    record { style = session_state desk.session has_image; views = map view_seen desk.views.items }

abbrev pub desk_tiles : Desk → List SourceTile
desk_tiles desk = tiles_of desk.session

-- What holds of a desk from its opening on, by the tests of images and scripts that are handed in to each call.
pub record IsSoundDesk (desk : Desk) (has_image scripts : List ℕ → Bool) : Type 0 where
  pub session : IsSoundSession desk.session has_image scripts
  pub views : AreSoundViews desk.session has_image scripts desk.views.items

-- ---- lines

-- the texts of an answer, with what the desk then represents
abbrev pub desk_line_seen : DeskState → DeskLineAnswer → DeskOut
desk_line_seen after answer =
    record { after = after; text = answer.view.items ++ answer.text.items; is_refused = answer.is_refused }

-- over tiles, with the test on texts that can be shown, by the steps before a line and after it
module _ (tiles : List SourceTile) (scripts : List ℕ → Bool) (steps_old steps_new : ℕ) where
  -- what the bytes of a line give, and the answer
  abbrev pub DeskGives : (can_change : Bool) → DeskState → (line : List ℕ) → DeskState × DeskReply → Type 0
  DeskGives can_change d line given =
      (read : Result DeskEdit LineFault) × AnswersDeskLine line read
      × (given ≡ desk_answered tiles scripts can_change d read)
      × RoseBetween steps_old steps_new (desk_least tiles scripts d read) (desk_most tiles scripts d read)

  -- what the bytes of the line of this number give
  abbrev pub DeskLineGives : (can_change : Bool) (number : ℕ) → DeskState → (line : List ℕ) → DeskOut → Type 0
  DeskLineGives can_change number d line out =
      (read : Result DeskEdit LineFault) × AnswersDeskLine line read
      × (out ≡ desk_out tiles scripts can_change number d read)
      × RoseBetween steps_old steps_new (desk_least tiles scripts d read) (desk_most tiles scripts d read)

  -- the steps did not rise, or by no more than the bytes of the line say
  abbrev pub StepsAreOfDeskLine : DeskState → (line : List ℕ) → Type 0
  StepsAreOfDeskLine d line =
      (steps_new ≤ steps_old)
      ⊎ ((read : Result DeskEdit LineFault) × AnswersDeskLine line read
      × (steps_new ≤ steps_old + desk_most tiles scripts d read))

-- The bytes of a line take the number of reports to the test of images from one to another.
abbrev pub ImageReportsOfDeskLine : (can_change : Bool) → (line : List ℕ) → (before after : ℕ) → Type 0
ImageReportsOfDeskLine can_change line before after =
    (read : Result DeskEdit LineFault) × AnswersDeskLine line read
    × (after ≡ desk_image_reports_after can_change read before)

-- What the test of images answers, once a line is answered: an edit of the style makes of it what it makes of it in
-- a session, and all else leaves it. Source: own.
abbrev pub desk_images_after : (can_change : Bool) → Result DeskEdit LineFault → (List ℕ → Bool) → List ℕ → Bool
desk_images_after can_change (Ok (of_style edit)) has_image = images_after can_change edit has_image
desk_images_after can_change read has_image = has_image

-- The bytes of a line take what it answers from one to another.
abbrev pub ImagesOfDeskLine : (can_change : Bool) → (line : List ℕ) → (before after : List ℕ → Bool) → Type 0
ImagesOfDeskLine can_change line before after =
    (read : Result DeskEdit LineFault) × AnswersDeskLine line read × (after ≡ desk_images_after can_change read before)
