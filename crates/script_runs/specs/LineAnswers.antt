-- What contracts see of the answer to a line.
use Rattle.std.specs.Prelude.{◌≡◌, ℕ, ◌+◌, ◌≤◌, List, Bool, Result, ◌⊎◌}
use Rattle.edit_script.specs.Edit.{Edit}
use Rattle.edit_script.specs.Line.{AnswersLine}
use Rattle.edit_script.specs.declared.command.LineFault.{LineFault}
use Rattle.edit_session.specs.SessionState.{SessionState}
use Rattle.program_runs.specs.Written.{RoseBetween}
use Rattle.script_runs.specs.ScriptRun.{LineOut, line_out, line_least, line_most}
use Rattle.script_runs.specs.declared.script.LineAnswer.{LineAnswer}
use Rattle.style_layout.specs.Shown.{SourceTile}

-- an answer, with what is shown after it
abbrev pub line_seen : SessionState → LineAnswer → LineOut
line_seen after answer = record { after = after; text = answer.text.items; is_refused = answer.is_refused }

-- over tiles, with the test on texts that can be shown, by the steps before a line and after it
module _ (tiles : List SourceTile) (scripts : List ℕ → Bool) (steps_old steps_new : ℕ) where
  -- what the bytes of the line of this number give
  abbrev pub LineGives : (can_change : Bool) (number : ℕ) → SessionState → (line : List ℕ) → LineOut → Type 0
  LineGives can_change number p line out =
      (read : Result Edit LineFault) × AnswersLine line read × (out ≡ line_out tiles scripts can_change number p read)
      × RoseBetween steps_old steps_new (line_least tiles scripts p read) (line_most tiles scripts p read)

  -- the steps did not rise, or by no more than the bytes of the line say
  abbrev pub StepsAreOfLine : SessionState → (line : List ℕ) → Type 0
  StepsAreOfLine p line =
      (steps_new ≤ steps_old)
      ⊎ ((read : Result Edit LineFault) × AnswersLine line read
      × (steps_new ≤ steps_old + line_most tiles scripts p read))
