-- What is read of the tree that a line of a desk spells is the answer to the line, and what it says is well sorted.
use Rattle.std.proofs.Common.{◌∙◌, ap, inl, inr, subst, sym, Bool, true, false, not}
use Rattle.std.specs.Prelude.{◌≡◌, ◌≤◌, ◌+◌, ℕ, List, Result, Ok, Err, IfOk, OnErr, OnOk, Some}
use Rattle.decimal_json.specs.Parsed.{Parses}
use Rattle.decimal_json.specs.Tree.{Tree}
use Rattle.decimal_json.specs.View.{tree_of}
use Rattle.decimal_json.specs.declared.fault.JsonFault.{JsonFault}
use Rattle.decimal_json.specs.declared.tree.Json.{Json}
use Rattle.edit_script.specs.View.{command_seen}
use Rattle.edit_script.specs.declared.command.LineFault.{LineFault}
use Rattle.edit_session.specs.Applied.{is_of_view}
use Rattle.style_layout.specs.Shown.{SourceTile}
use Rattle.view_desk.specs.DeskLines.{DeskEdit, desk_command, AnswersDeskLine}
use Rattle.view_desk.specs.DeskRun.{desk_answered}
use Rattle.view_desk.specs.DeskState.{DeskState, desk_applied, desk_least, desk_most}
use Rattle.view_desk.specs.View.{answer_seen, desk_command_seen, desk_read_seen, DeskGives, IsWellSorted, StepsAreOfDeskLine}
use Rattle.view_desk.specs.declared.answers.DeskAnswer.{DeskAnswer}
use Rattle.view_desk.specs.declared.lines.DeskCommand.{DeskCommand}
use Rattle.view_desk.specs.declared.lines.DeskCommand.TheVariants.{OpenView, CloseView, InView, OfStyle}
use Rattle.view_desk.proofs.LineKinds.{has_kind, line_kind}

pub line_spelled : {E : Type 0} (line : List ℕ) (json : Json) (parsed : Result Json JsonFault) (r : Result (Result DeskCommand LineFault) E)
    → parsed ≡ Ok json → Parses line parsed → IfOk r (λ read. desk_read_seen read ≡ desk_command (tree_of json))
    → IfOk r (λ read. AnswersDeskLine line (desk_read_seen read))
line_spelled line json parsed (Ok read) e p q = inl (tree_of json, (subst (Parses line) e p).0, q)
line_spelled line json parsed (Err none) e p q = tt

-- ---- what a line says is well sorted

is_false : (b : Bool) → not b ≡ true → b ≡ false
is_false true h = absurd (cc)
is_false false h = λ i. false

command_sorted : (command : DeskCommand) → has_kind (Ok (desk_command_seen command)) ≡ true → IsWellSorted command
command_sorted (OpenView name zoom) h = tt
command_sorted (CloseView name) h = tt
command_sorted (InView name command) h = h
command_sorted (OfStyle command) h = is_false (is_of_view (command_seen command)) h

pub line_sorted : {E : Type 0} (t : Tree) (r : Result (Result DeskCommand LineFault) E)
    → IfOk r (λ read. desk_read_seen read ≡ desk_command t) → IfOk r (λ read. IfOk read IsWellSorted)
line_sorted t (Ok (Ok command)) is = command_sorted command (ap has_kind is ∙ line_kind (Some t))
line_sorted t (Ok (Err fault)) is = tt
line_sorted t (Err none) is = tt

-- ---- what a command gives is what the line gives

module _ {E : Type 0} (tiles : List SourceTile) (scripts : List ℕ → Bool) (can_change : Bool) (d after : DeskState) (line : List ℕ)
    (read : Result DeskEdit LineFault) (edit : DeskEdit) (is : read ≡ Ok edit) (answers : AnswersDeskLine line read)
    (r : Result DeskAnswer E) (steps_old steps_new : ℕ)
    (few : steps_new ≤ steps_old + desk_most tiles scripts d (Ok edit)) where
  -- no more steps were counted than the line may count
  most_counted : steps_new ≤ steps_old + desk_most tiles scripts d read
  most_counted = subst (λ (x : Result DeskEdit LineFault). steps_new ≤ steps_old + desk_most tiles scripts d x) (sym is) few

  pub command_given : IfOk r (λ answer. (after, answer_seen answer) ≡ desk_applied tiles scripts can_change d edit)
      → OnOk r (steps_old + desk_least tiles scripts d (Ok edit) ≤ steps_new)
      → IfOk r (λ answer. DeskGives tiles scripts steps_old steps_new can_change d line (after, answer_seen answer))
  command_given = by r where
    by : (r : Result DeskAnswer E) → IfOk r (λ answer. (after, answer_seen answer) ≡ desk_applied tiles scripts can_change d edit)
        → OnOk r (steps_old + desk_least tiles scripts d (Ok edit) ≤ steps_new)
        → IfOk r (λ answer. DeskGives tiles scripts steps_old steps_new can_change d line (after, answer_seen answer))
    by (Ok answer) given many = (
      read,
      answers,
      given ∙ sym (ap (desk_answered tiles scripts can_change d) is),
      (
        subst (λ (x : Result DeskEdit LineFault). steps_old + desk_least tiles scripts d x ≤ steps_new) (sym is) many,
        most_counted,
      ),
    )
    by (Err none) given many = tt

  pub command_most : OnErr r (StepsAreOfDeskLine tiles scripts steps_old steps_new d line)
  command_most = by r where
    by : (r : Result DeskAnswer E) → OnErr r (StepsAreOfDeskLine tiles scripts steps_old steps_new d line)
    by (Ok answer) = tt
    by (Err none) = inr (read, answers, most_counted)
