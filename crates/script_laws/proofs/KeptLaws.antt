-- What is kept changes no answer but that of `stats`.
use Rattle.std.proofs.Common.{◌≡◌, ℕ, ◌+◌, List, [], ◌∷◌, refl, sym, ap, subst, Bool, false, Option, Some, None, Ok, Err}
use Rattle.std.specs.Prelude.{◌≢◌}
use Rattle.edit_script.specs.Edit as edits
use Rattle.edit_script.specs.Edit.{Edit}
use Rattle.kept_layers.specs.KeptLayers.{StyleKept}
use Rattle.style_layout.specs.Shown.{SourceTile}
use Rattle.edit_session.specs.Applied.{Reply, presented_after, unless_refused, refusal, applied}
use Rattle.edit_session.specs.SessionState.{SessionState}
use Rattle.edit_session.specs.declared.answer.Refusal.{Refusal}
use Rattle.script_runs.specs.AnswerTexts.{is_refused, reply_text}
use Rattle.script_laws.specs.ScriptLaw.{IsShownAlike, AnsweredAlike, Line, asks_number, line, outs, shown_after}
use Rattle.script_laws.specs.ScriptLaw.{WhatIsKeptChangesNoAnswer, WhatIsKeptChangesNoScript}

module _ (tiles : List SourceTile) (scripts : List ℕ → Bool) (can_change : Bool) where
  -- ---- an edit

  -- an edit is answered the same, and leaves states that are shown alike
  abbrev GoesAlike : SessionState → SessionState → Edit → Type 0
  GoesAlike p q e =
      (e ≢ edits.stats → (applied tiles scripts can_change q e).1 ≡ (applied tiles scripts can_change p e).1)
      × IsShownAlike (applied tiles scripts can_change p e).0 (applied tiles scripts can_change q e).0

  same_reply : (r : Option Refusal) (before after other_before other_after : SessionState) →
      (unless_refused r other_before other_after).1 ≡ (unless_refused r before after).1
  same_reply None before after other_before other_after = refl
  same_reply (Some x) before after other_before other_after = refl

  alike_unless : (r : Option Refusal) (before after other_before other_after : SessionState) → IsShownAlike before other_before →
      IsShownAlike after other_after → IsShownAlike (unless_refused r before after).0 (unless_refused r other_before other_after).0
  alike_unless None before after other_before other_after before_alike after_alike = after_alike
  alike_unless (Some x) before after other_before other_after before_alike after_alike = before_alike

  -- ---- by what is kept of the other state

  module _ (p : SessionState) (kept : StyleKept) (last : ℕ) where
    abbrev other : SessionState
    other = record p { kept = kept; last = last }

    changed_alike : (e : Edit) → IsShownAlike (presented_after tiles p e) (presented_after tiles other e)
    changed_alike (edits.set_zoom zoom) = refl
    changed_alike (edits.set_state source layer id members) = refl
    changed_alike (edits.remove_state source layer id key) = refl
    changed_alike (edits.add_image name) = refl
    changed_alike (edits.remove_image name) = refl
    changed_alike (edits.set_global name d) = refl
    changed_alike e = refl

    goes_alike : (e : Edit) → GoesAlike p other e
    goes_alike edits.list = ((λ h. refl), refl)
    goes_alike edits.stats = ((λ h. absurd (h refl)), refl)
    goes_alike edits.style = ((λ h. refl), refl)
    goes_alike e =
        let r = refusal tiles scripts can_change p e in
        let after = presented_after tiles p e in
        let other_after = presented_after tiles other e in
        ((λ h. same_reply r p after other other_after), alike_unless r p after other other_after refl (changed_alike e))

  edit_alike : (p q : SessionState) (e : Edit) → IsShownAlike p q → GoesAlike p q e
  edit_alike p q e is = subst (λ x. GoesAlike p x e) (sym is) (goes_alike p q.kept q.last e)

  -- ---- lines

  -- a line that asks for no number is answered the same; each is accepted or refused as before
  abbrev LineAlike : (number : ℕ) (p q : SessionState) → Line → Type 0
  LineAlike number p q l =
      (asks_number l ≡ false → (line tiles scripts can_change number q l).text ≡ (line tiles scripts can_change number p l).text)
      × ((line tiles scripts can_change number q l).is_refused ≡ (line tiles scripts can_change number p l).is_refused)
      × IsShownAlike (line tiles scripts can_change number p l).after (line tiles scripts can_change number q l).after

  replied_alike : (number : ℕ) (p q : SessionState) (e : Edit) → e ≢ edits.stats → GoesAlike p q e → LineAlike number p q (Ok e)
  replied_alike number p q e other (reply, after) =
      ((λ h. ap (reply_text number) (reply other)), ap is_refused (reply other), after)

  command_alike : (number : ℕ) (p q : SessionState) (e : Edit) → IsShownAlike p q → LineAlike number p q (Ok e)
  command_alike number p q edits.stats is = ((λ h. absurd (cc)), refl, is)
  command_alike number p q e is = replied_alike number p q e (λ h. absurd (cc)) (edit_alike p q e is)

  line_alike : (number : ℕ) (p q : SessionState) (l : Line) → IsShownAlike p q → LineAlike number p q l
  line_alike number p q (Ok e) is = command_alike number p q e is
  line_alike number p q (Err fault) is = ((λ h. refl), refl, is)

  lines_alike : (number : ℕ) (p q : SessionState) (ls : List Line) → IsShownAlike p q →
      AnsweredAlike ls (outs tiles scripts can_change number p ls) (outs tiles scripts can_change number q ls)
      × IsShownAlike (shown_after tiles scripts can_change number p ls) (shown_after tiles scripts can_change number q ls)
  lines_alike number p q [] is = (tt, is)
  lines_alike number p q (l ∷ ls) is =
      let (text, refused, after) = line_alike number p q l is in
      let (answers, later) =
      lines_alike (number + 1) (line tiles scripts can_change number p l).after (line tiles scripts can_change number q l).after ls after in
      ((text, refused, answers), later)

pub what_is_kept_changes_no_answer : WhatIsKeptChangesNoAnswer
what_is_kept_changes_no_answer tiles scripts can_change p q edit is = edit_alike tiles scripts can_change p q edit is

pub what_is_kept_changes_no_script : WhatIsKeptChangesNoScript
what_is_kept_changes_no_script tiles scripts can_change number p q ls is = lines_alike tiles scripts can_change number p q ls is
