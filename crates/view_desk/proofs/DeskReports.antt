-- What a line of a desk reports to the test of images, and what that then answers.
use Rattle.std.proofs.Common.{◌≡◌, ◌∙◌, refl, sym, ap, subst, inl, inr, ℕ, ℤ, List, Bool, true, false}
use Rattle.std.specs.Prelude.{Option, Some, None, Result, Ok, Err, ◌⊎◌}
use Rattle.edit_script.specs.Edit as edits
use Rattle.edit_script.specs.Edit.{Edit}
use Rattle.edit_script.specs.declared.command.LineFault.{LineFault}
use Rattle.edit_session.specs.Applied.{is_of_view, tell_count_after}
use Rattle.edit_session.specs.OpenViews.{OpenView}
use Rattle.edit_session.specs.SessionState.{SessionState}
use Rattle.script_runs.proofs.ImageReports.{applied_images}
use Rattle.style_layout.specs.Shown.{SourceTile}
use Rattle.view_desk.specs.DeskLines.{DeskEdit, AnswersDeskLine, open_view, close_view, in_view, of_style}
use Rattle.view_desk.specs.DeskRun.{DeskOut, desk_answered}
use Rattle.view_desk.specs.DeskState.{DeskReply, DeskState, closed_if, desk_image_reports_after, done_if, opened_unless, opening_refusal, view_named}
use Rattle.view_desk.specs.View.{desk_images_after, DeskGives, DeskLineGives, ImageReportsOfDeskLine, ImagesOfDeskLine}
use Rattle.view_desk.specs.declared.answers.DeskRefusal.{DeskRefusal}

-- ---- what is done in a view

of_view_is_silent : (can_change : Bool) (edit : Edit) (n : ℕ) → is_of_view edit ≡ true → tell_count_after can_change edit n ≡ n
of_view_is_silent can_change (edits.add_image name) n is = absurd (cc)
of_view_is_silent can_change (edits.remove_image name) n is = absurd (cc)
of_view_is_silent can_change edit n is = refl

-- whether or not an allocation of the session had failed
pub view_is_silent : (can_change : Bool) (edit : Edit) (before after : ℕ) (lacks : Bool) → is_of_view edit ≡ true
    → (lacks ≡ false → after ≡ tell_count_after can_change edit before) → (lacks ≡ true → after ≡ before) → after ≡ before
view_is_silent can_change edit before after true is counted silent = silent refl
view_is_silent can_change edit before after false is counted silent = counted refl ∙ of_view_is_silent can_change edit before is

-- ---- a line, by what is read of it

module _ (can_change : Bool) (line : List ℕ) (read says : Result DeskEdit LineFault) (is : read ≡ says) (answers : AnswersDeskLine line read)
    (before after : ℕ) where
  pub line_reports : after ≡ desk_image_reports_after can_change says before → ImageReportsOfDeskLine can_change line before after
  line_reports counted =
      (read, answers, subst (λ (r : Result DeskEdit LineFault). after ≡ desk_image_reports_after can_change r before) (sym is) counted)

  -- It was answered, or it was not.
  pub line_may_report : (after ≡ before) ⊎ (after ≡ desk_image_reports_after can_change says before)
      → (after ≡ before) ⊎ ImageReportsOfDeskLine can_change line before after
  line_may_report (inl same) = inl same
  line_may_report (inr counted) = inr (line_reports counted)

-- ---- what a line makes of the answers of the test

-- what is done to views leaves the style
opened_style : (o : Option DeskRefusal) (d : DeskState) (name : List ℕ) (zoom : ℤ) → (opened_unless o d name zoom).0.style ≡ d.style
opened_style None d name zoom = refl
opened_style (Some refusal) d name zoom = refl

closed_style : (d : DeskState) (name : List ℕ) (v : Option OpenView) → (closed_if d name v).0.style ≡ d.style
closed_style d name (Some v) = refl
closed_style d name None = refl

module _ (tiles : List SourceTile) (scripts : List ℕ → Bool) (can_change : Bool) (d : DeskState) where
  done_style : (name : List ℕ) (edit : Edit) (v : Option OpenView) → (done_if tiles scripts can_change d name edit v).0.style ≡ d.style
  done_style name edit (Some v) = refl
  done_style name edit None = refl

  answered_images : (read : Result DeskEdit LineFault)
      → (desk_answered tiles scripts can_change d read).0.style.has_image ≡ desk_images_after can_change read d.style.has_image
  answered_images (Ok (open_view name zoom)) = ap (λ (p : SessionState). p.has_image) (opened_style (opening_refusal d name zoom) d name zoom)
  answered_images (Ok (close_view name)) = ap (λ (p : SessionState). p.has_image) (closed_style d name (view_named name d.views))
  answered_images (Ok (in_view name edit)) = ap (λ (p : SessionState). p.has_image) (done_style name edit (view_named name d.views))
  answered_images (Ok (of_style edit)) = applied_images tiles scripts d.style can_change edit
  answered_images (Err fault) = refl

  module _ (steps_old steps_new : ℕ) (line : List ℕ) where
    pub given_images : (given : DeskState × DeskReply) → DeskGives tiles scripts steps_old steps_new can_change d line given
        → ImagesOfDeskLine can_change line d.style.has_image given.0.style.has_image
    given_images given (read, answers, is, rose) =
        (read, answers, ap (λ (g : DeskState × DeskReply). g.0.style.has_image) is ∙ answered_images read)

    pub line_images : (number : ℕ) (out : DeskOut) → DeskLineGives tiles scripts steps_old steps_new can_change number d line out
        → ImagesOfDeskLine can_change line d.style.has_image out.after.style.has_image
    line_images number out (read, answers, is, rose) =
        (read, answers, ap (λ (o : DeskOut). o.after.style.has_image) is ∙ answered_images read)
