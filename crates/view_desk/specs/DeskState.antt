-- What a desk represents, and what a line makes of it. Source: own.
use Rattle.std.specs.Prelude.{ℕ, ℤ, List, [], ◌∷◌, ◌++◌, length, Bool, not, nat_le, Option, Some, None, is_some, Result}
use Rattle.std.specs.Prelude.{Ok, if◌then◌else◌}
use Rattle.std.specs.Bool.{then_some}
use Rattle.std.specs.Str.{bytes_eq}
use Rattle.edit_script.specs.Edit.{Edit}
use Rattle.edit_script.specs.declared.command.LineFault.{LineFault}
use Rattle.edit_session.specs.Applied.{Reply, applied, least_steps, most_steps, tell_count_after}
use Rattle.edit_session.specs.OpenViews.{OpenView, fresh_view, in_each, shown_in, view_left}
use Rattle.edit_session.specs.SessionState.{SessionState}
use Rattle.style_edits.specs.Causes.{first_cause}
use Rattle.style_layout.specs.Shown.{SourceTile}
use Rattle.style_parts.specs.Numbers.{is_zoom}
use Rattle.view_desk.specs.DeskLines.{DeskEdit, open_view, close_view, in_view, of_style}
use Rattle.view_desk.specs.declared.answers.DeskRefusal.{DeskRefusal}
use Rattle.view_desk.specs.declared.answers.DeskRefusal.TheVariants.{UnknownView, ViewTaken, ZoomRange, ViewLimit}

-- A style under edit, and the views that are open, in the order in which they were opened.
pub record DeskState : Type 0 where
  pub style : SessionState
  pub views : List OpenView

-- The most cells that the style of a desk may have over its tiles. Source: own.
abbrev pub desk_limit : ℕ
desk_limit = 1000000

abbrev pub most_views : ℕ
most_views = 8

-- a style, before a view is open
abbrev pub desk_over : SessionState → DeskState
desk_over p = record { style = p; views = [] }

-- ---- views by their names

abbrev pub is_named : List ℕ → OpenView → Bool
is_named name v = bytes_eq v.name name

abbrev pub view_named : List ℕ → List OpenView → Option OpenView
view_named name [] = None
view_named name (v ∷ vs) = if is_named name v then Some v else view_named name vs

-- the views with another one in the place of that of a name, and without it
abbrev pub with_view : List ℕ → OpenView → List OpenView → List OpenView
with_view name u [] = []
with_view name u (v ∷ vs) = if is_named name v then u ∷ vs else v ∷ with_view name u vs

abbrev pub without_view : List ℕ → List OpenView → List OpenView
without_view name [] = []
without_view name (v ∷ vs) = if is_named name v then vs else v ∷ without_view name vs

-- ---- what is answered

pub data DeskReply : Type 0 where
  faulty : LineFault → DeskReply
  refused : DeskRefusal → DeskReply
  -- a view was opened or closed
  done : DeskReply
  -- the answer to a line of the style
  style_reply : Reply → DeskReply
  -- the name of a view, and the answer to a line of it
  view_reply : (name : List ℕ) → Reply → DeskReply

-- the first cause why a view cannot be opened
abbrev pub opening_refusal : DeskState → List ℕ → ℤ → Option DeskRefusal
opening_refusal d name zoom = first_cause (
    then_some (is_some (view_named name d.views)) ViewTaken ∷
    then_some (not (is_zoom (Some zoom))) ZoomRange ∷
    then_some (nat_le most_views (length d.views)) ViewLimit ∷ [])

abbrev pub opened_unless : Option DeskRefusal → DeskState → List ℕ → ℤ → DeskState × DeskReply
opened_unless (Some refusal) d name zoom = (d, refused refusal)
opened_unless None d name zoom = (record d { views = d.views ++ fresh_view d.style name zoom ∷ [] }, done)

abbrev pub closed_if : DeskState → List ℕ → Option OpenView → DeskState × DeskReply
closed_if d name (Some v) = (record d { views = without_view name d.views }, done)
closed_if d name None = (d, refused UnknownView)

-- over tiles, with the test on texts that can be shown; `can_change` says whether the test of images can change
module _ (tiles : List SourceTile) (scripts : List ℕ → Bool) (can_change : Bool) where
  -- what is left of a view by what is shown in it, and the answer: the style and the other views stay
  abbrev pub left_by : DeskState → List ℕ → OpenView → SessionState × Reply → DeskState × DeskReply
  left_by d name v a = (record d { views = with_view name (view_left v a.0) d.views }, view_reply name a.1)

  abbrev pub done_if : DeskState → List ℕ → Edit → Option OpenView → DeskState × DeskReply
  done_if d name edit (Some v) = left_by d name v (applied tiles scripts can_change (shown_in d.style v) edit)
  done_if d name edit None = (d, refused UnknownView)

  -- what is left of the style, and the answer: the edit is one in every view
  abbrev pub done_to_all : DeskState → Edit → SessionState × Reply → DeskState × DeskReply
  done_to_all d edit a =
      (record { style = a.0; views = in_each tiles scripts can_change d.style edit d.views }, style_reply a.1)

  -- What a desk represents after a line, and what is answered. Source: own.
  abbrev pub desk_applied : DeskState → DeskEdit → DeskState × DeskReply
  desk_applied d (open_view name zoom) = opened_unless (opening_refusal d name zoom) d name zoom
  desk_applied d (close_view name) = closed_if d name (view_named name d.views)
  desk_applied d (in_view name edit) = done_if d name edit (view_named name d.views)
  desk_applied d (of_style edit) = done_to_all d edit (applied tiles scripts can_change d.style edit)

-- ---- steps

module _ (tiles : List SourceTile) (scripts : List ℕ → Bool) where
  -- in a view, where it is open
  abbrev pub least_in : SessionState → Edit → Option OpenView → ℕ
  least_in p edit (Some v) = least_steps tiles scripts (shown_in p v) edit
  least_in p edit None = 0

  abbrev pub most_in : SessionState → Edit → Option OpenView → ℕ
  most_in p edit (Some v) = most_steps tiles scripts (shown_in p v) edit
  most_in p edit None = 0

  -- The steps that what a line says counts: at least so many where it is answered, and at most so many in any case.
  -- Only a listing in a view counts any. Source: own.
  abbrev pub desk_least : DeskState → Result DeskEdit LineFault → ℕ
  desk_least d (Ok (in_view name edit)) = least_in d.style edit (view_named name d.views)
  desk_least d read = 0

  abbrev pub desk_most : DeskState → Result DeskEdit LineFault → ℕ
  desk_most d (Ok (in_view name edit)) = most_in d.style edit (view_named name d.views)
  desk_most d read = 0

-- ---- reports to the test of images

-- How many there were, once a line is answered: those of an edit of the style, which are made once however many views
-- show it. What is done in a view, or to the views, reports nothing, and so does a line with a fault. Source: own.
abbrev pub desk_image_reports_after : (can_change : Bool) → Result DeskEdit LineFault → ℕ → ℕ
desk_image_reports_after can_change (Ok (of_style edit)) n = tell_count_after can_change edit n
desk_image_reports_after can_change read n = n
