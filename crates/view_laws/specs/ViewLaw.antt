-- Views do not notice one another: the lines of a view are answered as `replay` answers them in a script of the lines
-- of the style and its own alone. So each view keeps its own cells: `stats` gives the number that it would give there.
-- Source: own.
use Rattle.std.specs.Prelude.{◌≡◌, ℕ, ◌+◌, ℤ, pos, List, [], ◌∷◌, ◌++◌, length, Bool, false, Option, None, Result, Ok}
use Rattle.std.specs.Prelude.{if◌then◌else◌}
use Rattle.std.specs.Str.{bytes_eq}
use Rattle.decimal_json.specs.Tree.{Tree}
use Rattle.edit_script.specs.Edit.{Edit}
use Rattle.edit_script.specs.declared.command.LineFault.{LineFault}
use Rattle.edit_session.specs.Applied.{Reply, applied, is_of_view}
use Rattle.edit_session.specs.SessionState.{SessionState, opened}
use Rattle.style_layout.specs.Shown.{SourceTile}
use Rattle.view_desk.specs.DeskLines.{DeskEdit, open_view, close_view, in_view, of_style}
use Rattle.view_desk.specs.DeskRun.{desk_answered, desk_line}
use Rattle.view_desk.specs.DeskState.{DeskState, DeskReply, view_reply, desk_limit, desk_over, opening_refusal}

-- ---- the lines of a desk, by the trees that they spell, where they spell one

-- whether a line closes the view of a name
abbrev pub closes : List ℕ → Result DeskEdit LineFault → Bool
closes name (Ok (close_view other)) = bytes_eq other name
closes name read = false

-- the answer to the line of this number, where it is one in the view of a name
abbrev pub of_one : ℕ → List ℕ → DeskReply → List (ℕ × Reply)
of_one number name (view_reply other reply) = if bytes_eq other name then (number, reply) ∷ [] else []
of_one number name reply = []

-- over tiles, with the test on texts that can be shown; `can_change` says whether the test of images can change
module _ (tiles : List SourceTile) (scripts : List ℕ → Bool) (can_change : Bool) where
  -- what a desk represents after lines
  abbrev pub desk_after : DeskState → List (Option Tree) → DeskState
  desk_after d [] = d
  desk_after d (t ∷ ts) = desk_after (desk_answered tiles scripts can_change d (desk_line t)).0 ts

  -- What is answered in the view of a name, from the line of this number on until a line closes it, with the numbers of
  -- lines. What is written after the line `view NAME` is `reply_text` of both.
  abbrev pub view_replies : ℕ → (name : List ℕ) → DeskState → List (Option Tree) → List (ℕ × Reply)
  view_replies number name d [] = []
  view_replies number name d (t ∷ ts) =
      if closes name (desk_line t) then []
      else of_one number name (desk_answered tiles scripts can_change d (desk_line t)).1
      ++ view_replies (number + 1) name (desk_answered tiles scripts can_change d (desk_line t)).0 ts

-- ---- the script of one view: the lines of the style, and its own, each with its number

abbrev pub style_command : ℕ → Result DeskEdit LineFault → List (ℕ × Edit)
style_command number (Ok (of_style edit)) = (number, edit) ∷ []
style_command number read = []

abbrev pub style_commands : ℕ → List (Option Tree) → List (ℕ × Edit)
style_commands number [] = []
style_commands number (t ∷ ts) = style_command number (desk_line t) ++ style_commands (number + 1) ts

abbrev pub command_in : ℕ → (name : List ℕ) → Result DeskEdit LineFault → List (ℕ × Edit)
command_in number name (Ok (of_style edit)) = (number, edit) ∷ []
command_in number name (Ok (in_view other edit)) = if bytes_eq other name then (number, edit) ∷ [] else []
command_in number name read = []

-- from the line of this number on until a line closes the view
abbrev pub commands_until_closed : ℕ → (name : List ℕ) → List (Option Tree) → List (ℕ × Edit)
commands_until_closed number name [] = []
commands_until_closed number name (t ∷ ts) =
    if closes name (desk_line t) then [] else
    command_in number name (desk_line t) ++ commands_until_closed (number + 1) name ts

-- what `replay` answers to those of numbered commands that belong to a view
abbrev pub replayed : List SourceTile → (List ℕ → Bool) → Bool → SessionState → List (ℕ × Edit) → List (ℕ × Reply)
replayed tiles scripts can_change p [] = []
replayed tiles scripts can_change p (c ∷ cs) =
    (if is_of_view c.1 then (c.0, (applied tiles scripts can_change p c.1).1) ∷ [] else [])
    ++ replayed tiles scripts can_change (applied tiles scripts can_change p c.1).0 cs

-- For each script, each line of it that opens a view, and the lines after it until the view is closed: what is answered
-- in the view is what `replay` answers at the view's first zoom, to the same lines of the script without those of other
-- views.
abbrev pub EachViewIsAReplay : Type 0
EachViewIsAReplay =
    (tiles : List SourceTile) (scripts has_image : List ℕ → Bool) (can_change : Bool) (document : Tree)
    (before after : List (Option Tree)) (line : Option Tree) (name : List ℕ) (zoom : ℤ) →
    let start = desk_over (opened desk_limit document (pos 0) has_image) in
    desk_line line ≡ Ok (open_view name zoom) →
    opening_refusal (desk_after tiles scripts can_change start before) name zoom ≡ None →
    view_replies tiles scripts can_change (length before + 2) name
    (desk_after tiles scripts can_change start (before ++ line ∷ [])) after
    ≡ replayed tiles scripts can_change (opened desk_limit document zoom has_image)
    (style_commands 1 before ++ commands_until_closed (length before + 2) name after)
