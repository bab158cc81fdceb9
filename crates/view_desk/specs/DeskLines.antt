-- Which trees are lines of a desk. Source: own.
use Rattle.std.specs.Prelude.{◌≡◌, ℕ, ℤ, List, [], ◌∷◌, codes, Bool, false, ◌||◌, Result, Ok, Err, ◌⊎◌, if◌then◌else◌}
use Rattle.std.specs.Str.{bytes_eq}
use Rattle.json_tokens.specs.Rules.{all_rules}
use Rattle.decimal_json.specs.Grammar.{Spells}
use Rattle.decimal_json.specs.Parses.{IsAccepted}
use Rattle.decimal_json.specs.Tree.{Tree, text, number, list}
use Rattle.fixed_num.specs.Decimal.{read_text}
use Rattle.edit_script.specs.Command.{command_of, in_bound}
use Rattle.edit_script.specs.Edit.{Edit}
use Rattle.edit_script.specs.Form.{elements_of}
use Rattle.edit_script.specs.declared.command.LineFault.{LineFault}
use Rattle.edit_script.specs.declared.command.LineFault.TheVariants.{Json, Form}

-- What a line of a desk says.
pub data DeskEdit : Type 0 where
  -- a view is opened, at a zoom in millionths
  open_view : (name : List ℕ) → (zoom : ℤ) → DeskEdit
  close_view : (name : List ℕ) → DeskEdit
  -- something is done in a view
  in_view : (name : List ℕ) → Edit → DeskEdit
  -- a line of the style, which all views show
  of_style : Edit → DeskEdit

-- ---- lines that belong to a view: the zoom, the states, and what is asked of what is shown

abbrev pub is_view_name : List ℕ → Bool
is_view_name name =
    bytes_eq name (codes "set-zoom")
    || (bytes_eq name (codes "set-state")
    || (bytes_eq name (codes "remove-state")
    || (bytes_eq name (codes "list")
    || bytes_eq name (codes "stats"))))

abbrev pub begins_a_view_line : List Tree → Bool
begins_a_view_line (text name ∷ others) = is_view_name name
begins_a_view_line _ = false

abbrev pub is_view_line : Tree → Bool
is_view_line (list ts) = begins_a_view_line (elements_of ts)
is_view_line _ = false

-- the command of a line that belongs to a view
abbrev pub nested_command : Tree → Result Edit LineFault
nested_command t = if is_view_line t then command_of t else Err Form

-- ---- the forms by the elements after the name

abbrev pub opened_at : List ℕ → Result ℤ LineFault → Result DeskEdit LineFault
opened_at name (Ok zoom) = Ok (open_view name zoom)
opened_at name (Err fault) = Err fault

abbrev pub open_form : List Tree → Result DeskEdit LineFault
open_form (text name ∷ number z ∷ []) = opened_at name (in_bound (read_text z))
open_form _ = Err Form

abbrev pub close_form : List Tree → Result DeskEdit LineFault
close_form (text name ∷ []) = Ok (close_view name)
close_form _ = Err Form

abbrev pub done_in : List ℕ → Result Edit LineFault → Result DeskEdit LineFault
done_in name (Ok edit) = Ok (in_view name edit)
done_in name (Err fault) = Err fault

abbrev pub view_form : List Tree → Result DeskEdit LineFault
view_form (text name ∷ line ∷ []) = done_in name (nested_command line)
view_form _ = Err Form

abbrev pub style_edit : Result Edit LineFault → Result DeskEdit LineFault
style_edit (Ok edit) = Ok (of_style edit)
style_edit (Err fault) = Err fault

-- ---- a line: its form first, and then its numbers

-- A line that belongs to a view is none outside of one, by its name alone.
abbrev pub command_named : Tree → (name : List ℕ) → List Tree → Result DeskEdit LineFault
command_named t name elements =
    if bytes_eq name (codes "open-view") then open_form elements else
    if bytes_eq name (codes "close-view") then close_form elements else
    if bytes_eq name (codes "view") then view_form elements else
    if is_view_name name then Err Form else
    style_edit (command_of t)

abbrev pub array_command : Tree → List Tree → Result DeskEdit LineFault
array_command t (text name ∷ elements) = command_named t name elements
array_command t _ = Err Form

-- What a tree says as a line of a desk, or its fault. Source: own.
abbrev pub desk_command : Tree → Result DeskEdit LineFault
desk_command (list ts) = array_command (list ts) (elements_of ts)
desk_command _ = Err Form

-- The answer to the bytes of a line: what the tree says that they spell, or Json where they spell none.
abbrev pub AnswersDeskLine : (line : List ℕ) (read : Result DeskEdit LineFault) → Type 0
AnswersDeskLine line read =
    ((t : Tree) × Spells all_rules line t × (read ≡ desk_command t))
    ⊎ ((IsAccepted all_rules line → ⊥) × (read ≡ Err Json))
