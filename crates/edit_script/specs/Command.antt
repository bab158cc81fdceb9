-- The command of a tree: its form first, and then the numbers.
use Rattle.std.specs.Prelude.{ℕ, ◌/◌, ◌%◌, ◌^◌, ℤ, pos, negsuc, List, ◌&&◌, nat_eq, nat_lt, Option, Some, None, Result}
use Rattle.std.specs.Prelude.{Ok, Err, if◌then◌else◌}
use Rattle.fixed_num.specs.Decimal.{read_text}
use Rattle.fixed_num.specs.declared.decimal.NumFault.{NumFault}
use Rattle.decimal_json.specs.Tree.{Tree}
use Rattle.prop_values.specs.JsonData.{json_data, fields_data, read_by}
use Rattle.edit_script.specs.declared.command.LineFault.{LineFault}
use Rattle.edit_script.specs.declared.command.LineFault.TheVariants.{Form as NoForm, Number}
use Rattle.edit_script.specs.Edit as edits
use Rattle.edit_script.specs.Edit.{Edit}
use Rattle.edit_script.specs.Form.{LineForm, plain, range, zoom, state, removal, global, form_of}

-- what is read of numbers, where none of them is past the bound
abbrev pub in_bound : {A : Type 0} → Result A NumFault → Result A LineFault
in_bound (Ok a) = Ok a
in_bound (Err past) = Err Number

-- the edit of what was read
abbrev pub then_edit : {A : Type 0} → Result A LineFault → (A → Result Edit LineFault) → Result Edit LineFault
then_edit (Ok a) go = go a
then_edit (Err fault) go = Err fault

-- a limit, or none
abbrev pub limit_of : Option (List ℕ) → Result (Option ℤ) LineFault
limit_of None = Ok None
limit_of (Some n) = in_bound (read_by Some (read_text n))

-- A count of millionths as an id: a whole number of units from 0 to 2^64 - 1. Source: own.
abbrev pub whole_id : ℤ → Result ℕ LineFault
whole_id (pos n) = if nat_eq (n % 1000000) 0 && nat_lt (n / 1000000) (2 ^ 64) then Ok (n / 1000000) else Err Number
whole_id (negsuc n) = Err Number

abbrev pub id_of : Result ℤ NumFault → Result ℕ LineFault
id_of (Ok z) = whole_id z
id_of (Err past) = Err Number

-- The edit of a form, or that a number of it is past its range. Source: own.
abbrev pub edit_of : LineForm → Result Edit LineFault
edit_of (plain edit) = Ok edit
edit_of (range layer min max) =
    then_edit (limit_of min) (λ a. then_edit (limit_of max) (λ b. Ok (edits.set_range layer a b)))
edit_of (zoom z) = then_edit (in_bound (read_text z)) (λ a. Ok (edits.set_zoom a))
edit_of (state source layer id members) =
    then_edit (id_of (read_text id))
    (λ i. then_edit (in_bound (fields_data members)) (λ ms. Ok (edits.set_state source layer i ms)))
edit_of (removal source layer id key) =
    then_edit (id_of (read_text id)) (λ i. Ok (edits.remove_state source layer i key))
edit_of (global name value) = then_edit (in_bound (json_data value)) (λ v. Ok (edits.set_global name v))

-- the edit of a form, where there is one
abbrev pub edit_or_fault : Option LineForm → Result Edit LineFault
edit_or_fault (Some form) = edit_of form
edit_or_fault None = Err NoForm

-- The edit that a tree says, or its fault. Source: own.
abbrev pub command_of : Tree → Result Edit LineFault
command_of t = edit_or_fault (form_of t)
