-- No tree gives the fault Json.
use Rattle.std.specs.Prelude.{◌≢◌, ℕ, ℤ, pos, negsuc, List, Bool, true, false, Option, Some, None, Result, Ok, Err, if◌then◌else◌}
use Rattle.fixed_num.specs.declared.decimal.NumFault.{NumFault}
use Rattle.fixed_num.specs.Decimal.{read_text}
use Rattle.decimal_json.specs.Tree.{Tree}
use Rattle.prop_values.specs.JsonData.{json_data, fields_data, read_by}
use Rattle.edit_script.specs.declared.command.LineFault.{LineFault}
use Rattle.edit_script.specs.declared.command.LineFault.TheVariants.{Json, Number}
use Rattle.edit_script.specs.Command.{in_bound, then_edit, limit_of, id_of, edit_of, edit_or_fault, command_of}
use Rattle.edit_script.specs.Edit.{Edit}
use Rattle.edit_script.specs.Form.{LineForm, plain, range, zoom, state, removal, global, form_of}

bound_read : {A : Type 0} (r : Result A NumFault) → in_bound r ≢ Err Json
bound_read (Ok a) e = absurd (cc)
bound_read (Err past) e = absurd (cc)

limit_read : (limit : Option (List ℕ)) → limit_of limit ≢ Err Json
limit_read None e = absurd (cc)
limit_read (Some n) e = bound_read (read_by Some (read_text n)) e

whole_read : (b : Bool) (i : ℕ) → (if b then Ok i else Err Number) ≢ Err Json
whole_read true i e = absurd (cc)
whole_read false i e = absurd (cc)

ids_read : (r : Result ℤ NumFault) → id_of r ≢ Err Json
ids_read (Ok (pos n)) e = whole_read _ _ e
ids_read (Ok (negsuc n)) e = absurd (cc)
ids_read (Err past) e = absurd (cc)

edit_read : {A : Type 0} (r : Result A LineFault) (go : A → Result Edit LineFault) → r ≢ Err Json → ((a : A) → go a ≢ Err Json) → then_edit r go ≢ Err Json
edit_read (Ok a) go h k e = k a e
edit_read (Err fault) go h k e = h (cc)

form_read : (form : LineForm) → edit_of form ≢ Err Json
form_read (plain edit) e = absurd (cc)
form_read (range layer min max) e =
    edit_read (limit_of min) _ (limit_read min) (λ a. edit_read (limit_of max) _ (limit_read max) (λ b f. absurd (cc))) e
form_read (zoom z) e = edit_read (in_bound (read_text z)) _ (bound_read (read_text z)) (λ a f. absurd (cc)) e
form_read (state source layer id members) e =
    edit_read (id_of (read_text id)) _ (ids_read (read_text id)) (λ i. edit_read (in_bound (fields_data members)) _ (bound_read (fields_data members)) (λ ms f. absurd (cc))) e
form_read (removal source layer id key) e = edit_read (id_of (read_text id)) _ (ids_read (read_text id)) (λ i f. absurd (cc)) e
form_read (global name value) e = edit_read (in_bound (json_data value)) _ (bound_read (json_data value)) (λ v f. absurd (cc)) e

formed_read : (form : Option LineForm) → edit_or_fault form ≢ Err Json
formed_read (Some form) e = form_read form e
formed_read None e = absurd (cc)

pub each_tree_is_read : (t : Tree) → command_of t ≢ Err Json
each_tree_is_read t = formed_read (form_of t)
