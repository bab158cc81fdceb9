-- A value that can't be a legacy form stays.
use Rattle.std.proofs.Common.{◌≡◌, ℕ, List, refl, sym, subst}
use Rattle.std.specs.Prelude.{Bool, true, false, ◌&&◌, Option, Some, None, if◌then◌else◌}
use Rattle.decimal_json.specs.Tree.{Tree, Trees, null, boolean, number, text, list, object}
use Rattle.property_tables.specs.Rows.{RowData, row_of}
use Rattle.property_tables.specs.declared.layer_type.LayerType.{LayerType}
use Rattle.property_tables.specs.declared.property_row.Place.{Place}
use Rattle.value_forms.specs.declared.forms.Form.{Form}
use Rattle.value_forms.specs.declared.forms.Form.TheVariants as forms
use Rattle.value_forms.specs.Forms.{form_of, takes_literals_alone}
use Rattle.style_migrate.specs.LegacyValues.{may_be_legacy}
use Rattle.style_migrate.specs.Migrated.{migrated_property, migrated_value, value_by_form, value_of_row}

null_kept : (form : Form) (row : RowData) → value_by_form form row null ≡ null
null_kept forms.Function row = refl
null_kept forms.TokenText row = refl
null_kept forms.Expression row = refl
null_kept forms.Literal row = refl

boolean_kept : (form : Form) (row : RowData) (b : Bool) → value_by_form form row (boolean b) ≡ boolean b
boolean_kept forms.Function row b = refl
boolean_kept forms.TokenText row b = refl
boolean_kept forms.Expression row b = refl
boolean_kept forms.Literal row b = refl

number_kept : (form : Form) (row : RowData) (n : List ℕ) → value_by_form form row (number n) ≡ number n
number_kept forms.Function row n = refl
number_kept forms.TokenText row n = refl
number_kept forms.Expression row n = refl
number_kept forms.Literal row n = refl

list_kept : (form : Form) (row : RowData) (ts : Trees) → value_by_form form row (list ts) ≡ list ts
list_kept forms.Function row ts = refl
list_kept forms.TokenText row ts = refl
list_kept forms.Expression row ts = refl
list_kept forms.Literal row ts = refl

-- the form of a text, by whether the row takes literals alone, takes tokens, and the text has some
abbrev text_form : Bool → Bool → Bool → Form
text_form alone takes has = if alone then forms.Literal else if takes && has then forms.TokenText else forms.Literal

no_token : (alone takes : Bool) (row : RowData) (s : List ℕ) → value_by_form (text_form alone takes false) row (text s) ≡ text s
no_token true takes row s = refl
no_token false true row s = refl
no_token false false row s = refl

value_kept : (row : RowData) (t : Tree) → may_be_legacy t ≡ false → migrated_value row t ≡ t
value_kept row null h = null_kept (form_of row null) row
value_kept row (boolean b) h = boolean_kept (form_of row (boolean b)) row b
value_kept row (number n) h = number_kept (form_of row (number n)) row n
value_kept row (list ts) h = list_kept (form_of row (list ts)) row ts
value_kept row (text s) h =
    subst (λ has. value_by_form (text_form (takes_literals_alone row) row.takes_tokens has) row (text s) ≡ text s) (sym h)
    (no_token (takes_literals_alone row) row.takes_tokens row s)
value_kept row (object fs) h = let same : true ≡ false = h in absurd (cc)

found_kept : (found : Option (ℕ × RowData)) (t : Tree) → may_be_legacy t ≡ false → value_of_row found t ≡ t
found_kept None t h = refl
found_kept (Some found) t h = value_kept found.1 t h

pub property_kept : (type : LayerType) (place : Place) (name : List ℕ) (t : Tree) → may_be_legacy t ≡ false → migrated_property type place name t ≡ t
property_kept type place name t h = found_kept (row_of type place name) t h
