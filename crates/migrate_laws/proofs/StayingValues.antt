-- Migrating a value again changes nothing.
use Rattle.std.proofs.Common.{◌≡◌, ◌∙◌, refl, ap, true, false, inl, inr}
use Rattle.std.specs.Prelude.{Bool, Option, Some, None, if◌then◌else◌}
use Rattle.decimal_json.specs.Tree as json
use Rattle.decimal_json.specs.Tree.{Tree}
use Rattle.property_tables.specs.Rows.{RowData}
use Rattle.legacy_functions.specs.Form as functions
use Rattle.legacy_functions.specs.Function.{Function}
use Rattle.legacy_functions.specs.Tokens.{token_expression}
use Rattle.value_forms.specs.Forms.{takes_literals_alone, is_expression, is_function, is_token_text, form_of}
use Rattle.value_forms.specs.declared.forms.Form.{Form}
use Rattle.legacy_laws.specs.LegacyFunctionLaw.{IsTableRow}
use Rattle.value_forms.specs.declared.forms.Form.TheVariants as forms
use Rattle.style_migrate.specs.Migrated.{function_or, tokens_or, value_by_form, migrated_value}
use Rattle.migrate_laws.proofs.FunctionForms.{is_scalar, IsBareLiteral, IsMigratedForm, function_forms}

-- ---- the form of what was migrated

abbrev pub form_by : Bool → Bool → Bool → Bool → Form
form_by literals expression object tokens =
    if literals then forms.Literal else
    if expression then forms.Expression else
    if object then forms.Function else
    if tokens then forms.TokenText else
    forms.Literal

scalar_is_no_call : (e : Tree) → is_scalar e ≡ true → is_expression e ≡ false
scalar_is_no_call json.null h = refl
scalar_is_no_call (json.boolean b) h = refl
scalar_is_no_call (json.number n) h = refl
scalar_is_no_call (json.text s) h = refl
scalar_is_no_call (json.list ts) h = absurd (cc)
scalar_is_no_call (json.object fs) h = refl

scalar_is_no_object : (e : Tree) → is_scalar e ≡ true → is_function e ≡ false
scalar_is_no_object json.null h = refl
scalar_is_no_object (json.boolean b) h = refl
scalar_is_no_object (json.number n) h = refl
scalar_is_no_object (json.text s) h = refl
scalar_is_no_object (json.list ts) h = refl
scalar_is_no_object (json.object fs) h = absurd (cc)

-- a row that takes more than literals takes an expression as one
pub call_form : (row : RowData) (e : Tree) → takes_literals_alone row ≡ false → is_expression e ≡ true
    → form_of row e ≡ forms.Expression
call_form row e more is = λ i. form_by (more i) (is i) (is_function e) (is_token_text row e)

literal_either : (b : Bool) → form_by b false false false ≡ forms.Literal
literal_either true = refl
literal_either false = refl

pub bare_form : (row : RowData) (e : Tree) → IsBareLiteral row e → form_of row e ≡ forms.Literal
bare_form row e bare =
    let call = scalar_is_no_call e bare.scalar in
    let object = scalar_is_no_object e bare.scalar in
    let tokens = bare.tokens in
    let alone = takes_literals_alone row in
    (λ i. form_by alone (call i) (object i) (tokens i)) ∙ literal_either alone

-- ---- a value is migrated twice

abbrev Stays : RowData → Tree → Type 0
Stays row t = migrated_value row t ≡ t

stays_by : (row : RowData) (t : Tree) (form : Form) → form_of row t ≡ form → value_by_form form row t ≡ t
    → Stays row t
stays_by row t form is stays = ap (λ f. value_by_form f row t) is ∙ stays

-- `visibility` stays
pub literal_stays : (row : RowData) (t : Tree) → takes_literals_alone row ≡ true → Stays row t
literal_stays row t alone =
    stays_by row t forms.Literal
    (ap (λ b. form_by b (is_expression t) (is_function t) (is_token_text row t)) alone) refl

call_by : (row : RowData) (e : Tree) (literals : Bool) → takes_literals_alone row ≡ literals
    → is_expression e ≡ true → Stays row e
call_by row e true only is = literal_stays row e only
call_by row e false more is = stays_by row e forms.Expression (call_form row e more is) refl

pub migrated_stays : (row : RowData) (e : Tree) → IsMigratedForm row e → Stays row e
migrated_stays row e (inl call) = call_by row e (takes_literals_alone row) refl call
migrated_stays row e (inr bare) = stays_by row e forms.Literal (bare_form row e bare) refl

tokens_stay : (row : RowData) (t : Tree) → form_of row t ≡ forms.TokenText → Stays row (tokens_or t)
tokens_stay row json.null is = stays_by row json.null forms.TokenText is refl
tokens_stay row (json.boolean b) is = stays_by row (json.boolean b) forms.TokenText is refl
tokens_stay row (json.number n) is = stays_by row (json.number n) forms.TokenText is refl
tokens_stay row (json.text s) is = migrated_stays row (token_expression s) (inl refl)
tokens_stay row (json.list ts) is = stays_by row (json.list ts) forms.TokenText is refl
tokens_stay row (json.object fs) is = stays_by row (json.object fs) forms.TokenText is refl

function_stays : (row : RowData) (t : Tree) (found : Option (Option Function)) → IsTableRow row
    → form_of row t ≡ forms.Function → functions.form row t ≡ found
    → Stays row (function_or row t found)
function_stays row t (Some (Some f)) of_table is read =
    migrated_stays row _ (function_forms row t f of_table read)
function_stays row t (Some None) of_table is read =
    stays_by row t forms.Function is (ap (function_or row t) read)
function_stays row t None of_table is read =
    stays_by row t forms.Function is (ap (function_or row t) read)

formed_stays : (row : RowData) (t : Tree) (form : Form) → IsTableRow row → form_of row t ≡ form
    → Stays row (value_by_form form row t)
formed_stays row t forms.Expression of_table is = stays_by row t forms.Expression is refl
formed_stays row t forms.Function of_table is =
    function_stays row t (functions.form row t) of_table is refl
formed_stays row t forms.TokenText of_table is = tokens_stay row t is
formed_stays row t forms.Literal of_table is = stays_by row t forms.Literal is refl

-- Migrating a value of a row of the table again changes nothing.
pub value_twice : (row : RowData) → IsTableRow row → (t : Tree)
    → migrated_value row (migrated_value row t) ≡ migrated_value row t
value_twice row of_table t = formed_stays row t (form_of row t) of_table refl
