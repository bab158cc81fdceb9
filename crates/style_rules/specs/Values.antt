-- What is reported of the value of a property or a filter: that it breaks a rule, that it is outside, or
-- which faults its evaluation may have.
use Rattle.std.specs.Prelude.{ℕ, [], Bool, ◌&&◌, ◌||◌, not, Option, Some, None, is_some, is_none, Ok, Err}
use Rattle.std.specs.Prelude.{if◌then◌else◌}
use Rattle.decimal_json.specs.Tree.{Tree}
use Rattle.prop_values.specs.Faults.{no_faults}
use Rattle.prop_values.specs.declared.fault.FaultSet.{FaultSet}
use Rattle.prop_values.specs.declared.kinds.Want.{Want}
use Rattle.prop_values.specs.declared.kinds.Want.TheVariants as wants
use Rattle.property_tables.specs.Literals.{literal_of}
use Rattle.property_tables.specs.Rows.{RowData}
use Rattle.expr_syntax.specs.Reading.{Reading, reading}
use Rattle.expr_types.specs.Checked.{checked}
use Rattle.expr_types.specs.Typing.{Typed}
use Rattle.expr_types.specs.declared.fault.TypeCode.{TypeCode}
use Rattle.expr_types.specs.declared.fault.TypeCode.TheVariants as types
use Rattle.legacy_filters.specs.Form as filters
use Rattle.legacy_filters.specs.Split.{is_legacy}
use Rattle.legacy_functions.specs.Form as functions
use Rattle.legacy_functions.specs.Function.{Function, has_zooms}
use Rattle.legacy_functions.specs.ToExpression.{function_expression}
use Rattle.value_forms.specs.declared.forms.Form.TheVariants as forms
use Rattle.value_forms.specs.Forms.{form_of}
use Rattle.value_forms.specs.declared.forms.Form.{Form}
use Rattle.style_rules.specs.declared.diagnostics.Mark.{Mark}
use Rattle.style_rules.specs.declared.diagnostics.Mark.TheVariants.{Broken, Outside, Sound}

-- ---- V15: a literal meets its row's kind and range

abbrev pub literal_mark : RowData → Tree → Mark
literal_mark row t = if is_some (literal_of t row) then Sound no_faults else Broken [] 15

-- ---- V16: an expression that is not outside is read and typed without fault. V17: it reads what it may.
-- V18: `zoom` is at its place.

abbrev pub rule_of : TypeCode → ℕ
rule_of types.Kind = 16
rule_of types.NotInterpolable = 16
rule_of types.NotComparable = 16
rule_of types.Input = 17
rule_of types.ZoomPlace = 18

abbrev pub typed_mark : Typed → Mark
typed_mark (Ok found) = Sound found.node.may
typed_mark (Err fault) = Broken fault.path (rule_of fault.code)

abbrev pub read_mark : Want → Option RowData → Reading → Mark
read_mark want row (Ok (Some t)) = typed_mark (checked t want row)
read_mark want row (Ok None) = Outside
read_mark want row (Err fault) = Broken fault.path 16

-- as the value of a row, or as a filter where there is none
abbrev pub expression_mark : Want → Option RowData → Tree → Mark
expression_mark want row t = read_mark want row (reading t)

-- ---- V19: a legacy function has its form. V17: a zoom stop needs a row that reads the zoom, and `property`
-- one that reads feature data.

abbrev pub function_reads : RowData → Function → Bool
function_reads row f = (row.reads.zoom || not (has_zooms f)) && (row.reads.feature || is_none f.property)

-- the faults that may come are those of its expression
abbrev pub faults_reports : Mark → FaultSet
faults_reports (Sound faults) = faults
faults_reports _ = no_faults

abbrev pub function_faults : RowData → Function → FaultSet
function_faults row f = faults_reports (expression_mark row.want (Some row) (function_expression row f))

abbrev pub function_mark : RowData → Option (Option Function) → Mark
function_mark row (Some (Some f)) = if function_reads row f then Sound (function_faults row f) else Broken [] 17
function_mark row (Some None) = Outside
function_mark row None = Broken [] 19

-- ---- the value of a property

abbrev pub form_mark : Form → RowData → Tree → Mark
form_mark forms.Expression row t = expression_mark row.want (Some row) t
form_mark forms.Function row t = function_mark row (functions.form row t)
form_mark forms.TokenText row t = Sound no_faults
form_mark forms.Literal row t = literal_mark row t

abbrev pub value_mark : RowData → Tree → Mark
value_mark row t = form_mark (form_of row t) row t

-- ---- filters. V20: one that is legacy has its form. V16, V17: one that is an expression is read and typed
-- as a truth value, and reads no
-- feature state.

abbrev pub legacy_mark : filters.FilterRead → Mark
legacy_mark (Ok f) = Sound no_faults
legacy_mark (Err fault) = Broken fault.path 20

abbrev pub filter_mark : Tree → Mark
filter_mark t = if is_legacy t then legacy_mark (filters.reading t) else expression_mark wants.Boolean None t
