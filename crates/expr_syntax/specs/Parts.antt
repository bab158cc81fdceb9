-- The operators that have parts: the operator with its parts, or the least fault at the node.
use Rattle.std.specs.Prelude.{ℕ, ◌+◌, ◌/◌, ◌%◌, ℤ, pos, int_lt, unsigned_abs, List, [], ◌∷◌, ◌++◌, Bool, true, false}
use Rattle.std.specs.Prelude.{not, ◌&&◌, ◌||◌, nat_eq, nat_le, Option, Some, None, Result, Ok, Err, if◌then◌else◌}
use Rattle.std.specs.Prelude.{codes}
use Rattle.std.specs.Str.{bytes_eq}
use Rattle.std.specs.Char.{is_ascii_alphanumeric}
use Rattle.std.specs.List.{list_all}
use Rattle.decimal_json.specs.Accessors.{text_in}
use Rattle.decimal_json.specs.Tree.{Tree, number, text, list, Trees, no_trees, tree}
use Rattle.fixed_num.specs.declared.decimal.NumFault.{NumFault}
use Rattle.fixed_num.specs.Decimal.{read_text}
use Rattle.prop_values.specs.declared.kinds.Item.{Item}
use Rattle.prop_values.specs.declared.kinds.Item.TheVariants as items
use Rattle.prop_values.specs.declared.outcome.Curve.{Curve}
use Rattle.prop_values.specs.declared.outcome.Curve.TheVariants.{Linear, Exponential}
use Rattle.expr_syntax.specs.declared.fault.SynCode.{SynCode}
use Rattle.expr_syntax.specs.declared.fault.SynCode.TheVariants as code
use Rattle.expr_syntax.specs.declared.parts.Label.{Label}
use Rattle.expr_syntax.specs.declared.parts.Label.TheVariants.{Text, Number}
use Rattle.expr_syntax.specs.declared.labels.Collected.{Collected}
use Rattle.expr_syntax.specs.LabelLists.{is_number, is_text, repeats}
use Rattle.expr_syntax.specs.declared.expression.Operator.{Operator}
use Rattle.expr_syntax.specs.declared.expression.Operator.TheVariants as operators
use Rattle.expr_syntax.specs.declared.names.Name.{Name}
use Rattle.expr_syntax.specs.declared.rows.ElementLayout.{ElementLayout}
use Rattle.expr_syntax.specs.declared.rows.ElementLayout.TheVariants as layouts
use Rattle.expr_syntax.specs.Rows.{is_input, is_label, is_binder}
use Rattle.expr_syntax.specs.Operators.{plain_operator}
use Rattle.expr_syntax.specs.Elements.{after_head, second, second_text, taken}
use Rattle.expr_syntax.specs.Scopes.{Scope, is_known}

-- ---- `array`

-- the items that a name represents
abbrev pub item_named : List ℕ → Option Item
item_named s =
    if bytes_eq s (codes "boolean") then Some items.Boolean
    else if bytes_eq s (codes "number") then Some items.Number
    else if bytes_eq s (codes "string") then Some items.Text
    else None

abbrev pub item_of : Tree → Option Item
item_of (text s) = item_named s
item_of _ = None

-- a whole number of units from 0 to 4294967295, of so many millionths
abbrev pub whole_units : ℕ → Option ℕ
whole_units m = if nat_eq (m % 1000000) 0 && nat_le (m / 1000000) 4294967295 then Some (m / 1000000) else None

abbrev pub length_in : Result ℤ NumFault → Option ℕ
length_in (Ok z) = if int_lt z (pos 0) then None else whole_units (unsigned_abs z)
length_in (Err fault) = None

abbrev pub length_of : Tree → Option ℕ
length_of (number n) = length_in (read_text n)
length_of _ = None

abbrev pub with_item : Option Item → Result Operator SynCode
with_item (Some item) = Ok (operators.Array (Some item) None)
with_item None = Err code.Part

abbrev pub with_length : Option Item → Option ℕ → Result Operator SynCode
with_length (Some item) (Some n) = Ok (operators.Array (Some item) (Some n))
with_length (Some item) None = Err code.Part
with_length None length = Err code.Part

-- by the elements after the name
abbrev pub array_operator : Trees → Result Operator SynCode
array_operator no_trees = Err code.Part
array_operator (tree x no_trees) = Ok (operators.Array None None)
array_operator (tree item (tree x no_trees)) = with_item (item_of item)
array_operator (tree item (tree length (tree x ts))) = with_length (item_of item) (length_of length)

-- ---- `match`: all labels are of one type, and none occurs twice; a number past the bound has no value and
-- is not compared

abbrev pub is_whole : ℤ → Bool
is_whole z = nat_eq (unsigned_abs z % 1000000) 0

abbrev pub with_label : ℕ → Label → Collected → Collected
with_label output label found = record found { labels = found.labels ++ record { label = label; output = output } ∷ [] }

abbrev pub collect_number : ℕ → Result ℤ NumFault → Collected → Option Collected
collect_number output (Ok z) found = if is_whole z then Some (with_label output (Number z) found) else None
collect_number output (Err fault) found = Some (record found { past = true })

-- one label more; none where a tree is no label
abbrev pub collect_label : ℕ → Tree → Collected → Option Collected
collect_label output (text s) found = Some (with_label output (Text s) found)
collect_label output (number n) found = collect_number output (read_text n) found
collect_label output _ found = None

abbrev pub then_collect : Option Collected → (Collected → Option Collected) → Option Collected
then_collect (Some found) go = go found
then_collect None go = None

abbrev pub collect_labels : ℕ → Trees → Collected → Option Collected
collect_labels output no_trees found = Some found
collect_labels output (tree t ts) found = then_collect (collect_label output t found) (collect_labels output ts)

-- the labels of one output: a label, or an array of at least one
abbrev pub collect_some : ℕ → Trees → Collected → Option Collected
collect_some output no_trees found = None
collect_some output (tree t ts) found = collect_labels output (tree t ts) found

abbrev pub collect_part : ℕ → Tree → Collected → Option Collected
collect_part output (list ts) found = collect_some output ts found
collect_part output t found = collect_label output t found

abbrev pub collect_parts : ℕ → List Tree → Collected → Option Collected
collect_parts output [] found = Some found
collect_parts output (t ∷ ts) found = then_collect (collect_part output t found) (collect_parts (output + 1) ts)

abbrev pub are_of_one_type : Collected → Bool
are_of_one_type found = list_all is_number found.labels || (not found.past && list_all is_text found.labels)

abbrev pub labels_operator : Collected → Result Operator SynCode
labels_operator found =
    if not (are_of_one_type found) || repeats (λ m. false) found.labels then Err code.Part
    else if found.past then Err code.NumberRange
    else Ok (operators.Match found.labels)

abbrev pub match_operator : Option Collected → Result Operator SynCode
match_operator (Some found) = labels_operator found
match_operator None = Err code.Part

-- ---- `step` and `interpolate`: inputs are numbers and ascend; one past the bound has no value and is not
-- compared

abbrev pub steps_up : Option ℤ → Option ℤ → Bool
steps_up (Some y) (Some z) = int_lt y z
steps_up _ _ = true

abbrev pub value_in : Result ℤ NumFault → Option ℤ
value_in (Ok z) = Some z
value_in (Err past) = None

abbrev pub and_input : Option ℤ → Result (List ℤ) SynCode → Result (List ℤ) SynCode
and_input (Some z) (Ok zs) = Ok (z ∷ zs)
and_input None (Ok zs) = Err code.NumberRange
and_input z (Err c) = Err c

abbrev pub input_of : Option ℤ → Option ℤ → Result (List ℤ) SynCode → Result (List ℤ) SynCode
input_of before z later = if steps_up before z then and_input z later else Err code.Part

-- the inputs after one; none is before the first, and none is compared with one past the bound
abbrev pub inputs_of : Option ℤ → List Tree → Result (List ℤ) SynCode
inputs_of before [] = Ok []
inputs_of before (number n ∷ ts) = input_of before (value_in (read_text n)) (inputs_of (value_in (read_text n)) ts)
inputs_of before (t ∷ ts) = Err code.Part

abbrev pub with_inputs : (List ℤ → Operator) → Result (List ℤ) SynCode → Result Operator SynCode
with_inputs make (Ok zs) = Ok (make zs)
with_inputs make (Err c) = Err c

-- an exponential interpolation has one base, above 0
abbrev pub base_of : Result ℤ NumFault → Option Curve
base_of (Ok z) = if int_lt (pos 0) z then Some (Exponential z) else None
base_of (Err fault) = None

abbrev pub linear : Option (List ℕ) → Option Curve
linear (Some s) = if bytes_eq s (codes "linear") then Some Linear else None
linear None = None

abbrev pub base_in : Tree → Option Curve
base_in (number n) = base_of (read_text n)
base_in _ = None

abbrev pub exponential : Option (List ℕ) → Tree → Option Curve
exponential (Some s) base = if bytes_eq s (codes "exponential") then base_in base else None
exponential None base = None

-- ["linear"], or ["exponential", base]
abbrev pub curve_from : Trees → Option Curve
curve_from (tree name no_trees) = linear (text_in name)
curve_from (tree name (tree base no_trees)) = exponential (text_in name) base
curve_from _ = None

abbrev pub curve_of : Tree → Option Curve
curve_of (list ts) = curve_from ts
curve_of _ = None

abbrev pub curve_in : Option Tree → Option Curve
curve_in (Some t) = curve_of t
curve_in None = None

abbrev pub ramp_operator : Option Curve → Result (List ℤ) SynCode → Result Operator SynCode
ramp_operator (Some curve) inputs = with_inputs (λ zs. operators.Interpolate (curve, zs)) inputs
ramp_operator None inputs = Err code.Part

-- ---- `let` and `var`

abbrev pub is_name_byte : ℕ → Bool
is_name_byte c = is_ascii_alphanumeric c || nat_eq c 95

abbrev pub is_binding_name : List ℕ → Bool
is_binding_name [] = false
is_binding_name (c ∷ cs) = list_all is_name_byte (c ∷ cs)

abbrev pub and_name : List ℕ → Option (List (List ℕ)) → Option (List (List ℕ))
and_name s (Some names) = Some (s ∷ names)
and_name s None = None

abbrev pub binding_names : List Tree → Option (List (List ℕ))
binding_names [] = Some []
binding_names (text s ∷ ts) = if is_binding_name s then and_name s (binding_names ts) else None
binding_names (t ∷ ts) = None

abbrev pub let_operator : Option (List (List ℕ)) → Result Operator SynCode
let_operator (Some names) = Ok (operators.Let names)
let_operator None = Err code.Part

abbrev pub var_operator : Scope → Option (List ℕ) → Result Operator SynCode
var_operator scope (Some s) = if is_known scope s then Ok (operators.Var s) else Err code.UnknownVar
var_operator scope None = Err code.Part

-- ---- by the layout of the node, whose elements are ts, n of them

abbrev pub or_unknown : Option Operator → Result Operator SynCode
or_unknown (Some op) = Ok op
or_unknown None = Err code.UnknownOperator

abbrev pub no_labels : Collected
no_labels = record { labels = []; past = false }

-- the labels of `match` among the elements
abbrev pub labels_among : ℕ → Trees → Option Collected
labels_among n ts = collect_parts 0 (taken is_label n 0 ts) no_labels

-- the inputs of stops among them
abbrev pub inputs_among : ℕ → Trees → Result (List ℤ) SynCode
inputs_among n ts = inputs_of None (taken (λ n i. is_input i) n 0 ts)

-- the names of `let` among them
abbrev pub names_among : ℕ → Trees → Option (List (List ℕ))
names_among n ts = binding_names (taken is_binder n 0 ts)

abbrev pub step_operator : ℕ → Trees → Result Operator SynCode
step_operator n ts = with_inputs operators.Step (inputs_among n ts)

abbrev pub interpolate_operator : ℕ → Trees → Result Operator SynCode
interpolate_operator n ts = ramp_operator (curve_in (second ts)) (inputs_among n ts)

abbrev pub operator_of : ElementLayout → Name → Scope → ℕ → Trees → Result Operator SynCode
operator_of layouts.Items name scope n ts = array_operator (after_head ts)
operator_of layouts.Labels name scope n ts = match_operator (labels_among n ts)
operator_of layouts.Stops name scope n ts = step_operator n ts
operator_of layouts.Ramp name scope n ts = interpolate_operator n ts
operator_of layouts.Bindings name scope n ts = let_operator (names_among n ts)
operator_of layouts.Variable name scope n ts = var_operator scope (second_text ts)
operator_of _ name scope n ts = or_unknown (plain_operator name)
