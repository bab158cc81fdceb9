-- The expression that means what a legacy function means, as JSON. Source: own.
use Rattle.std.specs.Prelude.{ℕ, List, [], ◌∷◌, ◌++◌, flat_map, replicate, codes, Option, Some, None}
use Rattle.fixed_num.specs.NumberText.{number_text}
use Rattle.decimal_json.specs.Tree as json
use Rattle.decimal_json.specs.Tree.{Tree, trees_of}
use Rattle.prop_values.specs.declared.kinds.Want.{Want}
use Rattle.prop_values.specs.declared.kinds.Want.TheVariants as wants
use Rattle.property_tables.specs.Rows.{RowData, Default, absent, flag as flag_default, amount, word as word_default}
use Rattle.property_tables.specs.Rows.{zeros, fonts}
use Rattle.legacy_functions.specs.Function.{Spelled, Input, flag, number, word, Output, literal, tokens, Way, even}
use Rattle.legacy_functions.specs.Function.{curved, stepped, PropertyRule, numeric, categorical, Body, plain, zoomed}
use Rattle.legacy_functions.specs.Function.{identity, Function}
use Rattle.legacy_functions.specs.Meaning.{zoom_way}
use Rattle.legacy_functions.specs.Tokens.{call, property_expression, token_expression}

-- an array is in `literal`
abbrev pub as_literal : Tree → Tree
as_literal (json.list ts) = call (codes "literal") (json.list ts ∷ [])
as_literal t = t

abbrev pub output_expression : Output → Tree
output_expression (literal t d) = as_literal t
output_expression (tokens s) = token_expression s

-- the row's default as the table writes it, or null
abbrev pub written_tree : Default → Tree
written_tree absent = json.null
written_tree (flag_default b) = json.boolean b
written_tree (amount z) = json.number (number_text z)
written_tree (word_default s) = json.text s
written_tree (zeros n) = json.list (trees_of (replicate n (json.number (codes "0"))))
written_tree fonts =
    json.list (trees_of (json.text (codes "Open Sans Regular") ∷ json.text (codes "Arial Unicode MS Regular") ∷ []))

abbrev pub default_by : Option Output → RowData → Tree
default_by (Some o) row = output_expression o
default_by None row = as_literal (written_tree row.fallback)

-- inputs with their outputs
abbrev pub Branches : Type 0
Branches = List (Spelled × Tree)

abbrev pub branch_elements : Branches → List Tree
branch_elements bs = flat_map (λ (b : Spelled × Tree). json.number b.0.spelled ∷ b.1 ∷ []) bs

abbrev pub curve_expression : Way → Tree
curve_expression (curved base) = call (codes "exponential") (json.number base.spelled ∷ [])
curve_expression _ = call (codes "linear") []

abbrev pub ramp_expression : Way → Tree → Branches → Tree
ramp_expression way x bs = call (codes "interpolate") (curve_expression way ∷ x ∷ branch_elements bs)

-- the first output has no input, and is alone where it is the only one
abbrev pub step_expression : Tree → Branches → Tree
step_expression x [] = json.null
step_expression x (b ∷ []) = b.1
step_expression x (b ∷ c ∷ bs) = call (codes "step") (x ∷ b.1 ∷ branch_elements (c ∷ bs))

abbrev pub way_expression : Way → Tree → Branches → Tree
way_expression even x bs = ramp_expression even x bs
way_expression (curved base) x bs = ramp_expression (curved base) x bs
way_expression stepped x bs = step_expression x bs

abbrev pub stop_branches : List (Spelled × Output) → Branches
stop_branches [] = []
stop_branches (s ∷ ss) = (s.0, output_expression s.1) ∷ stop_branches ss

-- a value that is of this kind, else the default
abbrev pub kind_case : List ℕ → Tree → Tree → Tree → Tree
kind_case kind property e default =
    call (codes "case")
    (call (codes "==") (call (codes "typeof") (property ∷ []) ∷ json.text kind ∷ []) ∷ e ∷ default ∷ [])

abbrev pub input_tree : Input → Tree
input_tree (flag b) = json.boolean b
input_tree (number n) = json.number n.spelled
input_tree (word s) = json.text s

abbrev pub category_elements : Tree → List (Input × Output) → List Tree
category_elements property stops =
    flat_map (λ (s : Input × Output). call (codes "==") (property ∷ input_tree s.0 ∷ []) ∷ output_expression s.1 ∷ [])
    stops

-- a rule by a property
abbrev pub rule_expression : Tree → Tree → PropertyRule → Tree
rule_expression property default (numeric way stops) =
    kind_case (codes "number") property (way_expression way property (stop_branches stops)) default
rule_expression property default (categorical stops) =
    call (codes "case") (category_elements property stops ++ default ∷ [])

abbrev pub zoom_expression : Tree
zoom_expression = call (codes "zoom") []

-- a rule by the zoom
abbrev pub zoom_rule_expression : Tree → PropertyRule → Tree
zoom_rule_expression default (numeric way stops) = way_expression way zoom_expression (stop_branches stops)
zoom_rule_expression default (categorical stops) = default

abbrev pub rule_branches : Tree → Tree → List (Spelled × PropertyRule) → Branches
rule_branches property default [] = []
rule_branches property default (r ∷ rs) =
    (r.0, rule_expression property default r.1) ∷ rule_branches property default rs

-- what `typeof` says of a value that is of the row's form
abbrev pub form_name : Want → List ℕ
form_name wants.Number = codes "number"
form_name wants.Boolean = codes "boolean"
form_name (wants.List i n) = codes "array"
form_name (wants.EnumList c) = codes "array"
form_name _ = codes "string"

abbrev pub identity_expression : Want → Tree → Tree → Tree
identity_expression wants.Shown property default = call (codes "coalesce") (property ∷ default ∷ [])
identity_expression want property default = kind_case (form_name want) property property default

abbrev pub named_property : Option (List ℕ) → Tree
named_property (Some name) = property_expression name
named_property None = json.null

abbrev pub plain_expression : Option (List ℕ) → Tree → PropertyRule → Tree
plain_expression (Some name) default rule = rule_expression (property_expression name) default rule
plain_expression None default rule = zoom_rule_expression default rule

abbrev pub body_expression : RowData → Tree → Option (List ℕ) → Body → Tree
body_expression row default property (plain rule) = plain_expression property default rule
body_expression row default property (zoomed rules) =
    way_expression (zoom_way row) zoom_expression (rule_branches (named_property property) default rules)
body_expression row default property identity = identity_expression row.want (named_property property) default

-- The expression of a function of a row.
abbrev pub function_expression : RowData → Function → Tree
function_expression row f = body_expression row (default_by f.fallback row) f.property f.body
