-- The term of each legacy function and token text, by the table of its expression.
use Rattle.std.proofs.Common.{◌≡◌, refl, ap}
use Rattle.std.specs.Prelude.{ℕ, ℤ, List, [], ◌∷◌, map, codes, true, false, Option, Some, None, Result, Ok, Err, unwrap_or}
use Rattle.fixed_num.specs.declared.decimal.NumFault.{NumFault}
use Rattle.prop_values.specs.Data.{Data, null, boolean, number as number_data, text}
use Rattle.prop_values.specs.JsonData.{json_data}
use Rattle.prop_values.specs.declared.kinds.Want.{Want}
use Rattle.prop_values.specs.declared.kinds.Want.TheVariants as wants
use Rattle.prop_values.specs.declared.outcome.Curve.{Curve}
use Rattle.prop_values.specs.declared.outcome.Curve.TheVariants.{Linear, Exponential}
use Rattle.property_tables.specs.Defaults.{written_default}
use Rattle.property_tables.specs.Rows.{RowData}
use Rattle.expr_syntax.specs.declared.expression.Operator.TheVariants as operators
use Rattle.expr_syntax.specs.Term.{Term, literal, node, no_terms, terms_of}
use Rattle.legacy_functions.specs.Function.{Spelled, Input, flag, number, word, Output, literal as literal_output}
use Rattle.legacy_functions.specs.Function.{tokens, Way, even, curved, stepped, PropertyRule, numeric, categorical, Body}
use Rattle.legacy_functions.specs.Function.{plain, zoomed, identity, Function}
use Rattle.legacy_functions.specs.Meaning.{stop_inputs, zoom_way, rule_zooms}
use Rattle.legacy_functions.specs.ToExpression.{form_name}
use Rattle.legacy_functions.proofs.PieceViews.{Part, parts}
use Rattle.legacy_laws.proofs.FilterTerms.{one_term, two_terms, kind_term}

-- ---- outputs, and the default

abbrev pub property_term : List ℕ → Term
property_term name = one_term operators.Get (literal (text name))

abbrev pub part_term : Part → Term
part_term (false, s) = literal (text s)
part_term (true, name) = property_term name

abbrev pub token_term : List ℕ → Term
token_term s = node operators.Concat (terms_of (map part_term (parts s)))

-- a tree of a literal that was read has no number past the bound
abbrev pub data_or_null : Result Data NumFault → Data
data_or_null (Ok d) = d
data_or_null (Err past) = null

abbrev pub output_term : Output → Term
output_term (literal_output t d) = literal (data_or_null (json_data t))
output_term (tokens s) = token_term s

abbrev pub default_term : Option Output → RowData → Term
default_term (Some o) row = output_term o
default_term None row = literal (unwrap_or (written_default row.fallback) null)

-- ---- from stop to stop

abbrev pub TermBranches : Type 0
TermBranches = List (Spelled × Term)

abbrev pub branch_inputs : TermBranches → List ℤ
branch_inputs [] = []
branch_inputs (x ∷ xs) = x.0.value ∷ branch_inputs xs

abbrev pub branch_terms : TermBranches → List Term
branch_terms [] = []
branch_terms (x ∷ xs) = x.1 ∷ branch_terms xs

abbrev pub way_curve : Way → Curve
way_curve (curved base) = Exponential base.value
way_curve _ = Linear

abbrev pub ramp_term : Way → Term → TermBranches → Term
ramp_term way x xs = node (operators.Interpolate (way_curve way, branch_inputs xs)) (terms_of (x ∷ branch_terms xs))

abbrev pub step_term : Term → TermBranches → Term
step_term x [] = literal null
step_term x (b ∷ []) = b.1
step_term x (b ∷ c ∷ bs) = node (operators.Step (branch_inputs (c ∷ bs))) (terms_of (x ∷ b.1 ∷ branch_terms (c ∷ bs)))

abbrev pub way_term : Way → Term → TermBranches → Term
way_term even x xs = ramp_term even x xs
way_term (curved base) x xs = ramp_term (curved base) x xs
way_term stepped x xs = step_term x xs

abbrev pub stop_terms : List (Spelled × Output) → TermBranches
stop_terms [] = []
stop_terms (s ∷ ss) = (s.0, output_term s.1) ∷ stop_terms ss

-- ---- rules

abbrev pub case_term : List ℕ → Term → Term → Term → Term
case_term kind property e default = node operators.Case (terms_of (kind_term kind property ∷ e ∷ default ∷ []))

abbrev pub input_data : Input → Data
input_data (flag b) = boolean b
input_data (number n) = number_data n.value
input_data (word s) = text s

abbrev pub category_terms : Term → Term → List (Input × Output) → List Term
category_terms property default [] = default ∷ []
category_terms property default (s ∷ ss) =
    two_terms operators.Equal property (literal (input_data s.0)) ∷ output_term s.1 ∷ category_terms property default ss

abbrev pub rule_term : Term → Term → PropertyRule → Term
rule_term property default (numeric way stops) =
    case_term (codes "number") property (way_term way property (stop_terms stops)) default
rule_term property default (categorical stops) = node operators.Case (terms_of (category_terms property default stops))

abbrev pub zoom_term : Term
zoom_term = node operators.Zoom no_terms

abbrev pub zoom_rule_term : Term → PropertyRule → Term
zoom_rule_term default (numeric way stops) = way_term way zoom_term (stop_terms stops)
zoom_rule_term default (categorical stops) = default

abbrev pub rule_terms : Term → Term → List (Spelled × PropertyRule) → TermBranches
rule_terms property default [] = []
rule_terms property default (r ∷ rs) = (r.0, rule_term property default r.1) ∷ rule_terms property default rs

-- ---- the whole

abbrev pub identity_term : Want → Term → Term → Term
identity_term wants.Shown property default = node operators.Coalesce (terms_of (property ∷ default ∷ []))
identity_term want property default = case_term (form_name want) property property default

abbrev pub named_term : Option (List ℕ) → Term
named_term (Some name) = property_term name
named_term None = literal null

abbrev pub plain_term : Option (List ℕ) → Term → PropertyRule → Term
plain_term (Some name) default rule = rule_term (property_term name) default rule
plain_term None default rule = zoom_rule_term default rule

abbrev pub body_term : RowData → Term → Option (List ℕ) → Body → Term
body_term row default property (plain rule) = plain_term property default rule
body_term row default property (zoomed rules) =
    way_term (zoom_way row) zoom_term (rule_terms (named_term property) default rules)
body_term row default property identity = identity_term row.want (named_term property) default

abbrev pub function_term : RowData → Function → Term
function_term row f = body_term row (default_term f.fallback row) f.property f.body

-- ---- the inputs of the branches are those of the stops

pub stops_go : (ss : List (Spelled × Output)) → branch_inputs (stop_terms ss) ≡ stop_inputs ss
stops_go [] = refl
stops_go (s ∷ ss) = ap (λ zs. s.0.value ∷ zs) (stops_go ss)

pub rules_go : (property default : Term) (rs : List (Spelled × PropertyRule))
    → branch_inputs (rule_terms property default rs) ≡ rule_zooms rs
rules_go property default [] = refl
rules_go property default (r ∷ rs) = ap (λ zs. r.0.value ∷ zs) (rules_go property default rs)
