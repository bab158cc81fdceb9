-- The elements of the arguments of an operator that was read are those of its layout.
use Rattle.std.proofs.Common.{◌≡◌, ℕ, ◌-◌, ◌≤◌, ℤ, List, refl, arith, Bool, true, false}
use Rattle.std.proofs.lemmas.Bool.{and_parts, eqb-true, leb-true}
use Rattle.std.specs.Prelude.{not, ◌&&◌, ◌||◌, ◌%◌, nat_eq, nat_le, Option, Some, None, Result, Ok, Err, if◌then◌else◌}
use Rattle.decimal_json.specs.Tree.{Trees, no_trees, tree}
use Rattle.prop_values.specs.declared.kinds.Item.{Item}
use Rattle.prop_values.specs.declared.outcome.Curve.{Curve}
use Rattle.expr_syntax.proofs.CountLaws.{count_trees}
use Rattle.expr_syntax.specs.Elements.{after_head, second, second_text}
use Rattle.expr_syntax.specs.LabelLists.{repeats}
use Rattle.expr_syntax.specs.Names.{row}
use Rattle.expr_syntax.specs.Parts.{operator_of, array_operator, with_item, with_length, item_of, length_of, match_operator, labels_among, no_labels, are_of_one_type, with_inputs, inputs_among, ramp_operator, curve_in, let_operator, names_among, var_operator}
use Rattle.expr_syntax.specs.Rows.{allows}
use Rattle.expr_syntax.specs.Scopes.{Scope, is_known}
use Rattle.expr_syntax.specs.declared.expression.Operator.{Operator}
use Rattle.expr_syntax.specs.declared.expression.Operator.TheVariants.{Match, Step, Let, Var}
use Rattle.expr_syntax.specs.declared.fault.SynCode.{SynCode}
use Rattle.expr_syntax.specs.declared.fault.SynCode.TheVariants as code
use Rattle.expr_syntax.specs.declared.names.Name.{Name}
use Rattle.expr_syntax.specs.declared.names.Name.TheVariants as named
use Rattle.expr_syntax.specs.declared.rows.ElementLayout.{ElementLayout}
use Rattle.expr_syntax.specs.declared.rows.ElementLayout.TheVariants as layouts
use Rattle.expr_types.specs.ArgumentPaths.{element_at, key_at}
use Rattle.reading_laws.proofs.ArgumentPlaces.{where_at, HasElements}

-- The type of labels that are collected has no name outside of its crate.
abbrev type_of : {A : Type 0} → A → Type 0
type_of {A} a = A

abbrev Collected : Type 0
Collected = type_of no_labels

-- where an operator binds names, its layout is that of bindings
abbrev pub BindsBy : ElementLayout → Operator → Type 0
BindsBy layout (Let bound) = layout ≡ layouts.Bindings
BindsBy layout op = Unit {0}

-- the arguments of an operator are at the elements of its layout, of n elements, and not below them
abbrev pub IsLaidOut : ElementLayout → ℕ → Operator → Type 0
IsLaidOut layout n op = ((m k : ℕ) → (element_at op m k ≡ where_at layout n m k) × (key_at op k ≡ None)) × BindsBy layout op

abbrev pub LaidOut : ElementLayout → ℕ → Result Operator SynCode → Type 0
LaidOut layout n (Ok op) = IsLaidOut layout n op
LaidOut layout n (Err c) = Unit {0}

item_laid : (o : Option Item) → LaidOut layouts.Items 3 (with_item o)
item_laid None = tt
item_laid (Some item) = (λ m k. (refl, refl), tt)

length_laid : (o : Option Item) (c : Option ℕ) → LaidOut layouts.Items 4 (with_length o c)
length_laid None c = tt
length_laid (Some item) None = tt
length_laid (Some item) (Some n) = (λ m k. (refl, refl), tt)

array_laid : (ts : Trees) → allows (row named.Array).arity (count_trees ts - 1) ≡ true → LaidOut layouts.Items (count_trees ts) (array_operator (after_head ts))
array_laid no_trees fits = tt
array_laid (tree h no_trees) fits = tt
array_laid (tree h (tree x no_trees)) fits = (λ m k. (refl, refl), tt)
array_laid (tree h (tree i (tree x no_trees))) fits = item_laid (item_of i)
array_laid (tree h (tree i (tree l (tree x no_trees)))) fits = length_laid (item_of i) (length_of l)
array_laid (tree h (tree i (tree l (tree x (tree y ts))))) fits =
    let k = count_trees (tree h (tree i (tree l (tree x (tree y ts))))) - 1 in
    let most : k ≤ 3 = leb-true k 3 (and_parts (nat_le 1 k) (nat_le k 3) fits).1 in
    absurd (omega arith)

if_laid : (layout : ElementLayout) (n : ℕ) (b : Bool) (x y : Result Operator SynCode) → LaidOut layout n x → LaidOut layout n y → LaidOut layout n (if b then x else y)
if_laid layout n true x y p q = p
if_laid layout n false x y p q = q

labels_laid : (n : ℕ) (found : Option Collected) → LaidOut layouts.Labels n (match_operator found)
labels_laid n None = tt
labels_laid n (Some found) =
    let node : Result Operator SynCode = Ok (Match found.labels) in
    let unless_past : Result Operator SynCode = if found.past then Err code.NumberRange else node in
    if_laid layouts.Labels n (not (are_of_one_type found) || repeats (λ l. false) found.labels) (Err code.Part) unless_past tt
    (if_laid layouts.Labels n found.past (Err code.NumberRange) node tt (λ m k. (refl, refl), tt))

step_laid : (n : ℕ) (r : Result (List ℤ) SynCode) → LaidOut layouts.Stops n (with_inputs Step r)
step_laid n (Err c) = tt
step_laid n (Ok zs) = (λ m k. (refl, refl), tt)

ramp_laid : (n : ℕ) (curve : Option Curve) (r : Result (List ℤ) SynCode) → LaidOut layouts.Ramp n (ramp_operator curve r)
ramp_laid n None r = tt
ramp_laid n (Some curve) (Err c) = tt
ramp_laid n (Some curve) (Ok zs) = (λ m k. (refl, refl), tt)

let_laid : (n : ℕ) (found : Option (List (List ℕ))) → LaidOut layouts.Bindings n (let_operator found)
let_laid n None = tt
let_laid n (Some bound) = (λ m k. (refl, refl), refl)

var_laid : (scope : Scope) (n : ℕ) (name : Option (List ℕ)) → LaidOut layouts.Variable n (var_operator scope name)
var_laid scope n None = tt
var_laid scope n (Some s) = if_laid layouts.Variable n (is_known scope s) (Ok (Var s)) (Err code.UnknownVar) (λ m k. (refl, refl), tt) tt

pub laid_out : (name : Name) (scope : Scope) (ts : Trees) → allows (row name).arity (count_trees ts - 1) ≡ true →
    LaidOut (row name).layout (count_trees ts) (operator_of (row name).layout name scope (count_trees ts) ts)
laid_out named.Array scope ts fits = array_laid ts fits
laid_out named.Match scope ts fits = labels_laid (count_trees ts) (labels_among (count_trees ts) ts)
laid_out named.Step scope ts fits = step_laid (count_trees ts) (inputs_among (count_trees ts) ts)
laid_out named.Interpolate scope ts fits = ramp_laid (count_trees ts) (curve_in (second ts)) (inputs_among (count_trees ts) ts)
laid_out named.Let scope ts fits = let_laid (count_trees ts) (names_among (count_trees ts) ts)
laid_out named.Var scope ts fits = var_laid scope (count_trees ts) (second_text ts)
laid_out named.Literal scope ts fits = tt
laid_out named.GlobalState scope ts fits = tt
laid_out named.Format scope ts fits = tt
laid_out named.Upcase scope ts fits = tt
laid_out named.Downcase scope ts fits = tt
laid_out named.Collator scope ts fits = tt
laid_out named.ResolvedLocale scope ts fits = tt
laid_out named.NumberFormat scope ts fits = tt
laid_out named.Within scope ts fits = tt
laid_out named.Distance scope ts fits = tt
laid_out named.InterpolateHcl scope ts fits = tt
laid_out named.InterpolateLab scope ts fits = tt
laid_out named.Power scope ts fits = tt
laid_out named.Sqrt scope ts fits = tt
laid_out named.Ln scope ts fits = tt
laid_out named.Log10 scope ts fits = tt
laid_out named.Log2 scope ts fits = tt
laid_out named.Sin scope ts fits = tt
laid_out named.Cos scope ts fits = tt
laid_out named.Tan scope ts fits = tt
laid_out named.Asin scope ts fits = tt
laid_out named.Acos scope ts fits = tt
laid_out named.Atan scope ts fits = tt
laid_out named.E scope ts fits = tt
laid_out named.Pi scope ts fits = tt
laid_out named.Ln2 scope ts fits = tt
laid_out named.HeatmapDensity scope ts fits = tt
laid_out named.LineProgress scope ts fits = tt
laid_out named.Accumulated scope ts fits = tt
laid_out name scope ts fits = (λ m k. (refl, refl), tt)

-- ---- how many elements a node has

fits_even : (n : ℕ) → (nat_le 4 (n - 1) && nat_eq ((n - 1) % 2) 0) ≡ true → (n % 2 ≡ 1) × (5 ≤ n)
fits_even n h =
    let parts = and_parts (nat_le 4 (n - 1)) (nat_eq ((n - 1) % 2) 0) h in
    let least = leb-true 4 (n - 1) parts.0 in
    let even = eqb-true ((n - 1) % 2) 0 parts.1 in
    (omega (arith, least, even), omega (arith, least))

fits_odd : (n : ℕ) → (nat_le 3 (n - 1) && nat_eq ((n - 1) % 2) 1) ≡ true → (n % 2 ≡ 0) × (4 ≤ n)
fits_odd n h =
    let parts = and_parts (nat_le 3 (n - 1)) (nat_eq ((n - 1) % 2) 1) h in
    let least = leb-true 3 (n - 1) parts.0 in
    let odd = eqb-true ((n - 1) % 2) 1 parts.1 in
    (omega (arith, least, odd), omega (arith, least))

pub elements_fit : (name : Name) (n : ℕ) → allows (row name).arity (n - 1) ≡ true → HasElements (row name).layout n
elements_fit named.Array n fits = let least = leb-true 1 (n - 1) (and_parts (nat_le 1 (n - 1)) (nat_le (n - 1) 3) fits).0 in omega (arith, least)
elements_fit named.Match n fits = fits_even n fits
elements_fit named.Let n fits = fits_odd n fits
elements_fit name n fits = tt
