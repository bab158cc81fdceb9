-- What was read is sound at each node.
use Rattle.std.proofs.Common.{◌≡◌, ℕ, suc, ◌+◌, ◌-◌, ◌*◌, ◌<◌, ◌≤◌, ℤ, List, [], ◌∷◌, ◌++◌, length, refl, sym, ap, ◌∙◌, subst, arith, true, false, inr}
use Rattle.std.proofs.lemmas.Bool.{false≢true, and_parts, leb-true, le-leb, eqb-true, eq-eqb, ne_eqb, not-false, or_parts}
use Rattle.std.specs.Prelude.{Bool, not, ◌&&◌, ◌||◌, ◌%◌, nat_eq, nat_le, is_none, Option, Some, None, Result, Ok, Err, if◌then◌else◌}
use Rattle.std.specs.List.{list_all}
use Rattle.decimal_json.specs.Tree.{Tree, null, boolean, number, text, list, object, Trees, no_trees, tree, Fields, no_fields, field}
use Rattle.decimal_json.specs.declared.paths.PathPart.{PathPart}
use Rattle.decimal_json.specs.declared.paths.PathPart.TheVariants.{Key}
use Rattle.fixed_num.specs.declared.decimal.NumFault.{NumFault}
use Rattle.fixed_num.specs.Decimal.{read_text}
use Rattle.prop_values.specs.Data.{Data}
use Rattle.prop_values.specs.JsonData.{json_data}
use Rattle.prop_values.specs.declared.kinds.Item.{Item}
use Rattle.prop_values.specs.declared.outcome.Curve.{Curve}
use Rattle.expr_syntax.specs.declared.fault.SynFault.{SynFault}
use Rattle.expr_syntax.specs.declared.fault.SynCode.{SynCode}
use Rattle.expr_syntax.specs.declared.fault.SynCode.TheVariants as code
use Rattle.expr_syntax.specs.declared.parts.FormatPiece.{FormatPiece}
use Rattle.expr_syntax.specs.declared.parts.Role.{Role}
use Rattle.expr_syntax.specs.declared.parts.Role.TheVariants.{Content}
use Rattle.expr_syntax.specs.declared.labels.Collected.{Collected}
use Rattle.expr_syntax.specs.declared.sections.FormatArguments.{FormatArguments}
use Rattle.expr_syntax.specs.declared.names.Name.{Name}
use Rattle.expr_syntax.specs.declared.names.Name.TheVariants as named
use Rattle.expr_syntax.specs.declared.rows.Arity.{Arity}
use Rattle.expr_syntax.specs.declared.rows.Arity.TheVariants.{Exactly, OddFrom, EvenFrom}
use Rattle.expr_syntax.specs.declared.rows.ElementPlace.{ElementPlace}
use Rattle.expr_syntax.specs.declared.rows.ElementPlace.TheVariants.{Argument, Output, Part as PartPlace}
use Rattle.expr_syntax.specs.declared.rows.ElementLayout.{ElementLayout}
use Rattle.expr_syntax.specs.declared.rows.ElementLayout.TheVariants as layouts
use Rattle.expr_syntax.specs.declared.expression.Operator.{Operator}
use Rattle.expr_syntax.specs.declared.expression.Operator.TheVariants.{Match, Step, Let, Var}
use Rattle.expr_syntax.specs.Elements.{Element, head_text, second, second_text, after_head, taken, option_named}
use Rattle.expr_syntax.specs.LabelLists.{is_number, is_text, repeats}
use Rattle.expr_syntax.specs.Mentioned.{count}
use Rattle.expr_syntax.specs.Names.{row, name_of}
use Rattle.expr_syntax.specs.Operators.{operator_name}
use Rattle.expr_syntax.specs.Parts.{operator_of, array_operator, with_item, with_length, item_of, length_of, match_operator, collect_parts, no_labels, are_of_one_type, with_inputs, inputs_of, ramp_operator, curve_in, let_operator, binding_names, var_operator}
use Rattle.expr_syntax.specs.Reading.{Read, Reader, read, options, elements, members, array_read, named_read, node_read, number_read, literal_read, data_read, global_read, arguments, and_term, then_node, with_operator, names_in, at, fault, is_part, then_term, then_sections, with_piece, option_read, options_read, section_read, sections_read, no_sections, then_format, is_value_layout, is_global_layout, inside}
use Rattle.expr_syntax.specs.Rows.{allows, element_place, place, is_last, is_even, is_input, is_label, is_binder}
use Rattle.expr_syntax.specs.Scopes.{Scope, globals, frame, is_known}
use Rattle.expr_syntax.specs.Standing.{is_format_layout, is_outside}
use Rattle.expr_syntax.specs.Term.{Term, terms_of}
use Rattle.expr_syntax.specs.ReadTerms.{IsRead, AreRead, HasSoundParts, NameOutputs, NameEachOutput, BeginsWithContent, elements_behind, names_within, ReadTermsAreSound}
use Rattle.expr_syntax.proofs.CountLaws.{count_arguments, count_trees, all_arguments, no_argument, arguments_and_parts, stop_parts, ramp_parts, label_parts, binder_parts, half_inputs, half_binders, half_labels, behind}
use Rattle.expr_syntax.proofs.SoundParts.{names_of, known_among, AreBindingNames, are_binding_names, AreInputs, are_inputs, IsCurve, is_curve, NameOutputsIn, parts_outputs}
use Rattle.expr_syntax.proofs.NamedOutputs.{NamedIn, named_all, parts_named}

-- ---- what is shown of each part of reading

abbrev ReadIn : List (List ℕ) → Read → Type 0
ReadIn names (Ok t) = IsRead names t
ReadIn names (Err f) = Unit {0}

-- what a reader gives is sound inside the names of the scope
abbrev IsSound : Reader → Type 0
IsSound r = (scope : Scope) (path : List PathPart) → ReadIn (names_of scope) (r scope path)

abbrev AreSoundMembers : List (List ℕ × Reader) → Type 0
AreSoundMembers [] = Unit {0}
AreSoundMembers (m ∷ ms) = IsSound m.1 × AreSoundMembers ms

abbrev AreSoundOptions : Option (List (List ℕ × Reader)) → Type 0
AreSoundOptions None = Unit {0}
AreSoundOptions (Some ms) = AreSoundMembers ms

abbrev AreSound : List (Element Reader) → Type 0
AreSound [] = Unit {0}
AreSound (e ∷ es) = IsSound e.0 × AreSoundOptions e.1 × AreSound es

if_read : (names : List (List ℕ)) (b : Bool) (x y : Read) → (b ≡ true → ReadIn names x) → (b ≡ false → ReadIn names y) → ReadIn names (if b then x else y)
if_read names true x y p q = p refl
if_read names false x y p q = q refl

-- ---- arguments

abbrev AllRead : List (List ℕ) → List Term → Type 0
AllRead names [] = Unit {0}
AllRead names (t ∷ ts) = IsRead names t × AllRead names ts

all_are_read : (names : List (List ℕ)) (ts : List Term) → AllRead names ts → AreRead names names (terms_of ts)
all_are_read names [] h = tt
all_are_read names (t ∷ []) h = h.0
all_are_read names (t ∷ u ∷ ts) h = (h.0, all_are_read names (u ∷ ts) h.1)

count_of : (ts : List Term) → count (terms_of ts) ≡ length ts
count_of [] = refl
count_of (t ∷ ts) = let h = count_of ts in omega (arith, h)

-- so many arguments, all inside the same names
abbrev SameNames : List (List ℕ) → ℕ → Result (List Term) SynFault → Type 0
SameNames names m (Ok ts) = AllRead names ts × (length ts ≡ m)
SameNames names m (Err f) = Unit {0}

and_same : (names : List (List ℕ)) (r : Read) (m : ℕ) (later : Result (List Term) SynFault) → ReadIn names r → SameNames names m later → SameNames names (suc m) (and_term r later)
and_same names (Ok t) m (Ok ts) h k = ((h, k.0), ap suc k.1)
and_same names (Ok t) m (Err f) h k = tt
and_same names (Err f) m later h k = tt

if_same : (b : Bool) (names : List (List ℕ)) (r : Read) (m : ℕ) (later : Result (List Term) SynFault) → ReadIn names r → SameNames names m later → SameNames names (if b then m else suc m) (if b then later else and_term r later)
if_same true names r m later h k = k
if_same false names r m later h k = and_same names r m later h k

either_scope : (b : Bool) (r : Reader) (scope : Scope) (path : List PathPart) → IsSound r → ReadIn (names_of scope) (r (if b then scope else scope) path)
either_scope true r scope path h = h scope path
either_scope false r scope path h = h scope path

same_names : (layout : ElementLayout) (n i : ℕ) (es : List (Element Reader)) (scope : Scope) (path : List PathPart) → AreSound es → SameNames (names_of scope) (count_arguments layout n i (length es)) (arguments layout n i es scope scope path)
same_names layout n i [] scope path h = (tt, refl)
same_names layout n i (e ∷ es) scope path h =
    if_same (is_part (element_place layout n i)) (names_of scope) (e.0 (if is_last n i then scope else scope) (at path i)) (count_arguments layout n (i + 1) (length es)) (arguments layout n (i + 1) es scope scope path)
    (either_scope (is_last n i) e.0 scope (at path i) h.0)
    (same_names layout n (i + 1) es scope path h.2)

-- so many arguments, the last inside of names of its own; there is a last where `some`
abbrev IsSomeOf : Bool → List Term → Type 0
IsSomeOf true [] = ⊥
IsSomeOf true (t ∷ ts) = Unit {0}
IsSomeOf false ts = Unit {0}

abbrev LastNames : List (List ℕ) → List (List ℕ) → Bool → ℕ → Result (List Term) SynFault → Type 0
LastNames names inner some m (Ok ts) = AreRead names inner (terms_of ts) × (length ts ≡ m) × IsSomeOf some ts
LastNames names inner some m (Err f) = Unit {0}

and_more : (names inner : List (List ℕ)) (r : Read) (m : ℕ) (later : Result (List Term) SynFault) → ReadIn names r → LastNames names inner true m later → LastNames names inner true (suc m) (and_term r later)
and_more names inner (Ok t) m (Ok []) h k = absurd k.2
and_more names inner (Ok t) m (Ok (u ∷ ts)) h k = ((h, k.0), ap suc k.1, tt)
and_more names inner (Ok t) m (Err f) h k = tt
and_more names inner (Err f) m later h k = tt

and_last : (names inner : List (List ℕ)) (r : Read) → ReadIn inner r → LastNames names inner true 1 (and_term r (Ok []))
and_last names inner (Ok t) h = (h, refl, tt)
and_last names inner (Err f) h = tt

if_more : (b : Bool) (names inner : List (List ℕ)) (r : Read) (m : ℕ) (later : Result (List Term) SynFault) → ReadIn names r → LastNames names inner true m later → LastNames names inner true (if b then m else suc m) (if b then later else and_term r later)
if_more true names inner r m later h k = k
if_more false names inner r m later h k = and_more names inner r m later h k

if_ends : (b : Bool) (names inner : List (List ℕ)) (r : Read) → b ≡ false → ReadIn inner r → LastNames names inner true (if b then 0 else 1) (if b then Ok [] else and_term r (Ok []))
if_ends true names inner r e h = absurd (cc)
if_ends false names inner r e h = and_last names inner r h

abbrev scoped : Bool → Scope → Scope → Scope
scoped b inner scope = if b then inner else scope

in_last : (b : Bool) (r : Reader) (inner scope : Scope) (path : List PathPart) → b ≡ true → IsSound r → ReadIn (names_of inner) (r (scoped b inner scope) path)
in_last true r inner scope path e h = h inner path
in_last false r inner scope path e h = absurd (cc)

in_other : (b : Bool) (r : Reader) (inner scope : Scope) (path : List PathPart) → b ≡ false → IsSound r → ReadIn (names_of scope) (r (scoped b inner scope) path)
in_other true r inner scope path e h = absurd (cc)
in_other false r inner scope path e h = h scope path

last_output : (n i : ℕ) → 0 < i → is_last n i ≡ true → is_part (element_place layouts.Bindings n i) ≡ false
last_output n i h e = ap is_part (behind layouts.Bindings n i h) ∙ ap (λ b. is_part (by b (is_even i))) e
  where
    by : Bool → Bool → ElementPlace
    by b c = if b then Output else if c then Argument else PartPlace

pub last_names : (n i : ℕ) (e : Element Reader) (es : List (Element Reader)) (inner scope : Scope) (path : List PathPart) → 0 < i → i + suc (length es) ≡ n → AreSound (e ∷ es) → LastNames (names_of scope) (names_of inner) true (count_arguments layouts.Bindings n i (suc (length es))) (arguments layouts.Bindings n i (e ∷ es) inner scope path)
last_names n i e [] inner scope path some whole h =
    let end : is_last n i ≡ true = eq-eqb (i + 1) n (omega arith) in
    if_ends (is_part (element_place layouts.Bindings n i)) (names_of scope) (names_of inner) (e.0 (scoped (is_last n i) inner scope) (at path i))
    (last_output n i some end) (in_last (is_last n i) e.0 inner scope (at path i) end h.0)
last_names n i e (f ∷ es) inner scope path some whole h =
    let more : is_last n i ≡ false = ne_eqb (i + 1) n (λ p. omega arith) in
    if_more (is_part (element_place layouts.Bindings n i)) (names_of scope) (names_of inner) (e.0 (scoped (is_last n i) inner scope) (at path i))
    (count_arguments layouts.Bindings n (i + 1) (suc (length es))) (arguments layouts.Bindings n (i + 1) (f ∷ es) inner scope path)
    (in_other (is_last n i) e.0 inner scope (at path i) more h.0)
    (last_names n (i + 1) f es inner scope path (omega arith) (omega arith) h.2)

-- ---- a node of an operator that was read

-- where an operator binds names, its layout is that of bindings
abbrev BindsBy : ElementLayout → Operator → Type 0
BindsBy layout (Let bound) = layout ≡ layouts.Bindings
BindsBy layout op = Unit {0}

-- the elements and parts of an operator of m arguments are sound
abbrev IsSoundWith : List (List ℕ) → Operator → ℕ → Type 0
IsSoundWith names op m = (allows (row (operator_name op)).arity (elements_behind op m) ≡ true) × HasSoundParts names op m

abbrev OperatorIn : List (List ℕ) → ElementLayout → ℕ → Result Operator SynCode → Type 0
OperatorIn names layout n (Ok op) = IsSoundWith names op (count_arguments layout n 0 n) × BindsBy layout op
OperatorIn names layout n (Err c) = Unit {0}

abbrev ArgumentsIn : List (List ℕ) → List (List ℕ) → ℕ → Result (List Term) SynFault → Type 0
ArgumentsIn names inner m (Ok ts) = AreRead names inner (terms_of ts) × (length ts ≡ m)
ArgumentsIn names inner m (Err f) = Unit {0}

from_same : (names : List (List ℕ)) (m : ℕ) (r : Result (List Term) SynFault) → SameNames names m r → ArgumentsIn names names m r
from_same names m (Ok ts) h = (all_are_read names ts h.0, h.1)
from_same names m (Err f) h = tt

from_last : (names inner : List (List ℕ)) (m : ℕ) (r : Result (List Term) SynFault) → LastNames names inner true m r → ArgumentsIn names inner m r
from_last names inner m (Ok ts) h = (h.0, h.1)
from_last names inner m (Err f) h = tt

bound_arguments : (es : List (Element Reader)) (inner scope : Scope) (path : List PathPart) → AreSound es → ArgumentsIn (names_of scope) (names_of inner) (count_arguments layouts.Bindings (length es) 0 (length es)) (arguments layouts.Bindings (length es) 0 es inner scope path)
bound_arguments [] inner scope path h = (tt, refl)
bound_arguments (e ∷ []) inner scope path h = (tt, refl)
bound_arguments (e ∷ f ∷ es) inner scope path h =
    let n = suc (suc (length es)) in
    from_last (names_of scope) (names_of inner) (count_arguments layouts.Bindings n 1 (suc (length es))) (arguments layouts.Bindings n 1 (f ∷ es) inner scope path)
    (last_names n 1 f es inner scope path (omega arith) (omega arith) h.2)

bound_by : (layout : ElementLayout) (es : List (Element Reader)) (inner scope : Scope) (path : List PathPart) → layout ≡ layouts.Bindings → AreSound es → ArgumentsIn (names_of scope) (names_of inner) (count_arguments layout (length es) 0 (length es)) (arguments layout (length es) 0 es inner scope path)
bound_by layout es inner scope path e h =
    subst (λ l. ArgumentsIn (names_of scope) (names_of inner) (count_arguments l (length es) 0 (length es)) (arguments l (length es) 0 es inner scope path)) (sym e) (bound_arguments es inner scope path h)

arguments_in : (layout : ElementLayout) (es : List (Element Reader)) (op : Operator) (scope : Scope) (path : List PathPart) → BindsBy layout op → AreSound es → ArgumentsIn (names_of scope) (names_within op (names_of scope)) (count_arguments layout (length es) 0 (length es)) (arguments layout (length es) 0 es (names_in op scope) scope path)
arguments_in layout es (Let bound) scope path e h = bound_by layout es (frame bound scope) scope path e h
arguments_in layout es op scope path e h = from_same (names_of scope) (count_arguments layout (length es) 0 (length es)) (arguments layout (length es) 0 es scope scope path) (same_names layout (length es) 0 es scope path h)

node_in : (names : List (List ℕ)) (op : Operator) (m : ℕ) (r : Result (List Term) SynFault) → IsSoundWith names op m → ArgumentsIn names (names_within op names) m r → ReadIn names (then_node op r)
node_in names op m (Err f) sound h = tt
node_in names op m (Ok ts) sound h =
    let counted : m ≡ count (terms_of ts) = sym (count_of ts ∙ h.1) in
    let here : IsSoundWith names op (count (terms_of ts)) = subst (IsSoundWith names op) counted sound in
    (here.0, here.1, h.0)

operator_node : (layout : ElementLayout) (es : List (Element Reader)) (o : Result Operator SynCode) (scope : Scope) (path : List PathPart) → AreSound es → OperatorIn (names_of scope) layout (length es) o → ReadIn (names_of scope) (with_operator layout es o scope path)
operator_node layout es (Err c) scope path h sound = tt
operator_node layout es (Ok op) scope path h sound =
    node_in (names_of scope) op (count_arguments layout (length es) 0 (length es)) (arguments layout (length es) 0 es (names_in op scope) scope path)
    sound.0 (arguments_in layout es op scope path sound.1 h)

-- ---- operators by their parts

item_in : (names : List (List ℕ)) (o : Option Item) → OperatorIn names layouts.Items 3 (with_item o)
item_in names None = tt
item_in names (Some item) = ((refl, refl), tt)

length_in : (names : List (List ℕ)) (o : Option Item) (c : Option ℕ) → OperatorIn names layouts.Items 4 (with_length o c)
length_in names None c = tt
length_in names (Some item) None = tt
length_in names (Some item) (Some n) = ((refl, refl), tt)

array_in : (names : List (List ℕ)) (ts : Trees) → allows (row named.Array).arity (count_trees ts - 1) ≡ true → OperatorIn names layouts.Items (count_trees ts) (array_operator (after_head ts))
array_in names no_trees fits = tt
array_in names (tree h no_trees) fits = tt
array_in names (tree h (tree x no_trees)) fits = ((refl, refl), tt)
array_in names (tree h (tree i (tree x no_trees))) fits = item_in names (item_of i)
array_in names (tree h (tree i (tree l (tree x no_trees)))) fits = length_in names (item_of i) (length_of l)
array_in names (tree h (tree i (tree l (tree x (tree y ts))))) fits =
    let k = count_trees (tree h (tree i (tree l (tree x (tree y ts))))) - 1 in
    let most : k ≤ 3 = leb-true k 3 (and_parts (nat_le 1 k) (nat_le k 3) fits).1 in
    absurd (omega arith)

if_operator : (names : List (List ℕ)) (layout : ElementLayout) (n : ℕ) (b : Bool) (x y : Result Operator SynCode) → (b ≡ true → OperatorIn names layout n x) → (b ≡ false → OperatorIn names layout n y) → OperatorIn names layout n (if b then x else y)
if_operator names layout n true x y p q = p refl
if_operator names layout n false x y p q = q refl

step_with : (names : List (List ℕ)) (layout : ElementLayout) (n p : ℕ) (r : Result (List ℤ) SynCode) → AreInputs None p r → count_arguments layout n 0 n + p ≡ n - 1 → count_arguments layout n 0 n ≡ p + 2 → allows (EvenFrom 4) (n - 1) ≡ true → OperatorIn names layout n (with_inputs Step r)
step_with names layout n p (Err c) h all two fits = tt
step_with names layout n p (Ok zs) h all two fits =
    let behind : n - 1 ≡ count_arguments layout n 0 n + length zs = omega (arith, h.1) in
    let arguments_two : count_arguments layout n 0 n ≡ length zs + 2 = omega (arith, h.1) in
    ((subst (λ k. allows (EvenFrom 4) k ≡ true) behind fits, (h.0, arguments_two)), tt)

even_count : (n : ℕ) → allows (EvenFrom 4) (n - 1) ≡ true → (4 ≤ n - 1) × ((n - 1) % 2 ≡ 0)
even_count n fits =
    let parts = and_parts (nat_le 4 (n - 1)) (nat_eq ((n - 1) % 2) 0) fits in
    (leb-true 4 (n - 1) parts.0, eqb-true ((n - 1) % 2) 0 parts.1)

abbrev inputs_in : ℕ → Trees → List Tree
inputs_in n ts = taken (λ n i. is_input i) n 0 ts

step_in : (names : List (List ℕ)) (ts : Trees) → allows (EvenFrom 4) (count_trees ts - 1) ≡ true → OperatorIn names layouts.Stops (count_trees ts) (with_inputs Step (inputs_of None (inputs_in (count_trees ts) ts)))
step_in names no_trees fits = absurd (let e = even_count 0 fits in omega (arith, e.0))
step_in names (tree h no_trees) fits = absurd (let e = even_count 1 fits in omega (arith, e.0))
step_in names (tree h (tree a no_trees)) fits = absurd (let e = even_count 2 fits in omega (arith, e.0))
step_in names (tree h (tree a (tree b us))) fits =
    let n = count_trees (tree h (tree a (tree b us))) in
    let e = even_count n fits in
    let even : count_trees us % 2 ≡ 0 = omega (arith, e.1) in
    let half : 2 * length (taken (λ n i. is_input i) n 3 us) ≡ count_trees us = half_inputs n us 3 refl (omega arith) even in
    let all : count_arguments layouts.Stops n 1 (count_trees (tree a (tree b us))) + length (taken (λ n i. is_input i) n 3 us) ≡ count_trees (tree a (tree b us)) =
    arguments_and_parts (λ n i. is_input i) layouts.Stops n 1 (stop_parts n) (tree a (tree b us)) 1 (omega arith) in
    step_with names layouts.Stops n (length (taken (λ n i. is_input i) n 3 us)) (inputs_of None (taken (λ n i. is_input i) n 3 us))
    (are_inputs None (taken (λ n i. is_input i) n 3 us)) (omega (arith, all)) (omega (arith, all, half)) fits

ramp_with : (names : List (List ℕ)) (layout : ElementLayout) (n p : ℕ) (curve : Option Curve) (r : Result (List ℤ) SynCode) → IsCurve curve → AreInputs None p r → count_arguments layout n 0 n + p + 1 ≡ n - 1 → count_arguments layout n 0 n ≡ p + 1 → allows (EvenFrom 4) (n - 1) ≡ true → OperatorIn names layout n (ramp_operator curve r)
ramp_with names layout n p None r base h all one fits = tt
ramp_with names layout n p (Some curve) (Err c) base h all one fits = tt
ramp_with names layout n p (Some curve) (Ok zs) base h all one fits =
    let behind : n - 1 ≡ count_arguments layout n 0 n + length zs + 1 = omega (arith, h.1) in
    let arguments_one : count_arguments layout n 0 n ≡ length zs + 1 = omega (arith, h.1) in
    ((subst (λ k. allows (EvenFrom 4) k ≡ true) behind fits, (base, h.0, arguments_one)), tt)

ramp_in : (names : List (List ℕ)) (ts : Trees) → allows (EvenFrom 4) (count_trees ts - 1) ≡ true → OperatorIn names layouts.Ramp (count_trees ts) (ramp_operator (curve_in (second ts)) (inputs_of None (inputs_in (count_trees ts) ts)))
ramp_in names no_trees fits = absurd (let e = even_count 0 fits in omega (arith, e.0))
ramp_in names (tree h no_trees) fits = absurd (let e = even_count 1 fits in omega (arith, e.0))
ramp_in names (tree h (tree a no_trees)) fits = absurd (let e = even_count 2 fits in omega (arith, e.0))
ramp_in names (tree h (tree a (tree b us))) fits =
    let n = count_trees (tree h (tree a (tree b us))) in
    let e = even_count n fits in
    let even : count_trees us % 2 ≡ 0 = omega (arith, e.1) in
    let half : 2 * length (taken (λ n i. is_input i) n 3 us) ≡ count_trees us = half_inputs n us 3 refl (omega arith) even in
    let all : count_arguments layouts.Ramp n 2 (count_trees (tree b us)) + length (taken (λ n i. is_input i) n 3 us) ≡ count_trees (tree b us) =
    arguments_and_parts (λ n i. is_input i) layouts.Ramp n 2 (ramp_parts n) (tree b us) 2 (omega arith) in
    ramp_with names layouts.Ramp n (length (taken (λ n i. is_input i) n 3 us)) (curve_in (Some a)) (inputs_of None (taken (λ n i. is_input i) n 3 us))
    (is_curve (Some a)) (are_inputs None (taken (λ n i. is_input i) n 3 us)) (omega (arith, all)) (omega (arith, all, half)) fits

one_type : (a past b : Bool) → (a || (not past && b)) ≡ true → (a || b) ≡ true
one_type true past b h = refl
one_type false true b h = absurd (false≢true h)
one_type false false b h = h

labels_sound : (names : List (List ℕ)) (layout : ElementLayout) (n p : ℕ) (found : Collected) → are_of_one_type found ≡ true → repeats (λ l. false) found.labels ≡ false → NameOutputs p found.labels → NameEachOutput p found.labels → count_arguments layout n 0 n + p ≡ n - 1 → count_arguments layout n 0 n ≡ p + 2 → allows (EvenFrom 4) (n - 1) ≡ true → OperatorIn names layout n (Ok (Match found.labels))
labels_sound names layout n p found typed distinct within each all two fits =
    let m = count_arguments layout n 0 n in
    let outputs : p ≡ m - 2 = omega arith in
    let behind : n - 1 ≡ m + (m - 2) = omega arith in
    let one = one_type (list_all is_number found.labels) found.past (list_all is_text found.labels) typed in
    let same_within = subst (λ k. NameOutputs k found.labels) outputs within in
    let same_each = subst (λ k. NameEachOutput k found.labels) outputs each in
    ((subst (λ k. allows (EvenFrom 4) k ≡ true) behind fits, (one, distinct, same_within, same_each)), tt)

labels_with : (names : List (List ℕ)) (layout : ElementLayout) (n p : ℕ) (found : Option Collected) → NameOutputsIn p found → NamedIn p found → count_arguments layout n 0 n + p ≡ n - 1 → count_arguments layout n 0 n ≡ p + 2 → allows (EvenFrom 4) (n - 1) ≡ true → OperatorIn names layout n (match_operator found)
labels_with names layout n p None within each all two fits = tt
labels_with names layout n p (Some found) within each all two fits =
    let wrong = not (are_of_one_type found) || repeats (λ l. false) found.labels in
    let node : Result Operator SynCode = Ok (Match found.labels) in
    let unless_past : Result Operator SynCode = if found.past then Err code.NumberRange else node in
    let sound : wrong ≡ false → found.past ≡ false → OperatorIn names layout n node = λ e q.
    let right = or_parts (not (are_of_one_type found)) (repeats (λ l. false) found.labels) e in
    labels_sound names layout n p found (not-false (are_of_one_type found) right.0) right.1 within (named_all p found q each) all two fits in
    if_operator names layout n wrong (Err code.Part) unless_past (λ e. tt)
    (λ e. if_operator names layout n found.past (Err code.NumberRange) node (λ q. tt) (λ q. sound e q))

labels_in : (names : List (List ℕ)) (ts : Trees) → allows (EvenFrom 4) (count_trees ts - 1) ≡ true → OperatorIn names layouts.Labels (count_trees ts) (match_operator (collect_parts 0 (taken is_label (count_trees ts) 0 ts) no_labels))
labels_in names no_trees fits = absurd (let e = even_count 0 fits in omega (arith, e.0))
labels_in names (tree h no_trees) fits = absurd (let e = even_count 1 fits in omega (arith, e.0))
labels_in names (tree h (tree a us)) fits =
    let n = count_trees (tree h (tree a us)) in
    let parts = taken is_label n 2 us in
    let found = collect_parts 0 parts no_labels in
    let e = even_count n fits in
    let odd : count_trees us % 2 ≡ 1 = omega (arith, e.1) in
    let half : 2 * length parts + 1 ≡ count_trees us = half_labels n us 2 refl (omega arith) (omega arith) odd in
    let all : count_arguments layouts.Labels n 1 (count_trees (tree a us)) + length parts ≡ count_trees (tree a us) =
    arguments_and_parts is_label layouts.Labels n 1 (label_parts n) (tree a us) 1 (omega arith) in
    let counted : 0 + length parts ≡ length parts = omega arith in
    let outputs = subst (λ k. NameOutputsIn k found) counted (parts_outputs 0 parts no_labels tt) in
    let named = subst (λ k. NamedIn k found) counted (parts_named 0 parts no_labels (inr (λ k h. absurd (omega arith)))) in
    labels_with names layouts.Labels n (length parts) found outputs named (omega (arith, all)) (omega (arith, all, half)) fits

odd_count : (n : ℕ) → allows (OddFrom 3) (n - 1) ≡ true → (3 ≤ n - 1) × ((n - 1) % 2 ≡ 1)
odd_count n fits =
    let parts = and_parts (nat_le 3 (n - 1)) (nat_eq ((n - 1) % 2) 1) fits in
    (leb-true 3 (n - 1) parts.0, eqb-true ((n - 1) % 2) 1 parts.1)

let_with : (names : List (List ℕ)) (n p : ℕ) (found : Option (List (List ℕ))) → AreBindingNames p found → count_arguments layouts.Bindings n 0 n + p ≡ n - 1 → count_arguments layouts.Bindings n 0 n ≡ p + 1 → allows (OddFrom 3) (n - 1) ≡ true → OperatorIn names layouts.Bindings n (let_operator found)
let_with names n p None h all one fits = tt
let_with names n p (Some bound) h all one fits =
    let m = count_arguments layouts.Bindings n 0 n in
    let behind : n - 1 ≡ m + length bound = omega (arith, h.1) in
    let arguments_one : m ≡ length bound + 1 = omega (arith, h.1) in
    ((subst (λ k. allows (OddFrom 3) k ≡ true) behind fits, (h.0, arguments_one)), refl)

let_in : (names : List (List ℕ)) (ts : Trees) → allows (OddFrom 3) (count_trees ts - 1) ≡ true → OperatorIn names layouts.Bindings (count_trees ts) (let_operator (binding_names (taken is_binder (count_trees ts) 0 ts)))
let_in names no_trees fits = absurd (let e = odd_count 0 fits in omega (arith, e.0))
let_in names (tree h us) fits =
    let n = count_trees (tree h us) in
    let e = odd_count n fits in
    let odd : count_trees us % 2 ≡ 1 = omega (arith, e.1) in
    let half : 2 * length (taken is_binder n 1 us) + 1 ≡ count_trees us = half_binders n us 1 refl (omega arith) odd in
    let all : count_arguments layouts.Bindings n 1 (count_trees us) + length (taken is_binder n 1 us) ≡ count_trees us =
    arguments_and_parts is_binder layouts.Bindings n 1 (binder_parts n) us 1 (omega arith) in
    let_with names n (length (taken is_binder n 1 us)) (binding_names (taken is_binder n 1 us)) (are_binding_names (taken is_binder n 1 us))
    (omega (arith, all)) (omega (arith, all, half)) fits

var_in : (scope : Scope) (n : ℕ) (name : Option (List ℕ)) → OperatorIn (names_of scope) layouts.Variable n (var_operator scope name)
var_in scope n None = tt
var_in scope n (Some s) =
    let none : count_arguments layouts.Variable n 0 n ≡ 0 = no_argument n in
    if_operator (names_of scope) layouts.Variable n (is_known scope s) (Ok (Var s)) (Err code.UnknownVar)
    (λ e. ((subst (λ m. allows (Exactly 1) (m + 1) ≡ true) (sym none) refl, (sym (known_among scope s) ∙ e, none)), tt))
    (λ e. tt)

plain_fits : (arity : Arity) (layout : ElementLayout) (n : ℕ) → ((n i : ℕ) → is_part (place layout n i) ≡ false) → allows arity (n - 1) ≡ true → allows arity (count_arguments layout n 0 n) ≡ true
plain_fits arity layout n never fits = subst (λ m. allows arity m ≡ true) (sym (all_arguments layout never n)) fits

never_in_case : (n i : ℕ) → is_part (place layouts.Cases n i) ≡ false
never_in_case n i = by (is_last n i || is_even i)
  where
    by : (b : Bool) → is_part (if b then Output else Argument) ≡ false
    by true = refl
    by false = refl

pub operator_in : (name : Name) (scope : Scope) (ts : Trees) → allows (row name).arity (count_trees ts - 1) ≡ true → OperatorIn (names_of scope) (row name).layout (count_trees ts) (operator_of (row name).layout name scope (count_trees ts) ts)
operator_in named.Array scope ts fits = array_in (names_of scope) ts fits
operator_in named.Case scope ts fits = ((plain_fits (OddFrom 3) layouts.Cases (count_trees ts) never_in_case fits, tt), tt)
operator_in named.Match scope ts fits = labels_in (names_of scope) ts fits
operator_in named.Step scope ts fits = step_in (names_of scope) ts fits
operator_in named.Interpolate scope ts fits = ramp_in (names_of scope) ts fits
operator_in named.Let scope ts fits = let_in (names_of scope) ts fits
operator_in named.Var scope ts fits = var_in scope (count_trees ts) (second_text ts)
operator_in named.Literal scope ts fits = tt
operator_in named.GlobalState scope ts fits = tt
operator_in named.Format scope ts fits = tt
operator_in named.Upcase scope ts fits = tt
operator_in named.Downcase scope ts fits = tt
operator_in named.Collator scope ts fits = tt
operator_in named.ResolvedLocale scope ts fits = tt
operator_in named.NumberFormat scope ts fits = tt
operator_in named.Within scope ts fits = tt
operator_in named.Distance scope ts fits = tt
operator_in named.InterpolateHcl scope ts fits = tt
operator_in named.InterpolateLab scope ts fits = tt
operator_in named.Power scope ts fits = tt
operator_in named.Sqrt scope ts fits = tt
operator_in named.Ln scope ts fits = tt
operator_in named.Log10 scope ts fits = tt
operator_in named.Log2 scope ts fits = tt
operator_in named.Sin scope ts fits = tt
operator_in named.Cos scope ts fits = tt
operator_in named.Tan scope ts fits = tt
operator_in named.Asin scope ts fits = tt
operator_in named.Acos scope ts fits = tt
operator_in named.Atan scope ts fits = tt
operator_in named.E scope ts fits = tt
operator_in named.Pi scope ts fits = tt
operator_in named.Ln2 scope ts fits = tt
operator_in named.HeatmapDensity scope ts fits = tt
operator_in named.LineProgress scope ts fits = tt
operator_in named.Accumulated scope ts fits = tt
operator_in name scope ts fits = ((plain_fits (row name).arity (row name).layout (count_trees ts) (λ n i. refl) fits, tt), tt)

-- ---- `format`

-- arguments and what each is, which begin with a content
abbrev AreSections : List (List ℕ) → FormatArguments → Type 0
AreSections names found =
    AllRead names found.arguments × (length found.arguments ≡ length found.pieces) × BeginsWithContent found.pieces

abbrev SectionsIn : List (List ℕ) → Result FormatArguments SynFault → Type 0
SectionsIn names (Ok found) = AreSections names found
SectionsIn names (Err f) = Unit {0}

read_push : (names : List (List ℕ)) (ts : List Term) (t : Term) → AllRead names ts → IsRead names t → AllRead names (ts ++ t ∷ [])
read_push names [] t h k = (k, tt)
read_push names (u ∷ ts) t h k = (h.0, read_push names ts t h.1 k)

length_push : {A : Type 0} (xs : List A) (x : A) → length (xs ++ x ∷ []) ≡ suc (length xs)
length_push [] x = refl
length_push (y ∷ xs) x = ap suc (length_push xs x)

begun_push : (ps : List FormatPiece) (p : FormatPiece) → BeginsWithContent ps → BeginsWithContent (ps ++ p ∷ [])
begun_push [] p h = absurd h
begun_push (q ∷ ps) p h = h

some_pieces : (ps : List FormatPiece) → BeginsWithContent ps → 1 ≤ length ps
some_pieces [] h = absurd h
some_pieces (p ∷ ps) h = omega arith

piece_in : (names : List (List ℕ)) (i : ℕ) (role : Role) (found : FormatArguments) (t : Term) → AreSections names found → IsRead names t → AreSections names (with_piece i role found t)
piece_in names i role found t h k =
    let piece : FormatPiece = record { at = i; role = role } in (
      read_push names found.arguments t h.0 k,
      length_push found.arguments t ∙ (ap suc h.1 ∙ sym (length_push found.pieces piece)),
      begun_push found.pieces piece h.2,
    )

then_piece : (names : List (List ℕ)) (i : ℕ) (role : Role) (found : FormatArguments) (r : Read) → AreSections names found → ReadIn names r → SectionsIn names (then_term r (λ t. Ok (with_piece i role found t)))
then_piece names i role found (Ok t) h k = piece_in names i role found t h k
then_piece names i role found (Err f) h k = tt

then_first : (names : List (List ℕ)) (r : Read) → ReadIn names r → SectionsIn names (then_term r (λ t. Ok (with_piece 1 Content no_sections t)))
then_first names (Ok t) k = ((k, tt), refl, refl)
then_first names (Err f) k = tt

then_more : (names : List (List ℕ)) (r : Result FormatArguments SynFault) (go : FormatArguments → Result FormatArguments SynFault) → SectionsIn names r → ((found : FormatArguments) → AreSections names found → SectionsIn names (go found)) → SectionsIn names (then_sections r go)
then_more names (Ok found) go h later = later found h
then_more names (Err f) go h later = tt

option_in : (i : ℕ) (role : Option Role) (key : List ℕ) (r : Reader) (scope : Scope) (path : List PathPart) (found : FormatArguments) → IsSound r → AreSections (names_of scope) found → SectionsIn (names_of scope) (option_read i role key r scope path found)
option_in i None key r scope path found sound h = tt
option_in i (Some role) key r scope path found sound h =
    let there = path ++ Key key ∷ [] in
    then_piece (names_of scope) i role found (r scope there) h (sound scope there)

options_in : (i : ℕ) (ms : List (List ℕ × Reader)) (scope : Scope) (path : List PathPart) (found : FormatArguments) → AreSoundMembers ms → AreSections (names_of scope) found → SectionsIn (names_of scope) (options_read i ms scope path found)
options_in i [] scope path found sound h = h
options_in i (m ∷ ms) scope path found sound h =
    then_more (names_of scope) (option_read i (option_named m.0) m.0 m.1 scope path found) (options_read i ms scope path)
    (option_in i (option_named m.0) m.0 m.1 scope path found sound.0 h)
    (λ more k. options_in i ms scope path more sound.1 k)

if_section : (names : List (List ℕ)) (b : Bool) (x y : Result FormatArguments SynFault) → SectionsIn names x → SectionsIn names y → SectionsIn names (if b then x else y)
if_section names true x y h k = h
if_section names false x y h k = k

section_in : (i : ℕ) (follows : Bool) (o : Option (List (List ℕ × Reader))) (r : Reader) (scope : Scope) (path : List PathPart) (found : FormatArguments) → IsSound r → AreSoundOptions o → AreSections (names_of scope) found → SectionsIn (names_of scope) (section_read i follows o r scope path found)
section_in i follows (Some ms) r scope path found sound others h =
    if_section (names_of scope) follows (options_read i ms scope path found) (fault path code.BareObject) (options_in i ms scope path found others h) tt
section_in i follows None r scope path found sound others h = then_piece (names_of scope) i Content found (r scope path) h (sound scope path)

sections_in : (i : ℕ) (follows : Bool) (es : List (Element Reader)) (scope : Scope) (path : List PathPart) (found : FormatArguments) → AreSound es → AreSections (names_of scope) found → SectionsIn (names_of scope) (sections_read i follows es scope path found)
sections_in i follows [] scope path found sound h = h
sections_in i follows (e ∷ es) scope path found sound h =
    let section = section_read i follows e.1 e.0 scope (at path i) found in
    let later = sections_read (i + 1) (is_none e.1) es scope path in
    if_section (names_of scope) (nat_eq i 0) (sections_read (i + 1) false es scope path found) (then_sections section later)
    (sections_in (i + 1) false es scope path found sound.2 h)
    (then_more (names_of scope) section later
    (section_in i follows e.1 e.0 scope (at path i) found sound.0 sound.1 h)
    (λ more k. sections_in (i + 1) (is_none e.1) es scope path more sound.2 k))

-- the first of them is a content
first_in : (o : Option (List (List ℕ × Reader))) (r : Reader) (scope : Scope) (path : List PathPart) → IsSound r → SectionsIn (names_of scope) (section_read 1 false o r scope path no_sections)
first_in (Some ms) r scope path sound = tt
first_in None r scope path sound = then_first (names_of scope) (r scope path) (sound scope path)

format_node : (names : List (List ℕ)) (r : Result FormatArguments SynFault) → SectionsIn names r → ReadIn names (then_format r)
format_node names (Err f) h = tt
format_node names (Ok found) h =
    let counted : count (terms_of found.arguments) ≡ length found.pieces = count_of found.arguments ∙ h.1 in
    let some : 1 ≤ count (terms_of found.arguments) = omega (arith, counted, some_pieces found.pieces h.2) in
    (le-leb 1 (count (terms_of found.arguments)) some, (h.2, counted), all_are_read names found.arguments h.0)

format_in : (es : List (Element Reader)) (scope : Scope) (path : List PathPart) → AreSound es → 2 ≤ length es → ReadIn (names_of scope) (then_format (sections_read 0 false es scope path no_sections))
format_in [] scope path sound h = absurd (omega arith)
format_in (e ∷ []) scope path sound h = absurd (omega arith)
format_in (e ∷ f ∷ es) scope path sound h =
    let first = section_read 1 false f.1 f.0 scope (at path 1) no_sections in
    let later = sections_read 2 (is_none f.1) es scope path in
    format_node (names_of scope) (then_sections first later)
    (then_more (names_of scope) first later
    (first_in f.1 f.0 scope (at path 1) sound.2.0)
    (λ more k. sections_in 2 (is_none f.1) es scope path more sound.2.2 k))

-- ---- nodes

format_arity : (name : Name) (n : ℕ) → is_format_layout (row name).layout ≡ true → allows (row name).arity (n - 1) ≡ true → 2 ≤ n
format_arity named.Format n e fits = let some : 1 ≤ n - 1 = leb-true 1 (n - 1) fits in omega arith
format_arity _ n e fits = absurd (cc)

data_in : (names : List (List ℕ)) (r : Result Data NumFault) (path : List PathPart) → ReadIn names (data_read r path)
data_in names (Ok d) path = tt
data_in names (Err past) path = tt

literal_in : (names : List (List ℕ)) (t : Option Tree) (path : List PathPart) → ReadIn names (literal_read t path)
literal_in names (Some t) path = data_in names (json_data t) path
literal_in names None path = tt

global_in : (names : List (List ℕ)) (s : Option (List ℕ)) (scope : Scope) (path : List PathPart) → ReadIn names (global_read s scope path)
global_in names (Some s) scope path = (refl, tt, (tt, tt))
global_in names None scope path = tt

node_sound : (name : Name) (ts : Trees) (es : List (Element Reader)) → AreSound es → count_trees ts ≡ length es → IsSound (node_read name ts es)
node_sound name ts es sound same scope path =
    let names = names_of scope in
    let layout = (row name).layout in
    let op = with_operator layout es (operator_of layout name scope (length es) ts) scope path in
    let sections = then_format (sections_read 0 false es scope path no_sections) in
    let by_sections : Read = if is_format_layout layout then sections else op in
    let by_global : Read = if is_global_layout layout then global_read (second_text ts) scope path else by_sections in
    let by_value : Read = if is_value_layout layout then literal_read (second ts) path else by_global in
    if_read names (not (allows (row name).arity (length es - 1))) (fault path code.Arity) by_value (λ e. tt) (λ e.
    let fits : allows (row name).arity (length es - 1) ≡ true = not-false (allows (row name).arity (length es - 1)) e in
    if_read names (is_value_layout layout) (literal_read (second ts) path) by_global (λ v. literal_in names (second ts) path) (λ v.
    if_read names (is_global_layout layout) (global_read (second_text ts) scope path) by_sections (λ g. global_in names (second_text ts) scope path) (λ g.
    if_read names (is_format_layout layout) sections op (λ f. format_in es scope path sound (format_arity name (length es) f fits)) (λ f.
    operator_node layout es (operator_of layout name scope (length es) ts) scope path sound (at_length (length es) same fits)))))
  where
    at_length : (n : ℕ) → count_trees ts ≡ n → allows (row name).arity (n - 1) ≡ true → OperatorIn (names_of scope) (row name).layout n (operator_of (row name).layout name scope n ts)
    at_length n e fits =
        subst (λ k. OperatorIn (names_of scope) (row name).layout k (operator_of (row name).layout name scope k ts)) e
        (operator_in name scope ts (subst (λ k. allows (row name).arity (k - 1) ≡ true) (sym e) fits))

named_sound : (name : Option Name) (ts : Trees) (es : List (Element Reader)) → AreSound es → count_trees ts ≡ length es → IsSound (named_read name ts es)
named_sound None ts es sound same scope path = tt
named_sound (Some name) ts es sound same scope path = node_sound name ts es sound same scope path

array_sound : (head : Option (List ℕ)) (ts : Trees) (es : List (Element Reader)) → AreSound es → count_trees ts ≡ length es → IsSound (array_read head ts es)
array_sound None ts es sound same scope path = tt
array_sound (Some s) ts es sound same scope path = named_sound (name_of s) ts es sound same scope path

number_sound : (names : List (List ℕ)) (r : Result ℤ NumFault) (path : List PathPart) → ReadIn names (number_read r path)
number_sound names (Ok z) path = tt
number_sound names (Err past) path = tt

as_many : (ts : Trees) → count_trees ts ≡ length (elements ts)
as_many no_trees = refl
as_many (tree t ts) = ap suc (as_many ts)

mutual
  read_sound : (t : Tree) → IsSound (read t)
  read_sound null = λ scope path. tt
  read_sound (boolean b) = λ scope path. tt
  read_sound (number n) = λ scope path. number_sound (names_of scope) (read_text n) path
  read_sound (text s) = λ scope path. tt
  read_sound (list ts) = array_sound (head_text ts) ts (elements ts) (elements_sound ts) (as_many ts)
  read_sound (object fs) = λ scope path. tt

  options_sound : (t : Tree) → AreSoundOptions (options t)
  options_sound null = tt
  options_sound (boolean b) = tt
  options_sound (number n) = tt
  options_sound (text s) = tt
  options_sound (list ts) = tt
  options_sound (object fs) = members_sound fs

  elements_sound : (ts : Trees) → AreSound (elements ts)
  elements_sound no_trees = tt
  elements_sound (tree t ts) = (read_sound t, options_sound t, elements_sound ts)

  members_sound : (fs : Fields) → AreSoundMembers (members fs)
  members_sound no_fields = tt
  members_sound (field k t fs) = (read_sound t, members_sound fs)

from_reading : (b : Bool) (r : Read) (e : Term) → ReadIn [] r → (if b then Ok None else inside r) ≡ Ok (Some e) → IsRead [] e
from_reading true r e sound h = absurd (cc)
from_reading false (Ok t) e sound h = let same : t ≡ e = cc in subst (IsRead []) same sound
from_reading false (Err f) e sound h = absurd (cc)

pub read_terms_are_sound : ReadTermsAreSound
read_terms_are_sound t values e h = from_reading (is_outside t) (read t (globals values) []) e (read_sound t (globals values) []) h
