-- The parts of an operator that was read are of their form.
use Rattle.std.proofs.Common.{◌≡◌, ℕ, zero, suc, ◌+◌, ◌<◌, ℤ, pos, List, [], ◌∷◌, ◌++◌, length, get_or, refl, sym, ap, ◌∙◌, subst, arith, true, false}
use Rattle.std.proofs.lemmas.Int.{ints}
use Rattle.std.specs.Prelude.{Bool, ◌&&◌, ◌||◌, int_lt, ◌<ℤ◌, Option, Some, None, Result, Ok, Err, if◌then◌else◌, codes}
use Rattle.std.specs.Str.{bytes_eq}
use Rattle.std.specs.List.{list_all}
use Rattle.decimal_json.specs.Accessors.{text_in}
use Rattle.decimal_json.specs.Tree.{Tree, null, boolean, number, text, list, object, Trees, no_trees, tree}
use Rattle.fixed_num.specs.Decimal.{read_text}
use Rattle.fixed_num.specs.declared.decimal.NumFault.{NumFault}
use Rattle.interpolate_fixed.specs.PlaceFacts.{IsAscending, HasPositiveBase}
use Rattle.prop_values.specs.declared.outcome.Curve.{Curve}
use Rattle.prop_values.specs.declared.outcome.Curve.TheVariants.{Linear, Exponential}
use Rattle.expr_syntax.specs.declared.fault.SynCode.{SynCode}
use Rattle.expr_syntax.specs.declared.fault.SynCode.TheVariants.{Part}
use Rattle.expr_syntax.specs.declared.parts.Label.{Label}
use Rattle.expr_syntax.specs.declared.parts.Label.TheVariants.{Text, Number}
use Rattle.expr_syntax.specs.declared.parts.Labelled.{Labelled}
use Rattle.expr_syntax.specs.declared.labels.Collected.{Collected}
use Rattle.expr_syntax.specs.BoundNames.{is_among}
use Rattle.expr_syntax.specs.Parts.{inputs_of, and_input, value_in, steps_up, binding_names, and_name, is_binding_name, base_of, linear, exponential, base_in, curve_from, curve_of, curve_in, with_label, collect_number, collect_label, collect_labels, collect_part, collect_parts, then_collect, is_whole}
use Rattle.expr_syntax.specs.ReadTerms.{NameOutputs}
use Rattle.expr_syntax.specs.Scopes.{Scope, globals, frame, is_known}

-- ---- names

-- the names of each `let` around, the innermost first
abbrev pub names_of : Scope → List (List ℕ)
names_of (globals values) = []
names_of (frame names outer) = names ++ names_of outer

or_more : (a b c d : Bool) → d ≡ (b || c) → (a || d) ≡ ((a || b) || c)
or_more true b c d e = refl
or_more false b c d e = e

among_append : (ns ms : List (List ℕ)) (s : List ℕ) → is_among (ns ++ ms) s ≡ (is_among ns s || is_among ms s)
among_append [] ms s = refl
among_append (n ∷ ns) ms s = or_more (bytes_eq n s) (is_among ns s) (is_among ms s) (is_among (ns ++ ms) s) (among_append ns ms s)

pub known_among : (scope : Scope) (s : List ℕ) → is_known scope s ≡ is_among (names_of scope) s
known_among (globals values) s = refl
known_among (frame names outer) s = ap (λ b. is_among names s || b) (known_among outer s) ∙ sym (among_append names (names_of outer) s)

abbrev pub AreBindingNames : ℕ → Option (List (List ℕ)) → Type 0
AreBindingNames count None = Unit {0}
AreBindingNames count (Some names) = (list_all is_binding_name names ≡ true) × (length names ≡ count)

and_binding : (s : List ℕ) (count : ℕ) (later : Option (List (List ℕ))) → is_binding_name s ≡ true → AreBindingNames count later → AreBindingNames (suc count) (and_name s later)
and_binding s count None name later = tt
and_binding s count (Some names) name later = (ap (λ b. b && list_all is_binding_name names) name ∙ later.0, ap suc later.1)

if_binding : (b : Bool) (s : List ℕ) (count : ℕ) (later : Option (List (List ℕ))) → is_binding_name s ≡ b → AreBindingNames count later → AreBindingNames (suc count) (if b then and_name s later else None)
if_binding true s count later name h = and_binding s count later name h
if_binding false s count later name h = tt

pub are_binding_names : (ts : List Tree) → AreBindingNames (length ts) (binding_names ts)
are_binding_names [] = (refl, refl)
are_binding_names (text s ∷ ts) = if_binding (is_binding_name s) s (length ts) (binding_names ts) refl (are_binding_names ts)
are_binding_names (null ∷ ts) = tt
are_binding_names (boolean b ∷ ts) = tt
are_binding_names (number n ∷ ts) = tt
are_binding_names (list us ∷ ts) = tt
are_binding_names (object fs ∷ ts) = tt

-- ---- inputs of stops

-- each of some inputs is above one, where there is one
abbrev IsBelowAll : Option ℤ → List ℤ → Type 0
IsBelowAll None zs = Unit {0}
IsBelowAll (Some y) zs = (k : ℕ) (d : ℤ) → k < length zs → y <ℤ get_or zs k d

abbrev pub AreInputs : Option ℤ → ℕ → Result (List ℤ) SynCode → Type 0
AreInputs before count (Ok zs) = IsAscending zs × (length zs ≡ count) × IsBelowAll before zs
AreInputs before count (Err c) = Unit {0}

ascending_first : (z : ℤ) (zs : List ℤ) → IsBelowAll (Some z) zs → IsAscending zs → IsAscending (z ∷ zs)
ascending_first z zs below rising zero zero d less within = absurd (omega arith)
ascending_first z zs below rising zero (suc j) d less within = below j d (omega arith)
ascending_first z zs below rising (suc i) zero d less within = absurd (omega arith)
ascending_first z zs below rising (suc i) (suc j) d less within = rising i j d (omega arith) (omega arith)

below_more : (y z : ℤ) (zs : List ℤ) → y <ℤ z → IsBelowAll (Some z) zs → IsBelowAll (Some y) (z ∷ zs)
below_more y z zs less below zero d within = less
below_more y z zs less below (suc k) d within = let h = below k d (omega arith) in omega (arith, ints, h)

below_first : (before : Option ℤ) (z : ℤ) (zs : List ℤ) → steps_up before (Some z) ≡ true → IsBelowAll (Some z) zs → IsBelowAll before (z ∷ zs)
below_first None z zs up below = tt
below_first (Some y) z zs up below = below_more y z zs (let less : y <ℤ z = omega (arith, ints, up) in less) below

and_inputs : (before value : Option ℤ) (count : ℕ) (later : Result (List ℤ) SynCode) → steps_up before value ≡ true → AreInputs value count later → AreInputs before (suc count) (and_input value later)
and_inputs before (Some z) count (Ok zs) up h = (ascending_first z zs h.2 h.0, ap suc h.1, below_first before z zs up h.2)
and_inputs before None count (Ok zs) up h = tt
and_inputs before value count (Err c) up h = tt

if_inputs : (b : Bool) (before value : Option ℤ) (count : ℕ) (later : Result (List ℤ) SynCode) → steps_up before value ≡ b → AreInputs value count later → AreInputs before (suc count) (if b then and_input value later else Err Part)
if_inputs true before value count later up h = and_inputs before value count later up h
if_inputs false before value count later up h = tt

pub are_inputs : (before : Option ℤ) (ts : List Tree) → AreInputs before (length ts) (inputs_of before ts)
are_inputs None [] = ((λ i j d less within. absurd (omega arith)), refl, tt)
are_inputs (Some y) [] = ((λ i j d less within. absurd (omega arith)), refl, (λ k d within. absurd (omega arith)))
are_inputs before (number n ∷ ts) =
    let value = value_in (read_text n) in
    if_inputs (steps_up before value) before value (length ts) (inputs_of value ts) refl (are_inputs value ts)
are_inputs before (null ∷ ts) = tt
are_inputs before (boolean b ∷ ts) = tt
are_inputs before (text s ∷ ts) = tt
are_inputs before (list us ∷ ts) = tt
are_inputs before (object fs ∷ ts) = tt

-- ---- curves

abbrev pub IsCurve : Option Curve → Type 0
IsCurve None = Unit {0}
IsCurve (Some curve) = HasPositiveBase curve

if_base : (b : Bool) (z : ℤ) → int_lt (pos 0) z ≡ b → IsCurve (if b then Some (Exponential z) else None)
if_base true z h = let above : pos 0 <ℤ z = omega (arith, ints, h) in above
if_base false z h = tt

base_curve : (r : Result ℤ NumFault) → IsCurve (base_of r)
base_curve (Ok z) = if_base (int_lt (pos 0) z) z refl
base_curve (Err fault) = tt

based_curve : (t : Tree) → IsCurve (base_in t)
based_curve (number n) = base_curve (read_text n)
based_curve null = tt
based_curve (boolean b) = tt
based_curve (text s) = tt
based_curve (list ts) = tt
based_curve (object fs) = tt

if_curve : (b : Bool) (c : Option Curve) → IsCurve c → IsCurve (if b then c else None)
if_curve true c h = h
if_curve false c h = tt

linear_curve : (name : Option (List ℕ)) → IsCurve (linear name)
linear_curve None = tt
linear_curve (Some s) = if_curve (bytes_eq s (codes "linear")) (Some Linear) tt

exponential_curve : (name : Option (List ℕ)) (base : Tree) → IsCurve (exponential name base)
exponential_curve None base = tt
exponential_curve (Some s) base = if_curve (bytes_eq s (codes "exponential")) (base_in base) (based_curve base)

curve_of_list : (ts : Trees) → IsCurve (curve_from ts)
curve_of_list no_trees = tt
curve_of_list (tree name no_trees) = linear_curve (text_in name)
curve_of_list (tree name (tree base no_trees)) = exponential_curve (text_in name) base
curve_of_list (tree name (tree base (tree t ts))) = tt

curve_of_tree : (t : Tree) → IsCurve (curve_of t)
curve_of_tree (list ts) = curve_of_list ts
curve_of_tree null = tt
curve_of_tree (boolean b) = tt
curve_of_tree (number n) = tt
curve_of_tree (text s) = tt
curve_of_tree (object fs) = tt

pub is_curve : (t : Option Tree) → IsCurve (curve_in t)
is_curve None = tt
is_curve (Some t) = curve_of_tree t

-- ---- labels

abbrev pub NameOutputsIn : ℕ → Option Collected → Type 0
NameOutputsIn outputs None = Unit {0}
NameOutputsIn outputs (Some found) = NameOutputs outputs found.labels

outputs_more : (k : ℕ) (ls : List Labelled) → NameOutputs k ls → NameOutputs (k + 1) ls
outputs_more k [] h = tt
outputs_more k (l ∷ ls) h = (omega (arith, h.0), outputs_more k ls h.1)

outputs_push : (k : ℕ) (ls : List Labelled) (l : Labelled) → NameOutputs k ls → l.output < k → NameOutputs k (ls ++ l ∷ [])
outputs_push k [] l h within = (within, tt)
outputs_push k (m ∷ ls) l h within = (h.0, outputs_push k ls l h.1 within)

label_more : (output : ℕ) (label : Label) (found : Collected) → NameOutputs (output + 1) found.labels → NameOutputs (output + 1) (with_label output label found).labels
label_more output label found h = outputs_push (output + 1) found.labels (record { label = label; output = output }) h (omega arith)

if_label : (b : Bool) (k : ℕ) (more : Collected) → NameOutputs k more.labels → NameOutputsIn k (if b then Some more else None)
if_label true k more h = h
if_label false k more h = tt

number_outputs : (output : ℕ) (r : Result ℤ NumFault) (found : Collected) → NameOutputs (output + 1) found.labels → NameOutputsIn (output + 1) (collect_number output r found)
number_outputs output (Ok z) found h = if_label (is_whole z) (output + 1) (with_label output (Number z) found) (label_more output (Number z) found h)
number_outputs output (Err fault) found h = h

label_outputs : (output : ℕ) (t : Tree) (found : Collected) → NameOutputs (output + 1) found.labels → NameOutputsIn (output + 1) (collect_label output t found)
label_outputs output (text s) found h = label_more output (Text s) found h
label_outputs output (number n) found h = number_outputs output (read_text n) found h
label_outputs output null found h = tt
label_outputs output (boolean b) found h = tt
label_outputs output (list ts) found h = tt
label_outputs output (object fs) found h = tt

then_outputs : (k m : ℕ) (found : Option Collected) (go : Collected → Option Collected) → ((more : Collected) → NameOutputs k more.labels → NameOutputsIn m (go more)) → NameOutputsIn k found → NameOutputsIn m (then_collect found go)
then_outputs k m None go later h = tt
then_outputs k m (Some more) go later h = later more h

labels_outputs : (output : ℕ) (ts : Trees) (found : Collected) → NameOutputs (output + 1) found.labels → NameOutputsIn (output + 1) (collect_labels output ts found)
labels_outputs output no_trees found h = h
labels_outputs output (tree t ts) found h =
    then_outputs (output + 1) (output + 1) (collect_label output t found) (collect_labels output ts) (λ more g. labels_outputs output ts more g) (label_outputs output t found h)

part_outputs : (output : ℕ) (t : Tree) (found : Collected) → NameOutputs (output + 1) found.labels → NameOutputsIn (output + 1) (collect_part output t found)
part_outputs output (list no_trees) found h = tt
part_outputs output (list (tree t ts)) found h = labels_outputs output (tree t ts) found h
part_outputs output (text s) found h = label_outputs output (text s) found h
part_outputs output (number n) found h = label_outputs output (number n) found h
part_outputs output null found h = tt
part_outputs output (boolean b) found h = tt
part_outputs output (object fs) found h = tt

pub parts_outputs : (output : ℕ) (ts : List Tree) (found : Collected) → NameOutputs output found.labels → NameOutputsIn (output + length ts) (collect_parts output ts found)
parts_outputs output [] found h = subst (λ k. NameOutputs k found.labels) (let e : output ≡ output + 0 = omega arith in e) h
parts_outputs output (t ∷ ts) found h =
    subst (λ k. NameOutputsIn k (collect_parts output (t ∷ ts) found)) (let e : output + 1 + length ts ≡ output + suc (length ts) = omega arith in e)
    (then_outputs (output + 1) (output + 1 + length ts) (collect_part output t found) (collect_parts (output + 1) ts)
    (λ more g. parts_outputs (output + 1) ts more g)
    (part_outputs output t found (outputs_more output found.labels h)))
