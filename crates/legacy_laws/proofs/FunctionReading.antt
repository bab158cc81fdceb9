-- How the expressions of legacy functions and token texts read: a lemma for each form of node, then by the
-- form of the function.
use Rattle.std.proofs.Common.{◌≡◌, ◌∙◌, ℕ, suc, ◌+◌, ◌-◌, ◌<◌, List, [], ◌∷◌, length, refl, ap, arith, true, false}
use Rattle.std.proofs.Math.Dec.{leb-zero}
use Rattle.std.proofs.lemmas.Bool.{ne_eqb}
use Rattle.std.specs.Prelude.{Bool, ◌||◌, nat_eq, nat_le, codes, Result, Ok, if◌then◌else◌}
use Rattle.decimal_json.specs.Tree.{Tree}
use Rattle.decimal_json.specs.declared.paths.PathPart.{PathPart}
use Rattle.expr_syntax.specs.declared.expression.Operator.{Operator}
use Rattle.expr_syntax.specs.declared.expression.Operator.TheVariants as operators
use Rattle.expr_syntax.specs.declared.fault.SynFault.{SynFault}
use Rattle.expr_syntax.specs.declared.rows.Arity.TheVariants.{OddFrom}
use Rattle.expr_syntax.specs.declared.rows.ElementLayout.{ElementLayout}
use Rattle.expr_syntax.specs.declared.rows.ElementLayout.TheVariants.{Arguments, Choices, Cases}
use Rattle.expr_syntax.specs.declared.rows.ElementPlace.{ElementPlace}
use Rattle.expr_syntax.specs.declared.rows.ElementPlace.TheVariants.{Part, Argument, Output}
use Rattle.expr_syntax.specs.Elements.{Element}
use Rattle.expr_syntax.specs.Reading.{Reader, read, options, and_term, arguments, then_node, is_part, at}
use Rattle.expr_syntax.specs.Rows.{allows, place, element_place, is_last, is_even}
use Rattle.expr_syntax.specs.Scopes.{Scope}
use Rattle.expr_syntax.specs.Standing.{Walker, some_element, in_element}
use Rattle.expr_syntax.specs.Term.{Term, node, terms_of}
use Rattle.legacy_filters.specs.declared.filter.Key.TheVariants.{Property}
use Rattle.legacy_functions.specs.Tokens.{call, property_expression}
use Rattle.legacy_functions.specs.ToExpression.{zoom_expression}
use Rattle.legacy_laws.proofs.FilterReading.{nowhere, IsReadAs, node_with, walk_unless_few, node_nowhere, none_inside}
use Rattle.legacy_laws.proofs.FilterReading.{read_value, same_scope, AreReadAs, walks, readers, unless_few}
use Rattle.legacy_laws.proofs.FunctionTerms.{property_term, zoom_term}

-- ---- walkers: nothing is among elements where it is in none

abbrev pub AllNowhere : List (Element Walker) → Type 0
AllNowhere [] = Unit {0}
AllNowhere (e ∷ es) = (e.0 ≡ nowhere) × AllNowhere es

abbrev or_walk : Walker → Walker → Walker
or_walk v w sought format = v sought format || w sought format

place_nowhere : (p : ElementPlace) → in_element p nowhere ≡ nowhere
place_nowhere Part = refl
place_nowhere Argument = refl
place_nowhere Output = refl

elements_nowhere : (layout : ElementLayout) (n i : ℕ) (es : List (Element Walker)) → AllNowhere es
    → some_element layout n i es ≡ nowhere
elements_nowhere layout n i [] h = refl
elements_nowhere layout n i (e ∷ es) h =
    let p = element_place layout n i in
    let later = elements_nowhere layout n (i + 1) es h.1 in
    (λ j. or_walk (in_element p (h.0 j)) (later j)) ∙ ap (λ w. or_walk w nowhere) (place_nowhere p)

few_nowhere : (b : Bool) (others : Walker) → others ≡ nowhere → walk_unless_few b others ≡ nowhere
few_nowhere true others h = h
few_nowhere false others h = refl

pub node_inside : (layout : ElementLayout) (n : ℕ) (b : Bool) (es : List (Element Walker)) → AllNowhere es
    → node_with (walk_unless_few b (some_element layout n 1 es)) ≡ nowhere
node_inside layout n b es h =
    let others = some_element layout n 1 es in
    node_nowhere (walk_unless_few b others) (few_nowhere b others (elements_nowhere layout n 1 es h))

pub all_nowhere : (ts : List Tree) (xs : List Term) → AreReadAs ts xs → AllNowhere (walks ts)
all_nowhere [] [] h = tt
all_nowhere [] (x ∷ xs) h = absurd h
all_nowhere (t ∷ ts) [] h = absurd h
all_nowhere (t ∷ ts) (x ∷ xs) h = (h.0.inside, all_nowhere ts xs h.1)

-- ---- elements that are arguments, and parts

abbrev ReadAll : Type 0
ReadAll = Result (List Term) SynFault

abbrev an_element : Bool → Bool → Reader → ReadAll → Scope → List PathPart → ReadAll
an_element is_a_part is_end r later scope path =
    if is_a_part then later else and_term (r (if is_end then scope else scope) path) later

pub argument_read : (layout : ElementLayout) (n i : ℕ) (e : Element Reader) (es : List (Element Reader)) (scope : Scope)
    (path : List PathPart) (x : Term) (xs : List Term) → is_part (element_place layout n i) ≡ false
    → e.0 scope (at path i) ≡ Ok x → arguments layout n (i + 1) es scope scope path ≡ Ok xs
    → arguments layout n i (e ∷ es) scope scope path ≡ Ok (x ∷ xs)
argument_read layout n i e es scope path x xs no_part h k =
    let later = arguments layout n (i + 1) es scope scope path in
    ap (λ b. an_element b (is_last n i) e.0 later scope (at path i)) no_part
    ∙ (ap (λ s. and_term (e.0 s (at path i)) later) (same_scope (is_last n i) scope)
    ∙ (λ j. and_term (h j) (k j)))

pub part_passed : (layout : ElementLayout) (n i : ℕ) (e : Element Reader) (es : List (Element Reader)) (scope : Scope)
    (path : List PathPart) (xs : List Term) → is_part (element_place layout n i) ≡ true
    → arguments layout n (i + 1) es scope scope path ≡ Ok xs
    → arguments layout n i (e ∷ es) scope scope path ≡ Ok xs
part_passed layout n i e es scope path xs a_part k =
    let later = arguments layout n (i + 1) es scope scope path in
    ap (λ b. an_element b (is_last n i) e.0 later scope (at path i)) a_part ∙ k

-- ---- nodes without parts

abbrev HasNoParts : ElementLayout → Type 0
HasNoParts layout = (n i : ℕ) → 0 < i → is_part (element_place layout n i) ≡ false

behind_name : (i : ℕ) → 0 < i → nat_eq i 0 ≡ false
behind_name i some = ne_eqb i 0 (λ p. omega (arith, some, p))

plain_arguments : HasNoParts Arguments
plain_arguments n i some = ap (λ b. is_part (if b then Part else Argument)) (behind_name i some)

choices : HasNoParts Choices
choices n i some = ap (λ b. is_part (if b then Part else Output)) (behind_name i some)

output_or_argument : (b : Bool) → is_part (if b then Output else Argument) ≡ false
output_or_argument true = refl
output_or_argument false = refl

case_elements : HasNoParts Cases
case_elements n i some =
    ap (λ b. is_part (if b then Part else place Cases n i)) (behind_name i some)
    ∙ output_or_argument (is_last n i || is_even i)

all_read : (layout : ElementLayout) → HasNoParts layout → (ts : List Tree) (xs : List Term) → AreReadAs ts xs
    → (n i : ℕ) (scope : Scope) (path : List PathPart) → 0 < i
    → arguments layout n i (readers ts) scope scope path ≡ Ok xs
all_read layout free [] [] h n i scope path some = refl
all_read layout free [] (x ∷ xs) h n i scope path some = absurd h
all_read layout free (t ∷ ts) [] h n i scope path some = absurd h
all_read layout free (t ∷ ts) (x ∷ xs) h n i scope path some =
    argument_read layout n i (read t, options t) (readers ts) scope path x xs (free n i some)
    (h.0.reads scope (at path i)) (all_read layout free ts xs h.1 n (i + 1) scope path (omega arith))

abbrev node_read : Operator → ElementLayout → Bool → List Tree → Reader
node_read op layout is_enough ts scope path =
    unless_few is_enough (then_node op (arguments layout (suc (length (readers ts))) 1 (readers ts) scope scope path)) path

node_reads : (op : Operator) (layout : ElementLayout) (b : Bool) → HasNoParts layout → b ≡ true
    → (ts : List Tree) (xs : List Term) → AreReadAs ts xs → (scope : Scope) (path : List PathPart)
    → node_read op layout b ts scope path ≡ Ok (node op (terms_of xs))
node_reads op layout b free enough ts xs h scope path =
    let reads = all_read layout free ts xs h (suc (length (readers ts))) 1 scope path (omega arith) in
    λ j. unless_few (enough j) (then_node op (reads j)) path

pub read_concat : (ts : List Tree) (xs : List Term) → AreReadAs ts xs
    → IsReadAs (call (codes "concat") ts) (node operators.Concat (terms_of xs))
read_concat ts xs h =
    let n = suc (length (readers ts)) in
    record {
      inside = node_inside Arguments (suc (length (walks ts))) _ (walks ts) (all_nowhere ts xs h);
      reads = node_reads operators.Concat Arguments (nat_le 0 (n - 1)) plain_arguments (leb-zero (n - 1)) ts xs h;
    }

pub read_coalesce : (a b : Tree) (x y : Term) → IsReadAs a x → IsReadAs b y
    → IsReadAs (call (codes "coalesce") (a ∷ b ∷ [])) (node operators.Coalesce (terms_of (x ∷ y ∷ [])))
read_coalesce a b x y h k =
    let ts = a ∷ b ∷ [] in
    let all : AreReadAs ts (x ∷ y ∷ []) = (h, (k, tt)) in
    record {
      inside = node_inside Choices 3 true (walks ts) (all_nowhere ts (x ∷ y ∷ []) all);
      reads = node_reads operators.Coalesce Choices true choices refl ts (x ∷ y ∷ []) all;
    }

pub read_case : (ts : List Tree) (xs : List Term) → AreReadAs ts xs
    → allows (OddFrom 3) (suc (length (readers ts)) - 1) ≡ true
    → IsReadAs (call (codes "case") ts) (node operators.Case (terms_of xs))
read_case ts xs h enough = record {
  inside = node_inside Cases (suc (length (walks ts))) _ (walks ts) (all_nowhere ts xs h);
  reads = node_reads operators.Case Cases (allows (OddFrom 3) (suc (length (readers ts)) - 1)) case_elements enough ts xs h;
}

-- ---- the zoom, and a property

pub read_zoom : IsReadAs zoom_expression zoom_term
read_zoom = record { inside = none_inside; reads = λ scope path. refl }

pub read_property : (name : List ℕ) → IsReadAs (property_expression name) (property_term name)
read_property name = read_value (Property name)
