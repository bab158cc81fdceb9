-- A `let` whose bindings and body are simplified means what it meant, and so without bindings that are not asked for.
use Rattle.std.proofs.Common.{◌≡◌, ◌∙◌, ◌≤◌, ◌<◌, ℕ, ◌+◌, ◌-◌, zero, suc, List, [], ◌∷◌, ◌++◌, length, map, take, drop, Bool, true, false, Option, Some, None, Ok, refl, ap, sym, subst, arith, slice_get, slice_set}
use Rattle.std.proofs.lemmas.Bool.{and_parts, eq-eqb, eqb-true, le-leb, leb-true, ne_eqb, or_parts, or_left, or_right}
use Rattle.std.proofs.lemmas.List.{length-set}
use Rattle.std.specs.Prelude.{not, ◌/◌, ◌%◌, ◌&&◌, ◌||◌, is_some, nat_eq, nat_le, IfSome, if◌then◌else◌}
use Rattle.std.specs.Str.{bytes_eq}
use Rattle.decimal_json.specs.Tree.{Tree, null, boolean, number, text, list, object, Trees, no_trees, tree, trees_of}
use Rattle.prop_values.specs.declared.kinds.Kind.{Kind}
use Rattle.prop_values.specs.declared.kinds.Kind.TheVariants as known_kinds
use Rattle.prop_values.specs.declared.kinds.Want.{Want}
use Rattle.prop_values.specs.declared.kinds.Want.TheVariants as wants
use Rattle.expr_syntax.specs.BoundNames.{is_among}
use Rattle.expr_syntax.specs.Elements.{head_name, taken}
use Rattle.expr_syntax.specs.Mentioned.{count}
use Rattle.expr_syntax.specs.NameIndex.{last_place, or_last}
use Rattle.expr_syntax.specs.Names.{row}
use Rattle.expr_syntax.specs.Operators.{want_of}
use Rattle.expr_syntax.specs.Parts.{and_name, binding_names, is_binding_name, let_operator}
use Rattle.expr_syntax.specs.Reading.{is_part}
use Rattle.expr_syntax.specs.Rows.{allows, element_place, is_binder, is_even, is_last}
use Rattle.expr_syntax.specs.Term.{Term, node, terms_of}
use Rattle.expr_syntax.specs.declared.expression.Operator.{Operator}
use Rattle.expr_syntax.specs.declared.expression.Operator.TheVariants as operators
use Rattle.expr_syntax.specs.declared.names.Name.TheVariants as named
use Rattle.expr_syntax.specs.declared.rows.ElementLayout.TheVariants as layouts
use Rattle.expr_syntax.specs.declared.rows.ElementPlace.TheVariants.{Part, Argument, Output}
use Rattle.expr_syntax.specs.declared.rows.Wanted.TheVariants.{Own, OfNode}
use Rattle.expr_syntax.proofs.CountLaws.{count_trees}
use Rattle.expr_syntax.proofs.NameIndexLaws.{last_within, place_of_known}
use Rattle.expr_types.specs.Fits.{branch_kind}
use Rattle.expr_types.specs.Typing.{KindScope, frame as kind_frame, last_kind, own_named, or_own as kind_or_own, or_outer as kind_or_outer}
use Rattle.expr_types.specs.declared.own.Own.{Own as KindOwn}
use Rattle.expr_types.specs.declared.standing.Standing.{Standing}
use Rattle.operator_values.specs.Evaluated.{Evaluated}
use Rattle.eval_face.specs.Bindings.{body_of, outcomes_of}
use Rattle.eval_face.specs.Meaning.{mean, means}
use Rattle.eval_face.specs.Names.{BoundOutcomes, bound, last_named, named as named_in, or_outer, or_own}
use Rattle.eval_face.specs.World.{World}
use Rattle.style_simplify.specs.AskedBindings.{all_marked, asked_elements, asked_marks, is_asked_at, mark_or_not, marked, marks_after, shorter_let, some_marked, unmarked}
use Rattle.style_simplify.specs.Choices.{NodeChoices}
use Rattle.style_simplify.specs.Simple.{Simple, as_it_is, choices, elements, let_body, let_choices, let_simple, let_with, listed, simple_element, simples, unread}
use Rattle.style_simplify.specs.SimpleElements.{SimpleElement, all_asks, and_kind, argument_kinds, body_kind, is_reading, let_of, part, some_reads, tree_in, without}
use Rattle.simplify_laws.proofs.ParsedTrees.{HereOr, Names, Values, Parsed, ParsedArguments}
use Rattle.simplify_laws.proofs.TermKinds.{EachHas, EachTyped, HasKind, IsTyped, drop_front, each_count, let_from, let_has, take_front}
use Rattle.simplify_laws.proofs.Measures.{Weights, measure, measures}
use Rattle.simplify_laws.proofs.Strays.{binding_zooms, body_calmer, body_standing, let_strays, strays, zooms}
use Rattle.simplify_laws.proofs.ReadBack.{among_append}
use Rattle.simplify_laws.proofs.GoodElements.{AreAmong, Good, GoodChoices, GoodNode, GoodTree, GoodTrees, Kept, Known, SameAt, SameKinds, among_both, among_parts, both_kinds, chosen_good, chosen_kept, kinds_apart, kinds_whole, same_kinds, same_parts}
use Rattle.simplify_laws.proofs.FormatsGood.{get_at, length_end}
use Rattle.simplify_laws.proofs.JoinsGood.{good_change}
use Rattle.simplify_laws.proofs.LiteralsGood.{choices_good}
use Rattle.simplify_laws.proofs.NodeGood.{argument_made, length_simples, listed_back, listed_count, part_made, same_image, trees_count}

-- ---- places of a `let`: a name at an odd place, its expression after it, and the body at the end

not_first : (i : ℕ) → i % 2 ≡ 1 → nat_eq i 0 ≡ false
not_first i odd = ne_eqb i 0 (λ e. omega (arith, odd, e))

not_even : (i : ℕ) → i % 2 ≡ 1 → is_even i ≡ false
not_even i odd = ne_eqb (i % 2) 0 (λ e. omega (arith, odd, e))

then_even : (i : ℕ) → i % 2 ≡ 1 → is_even (i + 1) ≡ true
then_even i odd = eq-eqb ((i + 1) % 2) 0 (omega (arith, odd))

then_not_first : (i : ℕ) → nat_eq (i + 1) 0 ≡ false
then_not_first i = ne_eqb (i + 1) 0 (λ e. omega (arith, e))

body_place : (n i : ℕ) → i % 2 ≡ 1 → is_last n i ≡ true → element_place layouts.Bindings n i ≡ Output
body_place n i odd last = λ j. if not_first i odd j then Part else if last j then Output else if is_even i then Argument else Part

name_place : (n i : ℕ) → i % 2 ≡ 1 → is_last n i ≡ false → element_place layouts.Bindings n i ≡ Part
name_place n i odd more = λ j. if not_first i odd j then Part else if more j then Output else if not_even i odd j then Argument else Part

binding_place : (n i : ℕ) → i % 2 ≡ 1 → is_last n (i + 1) ≡ false → element_place layouts.Bindings n (i + 1) ≡ Argument
binding_place n i odd more = λ j. if then_not_first i j then Part else if more j then Output else if then_even i odd j then Argument else Part

binder_here : (n i : ℕ) → i % 2 ≡ 1 → is_last n i ≡ false → is_binder n i ≡ true
binder_here n i odd more = λ j. not (not_even i odd j) && not (more j)

no_binder_after : (n i : ℕ) → i % 2 ≡ 1 → is_binder n (i + 1) ≡ false
no_binder_after n i odd = ap (λ b. not b && not (is_last n (i + 1))) (then_even i odd)

no_binder_last : (n i : ℕ) → is_last n i ≡ true → is_binder n i ≡ false
no_binder_last n i last = ap (λ b. not (is_even i) && not b) last ∙ by (is_even i)
  where
    by : (b : Bool) → (not b && false) ≡ false
    by true = refl
    by false = refl

last_one : (n i : ℕ) → i + 1 ≡ n → is_last n i ≡ true
last_one n i e = eq-eqb (i + 1) n e

not_last : (n i : ℕ) → (i + 1 ≡ n → ⊥) → is_last n i ≡ false
not_last n i e = ne_eqb (i + 1) n e

-- ---- lists that end with one more

simples_end : (us : List Term) (u : Term) → simples (terms_of (us ++ u ∷ [])) ≡ simples (terms_of us) ++ choices u ∷ []
simples_end [] u = refl
simples_end (x ∷ us) u = ap (λ ss. choices x ∷ ss) (simples_end us u)

-- ---- names that are asked for, inside and outside of a `let`

-- some names bind of those that are asked for the same as others
abbrev BindSame : Names → Names → Names → Type 0
BindSame W bs [] = Unit {0}
BindSame W bs (s ∷ ss) = (is_some (last_place 0 W s) ≡ is_among bs s) × BindSame W bs ss

bind_same : (bs asks : Names) → BindSame bs bs asks
bind_same bs [] = tt
bind_same bs (s ∷ ss) = (place_of_known bs s, bind_same bs ss)

among_inner : (W bs M asks : Names) → BindSame W bs asks → AreAmong M (without W asks) → AreAmong (bs ++ M) asks
among_inner W bs M [] same h = tt
among_inner W bs M (s ∷ ss) same h = by (is_some (last_place 0 W s)) refl h (λ k. among_inner W bs M ss same.1 k)
  where
    by : (b : Bool) → is_some (last_place 0 W s) ≡ b → AreAmong M (if b then without W ss else s ∷ without W ss) → (AreAmong M (without W ss) → AreAmong (bs ++ M) ss) → AreAmong (bs ++ M) (s ∷ ss)
    by true q k later = (sym (among_append bs M s) ∙ or_left (is_among bs s) (is_among M s) (sym same.0 ∙ q), later k)
    by false q k later = (sym (among_append bs M s) ∙ or_right (is_among bs s) (is_among M s) k.0, later k.1)

among_outer : (W bs M asks : Names) → BindSame W bs asks → AreAmong (bs ++ M) asks → AreAmong M (without W asks)
among_outer W bs M [] same h = tt
among_outer W bs M (s ∷ ss) same h = by (is_some (last_place 0 W s)) refl (among_outer W bs M ss same.1 h.1)
  where
    by : (b : Bool) → is_some (last_place 0 W s) ≡ b → AreAmong M (without W ss) → AreAmong M (if b then without W ss else s ∷ without W ss)
    by true q later = later
    by false q later = (sym (ap (λ b. b || is_among M s) (sym same.0 ∙ q)) ∙ (among_append bs M s ∙ h.0), later)

-- ---- marks

-- of a name that is asked for the last place is marked
abbrev IsMarkedIn : List Bool → Names → List ℕ → Type 0
IsMarkedIn [] [] s = Unit {0}
IsMarkedIn [] (n ∷ ns) s = ⊥
IsMarkedIn (m ∷ ms) [] s = ⊥
IsMarkedIn (m ∷ ms) (n ∷ ns) s = (is_among ns s ≡ false → bytes_eq n s ≡ true → m ≡ true) × IsMarkedIn ms ns s

abbrev AreMarkedIn : List Bool → Names → Names → Type 0
AreMarkedIn ms ns [] = Unit {0}
AreMarkedIn ms ns (s ∷ ss) = IsMarkedIn ms ns s × AreMarkedIn ms ns ss

-- whether the mark at a place is true
abbrev HasMark : List Bool → ℕ → Type 0
HasMark ms j = slice_get ms j ≡ Some true

none_of : (o : Option ℕ) → is_some o ≡ false → o ≡ None
none_of None h = refl
none_of (Some j) h = absurd (cc)

no_place : (i : ℕ) (ns : Names) (s : List ℕ) → is_among ns s ≡ false → last_place i ns s ≡ None
no_place i [] s h = refl
no_place i (n ∷ ns) s h =
    let (here, later) = or_parts (bytes_eq n s) (is_among ns s) h in
    λ j. or_last (no_place (i + 1) ns s later j) (if here j then Some i else None)

marked_in : (ms : List Bool) (ns : Names) (s : List ℕ) (i : ℕ) → length ms ≡ length ns → ((j : ℕ) → last_place i ns s ≡ Some (i + j) → HasMark ms j) → IsMarkedIn ms ns s
marked_in [] [] s i l h = tt
marked_in [] (n ∷ ns) s i l h = absurd (omega (arith, l))
marked_in (m ∷ ms) [] s i l h = absurd (omega (arith, l))
marked_in (m ∷ ms) (n ∷ ns) s i l h = (
  λ none is.
      let at_first : i ≡ i + 0 = omega arith in
      let found : last_place i (n ∷ ns) s ≡ Some (i + 0) = (λ j. or_last (no_place (i + 1) ns s none j) (if is j then Some i else None)) ∙ ap Some at_first in
      let q : Some m ≡ Some true = h 0 found in
      cc,
  marked_in ms ns s (i + 1) (omega (arith, l)) (λ j found.
      let next : i + 1 + j ≡ i + suc j = omega arith in
      h (suc j) (ap (λ o. or_last o (if bytes_eq n s then Some i else None)) found ∙ ap Some next)),
)

mark_set : (ms : List Bool) (j : ℕ) → j < length ms → HasMark (slice_set ms j true) j
mark_set [] j h = absurd (omega (arith, h))
mark_set (m ∷ ms) zero h = refl
mark_set (m ∷ ms) (suc j) h = mark_set ms j (omega (arith, h))

mark_stays : (ms : List Bool) (i j : ℕ) → HasMark ms j → HasMark (slice_set ms i true) j
mark_stays [] i j h = h
mark_stays (m ∷ ms) zero zero h = refl
mark_stays (m ∷ ms) zero (suc j) h = h
mark_stays (m ∷ ms) (suc i) zero h = h
mark_stays (m ∷ ms) (suc i) (suc j) h = mark_stays ms i j h

marked_stays : (o : Option ℕ) (ms : List Bool) (j : ℕ) → HasMark ms j → HasMark (marked o ms) j
marked_stays None ms j h = h
marked_stays (Some i) ms j h = mark_stays ms i j h

marks_stay : (ms : List Bool) (ns asks : Names) (j : ℕ) → HasMark ms j → HasMark (marks_after ms ns asks) j
marks_stay ms ns [] j h = h
marks_stay ms ns (s ∷ ss) j h = marks_stay (marked (last_place 0 ns s) ms) ns ss j (marked_stays (last_place 0 ns s) ms j h)

marked_length : (o : Option ℕ) (ms : List Bool) → length (marked o ms) ≡ length ms
marked_length None ms = refl
marked_length (Some i) ms = length-set ms i true

marks_length : (ms : List Bool) (ns asks : Names) → length (marks_after ms ns asks) ≡ length ms
marks_length ms ns [] = refl
marks_length ms ns (s ∷ ss) = marks_length (marked (last_place 0 ns s) ms) ns ss ∙ marked_length (last_place 0 ns s) ms

unmarked_length : (ns : Names) → length (unmarked ns) ≡ length ns
unmarked_length [] = refl
unmarked_length (n ∷ ns) = ap suc (unmarked_length ns)

all_marks : (ms : List Bool) (ns asks : Names) → length ms ≡ length ns → (whole : List Bool) → length whole ≡ length ns → ((j : ℕ) → HasMark (marks_after ms ns asks) j → HasMark whole j) → AreMarkedIn whole ns asks
all_marks ms ns [] l whole k same = tt
all_marks ms ns (s ∷ ss) l whole k same = (
  marked_in whole ns s 0 k (λ j found.
      let first : 0 + j ≡ j = omega arith in
      let at : last_place 0 ns s ≡ Some j = found ∙ ap Some first in
      let within : j < length ns = subst (λ o. IfSome o (λ x. x < length ns)) at (last_within ns s (last_place 0 ns s) refl) in
      same j (marks_stay (marked (last_place 0 ns s) ms) ns ss j (subst (λ o. HasMark (marked o ms) j) (sym at) (mark_set ms j (omega (arith, within, l)))))),
  all_marks (marked (last_place 0 ns s) ms) ns ss (marked_length (last_place 0 ns s) ms ∙ l) whole k same,
)

marks_are : (ns asks : Names) → AreMarkedIn (asked_marks ns asks) ns asks
marks_are ns asks = all_marks (unmarked ns) ns asks (unmarked_length ns) (asked_marks ns asks) (marks_length (unmarked ns) ns asks ∙ unmarked_length ns) (λ j h. h)

-- ---- kinds

let_kinds : (want : Want) (o : Option (List Kind)) (p : Option Kind) (k : Kind) → body_kind want o p ≡ Some k → (js : List Kind) × (j : Kind) × (o ≡ Some js) × (p ≡ Some j)
let_kinds want (Some js) (Some j) k h = (js, j, refl, refl)
let_kinds want (Some js) None k h = absurd (cc)
let_kinds want None (Some j) k h = absurd (cc)
let_kinds want None None k h = absurd (cc)

pub let_ok : (o : Option Names) (op : Operator) → let_operator o ≡ Ok op → (bs : Names) × (o ≡ Some bs) × (op ≡ operators.Let bs)
let_ok (Some bs) op h = let q : operators.Let bs ≡ op = cc in (bs, refl, sym q)
let_ok None op h = absurd (cc)

-- a name more of a `let`
name_ok : (t : Tree) (ts : List Tree) (bs : Names) → binding_names (t ∷ ts) ≡ Some bs → (s : List ℕ) × (cs : Names) × (t ≡ text s) × (is_binding_name s ≡ true) × (bs ≡ s ∷ cs) × (binding_names ts ≡ Some cs)
name_ok null ts bs h = absurd (cc)
name_ok (boolean b) ts bs h = absurd (cc)
name_ok (number n) ts bs h = absurd (cc)
name_ok (list us) ts bs h = absurd (cc)
name_ok (object fs) ts bs h = absurd (cc)
name_ok (text s) ts bs h = by (is_binding_name s) refl h
  where
    rest : (o : Option Names) → binding_names ts ≡ o → is_binding_name s ≡ true → and_name s o ≡ Some bs → (r : List ℕ) × (cs : Names) × (text s ≡ text r) × (is_binding_name r ≡ true) × (bs ≡ r ∷ cs) × (binding_names ts ≡ Some cs)
    rest (Some cs) q is k = let e : s ∷ cs ≡ bs = cc in (s, cs, refl, is, sym e, q)
    rest None q is k = absurd (cc)

    by : (b : Bool) → is_binding_name s ≡ b → (if b then and_name s (binding_names ts) else None) ≡ Some bs → (r : List ℕ) × (cs : Names) × (text s ≡ text r) × (is_binding_name r ≡ true) × (bs ≡ r ∷ cs) × (binding_names ts ≡ Some cs)
    by true q k = rest (binding_names ts) refl q k
    by false q k = absurd (cc)

-- names that have the same kinds as others have those of a third
kinds_then : (asks : Names) (a b c : KindScope) → SameKinds asks a b → SameKinds asks b c → SameKinds asks a c
kinds_then [] a b c h k = tt
kinds_then (s ∷ ss) a b c h k = (h.0 ∙ k.0, kinds_then ss a b c h.1 k.1)

module _ (g : Values) (scope : KindScope) where
  -- in other names that it asks for
  rescoped : (want : Want) (N M : Names) (f : Bool) (t : Term) (e : SimpleElement) (k : Kind) → e.kind ≡ Some k → AreAmong M e.asks → Good g scope want N f t e → Good g scope want M f t e
  rescoped want N M f t e k is among good = record {
    first = good.first;
    second = good.second;
    parsed = (good.known k is).names M among;
    same = good.same;
    lighter = good.lighter;
    calmer = good.calmer;
    known = good.known;
    asked = λ j q. among;
    argument = good.argument;
  }

-- in names of these kinds
module _ (g : Values) (scope : KindScope) where
  module _ (N : Names) where
    -- a binding whose expression is simplified
    record Binding : Type 0 where
      pub name : List ℕ
      pub is_name : is_binding_name name ≡ true
      pub element : SimpleElement
      pub term : Term
      pub good : Good g scope wants.Any N false term element
      pub kept : Kept g scope wants.Any term element

    abbrev names_of : List Binding → Names
    names_of [] = []
    names_of (q ∷ qs) = q.name ∷ names_of qs

    abbrev spread : List Binding → List SimpleElement
    spread [] = []
    spread (q ∷ qs) = part (text q.name) ∷ q.element ∷ spread qs

    -- a term of each, and at the end that of the body
    abbrev terms_with : (Binding → Term) → List Binding → Term → List Term
    terms_with pick [] b = b ∷ []
    terms_with pick (q ∷ qs) b = pick q ∷ terms_with pick qs b

    abbrev picks : (Binding → Term) → List Binding → List Term
    picks pick [] = []
    picks pick (q ∷ qs) = pick q ∷ picks pick qs

    with_end : (pick : Binding → Term) (qs : List Binding) (b : Term) → terms_with pick qs b ≡ picks pick qs ++ b ∷ []
    with_end pick [] b = refl
    with_end pick (q ∷ qs) b = ap (λ ts. pick q ∷ ts) (with_end pick qs b)

    picks_count : (pick : Binding → Term) (qs : List Binding) → length (picks pick qs) ≡ length (names_of qs)
    picks_count pick [] = refl
    picks_count pick (q ∷ qs) = ap suc (picks_count pick qs)

    abbrev old_term : Binding → Term
    old_term q = q.term

    abbrev first_term : Binding → Term
    first_term q = q.good.first

    abbrev second_term : Binding → Term
    second_term q = q.good.second

    abbrev outcomes : (Binding → Term) → List Binding → BoundOutcomes → World → List (List ℕ × Evaluated)
    outcomes pick [] names w = []
    outcomes pick (q ∷ qs) names w = (q.name, mean (pick q) wants.Any names w) ∷ outcomes pick qs names w

    abbrev AllParsed : Names → List Binding → Type 0
    AllParsed M [] = Unit {0}
    AllParsed M (q ∷ qs) = Parsed g q.element.tree M false q.good.first q.good.second × AllParsed M qs

    all_parsed : (qs : List Binding) → AllParsed N qs
    all_parsed [] = tt
    all_parsed (q ∷ qs) = (q.good.parsed, all_parsed qs)

    spread_length : (qs : List Binding) → length (spread qs) ≡ length qs + length qs
    spread_length [] = omega arith
    spread_length (q ∷ qs) = let h = spread_length qs in omega (arith, h)

    -- ---- what a `let` means

    dropped : (pick : Binding → Term) (qs : List Binding) (b : Term) → drop (length (names_of qs)) (means (terms_of (terms_with pick qs b))) ≡ mean b ∷ []
    dropped pick [] b = refl
    dropped pick (q ∷ qs) b = dropped pick qs b

    framed : (pick : Binding → Term) (qs : List Binding) (b : Term) (names : BoundOutcomes) (w : World) →
        bound (names_of qs) (outcomes_of (take (length (names_of qs)) (means (terms_of (terms_with pick qs b)))) names w) ≡ outcomes pick qs names w
    framed pick [] b names w = refl
    framed pick (q ∷ qs) b names w = ap (λ F. (q.name, mean (pick q) wants.Any names w) ∷ F) (framed pick qs b names w)

    let_mean : (pick : Binding → Term) (qs : List Binding) (b : Term) (want : Want) (names : BoundOutcomes) (w : World) →
        mean (node (operators.Let (names_of qs)) (terms_of (terms_with pick qs b))) want names w ≡ mean b want (outcomes pick qs names w ∷ names) w
    let_mean pick qs b want names w = λ i. body_of (dropped pick qs b i) want (framed pick qs b names w i ∷ names) w

    same_outcomes : (qs : List Binding) (names : BoundOutcomes) (w : World) → outcomes second_term qs names w ≡ outcomes old_term qs names w
    same_outcomes [] names w = refl
    same_outcomes (q ∷ qs) names w = λ i. (q.name, q.good.same names w i) ∷ same_outcomes qs names w i

    lighter_terms : (w : Weights) (qs : List Binding) (x y : Term) → measure w x ≤ measure w y → measures w (terms_of (terms_with second_term qs x)) ≤ measures w (terms_of (terms_with old_term qs y))
    lighter_terms w [] x y h = omega (arith, h)
    lighter_terms w (q ∷ qs) x y h = let k = lighter_terms w qs x y h in let l = q.good.lighter w in omega (arith, l, k)

    none_named : (pick : Binding → Term) (qs : List Binding) (names : BoundOutcomes) (w : World) (s : List ℕ) → is_among (names_of qs) s ≡ false → last_named (outcomes pick qs names w) s ≡ None
    none_named pick [] names w s h = refl
    none_named pick (q ∷ qs) names w s h =
        let (here, later) = or_parts (bytes_eq q.name s) (is_among (names_of qs) s) h in
        ap (λ o. or_own o q.name (mean (pick q) wants.Any names w) s) (none_named pick qs names w s later)
        ∙ ap (λ b. if b then Some (mean (pick q) wants.Any names w) else None) here

    abbrev IsThere : Option Evaluated → Type 0
    IsThere o = (x : Evaluated) × (o ≡ Some x)

    own_there : (o : Option Evaluated) (name : List ℕ) (own : Evaluated) (s : List ℕ) → IsThere o → or_own o name own s ≡ o
    own_there (Some x) name own s h = refl
    own_there None name own s h = absurd (let q : None ≡ Some h.0 = h.1 in cc)

    some_named : (pick : Binding → Term) (qs : List Binding) (names : BoundOutcomes) (w : World) (s : List ℕ) → is_among (names_of qs) s ≡ true → IsThere (last_named (outcomes pick qs names w) s)
    some_named pick [] names w s h = absurd (cc)
    some_named pick (q ∷ qs) names w s h = by (is_among (names_of qs) s) refl (bytes_eq q.name s) refl (λ k. some_named pick qs names w s k)
      where
        by : (b : Bool) → is_among (names_of qs) s ≡ b → (c : Bool) → bytes_eq q.name s ≡ c → (is_among (names_of qs) s ≡ true → IsThere (last_named (outcomes pick qs names w) s)) → IsThere (last_named (outcomes pick (q ∷ qs) names w) s)
        by true k c r later =
            let there = later k in
            (there.0, own_there (last_named (outcomes pick qs names w) s) q.name (mean (pick q) wants.Any names w) s there ∙ there.1)
        by false k true r later = (
          mean (pick q) wants.Any names w,
          ap (λ o. or_own o q.name (mean (pick q) wants.Any names w) s) (none_named pick qs names w s k)
              ∙ ap (λ b. if b then Some (mean (pick q) wants.Any names w) else None) r,
        )
        by false k false r later = absurd (let bad : false ≡ true = sym (λ i. r i || k i) ∙ h in cc)

    -- the names of the bindings, and outside of them those that are asked for there
    same_inside : (qs : List Binding) (W asks : Names) (names names' : BoundOutcomes) (v w : World) → BindSame W (names_of qs) asks → SameAt (without W asks) names names' → outcomes second_term qs names v ≡ outcomes second_term qs names' w →
        SameAt asks (outcomes second_term qs names v ∷ names) (outcomes second_term qs names' w ∷ names')
    same_inside qs W [] names names' v w same h F = tt
    same_inside qs W (s ∷ ss) names names' v w same h F = by (is_some (last_place 0 W s)) refl h (λ k. same_inside qs W ss names names' v w same.1 k F)
      where
        or_there : (o : Option Evaluated) (x y : Evaluated) → IsThere o → or_outer o x ≡ or_outer o y
        or_there (Some z) x y h = refl
        or_there None x y h = absurd (let q : None ≡ Some h.0 = h.1 in cc)

        by : (b : Bool) → is_some (last_place 0 W s) ≡ b → SameAt (if b then without W ss else s ∷ without W ss) names names' → (SameAt (without W ss) names names' → SameAt ss (outcomes second_term qs names v ∷ names) (outcomes second_term qs names' w ∷ names')) →
            SameAt (s ∷ ss) (outcomes second_term qs names v ∷ names) (outcomes second_term qs names' w ∷ names')
        by true q k later = (
          or_there (last_named (outcomes second_term qs names v) s) (named_in names s) (named_in names' s) (some_named second_term qs names v s (sym same.0 ∙ q))
              ∙ ap (λ F. or_outer (last_named F s) (named_in names' s)) F,
          later k,
        )
        by false q k later = ((λ i. or_outer (last_named (F i) s) (k.0 i)), later k.1)

    -- ---- the kinds of its names

    abbrev kind_in : Option Kind → Kind
    kind_in (Some k) = k
    kind_in None = known_kinds.Any

    abbrev bound_kinds : List Binding → List (List ℕ × Kind)
    bound_kinds [] = []
    bound_kinds (q ∷ qs) = (q.name, kind_in q.element.kind) ∷ bound_kinds qs

    kinds_of_all : (q : Binding) (qs : List Binding) (js : List Kind) → argument_kinds (spread (q ∷ qs)) ≡ Some js → and_kind q.element.kind (argument_kinds (spread qs)) ≡ Some js
    kinds_of_all q qs js h = sym (ap (λ b. if b then argument_kinds (spread qs) else and_kind q.element.kind (argument_kinds (spread qs))) q.good.argument) ∙ h

    frame_is : (qs : List Binding) (js : List Kind) → argument_kinds (spread qs) ≡ Some js → kind_frame (names_of qs) js ≡ bound_kinds qs
    frame_is [] js h = refl
    frame_is (q ∷ qs) js h =
        let (j, is, j_is, is_are, all) = kinds_whole q.element.kind (argument_kinds (spread qs)) js (kinds_of_all q qs js h) in
        ap (kind_frame (q.name ∷ names_of qs)) (sym all) ∙ (λ i. (q.name, kind_in (sym j_is i)) ∷ frame_is qs is is_are i)

    abbrev HasOwn : Option Kind → Type 0
    HasOwn o = (x : Kind) × (o ≡ Some x)

    own_kept : (o : Option Kind) (name : List ℕ) (own : Kind) (s : List ℕ) → HasOwn o → kind_or_own o name own s ≡ o
    own_kept (Some x) name own s h = refl
    own_kept None name own s h = absurd (let q : None ≡ Some h.0 = h.1 in cc)

    no_kind : (qs : List Binding) (s : List ℕ) → is_among (names_of qs) s ≡ false → last_kind (bound_kinds qs) s ≡ None
    no_kind [] s h = refl
    no_kind (q ∷ qs) s h =
        let (here, later) = or_parts (bytes_eq q.name s) (is_among (names_of qs) s) h in
        ap (λ o. kind_or_own o q.name (kind_in q.element.kind) s) (no_kind qs s later) ∙ ap (λ b. if b then Some (kind_in q.element.kind) else None) here

    some_kind : (qs : List Binding) (s : List ℕ) → is_among (names_of qs) s ≡ true → HasOwn (last_kind (bound_kinds qs) s)
    some_kind [] s h = absurd (cc)
    some_kind (q ∷ qs) s h = by (is_among (names_of qs) s) refl (bytes_eq q.name s) refl (λ k. some_kind qs s k)
      where
        by : (b : Bool) → is_among (names_of qs) s ≡ b → (c : Bool) → bytes_eq q.name s ≡ c → (is_among (names_of qs) s ≡ true → HasOwn (last_kind (bound_kinds qs) s)) → HasOwn (last_kind (bound_kinds (q ∷ qs)) s)
        by true k c r later =
            let there = later k in
            (there.0, own_kept (last_kind (bound_kinds qs) s) q.name (kind_in q.element.kind) s there ∙ there.1)
        by false k true r later = (
          kind_in q.element.kind,
          ap (λ o. kind_or_own o q.name (kind_in q.element.kind) s) (no_kind qs s k) ∙ ap (λ b. if b then Some (kind_in q.element.kind) else None) r,
        )
        by false k false r later = absurd (let bad : false ≡ true = sym (λ i. r i || k i) ∙ h in cc)

    -- the kinds of its names, and outside of them of those that are asked for there
    kinds_inside : (qs : List Binding) (W asks : Names) (ks js : KindScope) → BindSame W (names_of qs) asks → SameKinds (without W asks) ks js → SameKinds asks (bound_kinds qs ∷ ks) (bound_kinds qs ∷ js)
    kinds_inside qs W [] ks js same h = tt
    kinds_inside qs W (s ∷ ss) ks js same h = by (is_some (last_place 0 W s)) refl h (λ k. kinds_inside qs W ss ks js same.1 k)
      where
        or_there : (o : Option Kind) (x y : KindOwn) → HasOwn o → kind_or_outer o x ≡ kind_or_outer o y
        or_there (Some z) x y h = refl
        or_there None x y h = absurd (let q : None ≡ Some h.0 = h.1 in cc)

        by : (b : Bool) → is_some (last_place 0 W s) ≡ b → SameKinds (if b then without W ss else s ∷ without W ss) ks js → (SameKinds (without W ss) ks js → SameKinds ss (bound_kinds qs ∷ ks) (bound_kinds qs ∷ js)) →
            SameKinds (s ∷ ss) (bound_kinds qs ∷ ks) (bound_kinds qs ∷ js)
        by true q k later = (or_there (last_kind (bound_kinds qs) s) (own_named ks s) (own_named js s) (some_kind qs s (sym same.0 ∙ q)), later k)
        by false q k later = (ap (kind_or_outer (last_kind (bound_kinds qs) s)) k.0, later k.1)

    -- ---- how it reads

    as_output : (n i : ℕ) → element_place layouts.Bindings n i ≡ Output → (f : Bool) (S : Type 0) (T : Bool → Type 0) → T f → HereOr (element_place layouts.Bindings n i) f S T
    as_output n i is f S T h = subst (λ p. HereOr p f S T) (sym is) h

    as_argument : (n i : ℕ) → element_place layouts.Bindings n i ≡ Argument → (f : Bool) (S : Type 0) (T : Bool → Type 0) → T false → HereOr (element_place layouts.Bindings n i) f S T
    as_argument n i is f S T h = subst (λ p. HereOr p f S T) (sym is) h

    as_part : (n i : ℕ) → element_place layouts.Bindings n i ≡ Part → (f : Bool) (S : Type 0) (T : Bool → Type 0) → S → HereOr (element_place layouts.Bindings n i) f S T
    as_part n i is f S T h = subst (λ p. HereOr p f S T) (sym is) h

    pairs_parsed : (n i : ℕ) (qs : List Binding) (M I : Names) (f : Bool) (body : SimpleElement) (x y : Term) → i % 2 ≡ 1 → i + (length qs + length qs) + 1 ≡ n → AllParsed M qs → Parsed g body.tree I f x y →
        ParsedArguments g layouts.Bindings n i (trees_of (map tree_in (spread qs ++ body ∷ []))) M I f (terms_with first_term qs x) (terms_with second_term qs y)
    pairs_parsed n i [] M I f body x y odd all parsed own =
        let last : is_last n i ≡ true = last_one n i (omega (arith, all)) in
        as_output n i (body_place n i odd last) f _ _
        (x, y, [], [], refl, refl, (subst (λ b. Parsed g body.tree (if b then I else M) f x y) (sym last) own, (refl, refl)))
    pairs_parsed n i (q ∷ qs) M I f body x y odd all parsed own =
        let more : is_last n i ≡ false = not_last n i (λ e. omega (arith, e, all)) in
        let still : is_last n (i + 1) ≡ false = not_last n (i + 1) (λ e. omega (arith, e, all)) in
        as_part n i (name_place n i odd more) f _ _
        (as_argument n (i + 1) (binding_place n i odd still) f _ _ (
          q.good.first,
          q.good.second,
          terms_with first_term qs x,
          terms_with second_term qs y,
          refl,
          refl,
          (
            subst (λ b. Parsed g q.element.tree (if b then I else M) false q.good.first q.good.second) (sym still) parsed.0,
            pairs_parsed n (i + 1 + 1) qs M I f body x y (omega (arith, odd)) (omega (arith, all)) parsed.1 own,
          ),
        ))

    pairs_named : (n i : ℕ) (qs : List Binding) (body : SimpleElement) → i % 2 ≡ 1 → i + (length qs + length qs) + 1 ≡ n → binding_names (taken is_binder n i (trees_of (map tree_in (spread qs ++ body ∷ [])))) ≡ Some (names_of qs)
    pairs_named n i [] body odd all = ap (λ b. binding_names (if b then body.tree ∷ [] else [])) (no_binder_last n i (last_one n i (omega (arith, all))))
    pairs_named n i (q ∷ qs) body odd all =
        let later = taken is_binder n (i + 1 + 1) (trees_of (map tree_in (spread qs ++ body ∷ []))) in
        let more : is_last n i ≡ false = not_last n i (λ e. omega (arith, e, all)) in
        (λ j. binding_names (if binder_here n i odd more j then text q.name ∷ (if no_binder_after n i odd j then q.element.tree ∷ later else later) else (if no_binder_after n i odd j then q.element.tree ∷ later else later)))
        ∙ (ap (λ b. if b then and_name q.name (binding_names later) else None) q.is_name
        ∙ ap (and_name q.name) (pairs_named n (i + 1 + 1) qs body (omega (arith, odd)) (omega (arith, all))))

    -- ---- what is known of bindings that have kinds

    record KnownBindings (qs : List Binding) : Type 0 where
      pub names : (M : Names) → AreAmong M (all_asks (spread qs)) → AllParsed M qs
      pub depends : (names names' : BoundOutcomes) (v w : World) → SameAt (all_asks (spread qs)) names names' → (some_reads (spread qs) ≡ true → v ≡ w) → outcomes second_term qs names v ≡ outcomes second_term qs names' w
      pub steady : some_reads (spread qs) ≡ false → (x y : Term) → x ≡ y → terms_with first_term qs x ≡ terms_with second_term qs y
      pub asked : AreAmong N (all_asks (spread qs))
      pub typed : (ks : KindScope) → SameKinds (all_asks (spread qs)) scope ks → (js : List Kind) → argument_kinds (spread qs) ≡ Some js → EachHas ks (picks second_term qs) js

    known_bindings : (qs : List Binding) (js : List Kind) → argument_kinds (spread qs) ≡ Some js → KnownBindings qs
    known_bindings [] js h = record {
      names = λ M a. tt;
      depends = λ names names' v w a reads. refl;
      steady = λ z x y e. ap (λ t. t ∷ []) e;
      asked = tt;
      typed = λ ks a is kinds. let none : [] ≡ is = cc in subst (EachHas ks []) none tt;
    }
    known_bindings (q ∷ qs) js h =
        let e = q.element in
        let reading_is : is_reading e ≡ e.reads = ap (λ b. if b then false else e.reads) q.good.argument in
        let kinds_are : and_kind e.kind (argument_kinds (spread qs)) ≡ Some js = sym (ap (λ b. if b then argument_kinds (spread qs) else and_kind e.kind (argument_kinds (spread qs))) q.good.argument) ∙ h in
        let (own, others, own_is, others_are) = both_kinds e.kind (argument_kinds (spread qs)) js kinds_are in
        let s = q.good.known own own_is in
        let r = known_bindings qs others others_are in
        record {
          names = λ M a. let (x, y) = among_parts M e.asks (all_asks (spread qs)) a in (s.names M x, r.names M y);
          depends = λ names names' v w a reads.
              let (x, y) = same_parts e.asks (all_asks (spread qs)) names names' a in
              (λ i. (q.name, s.depends names names' v w x (λ z. reads (or_left (is_reading e) (some_reads (spread qs)) (reading_is ∙ z))) i)
              ∷ r.depends names names' v w y (λ z. reads (or_right (is_reading e) (some_reads (spread qs)) z)) i);
          steady = λ z x y same. let (u, v) = or_parts (is_reading e) (some_reads (spread qs)) z in (λ i. s.steady (sym reading_is ∙ u) i ∷ r.steady v x y same i);
          asked = among_both N e.asks (all_asks (spread qs)) (q.good.asked own own_is) r.asked;
          typed = λ ks a is kinds.
              let (x, y) = kinds_apart e.asks (all_asks (spread qs)) scope ks a in
              let (k, ls, k_is, ls_are, all) = kinds_whole e.kind (argument_kinds (spread qs)) is (kinds_of_all q qs is kinds) in
              subst (EachHas ks (picks second_term (q ∷ qs))) all (s.typed ks x k k_is, r.typed ks y ls ls_are);
        }

    bindings_kept : (qs : List Binding) (js : List Kind) → EachTyped scope (picks old_term qs) js → argument_kinds (spread qs) ≡ Some js
    bindings_kept [] [] h = refl
    bindings_kept [] (j ∷ js) h = absurd h
    bindings_kept (q ∷ qs) [] h = absurd h
    bindings_kept (q ∷ qs) (j ∷ js) h =
        ap (λ b. if b then argument_kinds (spread qs) else and_kind q.element.kind (argument_kinds (spread qs))) q.good.argument
        ∙ (λ i. and_kind (q.kept j h.0 i) (bindings_kept qs js h.1 i))

    -- ---- where `zoom` is in it

    terms_strays : (pick : Binding → Term) (bs : Names) (qs : List Binding) (b : Term) (s : Standing) → strays (node (operators.Let bs) (terms_of (terms_with pick qs b))) s ≡ binding_zooms (picks pick qs) + strays b (body_standing s)
    terms_strays pick bs qs b s = ap (λ ts. strays (node (operators.Let bs) (terms_of ts)) s) (with_end pick qs b) ∙ let_strays bs (picks pick qs) b s

    fewer_zooms : (qs : List Binding) → binding_zooms (picks second_term qs) ≤ binding_zooms (picks old_term qs)
    fewer_zooms [] = omega arith
    fewer_zooms (q ∷ qs) = let x = q.good.lighter zooms in let y = fewer_zooms qs in omega (arith, x, y)

    -- ---- a `let` of these bindings

    module _ (want : Want) (f : Bool) (t : Tree) (head : head_name (tree t no_trees) ≡ Some named.Let) (W : Names) where
      abbrev new_let : List Binding → SimpleElement → SimpleElement
      new_let qs body = let_of W want (part t ∷ spread qs) body

      let_parsed : (qs : List Binding) (body : SimpleElement) (x y : Term) → 0 < length qs → (M : Names) → AllParsed M qs → Parsed g body.tree (names_of qs ++ M) f x y →
          Parsed g (new_let qs body).tree M f (node (operators.Let (names_of qs)) (terms_of (terms_with first_term qs x))) (node (operators.Let (names_of qs)) (terms_of (terms_with second_term qs y)))
      let_parsed qs body x y some M parsed own =
          let n = count_trees (trees_of (map tree_in (part t ∷ (spread qs ++ body ∷ [])))) in
          let counted : n ≡ length (part t ∷ (spread qs ++ body ∷ [])) = trees_count (part t ∷ (spread qs ++ body ∷ [])) in
          let long = length_end (spread qs) body in
          let twice = spread_length qs in
          let all : 1 + (length qs + length qs) + 1 ≡ n = omega (arith, counted, long, twice) in
          let least : nat_le 3 (n - 1) ≡ true = le-leb 3 (n - 1) (omega (arith, all, some)) in
          let odd : nat_eq ((n - 1) % 2) 1 ≡ true = eq-eqb ((n - 1) % 2) 1 (omega (arith, all)) in (
            named.Let,
            head,
            refl,
            (λ i. least i && odd i),
            (
              operators.Let (names_of qs),
              terms_with first_term qs x,
              terms_with second_term qs y,
              ap let_operator (pairs_named n 1 qs body refl all),
              refl,
              refl,
              refl,
              pairs_parsed n 1 qs M (names_of qs ++ M) f body x y refl all parsed own,
            ),
          )

      -- its body in names of other kinds, which are the same where it asks for them
      let_good : (around : KindScope) (qs : List Binding) (body : SimpleElement) (v : Term) → 0 < length qs → Good g around want (names_of qs ++ N) f v body → ((k : Kind) → body.kind ≡ Some k → BindSame W (names_of qs) body.asks) →
          SameKinds body.asks around (bound_kinds qs ∷ scope) →
          Good g scope want N f (node (operators.Let (names_of qs)) (terms_of (terms_with old_term qs v))) (new_let qs body)
      let_good around qs body v some good same inside = record {
        first = node (operators.Let (names_of qs)) (terms_of (terms_with first_term qs good.first));
        second = node (operators.Let (names_of qs)) (terms_of (terms_with second_term qs good.second));
        parsed = let_parsed qs body good.first good.second some N (all_parsed qs) good.parsed;
        same = λ names w.
            let_mean second_term qs good.second want names w
            ∙ (good.same (outcomes second_term qs names w ∷ names) w
            ∙ (ap (λ F. mean v want (F ∷ names) w) (same_outcomes qs names w)
            ∙ sym (let_mean old_term qs v want names w)));
        lighter = λ w.
            let h = lighter_terms w qs good.second v (good.lighter w) in
            let same_one = w.lets (names_of qs) (names_of qs) (count (terms_of (terms_with second_term qs good.second))) (count (terms_of (terms_with old_term qs v))) in
            omega (arith, h, same_one);
        calmer = λ s.
            let new = terms_strays second_term (names_of qs) qs good.second s in
            let old = terms_strays old_term (names_of qs) qs v s in
            let x = fewer_zooms qs in
            let y = good.calmer (body_standing s) in
            omega (arith, new, old, x, y);
        known = λ k q.
            let (js, j, kinds, own) = let_kinds want (argument_kinds (spread qs)) body.kind k q in
            known_let js j kinds own;
        asked = λ k q.
            let (js, j, kinds, own) = let_kinds want (argument_kinds (spread qs)) body.kind k q in
            among_both N (all_asks (spread qs)) (without W body.asks) (known_bindings qs js kinds).asked (among_outer W (names_of qs) N body.asks (same j own) (good.asked j own));
        argument = refl;
      }
        where
          known_let : (js : List Kind) (j : Kind) → argument_kinds (spread qs) ≡ Some js → body.kind ≡ Some j →
              Known g scope want f (new_let qs body) (node (operators.Let (names_of qs)) (terms_of (terms_with first_term qs good.first))) (node (operators.Let (names_of qs)) (terms_of (terms_with second_term qs good.second)))
          known_let js j kinds own =
              let r = known_bindings qs js kinds in
              let s = good.known j own in
              record {
                names = λ M a.
                    let (x, y) = among_parts M (all_asks (spread qs)) (without W body.asks) a in
                    let_parsed qs body good.first good.second some M (r.names M x) (s.names (names_of qs ++ M) (among_inner W (names_of qs) M body.asks (same j own) y));
                depends = λ names names' v w a reads.
                    let (x, y) = same_parts (all_asks (spread qs)) (without W body.asks) names names' a in
                    let F = r.depends names names' v w x (λ z. reads (or_left (some_reads (spread qs)) body.reads z)) in
                    let_mean second_term qs good.second want names v
                    ∙ (s.depends (outcomes second_term qs names v ∷ names) (outcomes second_term qs names' w ∷ names') v w (same_inside qs W body.asks names names' v w (same j own) y F) (λ z. reads (or_right (some_reads (spread qs)) body.reads z))
                    ∙ sym (let_mean second_term qs good.second want names' w));
                steady = λ z.
                    let (x, y) = or_parts (some_reads (spread qs)) body.reads z in
                    ap (λ us. node (operators.Let (names_of qs)) (terms_of us)) (r.steady x good.first good.second (s.steady y));
                typed = λ ks a k kind.
                    let (x, y) = kinds_apart (all_asks (spread qs)) (without W body.asks) scope ks a in
                    let named : bound_kinds qs ∷ ks ≡ kind_frame (names_of qs) js ∷ ks = ap (λ F. F ∷ ks) (sym (frame_is qs js kinds)) in
                    let there : SameKinds body.asks around (kind_frame (names_of qs) js ∷ ks) =
                    subst (SameKinds body.asks around) named (kinds_then body.asks around (bound_kinds qs ∷ scope) (bound_kinds qs ∷ ks) inside (kinds_inside qs W body.asks scope ks (same j own) y)) in
                    let own_is : Some (branch_kind want j) ≡ Some k = sym (λ i. body_kind want (kinds i) (own i)) ∙ kind in
                    let is : branch_kind want j ≡ k = cc in
                    subst (λ ts. HasKind (node (operators.Let (names_of qs)) (terms_of ts)) want ks k) (sym (with_end second_term qs good.second))
                    (subst (HasKind (node (operators.Let (names_of qs)) (terms_of (picks second_term qs ++ good.second ∷ []))) want ks) is
                    (let_has (names_of qs) (picks second_term qs) good.second (picks_count second_term qs) want ks js j (r.typed ks x js kinds) (s.typed (kind_frame (names_of qs) js ∷ ks) there j own)));
              }

    -- ---- without the bindings that are not asked for

    abbrev kept : List Bool → List Binding → List Binding
    kept [] qs = []
    kept (m ∷ ms) [] = []
    kept (m ∷ ms) (q ∷ qs) = if m then q ∷ kept ms qs else kept ms qs

    kept_among : (ms : List Bool) (qs : List Binding) (s : List ℕ) → IsMarkedIn ms (names_of qs) s → is_among (names_of (kept ms qs)) s ≡ is_among (names_of qs) s
    kept_among [] [] s h = refl
    kept_among [] (q ∷ qs) s h = absurd h
    kept_among (m ∷ ms) [] s h = absurd h
    kept_among (true ∷ ms) (q ∷ qs) s h = ap (λ b. bytes_eq q.name s || b) (kept_among ms qs s h.1)
    kept_among (false ∷ ms) (q ∷ qs) s h = kept_among ms qs s h.1 ∙ by (is_among (names_of qs) s) refl (bytes_eq q.name s) refl
      where
        by : (b : Bool) → is_among (names_of qs) s ≡ b → (c : Bool) → bytes_eq q.name s ≡ c → b ≡ (c || b)
        by true k true r = refl
        by true k false r = refl
        by false k true r = absurd (let bad : false ≡ true = h.0 k r in cc)
        by false k false r = refl

    kept_last : (pick : Binding → Term) (ms : List Bool) (qs : List Binding) (names : BoundOutcomes) (w : World) (s : List ℕ) → IsMarkedIn ms (names_of qs) s →
        last_named (outcomes pick (kept ms qs) names w) s ≡ last_named (outcomes pick qs names w) s
    kept_last pick [] [] names w s h = refl
    kept_last pick [] (q ∷ qs) names w s h = absurd h
    kept_last pick (m ∷ ms) [] names w s h = absurd h
    kept_last pick (true ∷ ms) (q ∷ qs) names w s h = ap (λ o. or_own o q.name (mean (pick q) wants.Any names w) s) (kept_last pick ms qs names w s h.1)
    kept_last pick (false ∷ ms) (q ∷ qs) names w s h = kept_last pick ms qs names w s h.1 ∙ by (is_among (names_of qs) s) refl (bytes_eq q.name s) refl
      where
        by : (b : Bool) → is_among (names_of qs) s ≡ b → (c : Bool) → bytes_eq q.name s ≡ c → last_named (outcomes pick qs names w) s ≡ last_named (outcomes pick (q ∷ qs) names w) s
        by true k c r = sym (own_there (last_named (outcomes pick qs names w) s) q.name (mean (pick q) wants.Any names w) s (some_named pick qs names w s k))
        by false k true r = absurd (let bad : false ≡ true = h.0 k r in cc)
        by false k false r =
            none_named pick qs names w s k
            ∙ sym (ap (λ o. or_own o q.name (mean (pick q) wants.Any names w) s) (none_named pick qs names w s k)
            ∙ ap (λ b. if b then Some (mean (pick q) wants.Any names w) else None) r)

    kinds_kept_last : (ms : List Bool) (qs : List Binding) (s : List ℕ) → IsMarkedIn ms (names_of qs) s → last_kind (bound_kinds (kept ms qs)) s ≡ last_kind (bound_kinds qs) s
    kinds_kept_last [] [] s h = refl
    kinds_kept_last [] (q ∷ qs) s h = absurd h
    kinds_kept_last (m ∷ ms) [] s h = absurd h
    kinds_kept_last (true ∷ ms) (q ∷ qs) s h = ap (λ o. kind_or_own o q.name (kind_in q.element.kind) s) (kinds_kept_last ms qs s h.1)
    kinds_kept_last (false ∷ ms) (q ∷ qs) s h = kinds_kept_last ms qs s h.1 ∙ by (is_among (names_of qs) s) refl (bytes_eq q.name s) refl
      where
        by : (b : Bool) → is_among (names_of qs) s ≡ b → (c : Bool) → bytes_eq q.name s ≡ c → last_kind (bound_kinds qs) s ≡ last_kind (bound_kinds (q ∷ qs)) s
        by true k c r = sym (own_kept (last_kind (bound_kinds qs) s) q.name (kind_in q.element.kind) s (some_kind qs s k))
        by false k true r = absurd (let bad : false ≡ true = h.0 k r in cc)
        by false k false r =
            no_kind qs s k
            ∙ sym (ap (λ o. kind_or_own o q.name (kind_in q.element.kind) s) (no_kind qs s k) ∙ ap (λ b. if b then Some (kind_in q.element.kind) else None) r)

    kinds_kept_inside : (ms : List Bool) (qs : List Binding) (asks : Names) (ks : KindScope) → AreMarkedIn ms (names_of qs) asks → SameKinds asks (bound_kinds qs ∷ ks) (bound_kinds (kept ms qs) ∷ ks)
    kinds_kept_inside ms qs [] ks h = tt
    kinds_kept_inside ms qs (s ∷ ss) ks h = (ap (λ o. kind_or_outer o (own_named ks s)) (sym (kinds_kept_last ms qs s h.0)), kinds_kept_inside ms qs ss ks h.1)

    kept_zooms : (ms : List Bool) (qs : List Binding) → binding_zooms (picks old_term (kept ms qs)) ≤ binding_zooms (picks old_term qs)
    kept_zooms [] qs = omega arith
    kept_zooms (m ∷ ms) [] = omega arith
    kept_zooms (true ∷ ms) (q ∷ qs) = let h = kept_zooms ms qs in omega (arith, h)
    kept_zooms (false ∷ ms) (q ∷ qs) = let h = kept_zooms ms qs in omega (arith, h)

    kept_inside : (pick : Binding → Term) (ms : List Bool) (qs : List Binding) (asks : Names) (names : BoundOutcomes) (w : World) → AreMarkedIn ms (names_of qs) asks →
        SameAt asks (outcomes pick (kept ms qs) names w ∷ names) (outcomes pick qs names w ∷ names)
    kept_inside pick ms qs [] names w h = tt
    kept_inside pick ms qs (s ∷ ss) names w h = (ap (λ o. or_outer o (named_in names s)) (kept_last pick ms qs names w s h.0), kept_inside pick ms qs ss names w h.1)

    kept_binds : (ms : List Bool) (qs : List Binding) (asks : Names) → AreMarkedIn ms (names_of qs) asks → BindSame (names_of qs) (names_of (kept ms qs)) asks
    kept_binds ms qs [] h = tt
    kept_binds ms qs (s ∷ ss) h = (place_of_known (names_of qs) s ∙ sym (kept_among ms qs s h.0), kept_binds ms qs ss h.1)

    kept_scope : (ms : List Bool) (qs : List Binding) (asks M : Names) → AreMarkedIn ms (names_of qs) asks → AreAmong (names_of qs ++ M) asks → AreAmong (names_of (kept ms qs) ++ M) asks
    kept_scope ms qs [] M h k = tt
    kept_scope ms qs (s ∷ ss) M h k = (
      sym (among_append (names_of (kept ms qs)) M s) ∙ (ap (λ b. b || is_among M s) (kept_among ms qs s h.0) ∙ (among_append (names_of qs) M s ∙ k.0)),
      kept_scope ms qs ss M h.1 k.1,
    )

    kept_lighter : (w : Weights) (ms : List Bool) (qs : List Binding) (b : Term) → measures w (terms_of (terms_with old_term (kept ms qs) b)) ≤ measures w (terms_of (terms_with old_term qs b))
    kept_lighter w [] [] b = omega arith
    kept_lighter w [] (q ∷ qs) b = let h = kept_lighter w [] qs b in omega (arith, h)
    kept_lighter w (m ∷ ms) [] b = omega arith
    kept_lighter w (true ∷ ms) (q ∷ qs) b = let h = kept_lighter w ms qs b in omega (arith, h)
    kept_lighter w (false ∷ ms) (q ∷ qs) b = let h = kept_lighter w ms qs b in omega (arith, h)

    kept_none : (ms : List Bool) (qs : List Binding) → some_marked ms ≡ false → kept ms qs ≡ []
    kept_none [] qs h = refl
    kept_none (m ∷ ms) [] h = refl
    kept_none (true ∷ ms) (q ∷ qs) h = absurd (cc)
    kept_none (false ∷ ms) (q ∷ qs) h = kept_none ms qs h

    kept_some : (ms : List Bool) (qs : List Binding) → length ms ≡ length qs → some_marked ms ≡ true → 0 < length (kept ms qs)
    kept_some [] qs l h = absurd (cc)
    kept_some (m ∷ ms) [] l h = absurd (omega (arith, l))
    kept_some (true ∷ ms) (q ∷ qs) l h = omega arith
    kept_some (false ∷ ms) (q ∷ qs) l h = kept_some ms qs (omega (arith, l)) h

    kept_spread : (marks ms : List Bool) (j i : ℕ) (qs : List Binding) → ((a : ℕ) → slice_get marks (j + a) ≡ slice_get ms a) → i ≡ j + j + 1 → length ms ≡ length qs → asked_elements marks i (spread qs) ≡ spread (kept ms qs)
    kept_spread marks [] j i [] from at l = refl
    kept_spread marks [] j i (q ∷ qs) from at l = absurd (omega (arith, l))
    kept_spread marks (m ∷ ms) j i [] from at l = refl
    kept_spread marks (m ∷ ms) j i (q ∷ qs) from at l =
        let rest : asked_elements marks (i + 1 + 1) (spread qs) ≡ spread (kept ms qs) =
        kept_spread marks ms (j + 1) (i + 1 + 1) qs (λ a. let next : j + 1 + a ≡ j + suc a = omega arith in ap (slice_get marks) next ∙ from (suc a)) (omega (arith, at)) (omega (arith, l)) in
        (λ x. if asked_here i at_name (half_name) x then part (text q.name) ∷ (if asked_here (i + 1) at_element half_element x then q.element ∷ rest x else rest x) else (if asked_here (i + 1) at_element half_element x then q.element ∷ rest x else rest x))
        ∙ by m
      where
        at_name : nat_eq i 0 ≡ false
        at_name = ne_eqb i 0 (λ e. omega (arith, at, e))

        at_element : nat_eq (i + 1) 0 ≡ false
        at_element = ne_eqb (i + 1) 0 (λ e. omega (arith, e))

        half_name : (i - 1) / 2 ≡ j + 0
        half_name = omega (arith, at)

        half_element : (i + 1 - 1) / 2 ≡ j + 0
        half_element = omega (arith, at)

        asked_here : (a : ℕ) → nat_eq a 0 ≡ false → (a - 1) / 2 ≡ j + 0 → is_asked_at marks a ≡ m
        asked_here a apart half = (λ x. apart x || mark_or_not (slice_get marks (half x))) ∙ ap mark_or_not (from 0)

        by : (b : Bool) → (if b then part (text q.name) ∷ (if b then q.element ∷ spread (kept ms qs) else spread (kept ms qs)) else (if b then q.element ∷ spread (kept ms qs) else spread (kept ms qs))) ≡ spread (if b then q ∷ kept ms qs else kept ms qs)
        by true = refl
        by false = refl

    module _ (want : Want) (f : Bool) (t : Tree) (head : head_name (tree t no_trees) ≡ Some named.Let) (qs : List Binding) (js0 : List Kind) (bound0 : argument_kinds (spread qs) ≡ Some js0) (body : SimpleElement) (v : Term) (good : Good g (kind_frame (names_of qs) js0 ∷ scope) want (names_of qs ++ N) f v body) where
      abbrev around : KindScope
      around = kind_frame (names_of qs) js0 ∷ scope

      around_is : around ≡ bound_kinds qs ∷ scope
      around_is = ap (λ F. F ∷ scope) (frame_is qs js0 bound0)

      abbrev old_let : Term
      old_let = node (operators.Let (names_of qs)) (terms_of (terms_with old_term qs v))

      module _ (j : Kind) (own : body.kind ≡ Some j) (ms : List Bool) (counted : length ms ≡ length qs) (are : AreMarkedIn ms (names_of qs) body.asks) where
        -- the body alone
        body_good : some_marked ms ≡ false → Good g scope want N f old_let body
        body_good none = record {
          first = good.first;
          second = good.second;
          parsed = (good.known j own).names N outside;
          same = λ names w.
              (good.known j own).depends names (outcomes old_term qs names w ∷ names) w w (alone names w body.asks are) (λ z. refl)
              ∙ (good.same (outcomes old_term qs names w ∷ names) w ∙ sym (let_mean old_term qs v want names w));
          lighter = λ w. let h = body_lighter w qs in let l = good.lighter w in omega (arith, h, l);
          calmer = λ s.
              let old = terms_strays old_term (names_of qs) qs v s in
              let own = good.calmer s in
              let less = body_calmer v s in
              omega (arith, old, own, less);
          known = λ k q.
              let known = good.known k q in
              record {
                names = known.names;
                depends = known.depends;
                steady = known.steady;
                typed = λ ks a i kind. known.typed ks (kinds_then body.asks around scope ks kinds_outside a) i kind;
              };
          asked = λ k q. outside;
          argument = good.argument;
        }
          where
            nothing : kept ms qs ≡ []
            nothing = kept_none ms qs none

            kinds_alone : (asks : Names) → AreMarkedIn ms (names_of qs) asks → SameKinds asks (bound_kinds qs ∷ scope) scope
            kinds_alone [] h = tt
            kinds_alone (s ∷ ss) h = (
              ap (λ o. kind_or_outer o (own_named scope s)) (sym (kinds_kept_last ms qs s h.0) ∙ ap (λ xs. last_kind (bound_kinds xs) s) nothing),
              kinds_alone ss h.1,
            )

            kinds_outside : SameKinds body.asks around scope
            kinds_outside = subst (λ B. SameKinds body.asks B scope) (sym around_is) (kinds_alone body.asks are)

            outside : AreAmong N body.asks
            outside = subst (λ xs. AreAmong (names_of xs ++ N) body.asks) nothing (kept_scope ms qs body.asks N are (good.asked j own))

            alone : (names : BoundOutcomes) (w : World) (asks : Names) → AreMarkedIn ms (names_of qs) asks → SameAt asks names (outcomes old_term qs names w ∷ names)
            alone names w [] h = tt
            alone names w (s ∷ ss) h = (
              ap (λ o. or_outer o (named_in names s)) (sym (ap (λ xs. last_named (outcomes old_term xs names w) s) nothing) ∙ kept_last old_term ms qs names w s h.0),
              alone names w ss h.1,
            )

            body_lighter : (w : Weights) (xs : List Binding) → measure w v ≤ measures w (terms_of (terms_with old_term xs v))
            body_lighter w [] = omega arith
            body_lighter w (x ∷ xs) = let h = body_lighter w xs in omega (arith, h)

        -- the bindings that are asked for
        kept_good : some_marked ms ≡ true → Good g scope want N f old_let (let_of (names_of qs) want (part t ∷ spread (kept ms qs)) body)
        kept_good some =
            let inner : Good g around want (names_of (kept ms qs) ++ N) f v body =
            rescoped g around want (names_of qs ++ N) (names_of (kept ms qs) ++ N) f v body j own (kept_scope ms qs body.asks N are (good.asked j own)) good in
            good_change g scope want N f old_let (node (operators.Let (names_of (kept ms qs))) (terms_of (terms_with old_term (kept ms qs) v))) (let_of (names_of qs) want (part t ∷ spread (kept ms qs)) body)
            (λ names w.
            let_mean old_term (kept ms qs) v want names w
            ∙ (sym (good.same (outcomes old_term (kept ms qs) names w ∷ names) w)
            ∙ ((good.known j own).depends (outcomes old_term (kept ms qs) names w ∷ names) (outcomes old_term qs names w ∷ names) w w (kept_inside old_term ms qs body.asks names w are) (λ z. refl)
            ∙ (good.same (outcomes old_term qs names w ∷ names) w
            ∙ sym (let_mean old_term qs v want names w)))))
            (λ w.
            let h = kept_lighter w ms qs v in
            let same_one = w.lets (names_of (kept ms qs)) (names_of qs) (count (terms_of (terms_with old_term (kept ms qs) v))) (count (terms_of (terms_with old_term qs v))) in
            omega (arith, h, same_one))
            (λ s.
            let new = terms_strays old_term (names_of (kept ms qs)) (kept ms qs) v s in
            let old = terms_strays old_term (names_of qs) qs v s in
            let x = kept_zooms ms qs in
            omega (arith, new, old, x))
            (let_good want f t head (names_of qs) around (kept ms qs) body v (kept_some ms qs counted some) inner (λ k q. kept_binds ms qs body.asks are)
            (subst (λ B. SameKinds body.asks B (bound_kinds (kept ms qs) ∷ scope)) (sym around_is) (kinds_kept_inside ms qs body.asks scope are)))

        shorter_by : (a b : Bool) → some_marked ms ≡ b → (made : SimpleElement) → (if a then None else if b then Some (let_of (names_of qs) want (part t ∷ spread (kept ms qs)) body) else Some body) ≡ Some made → Good g scope want N f old_let made
        shorter_by true b q made h = absurd (cc)
        shorter_by false true q made h = let e : let_of (names_of qs) want (part t ∷ spread (kept ms qs)) body ≡ made = cc in subst (Good g scope want N f old_let) e (kept_good q)
        shorter_by false false q made h = let e : body ≡ made = cc in subst (Good g scope want N f old_let) e (body_good q)

      names_length : (xs : List Binding) → length (names_of xs) ≡ length xs
      names_length [] = refl
      names_length (x ∷ xs) = ap suc (names_length xs)

      let_kept : Kept g around want v body → Kept g scope want old_let (let_of (names_of qs) want (part t ∷ spread qs) body)
      let_kept stays k typed =
          let (js, j, each, own, k_is) =
          let_from (names_of qs) (picks old_term qs) v (picks_count old_term qs) want scope k (subst (λ ts. IsTyped (node (operators.Let (names_of qs)) (terms_of ts)) want scope k) (with_end old_term qs v) typed) in
          let bound : argument_kinds (spread qs) ≡ Some js = bindings_kept qs js each in
          let both : Some js ≡ Some js0 = sym bound ∙ bound0 in
          let same : js ≡ js0 = cc in
          let body_is : body.kind ≡ Some j = stays j (subst (λ is. IsTyped v want (kind_frame (names_of qs) is ∷ scope) j) same own) in
          (λ i. body_kind want (bound i) (body_is i)) ∙ ap Some (sym k_is)

      let_choices_good : 0 < length qs → Kept g around want v body → (u : Tree) → GoodChoices g scope want N f old_let (let_choices (names_of qs) want (part t ∷ spread qs) (Some body) u)
      let_choices_good some stays u =
          choices_good g scope want N f old_let (let_of (names_of qs) want (part t ∷ spread qs) body) (shorter_let (names_of qs) want (part t ∷ spread qs) body)
          (let_good want f t head (names_of qs) around qs body v some good (λ k q. bind_same (names_of qs) body.asks) (subst (SameKinds body.asks around) around_is (same_kinds body.asks around)))
          (let_kept stays)
          (λ made h k kind.
          let (js, j, kinds, own) = let_kinds want (argument_kinds (spread qs)) body.kind k kind in
          let ms = asked_marks (names_of qs) body.asks in
          let counted : length ms ≡ length qs = marks_length (unmarked (names_of qs)) (names_of qs) body.asks ∙ (unmarked_length (names_of qs) ∙ names_length qs) in
          let elements_are : asked_elements ms 0 (part t ∷ spread qs) ≡ part t ∷ spread (kept ms qs) = ap (λ es. part t ∷ es) (kept_spread ms ms 0 1 qs (λ a. let first : 0 + a ≡ a = omega arith in ap (slice_get ms) first) refl counted) in
          shorter_by j own ms counted (marks_are (names_of qs) body.asks) (all_marked ms) (some_marked ms) refl made
          (sym (ap (λ es. if all_marked ms then None else if some_marked ms then Some (let_of (names_of qs) want es body) else Some body) elements_are) ∙ h))

    -- ---- bindings and body among the elements that were parsed

    module _ (I : Names) (f : Bool) (n : ℕ) where
      record LetParts (i : ℕ) (ts : Trees) (us vs : List Term) (bs : Names) : Type 0 where
        pub bindings : List Binding
        pub body : Tree
        pub old : Term
        pub new : Term
        pub good : GoodTree g body
        pub parsed : Parsed g body I f old new
        pub names_are : bs ≡ names_of bindings
        pub terms_are : vs ≡ terms_with old_term bindings new
        pub before : List Term
        pub olds_are : us ≡ before ++ old ∷ []
        pub as_many : length before ≡ length bindings
        pub front : List Tree
        pub twice : length front ≡ length bindings + length bindings
        pub listed_is : listed ts ≡ front ++ body ∷ []
        pub elements_are : (xs : Names) (m k : ℕ) (want : Want) → k + length bindings + 1 ≡ m → elements (operators.Let xs) n m want scope i k (simples (terms_of before)) front ≡ spread bindings

      from_output : (i : ℕ) → element_place layouts.Bindings n i ≡ Output → (S : Type 0) (T : Bool → Type 0) → HereOr (element_place layouts.Bindings n i) f S T → T f
      from_output i is S T h = subst (λ p. HereOr p f S T) is h

      from_argument : (i : ℕ) → element_place layouts.Bindings n i ≡ Argument → (S : Type 0) (T : Bool → Type 0) → HereOr (element_place layouts.Bindings n i) f S T → T false
      from_argument i is S T h = subst (λ p. HereOr p f S T) is h

      from_part : (i : ℕ) → element_place layouts.Bindings n i ≡ Part → (S : Type 0) (T : Bool → Type 0) → HereOr (element_place layouts.Bindings n i) f S T → S
      from_part i is S T h = subst (λ p. HereOr p f S T) is h

      later_good : (t : Tree) (ts : Trees) → GoodTrees g (tree t ts) → GoodTrees g ts
      later_good t ts good = good.2

      let_parts : (i : ℕ) (ts : Trees) (us vs : List Term) (bs : Names) → GoodTrees g ts → i % 2 ≡ 1 → i + count_trees ts ≡ n → count_trees ts % 2 ≡ 1 → binding_names (taken is_binder n i ts) ≡ Some bs →
          ParsedArguments g layouts.Bindings n i ts N I f us vs → LetParts i ts us vs bs
      let_parts i no_trees us vs bs good odd all count names h = absurd (omega (arith, count))
      let_parts i (tree body no_trees) us vs bs good odd all count names h =
          let last : is_last n i ≡ true = last_one n i (omega (arith, all)) in
          let (u, v, xs, ys, us_is, vs_is, (parsed, none)) = from_output i (body_place n i odd last) _ _ h in
          let no_name : Some [] ≡ Some bs = sym (ap (λ b. binding_names (if b then body ∷ [] else [])) (no_binder_last n i last)) ∙ names in
          let none_named : [] ≡ bs = cc in
          record {
            bindings = [];
            body = body;
            old = u;
            new = v;
            good = good.0;
            parsed = subst (λ b. Parsed g body (if b then I else N) f u v) last parsed;
            names_are = sym none_named;
            terms_are = vs_is ∙ ap (λ zs. v ∷ zs) none.1;
            before = [];
            olds_are = us_is ∙ ap (λ zs. u ∷ zs) none.0;
            as_many = refl;
            front = [];
            twice = omega arith;
            listed_is = refl;
            elements_are = λ xs m k want e. refl;
          }
      let_parts i (tree own (tree x rest)) us vs bs good odd all count names h =
          let after : count_trees rest % 2 ≡ 1 = omega (arith, count) in
          let more : is_last n i ≡ false = not_last n i (λ e. omega (arith, e, all)) in
          let still : is_last n (i + 1) ≡ false = not_last n (i + 1) (λ e. omega (arith, e, all, after)) in
          let later = taken is_binder n (i + 1 + 1) rest in
          let first_named : binding_names (own ∷ later) ≡ Some bs =
          sym (λ j. binding_names (if binder_here n i odd more j then own ∷ (if no_binder_after n i odd j then x ∷ later else later) else (if no_binder_after n i odd j then x ∷ later else later))) ∙ names in
          let (s, cs, own_is, is_name, bs_is, others_named) = name_ok own later bs first_named in
          let (u, v, xs, ys, us_is, vs_is, (parsed, others)) = from_argument (i + 1) (binding_place n i odd still) _ _ (from_part i (name_place n i odd more) _ _ h) in
          let here : GoodTrees g (tree x rest) = later_good own (tree x rest) good in
          let one : GoodTree g x = here.0 in
          let r = let_parts (i + 1 + 1) rest xs ys cs (later_good x rest here) (omega (arith, odd)) (omega (arith, all)) after others_named others in
          let made : GoodChoices g scope wants.Any N false v (choices u x wants.Any scope) = (one N false u v (subst (λ b. Parsed g x (if b then I else N) false u v) still parsed) wants.Any scope).0 in
          let q : Binding = record {
            name = s;
            is_name = is_name;
            element = simple_element false (choices u) x wants.Any scope;
            term = v;
            good = chosen_good g scope wants.Any N false v false (choices u x wants.Any scope) made;
            kept = chosen_kept g scope wants.Any N false v false (choices u x wants.Any scope) made;
          } in
          record {
            bindings = q ∷ r.bindings;
            body = r.body;
            old = r.old;
            new = r.new;
            good = r.good;
            parsed = r.parsed;
            names_are = bs_is ∙ ap (λ zs. s ∷ zs) r.names_are;
            terms_are = vs_is ∙ ap (λ zs. v ∷ zs) r.terms_are;
            before = u ∷ r.before;
            olds_are = us_is ∙ ap (λ zs. u ∷ zs) r.olds_are;
            as_many = ap suc r.as_many;
            front = own ∷ x ∷ r.front;
            twice = omega (arith, r.twice);
            listed_is = ap (λ zs. own ∷ x ∷ zs) r.listed_is;
            elements_are = λ xs m k want e.
                part_made (operators.Let xs) n m want scope i k (u ∷ r.before) own (x ∷ r.front) (ap is_part (name_place n i odd more))
                ∙ (ap (λ es. part own ∷ es) (argument_made (operators.Let xs) n m want scope (i + 1) k u r.before x r.front (ap is_part (binding_place n i odd still)))
                ∙ (λ j. part (own_is j) ∷ simple_element false (choices u) x (any_want m k want (not_last m k (λ z. omega (arith, z, e))) j) scope ∷ r.elements_are xs m (k + 1) want (omega (arith, e)) j));
          }
        where
          any_want : (m k : ℕ) (want : Want) → is_last m k ≡ false → want_of (if is_last m k then OfNode else Own wants.Any) want ≡ wants.Any
          any_want m k want e = ap (λ b. want_of (if b then OfNode else Own wants.Any) want) e

  -- ---- the node

  module _ (t : Tree) (rest : Trees) (N : Names) (f : Bool) (us vs : List Term) (bs : Names) (want : Want) where
    abbrev ss : List Simple
    ss = simples (terms_of us)

    abbrev all : List Tree
    all = t ∷ listed rest

    abbrev LetIsGood : NodeChoices → Type 0
    LetIsGood c = GoodNode g scope want N f (list (tree t rest)) (node (operators.Let bs) (terms_of vs)) c

    -- it has a type fault
    unread_good : Parsed g (list (tree t rest)) N f (node (operators.Let bs) (terms_of us)) (node (operators.Let bs) (terms_of vs)) → ((k : Kind) → IsTyped (node (operators.Let bs) (terms_of vs)) want scope k → ⊥) →
        LetIsGood (as_it_is want (unread (list (tree t rest))))
    unread_good parsed never = (
      choices_good g scope want N f (node (operators.Let bs) (terms_of vs)) (unread (list (tree t rest))) None
          (record {
            first = node (operators.Let bs) (terms_of us);
            second = node (operators.Let bs) (terms_of vs);
            parsed = parsed;
            same = λ names w. refl;
            lighter = λ w. omega arith;
            calmer = λ s. omega arith;
            known = λ k q. absurd (cc);
            asked = λ k q. absurd (cc);
            argument = refl;
          })
          (λ k typed. absurd (never k typed))
          (λ made q k kind. absurd (cc)),
      λ apart h. h,
    )

    bound_good : (qs : List (Binding N)) (js : List Kind) → argument_kinds (spread N qs) ≡ Some js → (new : Term) (body : SimpleElement) → head_name (tree t no_trees) ≡ Some named.Let → bs ≡ names_of N qs → vs ≡ terms_with N (old_term N) qs new → 0 < length qs →
        Good g (kind_frame bs js ∷ scope) want (bs ++ N) f new body → Kept g (kind_frame bs js ∷ scope) want new body → LetIsGood (let_choices bs want (part t ∷ spread N qs) (Some body) (list (tree t rest)))
    bound_good qs js bound new body head names_are terms_are some good kept =
        let inner : Good g (kind_frame (names_of N qs) js ∷ scope) want (names_of N qs ++ N) f new body = subst (λ zs. Good g (kind_frame zs js ∷ scope) want (zs ++ N) f new body) names_are good in
        let stays : Kept g (kind_frame (names_of N qs) js ∷ scope) want new body = subst (λ zs. Kept g (kind_frame zs js ∷ scope) want new body) names_are kept in (
          subst (λ zs. GoodChoices g scope want N f (node (operators.Let zs) (terms_of vs)) (let_choices zs want (part t ∷ spread N qs) (Some body) (list (tree t rest)))) (sym names_are)
              (subst (λ zs. GoodChoices g scope want N f (node (operators.Let (names_of N qs)) (terms_of zs)) (let_choices (names_of N qs) want (part t ∷ spread N qs) (Some body) (list (tree t rest)))) (sym terms_are)
              (let_choices_good N want f t head qs js bound body new inner some stays (list (tree t rest)))),
          λ apart h. same_image t (trees_of (map tree_in (spread N qs ++ body ∷ []))) rest ∙ h,
        )

    -- the kinds of the bindings of one that is typed
    typed_bindings : (qs : List (Binding N)) (new : Term) → bs ≡ names_of N qs → vs ≡ terms_with N (old_term N) qs new → (k : Kind) → IsTyped (node (operators.Let bs) (terms_of vs)) want scope k →
        (js : List Kind) × (argument_kinds (spread N qs) ≡ Some js) × (length (names_of N qs) ≡ length js)
    typed_bindings qs new names_are terms_are k typed =
        let whole : vs ≡ picks N (old_term N) qs ++ new ∷ [] = terms_are ∙ with_end N (old_term N) qs new in
        let here : IsTyped (node (operators.Let (names_of N qs)) (terms_of (picks N (old_term N) qs ++ new ∷ []))) want scope k =
        subst (λ ts. IsTyped (node (operators.Let (names_of N qs)) (terms_of ts)) want scope k) whole (subst (λ zs. IsTyped (node (operators.Let zs) (terms_of vs)) want scope k) names_are typed) in
        let (js, j, each, own, k_is) = let_from (names_of N qs) (picks N (old_term N) qs) new (picks_count N (old_term N) qs) want scope k here in
        (js, bindings_kept N qs js each, sym (picks_count N (old_term N) qs) ∙ each_count scope (picks N (old_term N) qs) js each)

    pub let_node : head_name (tree t no_trees) ≡ Some named.Let → allows (row named.Let).arity (count_trees (tree t rest) - 1) ≡ true → binding_names (taken is_binder (count_trees (tree t rest)) 1 rest) ≡ Some bs → GoodTrees g rest →
        ParsedArguments g layouts.Bindings (count_trees (tree t rest)) 1 rest N (bs ++ N) f us vs →
        Parsed g (list (tree t rest)) N f (node (operators.Let bs) (terms_of us)) (node (operators.Let bs) (terms_of vs)) →
        LetIsGood (let_simple (operators.Let bs) bs (simples (terms_of us)) (t ∷ listed rest) want scope)
    let_node head fits names good parsed whole_parsed =
        let n = count_trees (tree t rest) in
        let (least, odd) = and_parts (nat_le 3 (n - 1)) (nat_eq ((n - 1) % 2) 1) fits in
        let enough : 3 ≤ n - 1 = leb-true 3 (n - 1) least in
        let odd_count : (n - 1) % 2 ≡ 1 = eqb-true ((n - 1) % 2) 1 odd in
        by_parts (let_parts N (bs ++ N) f n 1 rest us vs bs good refl (omega arith) (omega (arith, odd_count)) names parsed) (omega (arith, enough))
      where
        names_count : (qs : List (Binding N)) → length (names_of N qs) ≡ length qs
        names_count [] = refl
        names_count (q ∷ qs) = ap suc (names_count qs)

        by_parts : LetParts N (bs ++ N) f (count_trees (tree t rest)) 1 rest us vs bs → 3 ≤ count_trees rest → LetIsGood (let_simple (operators.Let bs) bs ss all want scope)
        by_parts r enough =
            let n = count_trees (tree t rest) in
            let counted = listed_count rest in
            let n_is : length all ≡ n = ap suc counted in
            let long = length_end r.front r.body in
            let split_count : length (listed rest) ≡ length (r.front ++ r.body ∷ []) = ap length r.listed_is in
            let some : 0 < length r.bindings = omega (arith, enough, counted, long, split_count, r.twice) in
            let bound_count : length bs ≡ length r.bindings = ap length r.names_are ∙ names_count r.bindings in
            let olds_count : length (simples (terms_of r.before)) ≡ length r.bindings = length_simples r.before ∙ r.as_many in
            let split_at : length bs ≡ length (simples (terms_of r.before)) = bound_count ∙ sym olds_count in
            let ss_is : ss ≡ simples (terms_of r.before) ++ choices r.old ∷ [] = ap (λ zs. simples (terms_of zs)) r.olds_are ∙ simples_end r.before r.old in
            let take_is : take (length bs) ss ≡ simples (terms_of r.before) = (λ i. take (split_at i) (ss_is i)) ∙ take_front (simples (terms_of r.before)) (choices r.old) in
            let drop_is : drop (length bs) ss ≡ choices r.old ∷ [] = (λ i. drop (split_at i) (ss_is i)) ∙ drop_front (simples (terms_of r.before)) (choices r.old) in
            let all_is : all ≡ (t ∷ r.front) ++ r.body ∷ [] = ap (λ zs. t ∷ zs) r.listed_is in
            let end_is : length all - 1 ≡ length (t ∷ r.front) = omega (arith, split_count, long) in
            let front_is : take (length all - 1) all ≡ t ∷ r.front = (λ i. take (end_is i) (all_is i)) ∙ take_front (t ∷ r.front) r.body in
            let last_is : slice_get all (length all - 1) ≡ Some r.body = (λ i. slice_get (all_is i) (end_is i)) ∙ get_at (t ∷ r.front) (length (t ∷ r.front)) r.body [] refl in
            let ss_count : length ss ≡ length r.bindings + 1 = ap length ss_is ∙ (length_end (simples (terms_of r.before)) (choices r.old) ∙ ap (λ k. k + 1) olds_count) in
            let elements_is : elements (operators.Let bs) (length all) (length ss) want scope 0 0 (take (length bs) ss) (take (length all - 1) all) ≡ part t ∷ spread N r.bindings =
            (λ i. elements (operators.Let bs) (n_is i) (length ss) want scope 0 0 (take_is i) (front_is i))
            ∙ (part_made (operators.Let bs) n (length ss) want scope 0 0 r.before t r.front refl
            ∙ ap (λ es. part t ∷ es) (r.elements_are bs (length ss) 0 want (omega (arith, ss_count)))) in
            let back : list (trees_of all) ≡ list (tree t rest) = ap (λ zs. list (tree t zs)) (listed_back rest) in
            subst LetIsGood (sym (λ i. let_with bs want scope (elements_is i) (drop_is i) (last_is i) (back i)))
            (by_kinds r some (argument_kinds (spread N r.bindings)) refl)
          where
            by_count : (r : LetParts N (bs ++ N) f (count_trees (tree t rest)) 1 rest us vs bs) → 0 < length r.bindings → (js : List Kind) → argument_kinds (spread N r.bindings) ≡ Some js → (b : Bool) → nat_eq (length bs) (length js) ≡ b →
                LetIsGood (let_choices bs want (part t ∷ spread N r.bindings) (if b then Some (simple_element false (choices r.old) r.body want (kind_frame bs js ∷ scope)) else None) (list (tree t rest)))
            by_count r some js bound true same =
                let c = choices r.old r.body want (kind_frame bs js ∷ scope) in
                let good = (r.good (bs ++ N) f r.old r.new r.parsed want (kind_frame bs js ∷ scope)).0 in
                bound_good r.bindings js bound r.new (simple_element false (choices r.old) r.body want (kind_frame bs js ∷ scope)) head r.names_are r.terms_are some
                (chosen_good g (kind_frame bs js ∷ scope) want (bs ++ N) f r.new false c good) (chosen_kept g (kind_frame bs js ∷ scope) want (bs ++ N) f r.new false c good)
            by_count r some js bound false apart = unread_good whole_parsed (never (typed_bindings r.bindings r.new r.names_are r.terms_are))
              where
                never : ((k : Kind) → IsTyped (node (operators.Let bs) (terms_of vs)) want scope k → (is : List Kind) × (argument_kinds (spread N r.bindings) ≡ Some is) × (length (names_of N r.bindings) ≡ length is)) → (k : Kind) → IsTyped (node (operators.Let bs) (terms_of vs)) want scope k → ⊥
                never bindings k typed =
                    let (is, are, many) = bindings k typed in
                    let both : Some is ≡ Some js = sym are ∙ bound in
                    let same : is ≡ js = cc in
                    let counted : nat_eq (length bs) (length js) ≡ true = eq-eqb (length bs) (length js) (ap length r.names_are ∙ (many ∙ ap length same)) in
                    let bad : true ≡ false = sym counted ∙ apart in
                    absurd (cc)

            by_kinds : (r : LetParts N (bs ++ N) f (count_trees (tree t rest)) 1 rest us vs bs) → 0 < length r.bindings → (o : Option (List Kind)) → argument_kinds (spread N r.bindings) ≡ o →
                LetIsGood (let_choices bs want (part t ∷ spread N r.bindings) (let_body bs want scope o (choices r.old ∷ []) (Some r.body)) (list (tree t rest)))
            by_kinds r some None none = unread_good whole_parsed (λ k typed. let (is, are, many) = typed_bindings r.bindings r.new r.names_are r.terms_are k typed in let bad : Some is ≡ None = sym are ∙ none in absurd (cc))
            by_kinds r some (Some js) bound = by_count r some js bound (nat_eq (length bs) (length js)) refl
