-- What the loops of resolving keep.
use Rattle.std.proofs.Common.{◌≡◌, ℕ, ◌+◌, ◌<◌, ◌≤◌, zero, suc, List, [], ◌∷◌, ◌++◌, length, drop, Bool, false, Option, Some, None, option_map, unwrap_or, refl, arith, sym, ap, ◌∙◌, inl, inr, slice_index}
use Rattle.std.specs.Prelude.{IfOk, Result, Ok, Err}
use Rattle.std.specs.declared.alloc.AllocError.{AllocError}
use Rattle.std.specs.declared.alloc.Global.{Global}
use Rattle.std.specs.declared.vec.IntoIter.{IntoIter}
use Rattle.std.specs.Vec.Iter.{into_iter_items, into_iter_len, into_iter_steps}
use Rattle.prop_values.specs.Data.{Data, text}
use Rattle.prop_values.specs.Equality.{same_text}
use Rattle.prop_values.specs.declared.fault.EvalFault.TheVariants.{WrongType}
use Rattle.prop_values.specs.declared.kinds.Want.{Want}
use Rattle.prop_values.specs.declared.kinds.Want.TheVariants as wants
use Rattle.expr_syntax.specs.NameIndex.{last_place}
use Rattle.expr_syntax.specs.Term.{Term, literal, Terms, no_terms, term}
use Rattle.expr_syntax.specs.TermSize.{nodes}
use Rattle.expr_syntax.specs.TermView.{term_of, terms}
use Rattle.expr_syntax.specs.declared.expression.Expr.{Expr}
use Rattle.expr_syntax.specs.declared.expression.Operator.{Operator}
use Rattle.expr_syntax.proofs.LastPlaces.{none_first, some_cases, last_above}
use Rattle.eval_face.specs.Rules.{Rule, each, deciding, cases, labels, stops, ramp, bindings, variable, rule_of}
use Rattle.expr_nodes.specs.Boxed.{boxed_step, boxed_node, boxed_nodes}
use Rattle.expr_nodes.specs.Limits.{has_names}
use Rattle.expr_nodes.specs.Node.{Node, constant, property, inner, Children, childless, child, children_of}
use Rattle.expr_resolving.specs.NumberScopes.{numbered, numbered_scope}
use Rattle.expr_resolving.specs.ResolvedParts.{text_in, inner_node, inner_of, resolved_node, before, inner_after, let_after}
use Rattle.expr_nodes.specs.Resolving.{NumberedNames, Numbered, number_of, last_number, or_outer_number, misfit, count_of, argument_want, key_of, literal_key, by_key, by_rule, resolve, resolve_arguments, resolve_let}
use Rattle.expr_nodes.specs.declared.boxed_node.BoxedNode.{BoxedNode}
use Rattle.expr_nodes.specs.declared.boxed_node.BoxedNode.TheVariants.{Faulty, rolls-Faulty}
use Rattle.expr_nodes.specs.declared.boxed_node.BoxedNode.TheOpen.{BoxedNode-F}
use Rattle.expr_nodes.specs.declared.boxed_node.BoxedNode.TheFolds.{fold-roll-BoxedNode}
use Rattle.expr_resolving.specs.declared.number_scope.NumberScope.{NumberScope, Empty, Frame'}

-- ---- the number of a name

last_none : (names : List (List ℕ)) (numbers : List ℕ) (x : List ℕ) (i : ℕ) → last_place i names x ≡ None →
    last_number (numbered names numbers) x ≡ None
last_none [] numbers x i h = refl
last_none (n ∷ names) [] x i h = refl
last_none (n ∷ names) (j ∷ numbers) x i h =
    let q = none_first (last_place (i + 1) names x) (same_text n x) i h in
    let r = last_none names numbers x (i + 1) q.0 in
    rw (r, q.1) refl

last_some : (names : List (List ℕ)) (numbers : List ℕ) (x : List ℕ) (i j k number : ℕ) → length names ≡ length numbers →
    last_place i names x ≡ Some j → j ≡ i + k → number ≡ slice_index numbers k →
    last_number (numbered names numbers) x ≡ Some number
last_some [] numbers x i j k number l h q g = absurd (cc)
last_some (n ∷ names) [] x i j k number l h q g = absurd (omega arith)
last_some (n ∷ names) (a ∷ numbers) x i j zero number l h q g =
    elim (some_cases (last_place (i + 1) names x) (same_text n x) i j h) [
      | inl r ↦ absurd (let w = last_above names x (i + 1) j r in omega arith)
      | inr r ↦ rw (last_none names numbers x (i + 1) r.0, r.1) (ap Some (sym g))
    ]
last_some (n ∷ names) (a ∷ numbers) x i j (suc k) number l h q g =
    elim (some_cases (last_place (i + 1) names x) (same_text n x) i j h) [
      | inl r ↦ rw (last_some names numbers x (i + 1) j k number (omega arith) r (omega arith) g) refl
      | inr r ↦ absurd (omega (arith, r.2))
    ]

-- a name is one of the innermost frame
abbrev pub IsHere : NumberScope → List ℕ → ℕ → ℕ → Type 0
IsHere Empty x k number = ⊥
IsHere (Frame' names numbers p outer) x k number =
    (last_place 0 names.now x ≡ Some k) × (length names.now ≡ length numbers.now) × (number ≡ slice_index numbers.now k)

pub number_here : (scope : NumberScope) (x : List ℕ) (k number : ℕ) → IsHere scope x k number →
    Some number ≡ number_of (numbered_scope scope) x
number_here Empty x k number h = absurd h
number_here (Frame' names numbers p outer) x k number h =
    ap (λ o. or_outer_number o (number_of (numbered_scope outer) x))
    (sym (last_some names.now numbers.now x 0 k k number h.1 h.0 (omega arith) h.2))

-- or it is none of that frame
abbrev pub IsOutside : NumberScope → List ℕ → Option ℕ → Type 0
IsOutside Empty x found = ⊥
IsOutside (Frame' names numbers p outer) x found =
    (last_place 0 names.now x ≡ None) × (found ≡ number_of (numbered_scope outer) x)

pub number_outside : (scope : NumberScope) (x : List ℕ) (found : Option ℕ) → IsOutside scope x found →
    found ≡ number_of (numbered_scope scope) x
number_outside Empty x found h = absurd h
number_outside (Frame' names numbers p outer) x found h =
    h.1 ∙ ap (λ o. or_outer_number o (number_of (numbered_scope outer) x)) (sym (last_none names.now numbers.now x 0 h.0))

-- ---- the key of a node

pub sole_literal : (d : Data) → text_in d ≡ literal_key (term (literal d) no_terms)
sole_literal (text s) = refl
sole_literal _ = refl

pub not_sole : (es : List Expr) → (length es ≡ 1 → ⊥) → None ≡ literal_key (terms es)
not_sole [] h = refl
not_sole (e ∷ []) h = absurd (h (omega arith))
not_sole (e ∷ f ∷ es) h = by_first (term_of e)
  where
    by_first : (t : Term) → None ≡ literal_key (term t (term (term_of f) (terms es)))
    by_first (literal (text s)) = refl
    by_first _ = refl

-- a node without a key, by its rule

abbrev pub ruled : Rule → Operator → Want → List Bool → List NumberedNames → Terms → List Node → Numbered
ruled rule op want left scope ts so_far =
    by_rule rule op want scope so_far (resolve_arguments ts op (count_of ts) 0 want left scope so_far)
    (λ names. resolve_let ts names want left scope [] so_far)

pub property_found : (op : Operator) (ts : Terms) (want : Want) (n : Node) →
    Some n ≡ option_map (λ key. property key want) (key_of op ts) →
    (left : List Bool) (scope : List NumberedNames) (so_far : List Node) →
    (n, so_far) ≡ resolved_node op ts want left scope so_far
property_found op ts want n e left scope so_far = by_found (key_of op ts) e
  where
    by_found : (k : Option (List ℕ)) → Some n ≡ option_map (λ key. property key want) k → (n, so_far) ≡ by_key k want so_far (ruled (rule_of op) op want left scope ts so_far)
    by_found None e = absurd (cc)
    by_found (Some key) e = ap (λ o. (unwrap_or o n, so_far)) e

no_property : (found : Option BoxedNode) (k : Option (List ℕ)) (want : Want) → ((n : BoxedNode) → found ≡ Some n → ⊥) →
    option_map boxed_node found ≡ option_map (λ key. property key want) k →
    k ≡ None
no_property (Some n) k want none e = absurd (none n refl)
no_property None (Some key) want none e = absurd (cc)
no_property None None want none e = refl

pub keyless : (op : Operator) (es slice : List Expr) (want : Want) (found : Option BoxedNode) → slice ≡ es →
    ((n : BoxedNode) → found ≡ Some n → ⊥) →
    option_map boxed_node found ≡ option_map (λ key. property key want) (key_of op (terms slice)) →
    key_of op (terms es) ≡ None
keyless op es slice want found same none e =
    no_property found (key_of op (terms es)) want none
    (e ∙ ap (λ xs. option_map (λ key. property key want) (key_of op (terms xs))) same)

-- ---- a node without a key

pub resolve_ruled : (op : Operator) (ts : Terms) → key_of op ts ≡ None → (rule : Rule) → rule_of op ≡ rule → (want : Want) (left : List Bool)
    (scope : List NumberedNames) (so_far : List Node) → ruled rule op want left scope ts so_far ≡ resolved_node op ts want left scope so_far
resolve_ruled op ts e rule r want left scope so_far =
    ap (λ q. ruled q op want left scope ts so_far) (sym r) ∙ ap (λ k. by_key k want so_far (ruled (rule_of op) op want left scope ts so_far)) (sym e)

pub ruled_inner : (rule : Rule) → has_names rule ≡ false → (op : Operator) (want : Want) (left : List Bool) (scope : List NumberedNames) (ts : Terms)
    (so_far : List Node) → inner_of op want left ts scope so_far ≡ ruled rule op want left scope ts so_far
ruled_inner (each apply) h op want left scope ts so_far = refl
ruled_inner (deciding decides none) h op want left scope ts so_far = refl
ruled_inner cases h op want left scope ts so_far = refl
ruled_inner (labels ls) h op want left scope ts so_far = refl
ruled_inner (stops inputs) h op want left scope ts so_far = refl
ruled_inner (ramp curve inputs) h op want left scope ts so_far = refl
ruled_inner (bindings names) h op want left scope ts so_far = absurd (cc)
ruled_inner (variable name) h op want left scope ts so_far = absurd (cc)

pub resolve_inner : (op : Operator) (ts : Terms) → key_of op ts ≡ None → has_names (rule_of op) ≡ false → (want : Want) (left : List Bool)
    (scope : List NumberedNames) (so_far : List Node) → inner_of op want left ts scope so_far ≡ resolved_node op ts want left scope so_far
resolve_inner op ts e h want left scope so_far =
    ruled_inner (rule_of op) h op want left scope ts so_far ∙ resolve_ruled op ts e (rule_of op) refl want left scope so_far

-- ---- arguments one after another

before_last : (done : List Node) (n : Node) (ns : Children) → before (done ++ n ∷ []) ns ≡ before done (child n ns)
before_last [] n ns = refl
before_last (d ∷ done) n ns = ap (λ ms. child d ms) (before_last done n ns)

before_none : (done : List Node) → before done childless ≡ children_of done
before_none [] = refl
before_none (d ∷ done) = ap (λ ms. child d ms) (before_none done)

done_last : (done : List Node) (n : Node) → length (done ++ n ∷ []) ≡ length done + 1
done_last [] n = refl
done_last (d ∷ done) n = let r = done_last done n in omega arith

pub inner_step : (op : Operator) (m : ℕ) (want : Want) (left : List Bool) (scope : List NumberedNames) (done : List Node) (t : Term) (ts : Terms)
    (so_far : List Node) (made : Numbered) → made ≡ resolve t (argument_want op m (length done) want) left scope so_far →
    inner_after op m want (drop (nodes t) left) scope (done ++ made.0 ∷ []) ts made.1 ≡ inner_after op m want left scope done (term t ts) so_far
inner_step op m want left scope done t ts so_far made e =
    let later = drop (nodes t) left in
    let rest : ℕ → Children × List Node = λ k. resolve_arguments ts op m k want later scope made.1 in
    ap (λ k. inner_node op want (before (done ++ made.0 ∷ []) (rest k).0, (rest k).1)) (done_last done made.0)
    ∙ (ap (λ ns. inner_node op want (ns, (rest (length done + 1)).1)) (before_last done made.0 (rest (length done + 1)).0)
    ∙ ap (λ (r : Numbered). inner_node op want (
      before done (child r.0 (resolve_arguments ts op m (length done + 1) want later scope r.1).0),
      (resolve_arguments ts op m (length done + 1) want later scope r.1).1,
    )) e)

pub inner_end : (op : Operator) (m : ℕ) (want : Want) (left : List Bool) (scope : List NumberedNames) (done so_far : List Node) →
    (inner op want (children_of done), so_far) ≡ inner_after op m want left scope done no_terms so_far
inner_end op m want left scope done so_far = ap (λ ns. inner_node op want (ns, so_far)) (sym (before_none done))

pub count_terms : (es : List Expr) → count_of (terms es) ≡ length es
count_terms [] = refl
count_terms (e ∷ es) = let r = count_terms es in omega arith

-- ---- the bindings of a `let` one after another

next_name : (names : List (List ℕ)) (numbers : List ℕ) → length numbers < length names →
    (name : List ℕ) × (drop (length numbers) names ≡ name ∷ drop (length numbers + 1) names)
    × ((x : ℕ) → numbered names (numbers ++ x ∷ []) ≡ numbered names numbers ++ (name, x) ∷ [])
next_name [] numbers h = absurd (omega arith)
next_name (n ∷ []) [] h = (n, refl, λ x. refl)
next_name (n ∷ m ∷ names) [] h = (n, refl, λ x. refl)
next_name (n ∷ names) (j ∷ numbers) h =
    let r = next_name names numbers (omega arith) in
    let e : suc (length numbers + 1) ≡ suc (length numbers) + 1 = omega arith in
    (r.0, r.1 ∙ ap (λ k. r.0 ∷ drop k (n ∷ names)) e, λ x. ap (λ bs. (n, j) ∷ bs) (r.2 x))

pub number_last : (numbers : List ℕ) (x : ℕ) → length (numbers ++ x ∷ []) ≡ length numbers + 1
number_last [] x = refl
number_last (j ∷ numbers) x = let r = number_last numbers x in omega arith

pub let_step : (names : List (List ℕ)) (want : Want) (left : List Bool) (scope : List NumberedNames) (numbers : List ℕ) (t : Term) (ts : Terms)
    (so_far : List Node) (binding : Numbered) → length numbers < length names →
    binding ≡ resolve t wants.Any left scope so_far →
    let_after names want (drop (nodes t) left) scope (numbers ++ length binding.1 ∷ []) ts (binding.1 ++ binding.0 ∷ [])
    ≡ let_after names want left scope numbers (term t ts) so_far
let_step names want left scope numbers t ts so_far binding h e =
    let next = next_name names numbers h in
    let later = drop (length numbers + 1) names in
    let others = drop (nodes t) left in
    let frame = numbered names numbers in
    let all = binding.1 ++ binding.0 ∷ [] in
    let x = length binding.1 in
    ap (λ k. resolve_let ts (drop k names) want others scope (numbered names (numbers ++ x ∷ [])) all) (number_last numbers x)
    ∙ (ap (λ f. resolve_let ts later want others scope f all) (next.2 x)
    ∙ (ap (λ (r : Numbered). resolve_let ts later want others scope (frame ++ (next.0, length r.1) ∷ []) (r.1 ++ r.0 ∷ [])) e
    ∙ ap (λ ns. resolve_let (term t ts) ns want left scope frame so_far) (sym next.1)))

all_named : (names : List (List ℕ)) (numbers : List ℕ) → length names ≤ length numbers → drop (length numbers) names ≡ []
all_named [] [] h = refl
all_named [] (j ∷ numbers) h = refl
all_named (n ∷ names) [] h = absurd (omega arith)
all_named (n ∷ names) (j ∷ numbers) h = all_named names numbers (omega arith)

pub let_body : (names : List (List ℕ)) (want : Want) (left : List Bool) (scope : List NumberedNames) (numbers : List ℕ) (t : Term)
    (so_far : List Node) → length names ≤ length numbers →
    resolve t want left (numbered names numbers ∷ scope) so_far ≡ let_after names want left scope numbers (term t no_terms) so_far
let_body names want left scope numbers t so_far h =
    ap (λ ns. resolve_let (term t no_terms) ns want left scope (numbered names numbers) so_far) (sym (all_named names numbers h))

pub let_many : (names : List (List ℕ)) (want : Want) (left : List Bool) (scope : List NumberedNames) (numbers : List ℕ) (t u : Term) (ts : Terms)
    (so_far : List Node) → length names ≤ length numbers →
    misfit so_far ≡ let_after names want left scope numbers (term t (term u ts)) so_far
let_many names want left scope numbers t u ts so_far h =
    ap (λ ns. resolve_let (term t (term u ts)) ns want left scope (numbered names numbers) so_far) (sym (all_named names numbers h))

pub let_start : (names : List (List ℕ)) (want : Want) (left : List Bool) (scope : List NumberedNames) (ts : Terms) (so_far : List Node) →
    let_after names want left scope [] ts so_far ≡ resolve_let ts names want left scope [] so_far
let_start [] want left scope ts so_far = refl
let_start (name ∷ names) want left scope ts so_far = refl

-- ---- of boxed nodes

pub nodes_last : (ns : List BoxedNode) (made : BoxedNode) →
    boxed_nodes (ns ++ made ∷ []) ≡ boxed_nodes ns ++ boxed_node made ∷ []
nodes_last [] made = refl
nodes_last (n ∷ ns) made = ap (λ ms. boxed_node n ∷ ms) (nodes_last ns made)

pub nodes_count : (ns : List BoxedNode) → length (boxed_nodes ns) ≡ length ns
nodes_count [] = refl
nodes_count (n ∷ ns) = ap suc (nodes_count ns)

pub inner_start : (op : Operator) (m : ℕ) (want : Want) (left : List Bool) (scope : List NumberedNames) (es : List Expr) (so_far : List Node) →
    m ≡ length es → inner_after op m want left scope [] (terms es) so_far ≡ inner_of op want left (terms es) scope so_far
inner_start op m want left scope es so_far e =
    ap (λ n. inner_node op want (resolve_arguments (terms es) op n 0 want left scope so_far)) (e ∙ sym (count_terms es))

pub inner_next : (op : Operator) (m : ℕ) (want : Want) (left : List Bool) (scope : List NumberedNames) (done : List BoxedNode) (e : Expr)
    (es : List Expr) (so_far all : List BoxedNode) (made : BoxedNode) →
    (boxed_node made, boxed_nodes all) ≡ resolve (term_of e) (argument_want op m (length done) want) left scope (boxed_nodes so_far) →
    inner_after op m want (drop (nodes (term_of e)) left) scope (boxed_nodes (done ++ made ∷ [])) (terms es) (boxed_nodes all)
    ≡ inner_after op m want left scope (boxed_nodes done) (terms (e ∷ es)) (boxed_nodes so_far)
inner_next op m want left scope done e es so_far all made h =
    ap (λ ns. inner_after op m want (drop (nodes (term_of e)) left) scope ns (terms es) (boxed_nodes all)) (nodes_last done made)
    ∙ inner_step op m want left scope (boxed_nodes done) (term_of e) (terms es) (boxed_nodes so_far) (boxed_node made, boxed_nodes all)
    (h ∙ ap (λ k. resolve (term_of e) (argument_want op m k want) left scope (boxed_nodes so_far)) (sym (nodes_count done)))

pub let_next : (names : List (List ℕ)) (want : Want) (left : List Bool) (scope : List NumberedNames) (numbers : List ℕ) (e : Expr)
    (es : List Expr) (so_far all : List BoxedNode) (made : BoxedNode) → length numbers < length names →
    (boxed_node made, boxed_nodes all) ≡ resolve (term_of e) wants.Any left scope (boxed_nodes so_far) →
    let_after names want (drop (nodes (term_of e)) left) scope (numbers ++ length all ∷ []) (terms es) (boxed_nodes (all ++ made ∷ []))
    ≡ let_after names want left scope numbers (terms (e ∷ es)) (boxed_nodes so_far)
let_next names want left scope numbers e es so_far all made h g =
    (λ i. let_after names want (drop (nodes (term_of e)) left) scope (numbers ++ sym (nodes_count all) i ∷ []) (terms es) (nodes_last all made i))
    ∙ let_step names want left scope numbers (term_of e) (terms es) (boxed_nodes so_far) (boxed_node made, boxed_nodes all) h g

pub let_extra : (names : List (List ℕ)) (want : Want) (left : List Bool) (scope : List NumberedNames) (numbers : List ℕ) (e : Expr) (es : List Expr)
    (so_far : List Node) → length names ≤ length numbers → 0 < length es →
    misfit so_far ≡ let_after names want left scope numbers (terms (e ∷ es)) so_far
let_extra names want left scope numbers e [] so_far h more = absurd (omega (arith, more))
let_extra names want left scope numbers e (f ∷ fs) so_far h more =
    let_many names want left scope numbers (term_of e) (term_of f) (terms fs) so_far h

pub let_none : (names : List (List ℕ)) (want : Want) (left : List Bool) (scope : List NumberedNames) (numbers : List ℕ) (so_far : List Node) →
    misfit so_far ≡ let_after names want left scope numbers no_terms so_far
let_none names want left scope numbers so_far = refl

pub faulty_misfit : (so_far : List Node) → ◌≡◌ {A = Numbered} (boxed_node (Faulty WrongType), so_far) (misfit so_far)
faulty_misfit so_far =
    let with_so_far : Node → Numbered = λ n. (n, so_far) in
    let faulty : boxed_node (Faulty WrongType) ≡ constant (Err WrongType) =
    ap boxed_node (sym (rolls-Faulty WrongType)) ∙ fold-roll-BoxedNode Node boxed_step (BoxedNode-F.Faulty WrongType) in
    ap with_so_far faulty

-- ---- what a call gives

pub as_resolved : (made : Result BoxedNode AllocError) (ns : List Node) (given wanted : Numbered) → given ≡ wanted →
    IfOk made (λ m. ◌≡◌ {A = Numbered} (boxed_node m, ns) given) →
    IfOk made (λ m. ◌≡◌ {A = Numbered} (boxed_node m, ns) wanted)
as_resolved (Ok m) ns given wanted same h = h ∙ same
as_resolved (Err e) ns given wanted same h = tt

pub with_bindings : (made : Result BoxedNode AllocError) (n : Node) (ns : List Node) (wanted : Numbered) →
    ◌≡◌ {A = Numbered} (n, ns) wanted → IfOk made (λ m. boxed_node m ≡ n) →
    IfOk made (λ m. ◌≡◌ {A = Numbered} (boxed_node m, ns) wanted)
with_bindings (Ok m) n ns wanted same h = (λ i. (h i, ns)) ∙ same
with_bindings (Err e) n ns wanted same h = tt

-- ---- arguments that are left

no_items : (es : List Expr) (n : ℕ) → n ≡ length es → n ≡ 0 → es ≡ []
no_items [] n h e = refl
no_items (x ∷ es) n h e = absurd (omega (arith, h, e))

pub none_left : (rest : IntoIter Expr Global) → into_iter_len rest ≡ 0 → into_iter_items rest ≡ []
none_left rest e = no_items (into_iter_items rest) (into_iter_len rest) rest.rest.ok.0 e

pub some_left : (rest : IntoIter Expr Global) → 0 < into_iter_len rest → 0 < length (into_iter_items rest)
some_left rest h = omega (arith, h, rest.rest.ok.0)

pub rest_ended : (s t : IntoIter Expr Global) (r : Option Expr) → into_iter_steps s r t → ((e : Expr) → r ≡ Some e → ⊥) →
    into_iter_items s ≡ []
rest_ended s t (Some e) h none = absurd (none e refl)
rest_ended s t None h none = none_left s h.0
