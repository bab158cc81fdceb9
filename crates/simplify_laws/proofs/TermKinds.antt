-- The kind of a term: what typing finds, by the kinds of the arguments, at any path, and in any names that have the
-- same kinds.
use Rattle.std.proofs.Common.{◌≡◌, ◌∙◌, ℕ, ◌+◌, zero, suc, List, [], ◌∷◌, ◌++◌, length, take, drop, Bool, true, false, Option, Some, None, Result, Ok, Err, refl, ap, sym, subst, arith}
use Rattle.std.proofs.lemmas.Bool.{eq-eqb, eqb-true, ne_eqb}
use Rattle.std.specs.List.{slice_get}
use Rattle.std.specs.Prelude.{if◌then◌else◌}
use Rattle.decimal_json.specs.declared.paths.PathPart.{PathPart}
use Rattle.prop_values.specs.Data.{Data}
use Rattle.prop_values.specs.Faults.{no_faults, one_fault, union}
use Rattle.prop_values.specs.declared.fault.EvalFault.TheVariants.{WrongType}
use Rattle.prop_values.specs.declared.fault.FaultSet.{FaultSet}
use Rattle.prop_values.specs.declared.kinds.Kind.{Kind}
use Rattle.prop_values.specs.declared.kinds.Want.{Want}
use Rattle.prop_values.specs.declared.kinds.Want.TheVariants as wants
use Rattle.expr_syntax.specs.Names.{row}
use Rattle.expr_syntax.specs.Operators.{operator_name, wanted_by, want_of}
use Rattle.expr_syntax.specs.Rows.{is_last}
use Rattle.expr_syntax.specs.Term.{Term, literal, node, no_terms, terms_of}
use Rattle.expr_syntax.specs.declared.expression.Operator.{Operator}
use Rattle.expr_syntax.specs.declared.expression.Operator.TheVariants as operators
use Rattle.expr_syntax.specs.declared.rows.Wanted.TheVariants as wanting
use Rattle.expr_types.specs.ArgumentPaths.{argument_path}
use Rattle.expr_types.specs.Fits.{branch_kind, fit_faults, fits, is_always, kind_under}
use Rattle.expr_types.specs.Literals.{literal_kind, surely_fits}
use Rattle.expr_types.specs.NodeKinds.{has_sequence, is_possible, kind_found, literal_kind_under, may_be_sequence, name_kind, node_kind}
use Rattle.expr_types.specs.Own.{owns}
use Rattle.expr_types.specs.OwnTable.{own}
use Rattle.expr_types.specs.Sequences.{sequence_fit}
use Rattle.expr_types.specs.Typing.{KindScope, Node, Typed, TypedNodes, Typing, all_may, all_places, and_found, argument_typed, argument_want, as_sequence, body_typed, branched, finished, finished_node, fit_or, fitted, founds_of, frame, is_branching, is_place, is_sequence_of, kinded, kinds_in, literal_node, literals, looked_at, node_typed, own_named, own_where, places_of, plain_typed, then_found, typed_as, typings, unless_code, unless_misfit, with_below, with_bindings, with_misfit}
use Rattle.expr_types.specs.declared.fault.TypeCode.{TypeCode}
use Rattle.expr_types.specs.declared.fault.TypeFault.{TypeFault}
use Rattle.expr_types.specs.declared.fits.Fit.{Fit}
use Rattle.expr_types.specs.declared.fits.Fit.TheVariants.{Always, Maybe, Never}
use Rattle.expr_types.specs.declared.own.Own.{Own}
use Rattle.expr_types.specs.declared.placed.Kinded.{Kinded}
use Rattle.expr_types.specs.declared.placed.Placed.{Placed}
use Rattle.simplify_laws.proofs.Alike.{IsNameless}
use Rattle.simplify_laws.proofs.Strays.{length_ends}

-- ---- what typing finds

abbrev pub GivesKind : Typed → Kind → Type 0
GivesKind r k = (found : TypedNodes) × (r ≡ Ok found) × (found.node.kind ≡ k)

-- at every path
abbrev pub HasKind : Term → Want → KindScope → Kind → Type 0
HasKind t want ks k = (path : List PathPart) → GivesKind (typed_as t false want ks path) k

-- at some path
abbrev pub IsTyped : Term → Want → KindScope → Kind → Type 0
IsTyped t want ks k = (path : List PathPart) × GivesKind (typed_as t false want ks path) k

below_ok : (below : List Placed) (n : Node) (found : TypedNodes) → with_below below n ≡ Ok found → n ≡ Ok found.node
below_ok below (Ok k) found h = ap (λ r. node_in r k) h
  where
    node_in : Typed → Kinded → Node
    node_in (Ok x) k = Ok x.node
    node_in (Err f) k = Ok k
below_ok below (Err f) found h = absurd (cc)

pub below_gives : (below : List Placed) (n : Node) (k : Kind) → kind_found n ≡ Some k → GivesKind (with_below below n) k
below_gives below (Ok x) k h = let is : x.kind ≡ k = cc in (record { node = x; below = below }, refl, is)
below_gives below (Err f) k h = absurd (cc)

found_gives : (below : List Placed) (n : Node) (found : TypedNodes) → with_below below n ≡ Ok found → kind_found n ≡ Some found.node.kind
found_gives below n found h = ap kind_found (below_ok below n found h)

-- ---- the kind of a node, by what it has of its own

abbrev coded_kind : Option TypeCode → Kind → Option Kind
coded_kind None k = Some k
coded_kind (Some code) k = None

abbrev fit_kind : Fit → Option TypeCode → Kind → Option Kind
fit_kind Never code k = None
fit_kind fit code k = coded_kind code k

abbrev own_kind : Operator → Want → Kind → Option TypeCode → Option Kind
own_kind op want k code = if is_branching op then coded_kind code (branch_kind want k) else fit_kind (fits k want) code (kind_under want k)

code_found : (code : Option TypeCode) (k : Kinded) (path : List PathPart) → kind_found (unless_code code k path) ≡ coded_kind code k.kind
code_found None k path = refl
code_found (Some code) k path = refl

fit_found : (fit : Fit) (want : Want) (o : Own) (may : FaultSet) (path : List PathPart) → kind_found (fit_or fit want o may path) ≡ fit_kind fit o.code (kind_under want o.kind)
fit_found Never want o may path = refl
fit_found Always want o may path = code_found o.code (kinded want (kind_under want o.kind) (union may (union o.faults (fit_faults Always want o.kind))) (is_always Always)) path
fit_found Maybe want o may path = code_found o.code (kinded want (kind_under want o.kind) (union may (union o.faults (fit_faults Maybe want o.kind))) (is_always Maybe)) path

node_found : (op : Operator) (want : Want) (o : Own) (may : FaultSet) (path : List PathPart) → kind_found (finished_node op want o may path) ≡ own_kind op want o.kind o.code
node_found op want o may path = by (is_branching op)
  where
    by : (b : Bool) → kind_found (if b then branched want o may path else fitted want o may path) ≡ (if b then coded_kind o.code (branch_kind want o.kind) else fit_kind (fits o.kind want) o.code (kind_under want o.kind))
    by true = code_found o.code (kinded want (branch_kind want o.kind) (union may o.faults) true) path
    by false = fit_found (fits o.kind want) want o may path

-- the literals among the arguments decide no kind
own_same : (op : Operator) (want : Want) (ls : List (Option Data)) (js : List Kind) → ((own op want ls js).kind ≡ (own op want [] js).kind) × ((own op want ls js).code ≡ (own op want [] js).code)
own_same (operators.Interpolate r) want ls js = (refl, refl)
own_same op want ls js = (refl, refl)

node_kind_found : (op : Operator) (want : Want) (ls : List (Option Data)) (js : List Kind) (may may' : FaultSet) (path path' : List PathPart) →
    kind_found (finished_node op want (own op want ls js) may path) ≡ kind_found (finished_node op want (own op want [] js) may' path')
node_kind_found op want ls js may may' path path' =
    let same = own_same op want ls js in
    node_found op want (own op want ls js) may path
    ∙ ((λ i. own_kind op want (same.0 i) (same.1 i)) ∙ sym (node_found op want (own op want [] js) may' path'))

-- ---- literals and names

literal_found : (d : Data) (want : Want) (path : List PathPart) → kind_found (literal_node d want path) ≡ kind_found (literal_node d want [])
literal_found d want path = by (surely_fits want d)
  where
    sure : Node
    sure = Ok (kinded want (kind_under want (literal_kind d)) no_faults (is_always (fits (literal_kind d) want)))

    by : (b : Bool) → kind_found (if b then sure else fitted want (owns (literal_kind d) no_faults) no_faults path) ≡ kind_found (if b then sure else fitted want (owns (literal_kind d) no_faults) no_faults [])
    by true = refl
    by false =
        fit_found (fits (literal_kind d) want) want (owns (literal_kind d) no_faults) no_faults path
        ∙ sym (fit_found (fits (literal_kind d) want) want (owns (literal_kind d) no_faults) no_faults [])

pub literal_has : (d : Data) (want : Want) (ks : KindScope) (k : Kind) → literal_kind_under d want ≡ Some k → HasKind (literal d) want ks k
literal_has d want ks k h path = below_gives [] (literal_node d want path) k (literal_found d want path ∙ h)

pub literal_from : (d : Data) (want : Want) (ks : KindScope) (k : Kind) → IsTyped (literal d) want ks k → literal_kind_under d want ≡ Some k
literal_from d want ks k (path, (found, is, kind)) = sym (literal_found d want path) ∙ (found_gives [] (literal_node d want path) found is ∙ ap Some kind)

name_found : (o : Own) (want : Want) (path : List PathPart) → kind_found (fitted want o no_faults path) ≡ kind_found (fitted want o no_faults [])
name_found o want path = fit_found (fits o.kind want) want o no_faults path ∙ sym (fit_found (fits o.kind want) want o no_faults [])

pub name_has : (s : List ℕ) (want : Want) (ks : KindScope) (k : Kind) → name_kind ks s want ≡ Some k → HasKind (node (operators.Var s) no_terms) want ks k
name_has s want ks k h path = below_gives [] (fitted want (own_named ks s) no_faults path) k (name_found (own_named ks s) want path ∙ h)

pub name_from : (s : List ℕ) (want : Want) (ks : KindScope) (k : Kind) → IsTyped (node (operators.Var s) no_terms) want ks k → name_kind ks s want ≡ Some k
name_from s want ks k (path, (found, is, kind)) =
    sym (name_found (own_named ks s) want path) ∙ (found_gives [] (fitted want (own_named ks s) no_faults path) found is ∙ ap Some kind)

-- ---- an argument that has to be a text or a list

coded_any : (code : Option TypeCode) (k j : Kind) → coded_kind code k ≡ Some j → (code ≡ None) × (k ≡ j)
coded_any None k j h = let is : k ≡ j = cc in (refl, is)
coded_any (Some code) k j h = absurd (cc)

always_any : (k : Kind) → fits k wants.Any ≡ Always
always_any k = refl

any_kind : (op : Operator) (k : Kind) (code : Option TypeCode) → own_kind op wants.Any k code ≡ coded_kind code k
any_kind op k code = ap (λ fit. if is_branching op then coded_kind code k else fit_kind fit code k) (always_any k) ∙ by (is_branching op)
  where
    by : (b : Bool) → (if b then coded_kind code k else coded_kind code k) ≡ coded_kind code k
    by true = refl
    by false = refl

-- under Any a node has its own kind, and no code
finished_any : (op : Operator) (o : Own) (founds : List TypedNodes) (path : List PathPart) (found : TypedNodes) → finished op wants.Any o founds path ≡ Ok found → (o.code ≡ None) × (o.kind ≡ found.node.kind)
finished_any op o founds path found h =
    coded_any o.code o.kind found.node.kind
    (sym (node_found op wants.Any o (all_may founds) path ∙ any_kind op o.kind o.code) ∙ found_gives (all_places founds) (finished_node op wants.Any o (all_may founds) path) found h)

module _ (op : Operator) (ls : List (Option Data)) (ts : List Typing) (ks : KindScope) (path : List PathPart) (found : TypedNodes) where
  plain_down : plain_typed op ls ts true wants.Any ks path ≡ Ok found → plain_typed op ls ts false wants.Any ks path ≡ Ok found
  plain_down h = by (founds_of op (length ts) 0 ts wants.Any ks path) h
    where
      fitting : (founds : List TypedNodes) (o : Own) (fit : Fit) → finished op wants.Any (unless_misfit fit o) founds path ≡ Ok found → finished op wants.Any o founds path ≡ Ok found
      fitting founds o Always h = h
      fitting founds o Maybe h = h
      fitting founds o Never h = absurd (let bad = (finished_any op (unless_misfit Never o) founds path found h).0 in cc)

      by : (r : Result (List TypedNodes) TypeFault) → then_found r (λ founds. finished op wants.Any (own_where true (own op wants.Any ls (kinds_in founds))) founds path) ≡ Ok found →
          then_found r (λ founds. finished op wants.Any (own_where false (own op wants.Any ls (kinds_in founds))) founds path) ≡ Ok found
      by (Ok founds) h = fitting founds (own op wants.Any ls (kinds_in founds)) (sequence_fit (own op wants.Any ls (kinds_in founds)).kind) h
      by (Err f) h = absurd (cc)

  plain_up : plain_typed op ls ts false wants.Any ks path ≡ Ok found → is_possible (sequence_fit found.node.kind) ≡ true → plain_typed op ls ts true wants.Any ks path ≡ Ok found
  plain_up h possible = by (founds_of op (length ts) 0 ts wants.Any ks path) h
    where
      fitting : (founds : List TypedNodes) (o : Own) (fit : Fit) → is_possible fit ≡ true → finished op wants.Any o founds path ≡ Ok found → finished op wants.Any (unless_misfit fit o) founds path ≡ Ok found
      fitting founds o Always p h = h
      fitting founds o Maybe p h = h
      fitting founds o Never p h = absurd (cc)

      by : (r : Result (List TypedNodes) TypeFault) → then_found r (λ founds. finished op wants.Any (own_where false (own op wants.Any ls (kinds_in founds))) founds path) ≡ Ok found →
          then_found r (λ founds. finished op wants.Any (own_where true (own op wants.Any ls (kinds_in founds))) founds path) ≡ Ok found
      by (Ok founds) h =
          let o = own op wants.Any ls (kinds_in founds) in
          fitting founds o (sequence_fit o.kind) (ap (λ k. is_possible (sequence_fit k)) (finished_any op o founds path found h).1 ∙ possible) h
      by (Err f) h = absurd (cc)

sequence_down : (t : Term) (ks : KindScope) (path : List PathPart) (found : TypedNodes) → typed_as t true wants.Any ks path ≡ Ok found → typed_as t false wants.Any ks path ≡ Ok found
sequence_down (literal d) ks path found h = h
sequence_down (node (operators.Let bs) ts) ks path found h = h
sequence_down (node (operators.Var s) ts) ks path found h = h
sequence_down (node op ts) ks path found h = plain_down op (literals ts) (typings ts) ks path found h

sequence_up : (t : Term) (ks : KindScope) (path : List PathPart) (found : TypedNodes) → typed_as t false wants.Any ks path ≡ Ok found → is_possible (sequence_fit found.node.kind) ≡ true → typed_as t true wants.Any ks path ≡ Ok found
sequence_up (literal d) ks path found h possible = h
sequence_up (node (operators.Let bs) ts) ks path found h possible = h
sequence_up (node (operators.Var s) ts) ks path found h possible = h
sequence_up (node op ts) ks path found h possible = plain_up op (literals ts) (typings ts) ks path found h possible

place_is : (place k : ℕ) → is_place (Some place) k ≡ true → k ≡ place
place_is place k h = eqb-true k place h

-- it is asked under Any
sequence_want : (op : Operator) (m k : ℕ) (want : Want) → is_sequence_of op k ≡ true → argument_want op m k want ≡ wants.Any
sequence_want operators.In m k want h = refl
sequence_want operators.IndexOf m k want h = ap (λ i. want_of (wanted_by operators.IndexOf m i) want) (place_is 1 k h)
sequence_want operators.Length m k want h = refl
sequence_want operators.Slice m k want h = ap (λ i. want_of (wanted_by operators.Slice m i) want) (place_is 0 k h)
sequence_want op m k want h = absurd (cc)

-- ---- arguments

misfit_kind : (fit : Fit) (k : Kinded) (path : List PathPart) (n : Kinded) → with_misfit fit k path ≡ Ok n → (n.kind ≡ k.kind) × (is_possible fit ≡ true)
misfit_kind Always k path n h = let is : k ≡ n = cc in (sym (ap (λ (x : Kinded). x.kind) is), refl)
misfit_kind Maybe k path n h = let is : record k { may = union k.may (one_fault WrongType) } ≡ n = cc in (sym (ap (λ (x : Kinded). x.kind) is), refl)
misfit_kind Never k path n h = absurd (cc)

possible_misfit : (fit : Fit) (k : Kinded) (path : List PathPart) → is_possible fit ≡ true → kind_found (with_misfit fit k path) ≡ Some k.kind
possible_misfit Always k path h = refl
possible_misfit Maybe k path h = refl
possible_misfit Never k path h = absurd (cc)

argument_has : (op : Operator) (m k : ℕ) (t : Term) (want : Want) (ks : KindScope) (j : Kind) → HasKind t (argument_want op m k want) ks j → (is_sequence_of op k ≡ true → is_possible (sequence_fit j) ≡ true) →
    (path : List PathPart) → GivesKind (argument_typed op m k (typed_as t) want ks path) j
argument_has op m k t want ks j has possible path = by (is_sequence_of op k) refl
  where
    here : List PathPart
    here = argument_path op m k path

    by : (b : Bool) → is_sequence_of op k ≡ b → GivesKind (looked_at b (typed_as t b (argument_want op m k want) ks here) here) j
    by false q =
        let (found, is, kind) = has here in
        subst (λ r. GivesKind (looked_at false r here) j) (sym is) (below_gives found.below (Ok found.node) j (ap Some kind))
    by true q =
        let any = sequence_want op m k want q in
        let (found, is, kind) = has here in
        let may : is_possible (sequence_fit found.node.kind) ≡ true = ap (λ x. is_possible (sequence_fit x)) kind ∙ possible q in
        let now : typed_as t true (argument_want op m k want) ks here ≡ Ok found =
        subst (λ w. typed_as t true w ks here ≡ Ok found) (sym any) (sequence_up t ks here found (sym (ap (λ w. typed_as t false w ks here) any) ∙ is) may) in
        subst (λ r. GivesKind (looked_at true r here) j) (sym now)
        (below_gives found.below (as_sequence found.node here) j (possible_misfit (sequence_fit found.node.kind) found.node here may ∙ ap Some kind))

argument_from : (op : Operator) (m k : ℕ) (t : Term) (want : Want) (ks : KindScope) (path : List PathPart) (found : TypedNodes) → argument_typed op m k (typed_as t) want ks path ≡ Ok found →
    IsTyped t (argument_want op m k want) ks found.node.kind × (is_sequence_of op k ≡ true → is_possible (sequence_fit found.node.kind) ≡ true)
argument_from op m k t want ks path found h = by (is_sequence_of op k) refl h
  where
    here : List PathPart
    here = argument_path op m k path

    Whole : Bool → Type 0
    Whole b = IsTyped t (argument_want op m k want) ks found.node.kind × (b ≡ true → is_possible (sequence_fit found.node.kind) ≡ true)

    plain : (r : Typed) → typed_as t false (argument_want op m k want) ks here ≡ r → looked_at false r here ≡ Ok found → Whole false
    plain (Ok x) q h =
        let same : Ok x.node ≡ Ok found.node = below_ok x.below (Ok x.node) found h in
        let is : x.node ≡ found.node = cc in
        ((here, (x, q, ap (λ (n : Kinded). n.kind) is)), λ z. absurd (cc))
    plain (Err f) q h = absurd (cc)

    looked : (any : argument_want op m k want ≡ wants.Any) (r : Typed) → typed_as t true (argument_want op m k want) ks here ≡ r → looked_at true r here ≡ Ok found → Whole true
    looked any (Ok x) q h =
        let (kind, may) = misfit_kind (sequence_fit x.node.kind) x.node here found.node (below_ok x.below (as_sequence x.node here) found h) in
        let down : typed_as t false (argument_want op m k want) ks here ≡ Ok x =
        subst (λ w. typed_as t false w ks here ≡ Ok x) (sym any) (sequence_down t ks here x (sym (ap (λ w. typed_as t true w ks here) any) ∙ q)) in
        ((here, (x, down, sym kind)), λ z. ap (λ y. is_possible (sequence_fit y)) kind ∙ may)
    looked any (Err f) q h = absurd (cc)

    by : (b : Bool) → is_sequence_of op k ≡ b → looked_at b (typed_as t b (argument_want op m k want) ks here) here ≡ Ok found → Whole b
    by false q h = plain (typed_as t false (argument_want op m k want) ks here) refl h
    by true q h = looked (sequence_want op m k want q) (typed_as t true (argument_want op m k want) ks here) refl h

-- ---- the arguments of a node from place k on

abbrev pub AllHave : Operator → ℕ → ℕ → Want → KindScope → List Term → List Kind → Type 0
AllHave op m k want ks [] [] = Unit {0}
AllHave op m k want ks [] (j ∷ js) = ⊥
AllHave op m k want ks (t ∷ ts) [] = ⊥
AllHave op m k want ks (t ∷ ts) (j ∷ js) = HasKind t (argument_want op m k want) ks j × AllHave op m (k + 1) want ks ts js

abbrev pub AreTyped : Operator → ℕ → ℕ → Want → KindScope → List Term → List Kind → Type 0
AreTyped op m k want ks [] [] = Unit {0}
AreTyped op m k want ks [] (j ∷ js) = ⊥
AreTyped op m k want ks (t ∷ ts) [] = ⊥
AreTyped op m k want ks (t ∷ ts) (j ∷ js) = IsTyped t (argument_want op m k want) ks j × AreTyped op m (k + 1) want ks ts js

-- the kind at the place of a text or list is possible there
abbrev ArePossible : Option ℕ → ℕ → List Kind → Type 0
ArePossible o k [] = Unit {0}
ArePossible o k (j ∷ js) = (is_place o k ≡ true → is_possible (sequence_fit j) ≡ true) × ArePossible o (k + 1) js

possible_from : (o : Option ℕ) (k : ℕ) (js : List Kind) → ((i : ℕ) → o ≡ Some (k + i) → may_be_sequence (slice_get js i) ≡ true) → ArePossible o k js
possible_from o k [] h = tt
possible_from o k (j ∷ js) h = (
  λ q. h 0 (place_there o q),
  possible_from o (k + 1) js (λ i q. let next : k + 1 + i ≡ k + suc i = omega arith in h (suc i) (q ∙ ap Some next)),
)
  where
    place_there : (o : Option ℕ) → is_place o k ≡ true → o ≡ Some (k + 0)
    place_there None q = absurd (cc)
    place_there (Some place) q = let same : place ≡ k + 0 = omega (arith, place_is place k q) in ap Some same

all_possible : (o : Option ℕ) (js : List Kind) → has_sequence o js ≡ true → ArePossible o 0 js
all_possible None js h = possible_from None 0 js (λ i q. absurd (cc))
all_possible (Some place) js h = possible_from (Some place) 0 js (λ i q. let same : place ≡ i = some_place i q in ap (λ n. may_be_sequence (slice_get js n)) (sym same) ∙ h)
  where
    some_place : (i : ℕ) → Some place ≡ Some (0 + i) → place ≡ i
    some_place i q = let same : place ≡ 0 + i = cc in omega (arith, same)

possible_there : (o : Option ℕ) (k : ℕ) (js : List Kind) (i : ℕ) → ArePossible o k js → o ≡ Some (k + i) → may_be_sequence (slice_get js i) ≡ true
possible_there o k [] i h q = refl
possible_there o k (j ∷ js) zero h q = h.0 (ap (λ x. is_place x k) q ∙ eq-eqb k (k + 0) (omega arith))
possible_there o k (j ∷ js) (suc i) h q = possible_there o (k + 1) js i h.1 (let next : k + suc i ≡ k + 1 + i = omega arith in q ∙ ap Some next)

sequence_possible : (o : Option ℕ) (js : List Kind) → ArePossible o 0 js → has_sequence o js ≡ true
sequence_possible None js h = refl
sequence_possible (Some place) js h = possible_there (Some place) 0 js place h (let same : place ≡ 0 + place = omega arith in ap Some same)

pub typings_count : (ts : List Term) → length (typings (terms_of ts)) ≡ length ts
typings_count [] = refl
typings_count (t ∷ ts) = ap suc (typings_count ts)

-- kinds of what was found
abbrev pub GiveKinds : Result (List TypedNodes) TypeFault → List Kind → Type 0
GiveKinds r js = (founds : List TypedNodes) × (r ≡ Ok founds) × (kinds_in founds ≡ js)

both_found : (one : Typed) (later : Result (List TypedNodes) TypeFault) (j : Kind) (js : List Kind) → GivesKind one j → GiveKinds later js → GiveKinds (and_found one later) (j ∷ js)
both_found one later j js h r =
    let (found, is, kind) = h in
    let (founds, are, kinds) = r in
    (found ∷ founds, (λ i. and_found (is i) (are i)), (λ i. kind i ∷ kinds i))

founds_parts : (one : Typed) (later : Result (List TypedNodes) TypeFault) (founds : List TypedNodes) → and_found one later ≡ Ok founds →
    (found : TypedNodes) × (others : List TypedNodes) × (one ≡ Ok found) × (later ≡ Ok others) × (founds ≡ found ∷ others)
founds_parts (Ok found) (Ok others) founds h = let is : found ∷ others ≡ founds = cc in (found, others, refl, refl, sym is)
founds_parts (Ok found) (Err f) founds h = absurd (cc)
founds_parts (Err f) later founds h = absurd (cc)

module _ (op : Operator) (m : ℕ) (want : Want) (ks : KindScope) (path : List PathPart) where
  founds_have : (k : ℕ) (ts : List Term) (js : List Kind) → AllHave op m k want ks ts js → ArePossible (row (operator_name op)).sequence k js → GiveKinds (founds_of op m k (typings (terms_of ts)) want ks path) js
  founds_have k [] [] h p = ([], refl, refl)
  founds_have k [] (j ∷ js) h p = absurd h
  founds_have k (t ∷ ts) [] h p = absurd h
  founds_have k (t ∷ ts) (j ∷ js) h p =
      both_found (argument_typed op m k (typed_as t) want ks path) (founds_of op m (k + 1) (typings (terms_of ts)) want ks path) j js
      (argument_has op m k t want ks j h.0 p.0 path) (founds_have (k + 1) ts js h.1 p.1)

  founds_typed : (k : ℕ) (ts : List Term) (founds : List TypedNodes) → founds_of op m k (typings (terms_of ts)) want ks path ≡ Ok founds →
      AreTyped op m k want ks ts (kinds_in founds) × ArePossible (row (operator_name op)).sequence k (kinds_in founds)
  founds_typed k [] founds h = let none : [] ≡ founds = cc in subst (λ (xs : List TypedNodes). AreTyped op m k want ks [] (kinds_in xs) × ArePossible (row (operator_name op)).sequence k (kinds_in xs)) none (tt, tt)
  founds_typed k (t ∷ ts) founds h =
      let (found, others, one, later, is) = founds_parts (argument_typed op m k (typed_as t) want ks path) (founds_of op m (k + 1) (typings (terms_of ts)) want ks path) founds h in
      let (here, may) = argument_from op m k t want ks path found one in
      let (rest, mays) = founds_typed (k + 1) ts others later in
      subst (λ (xs : List TypedNodes). AreTyped op m k want ks (t ∷ ts) (kinds_in xs) × ArePossible (row (operator_name op)).sequence k (kinds_in xs)) (sym is) ((here, rest), (may, mays))

  pub all_have : (k : ℕ) (ts : List Term) (js : List Kind) → (row (operator_name op)).sequence ≡ None → AllHave op m k want ks ts js → GiveKinds (founds_of op m k (typings (terms_of ts)) want ks path) js
  all_have k ts js none h = founds_have k ts js h (subst (λ o. ArePossible o k js) (sym none) (possible_from None k js (λ i q. absurd (cc))))

  pub all_typed : (k : ℕ) (ts : List Term) (founds : List TypedNodes) → founds_of op m k (typings (terms_of ts)) want ks path ≡ Ok founds → AreTyped op m k want ks ts (kinds_in founds)
  all_typed k ts founds h = (founds_typed k ts founds h).0

-- ---- a node that binds no name and asks for none

plain_is : (op : Operator) (ls : List (Option Data)) (ts : List Typing) (want : Want) (ks : KindScope) (path : List PathPart) → IsNameless op → node_typed op ls ts false want ks path ≡ plain_typed op ls ts false want ks path
plain_is (operators.Let bs) ls ts want ks path plain = absurd plain
plain_is (operators.Var s) ls ts want ks path plain = absurd plain
plain_is op ls ts want ks path plain = refl

if_sequence : (b : Bool) (o : Option Kind) (k : Kind) → (if b then o else None) ≡ Some k → (b ≡ true) × (o ≡ Some k)
if_sequence true o k h = (refl, h)
if_sequence false o k h = absurd (cc)

module _ (op : Operator) (plain : IsNameless op) (want : Want) (ks : KindScope) (ts : List Term) (k : Kind) where
  abbrev found_by : List PathPart → Result (List TypedNodes) TypeFault → Typed
  found_by path r = then_found r (λ founds. finished op want (own op want (literals (terms_of ts)) (kinds_in founds)) founds path)

  typed_is : (path : List PathPart) → typed_as (node op (terms_of ts)) false want ks path ≡ found_by path (founds_of op (length ts) 0 (typings (terms_of ts)) want ks path)
  typed_is path =
      plain_is op (literals (terms_of ts)) (typings (terms_of ts)) want ks path plain
      ∙ ap (λ m. found_by path (founds_of op m 0 (typings (terms_of ts)) want ks path)) (typings_count ts)

  pub node_has : (js : List Kind) → AllHave op (length ts) 0 want ks ts js → node_kind op want js ≡ Some k → HasKind (node op (terms_of ts)) want ks k
  node_has js have kind path =
      let (possible, own_kind) = if_sequence (has_sequence (row (operator_name op)).sequence js) (kind_found (finished_node op want (own op want [] js) no_faults [])) k kind in
      let (founds, are, kinds) = founds_have op (length ts) want ks path 0 ts js have (all_possible (row (operator_name op)).sequence js possible) in
      let whole : kind_found (finished_node op want (own op want (literals (terms_of ts)) (kinds_in founds)) (all_may founds) path) ≡ Some k =
      ap (λ xs. kind_found (finished_node op want (own op want (literals (terms_of ts)) xs) (all_may founds) path)) kinds
      ∙ (node_kind_found op want (literals (terms_of ts)) js (all_may founds) no_faults path [] ∙ own_kind) in
      subst (λ r. GivesKind r k) (sym (typed_is path ∙ ap (found_by path) are))
      (below_gives (all_places founds) (finished_node op want (own op want (literals (terms_of ts)) (kinds_in founds)) (all_may founds) path) k whole)

  pub node_from : IsTyped (node op (terms_of ts)) want ks k → (js : List Kind) × AreTyped op (length ts) 0 want ks ts js × (node_kind op want js ≡ Some k)
  node_from (path, (found, is, kind)) = by (founds_of op (length ts) 0 (typings (terms_of ts)) want ks path) refl (sym (typed_is path) ∙ is)
    where
      by : (r : Result (List TypedNodes) TypeFault) → founds_of op (length ts) 0 (typings (terms_of ts)) want ks path ≡ r → found_by path r ≡ Ok found → (js : List Kind) × AreTyped op (length ts) 0 want ks ts js × (node_kind op want js ≡ Some k)
      by (Ok founds) q h =
          let js = kinds_in founds in
          let (typed, possible) = founds_typed op (length ts) want ks path 0 ts founds q in
          let whole : kind_found (finished_node op want (own op want [] js) no_faults []) ≡ Some k =
          sym (node_kind_found op want (literals (terms_of ts)) js (all_may founds) no_faults path [])
          ∙ (found_gives (all_places founds) (finished_node op want (own op want (literals (terms_of ts)) js) (all_may founds) path) found h ∙ ap Some kind) in (
            js,
            typed,
            ap (λ b. if b then kind_found (finished_node op want (own op want [] js) no_faults []) else None) (sequence_possible (row (operator_name op)).sequence js possible) ∙ whole,
          )
      by (Err f) q h = absurd (cc)

-- ---- a `let`

pub take_front : {A : Type 0} (xs : List A) (y : A) → take (length xs) (xs ++ y ∷ []) ≡ xs
take_front [] y = refl
take_front (x ∷ xs) y = ap (λ zs. x ∷ zs) (take_front xs y)

pub drop_front : {A : Type 0} (xs : List A) (y : A) → drop (length xs) (xs ++ y ∷ []) ≡ y ∷ []
drop_front [] y = refl
drop_front (x ∷ xs) y = drop_front xs y

-- bindings, each under Any
abbrev pub EachHas : KindScope → List Term → List Kind → Type 0
EachHas ks [] [] = Unit {0}
EachHas ks [] (j ∷ js) = ⊥
EachHas ks (t ∷ ts) [] = ⊥
EachHas ks (t ∷ ts) (j ∷ js) = HasKind t wants.Any ks j × EachHas ks ts js

abbrev pub EachTyped : KindScope → List Term → List Kind → Type 0
EachTyped ks [] [] = Unit {0}
EachTyped ks [] (j ∷ js) = ⊥
EachTyped ks (t ∷ ts) [] = ⊥
EachTyped ks (t ∷ ts) (j ∷ js) = IsTyped t wants.Any ks j × EachTyped ks ts js

pub each_count : (ks : KindScope) (ts : List Term) (js : List Kind) → EachTyped ks ts js → length ts ≡ length js
each_count ks [] [] h = refl
each_count ks [] (j ∷ js) h = absurd h
each_count ks (t ∷ ts) [] h = absurd h
each_count ks (t ∷ ts) (j ∷ js) h = ap suc (each_count ks ts js h.1)

binding_want : (bs : List (List ℕ)) (m k : ℕ) (want : Want) → is_last m k ≡ false → argument_want (operators.Let bs) m k want ≡ wants.Any
binding_want bs m k want more = ap (λ b. want_of (if b then wanting.OfNode else wanting.Own wants.Any) want) more

body_want : (bs : List (List ℕ)) (m k : ℕ) (want : Want) → is_last m k ≡ true → argument_want (operators.Let bs) m k want ≡ want
body_want bs m k want last = ap (λ b. want_of (if b then wanting.OfNode else wanting.Own wants.Any) want) last

module _ (bs : List (List ℕ)) (want : Want) (ks : KindScope) where
  bindings_have : (m k : ℕ) (ts : List Term) (js : List Kind) → k + length ts + 1 ≡ m → EachHas ks ts js → AllHave (operators.Let bs) m k want ks ts js
  bindings_have m k [] [] all h = tt
  bindings_have m k [] (j ∷ js) all h = absurd h
  bindings_have m k (t ∷ ts) [] all h = absurd h
  bindings_have m k (t ∷ ts) (j ∷ js) all h = (
    subst (λ w. HasKind t w ks j) (sym (binding_want bs m k want (ne_eqb (k + 1) m (λ e. omega (arith, all, e))))) h.0,
    bindings_have m (k + 1) ts js (omega (arith, all)) h.1,
  )

  bindings_typed : (m k : ℕ) (ts : List Term) (js : List Kind) → k + length ts + 1 ≡ m → AreTyped (operators.Let bs) m k want ks ts js → EachTyped ks ts js
  bindings_typed m k [] [] all h = tt
  bindings_typed m k [] (j ∷ js) all h = absurd h
  bindings_typed m k (t ∷ ts) [] all h = absurd h
  bindings_typed m k (t ∷ ts) (j ∷ js) all h = (
    subst (λ w. IsTyped t w ks j) (binding_want bs m k want (ne_eqb (k + 1) m (λ e. omega (arith, all, e)))) h.0,
    bindings_typed m (k + 1) ts js (omega (arith, all)) h.1,
  )

typings_end : (ts : List Term) (b : Term) → typings (terms_of (ts ++ b ∷ [])) ≡ typings (terms_of ts) ++ typed_as b ∷ []
typings_end [] b = refl
typings_end (t ∷ ts) b = ap (λ xs. typed_as t ∷ xs) (typings_end ts b)

bindings_give : (want : Want) (founds : List TypedNodes) (r : Typed) (j : Kind) → GivesKind r j → GivesKind (with_bindings want founds r) (branch_kind want j)
bindings_give want founds (Ok body) j h =
    let (found, is, kind) = h in
    let same : body ≡ found = cc in (
      record {
        node = kinded want (branch_kind want body.node.kind) (union (all_may founds) body.node.may) true;
        below = all_places founds ++ places_of body;
      },
      refl,
      ap (branch_kind want) (ap (λ (x : TypedNodes). x.node.kind) same ∙ kind),
    )
bindings_give want founds (Err f) j h = absurd (let q : Err f ≡ Ok h.0 = h.1 in cc)

bindings_gave : (want : Want) (founds : List TypedNodes) (r : Typed) (found : TypedNodes) → with_bindings want founds r ≡ Ok found → (body : TypedNodes) × (r ≡ Ok body) × (found.node.kind ≡ branch_kind want body.node.kind)
bindings_gave want founds (Ok body) found h =
    let new : TypedNodes = record {
      node = kinded want (branch_kind want body.node.kind) (union (all_may founds) body.node.may) true;
      below = all_places founds ++ places_of body;
    } in
    let same : new ≡ found = cc in
    (body, refl, sym (ap (λ (x : TypedNodes). x.node.kind) same))
bindings_gave want founds (Err f) found h = absurd (cc)

module _ (bs : List (List ℕ)) (ts : List Term) (b : Term) (same : length ts ≡ length bs) (want : Want) (ks : KindScope) where
  abbrev let_by : List PathPart → List Typing → Result (List TypedNodes) TypeFault → Typed
  let_by path rest r = then_found r (λ founds. body_typed bs rest founds want ks path)

  let_is : (path : List PathPart) → typed_as (node (operators.Let bs) (terms_of (ts ++ b ∷ []))) false want ks path ≡ let_by path (typed_as b ∷ []) (founds_of (operators.Let bs) (length ts + 1) 0 (typings (terms_of ts)) want ks path)
  let_is path =
      let counted : length bs ≡ length (typings (terms_of ts)) = sym (typings_count ts ∙ same) in
      let ends = typings_end ts b in
      let taken : take (length bs) (typings (terms_of (ts ++ b ∷ []))) ≡ typings (terms_of ts) = (λ i. take (counted i) (ends i)) ∙ take_front (typings (terms_of ts)) (typed_as b) in
      let dropped : drop (length bs) (typings (terms_of (ts ++ b ∷ []))) ≡ typed_as b ∷ [] = (λ i. drop (counted i) (ends i)) ∙ drop_front (typings (terms_of ts)) (typed_as b) in
      let long : length (typings (terms_of (ts ++ b ∷ []))) ≡ length ts + 1 = typings_count (ts ++ b ∷ []) ∙ length_ends ts b in
      λ i. let_by path (dropped i) (founds_of (operators.Let bs) (long i) 0 (taken i) want ks path)

  ends_last : is_last (length bs + 1) (length bs) ≡ true
  ends_last = eq-eqb (length bs + 1) (length bs + 1) refl

  abbrev body_found : List PathPart → List Kind → Typed
  body_found path js = argument_typed (operators.Let bs) (length bs + 1) (length bs) (typed_as b) want (frame bs js ∷ ks) path

  pub let_has : (js : List Kind) (j : Kind) → EachHas ks ts js → HasKind b want (frame bs js ∷ ks) j → HasKind (node (operators.Let bs) (terms_of (ts ++ b ∷ []))) want ks (branch_kind want j)
  let_has js j each body path =
      let (founds, are, kinds) = all_have (operators.Let bs) (length ts + 1) want ks path 0 ts js refl (bindings_have bs want ks (length ts + 1) 0 ts js (omega arith) each) in
      let here : GivesKind (body_found path js) j =
      argument_has (operators.Let bs) (length bs + 1) (length bs) b want (frame bs js ∷ ks) j (subst (λ w. HasKind b w (frame bs js ∷ ks) j) (sym (body_want bs (length bs + 1) (length bs) want ends_last)) body) (λ q. absurd (cc)) path in
      subst (λ r. GivesKind r (branch_kind want j)) (sym (let_is path ∙ ap (let_by path (typed_as b ∷ [])) are))
      (bindings_give want founds (body_found path (kinds_in founds)) j (subst (λ xs. GivesKind (body_found path xs) j) (sym kinds) here))

  pub let_from : (k : Kind) → IsTyped (node (operators.Let bs) (terms_of (ts ++ b ∷ []))) want ks k → (js : List Kind) × (j : Kind) × EachTyped ks ts js × IsTyped b want (frame bs js ∷ ks) j × (k ≡ branch_kind want j)
  let_from k (path, (found, is, kind)) = by (founds_of (operators.Let bs) (length ts + 1) 0 (typings (terms_of ts)) want ks path) refl (sym (let_is path) ∙ is)
    where
      by : (r : Result (List TypedNodes) TypeFault) → founds_of (operators.Let bs) (length ts + 1) 0 (typings (terms_of ts)) want ks path ≡ r → let_by path (typed_as b ∷ []) r ≡ Ok found →
          (js : List Kind) × (j : Kind) × EachTyped ks ts js × IsTyped b want (frame bs js ∷ ks) j × (k ≡ branch_kind want j)
      by (Ok founds) q h =
          let js = kinds_in founds in
          let (body, body_is, body_kind) = bindings_gave want founds (body_found path js) found h in
          let each = bindings_typed bs want ks (length ts + 1) 0 ts js (omega arith) (all_typed (operators.Let bs) (length ts + 1) want ks path 0 ts founds q) in
          let (own, possible) = argument_from (operators.Let bs) (length bs + 1) (length bs) b want (frame bs js ∷ ks) path body body_is in (
            js,
            body.node.kind,
            each,
            subst (λ w. IsTyped b w (frame bs js ∷ ks) body.node.kind) (body_want bs (length bs + 1) (length bs) want ends_last) own,
            sym kind ∙ body_kind,
          )
      by (Err f) q h = absurd (cc)
