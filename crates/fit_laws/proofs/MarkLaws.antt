-- A node that is marked as always fitting gives under its want what it gives where anything is wanted.
use Rattle.std.proofs.Common.{◌≡◌, ℕ, ◌+◌, List, [], ◌∷◌, length, Bool, true, false, ◌&&◌, Option, Some, None, Result, Ok, Err, if◌then◌else◌, refl, ap, sym, ◌∙◌, subst}
use Rattle.std.specs.List.{slice_get}
use Rattle.std.specs.Prelude.{nat_eq}
use Rattle.decimal_json.specs.declared.paths.PathPart.{PathPart}
use Rattle.prop_values.specs.Data.{Data}
use Rattle.prop_values.specs.Faults.{no_faults}
use Rattle.prop_values.specs.declared.fault.EvalFault.{EvalFault}
use Rattle.prop_values.specs.declared.fault.FaultSet.{FaultSet}
use Rattle.prop_values.specs.declared.kinds.Kind.{Kind}
use Rattle.prop_values.specs.declared.kinds.Want.{Want}
use Rattle.prop_values.specs.declared.kinds.Want.TheVariants as wants
use Rattle.property_tables.specs.Fitting.{fit}
use Rattle.expr_syntax.specs.Names.{row}
use Rattle.expr_syntax.specs.Operators.{operator_name, piece_wanted, wanted_by, want_of}
use Rattle.expr_syntax.specs.ReadTerms.{IsRead}
use Rattle.expr_syntax.specs.Rows.{wanted}
use Rattle.expr_syntax.specs.Term.{node, Terms}
use Rattle.expr_syntax.specs.declared.expression.Operator.{Operator}
use Rattle.expr_syntax.specs.declared.expression.Operator.TheVariants as ops
use Rattle.expr_syntax.specs.declared.parts.FormatPiece.{FormatPiece}
use Rattle.expr_syntax.specs.declared.rows.Wanted.TheVariants.{Own as OwnWant}
use Rattle.expr_syntax.specs.declared.rows.Wants.{Wants}
use Rattle.expr_syntax.specs.declared.rows.Wants.TheVariants as wanting
use Rattle.expr_types.specs.ArgumentPaths.{argument_path}
use Rattle.expr_types.specs.Fits.{fits}
use Rattle.expr_types.specs.OwnTable.{own}
use Rattle.expr_types.specs.Typing.{TypedNodes, Typed, KindScope, Typing, unless_code, fit_or, fitted, branched, with_below, own_where, handed, looked_at as typed_look, is_sequence_of, and_found, founds_of, kinds_in, all_may, all_places, then_found, own_named, is_branching, finished, plain_typed, node_typed, typed_as, typings, literals}
use Rattle.expr_types.specs.declared.fault.TypeCode.{TypeCode}
use Rattle.expr_types.specs.declared.fault.TypeFault.{TypeFault}
use Rattle.expr_types.specs.declared.fits.Fit.{Fit}
use Rattle.expr_types.specs.declared.fits.Fit.TheVariants.{Always, Maybe, Never}
use Rattle.expr_types.specs.declared.own.Own.{Own}
use Rattle.expr_types.specs.declared.placed.Kinded.{Kinded}
use Rattle.expr_types.specs.declared.placed.Placed.{Placed}
use Rattle.operator_values.specs.Evaluated.{Evaluated, then_value}
use Rattle.eval_face.specs.Decisions.{first_of, or_later}
use Rattle.eval_face.specs.Meaning.{meaning_by, mean, means}
use Rattle.eval_face.specs.Meanings.{Meaning, argument_of, looked_at, is_sequence, then_values, and_values, values_of}
use Rattle.eval_face.specs.Names.{BoundOutcomes, named}
use Rattle.eval_face.specs.Rules.{Rule, each, deciding, cases, labels, stops, ramp, bindings, variable, rule_of}
use Rattle.eval_face.specs.World.{World}
use Rattle.expr_nodes.specs.Resolving.{has_fit, untested, own_want}
use Rattle.typing_laws.proofs.Arguments.{NamesOf}
use Rattle.fit_laws.proofs.FitLaws.{every_fault, within_every, fit_stays}
use Rattle.typing_laws.proofs.Outcomes.{OutcomeOf, ResultOf}
use Rattle.typing_laws.proofs.TermLaws.{mean_ok}

-- ---- arguments with wants of their own

abbrev is_own : Wants → Bool
is_own (wanting.Each w) = true
is_own (wanting.Then w v) = true
is_own (wanting.Third w v u) = true
is_own _ = false

one_of_two : (b : Bool) (w v x y : Want) → want_of (if b then OwnWant w else OwnWant v) x ≡ want_of (if b then OwnWant w else OwnWant v) y
one_of_two true w v x y = refl
one_of_two false w v x y = refl

one_of_three : (b c : Bool) (w v u x y : Want) →
    want_of (if b then OwnWant w else if c then OwnWant v else OwnWant u) x
    ≡ want_of (if b then OwnWant w else if c then OwnWant v else OwnWant u) y
one_of_three true c w v u x y = refl
one_of_three false true w v u x y = refl
one_of_three false false w v u x y = refl

row_same : (r : Wants) → is_own r ≡ true → (m k : ℕ) (x y : Want) → want_of (wanted r m k) x ≡ want_of (wanted r m k) y
row_same (wanting.Each w) h m k x y = refl
row_same (wanting.Then w v) h m k x y = one_of_two (nat_eq k 0) w v x y
row_same (wanting.Third w v u) h m k x y = one_of_three (nat_eq k 0) (nat_eq k 1) w v u x y
row_same _ h m k x y = absurd (cc)

piece_same : (p : Option FormatPiece) (x y : Want) → want_of (piece_wanted p) x ≡ want_of (piece_wanted p) y
piece_same (Some p) x y = refl
piece_same None x y = refl

-- an operator whose node fits its own value says what its arguments are wanted as, whatever the node is wanted as
abbrev pub HasOwnWants : Operator → Type 0
HasOwnWants op = (m k : ℕ) (x y : Want) → want_of (wanted_by op m k) x ≡ want_of (wanted_by op m k) y

pub own_wants : (op : Operator) → has_fit (rule_of op) ≡ true → HasOwnWants op
own_wants ops.Case h m k x y = absurd (cc)
own_wants (ops.Match ls) h m k x y = absurd (cc)
own_wants (ops.Step inputs) h m k x y = absurd (cc)
own_wants (ops.Interpolate r) h m k x y = absurd (cc)
own_wants (ops.Let names) h m k x y = absurd (cc)
own_wants (ops.Format pieces) h m k x y = piece_same (slice_get pieces k) x y
own_wants op h m k x y = row_same (row (operator_name op)).wants refl m k x y

-- ---- what is fitted last

twice : (w : Want) (o : Evaluated) → then_value o (fit w) ≡ then_value (then_value o (fit wants.Any)) (fit w)
twice w (Ok d) = refl
twice w (Err f) = refl

last_fitted : (w : Want) (apply : List Data → Evaluated) (values : Result (List Data) EvalFault) →
    then_values values (λ ds. then_value (apply ds) (fit w))
    ≡ then_value (then_values values (λ ds. then_value (apply ds) (fit wants.Any))) (fit w)
last_fitted w apply (Ok ds) = twice w (apply ds)
last_fitted w apply (Err f) = refl

argument_same : (op : Operator) → HasOwnWants op → (m k : ℕ) (me : Meaning) (x y : Want) (names : BoundOutcomes) (world : World) →
    argument_of op m k me x names world ≡ argument_of op m k me y names world
argument_same op own m k me x y names world =
    λ i. looked_at (is_sequence (row (operator_name op)).sequence k) (me (own m k x y i) names world)

values_same : (op : Operator) → HasOwnWants op → (m k : ℕ) (ms : List Meaning) (x y : Want) (names : BoundOutcomes) (world : World) →
    values_of op m k ms x names world ≡ values_of op m k ms y names world
values_same op own m k [] x y names world = refl
values_same op own m k (me ∷ ms) x y names world =
    λ i. and_values (argument_same op own m k me x y names world i) (values_same op own m (k + 1) ms x y names world i)

first_same : (decides : Data → Option Data) (none : Evaluated) (op : Operator) → HasOwnWants op → (m k : ℕ) (ms : List Meaning)
    (x y : Want) (names : BoundOutcomes) (world : World) →
    first_of decides none op m k ms x names world ≡ first_of decides none op m k ms y names world
first_same decides none op own m k [] x y names world = refl
first_same decides none op own m k (me ∷ ms) x y names world =
    λ i. then_value (argument_same op own m k me x y names world i)
    (λ d. or_later (decides d) (first_same decides none op own m (k + 1) ms x y names world i))

rule_fits : (r : Rule) (op : Operator) → has_fit r ≡ true → HasOwnWants op → (ms : List Meaning) (w : Want) (names : BoundOutcomes)
    (world : World) →
    meaning_by r op ms w names world ≡ then_value (meaning_by r op ms wants.Any names world) (fit w)
rule_fits (each apply) op h own ms w names world =
    ap (λ vs. then_values vs (λ ds. then_value (apply world ds) (fit w))) (values_same op own (length ms) 0 ms w wants.Any names world)
    ∙ last_fitted w (apply world) (values_of op (length ms) 0 ms wants.Any names world)
rule_fits (deciding decides none) op h own ms w names world =
    ap (λ o. then_value o (fit w)) (first_same decides none op own (length ms) 0 ms w wants.Any names world)
    ∙ twice w (first_of decides none op (length ms) 0 ms wants.Any names world)
rule_fits (variable name) op h own ms w names world = twice w (named names name)
rule_fits cases op h own ms w names world = absurd (cc)
rule_fits (labels ls) op h own ms w names world = absurd (cc)
rule_fits (stops inputs) op h own ms w names world = absurd (cc)
rule_fits (ramp curve inputs) op h own ms w names world = absurd (cc)
rule_fits (bindings bs) op h own ms w names world = absurd (cc)

-- ---- what a mark says of a node

abbrev node_or : Typed → Kinded → Kinded
node_or (Ok found) k = found.node
node_or (Err f) k = k

sure_code : (code : Option TypeCode) (k : Kinded) (path : List PathPart) (below : List Placed) (found : TypedNodes) →
    with_below below (unless_code code k path) ≡ Ok found → (code ≡ None) × (found.node ≡ k)
sure_code None k path below found h = (refl, sym (ap (λ r. node_or r k) h))
sure_code (Some c) k path below found h = absurd (cc)

sure_fit : (f : Fit) (w : Want) (own' : Own) (may : FaultSet) (path : List PathPart) (below : List Placed) (found : TypedNodes) →
    with_below below (fit_or f w own' may path) ≡ Ok found → found.node.root.always ≡ true → (f ≡ Always) × (own'.code ≡ None)
sure_fit Never w own' may path below found h a = absurd (cc)
sure_fit Maybe w own' may path below found h a =
    let s = sure_code own'.code _ path below found h in
    let q : true ≡ false = sym a ∙ ap (λ (k : Kinded). k.root.always) s.1 in
    absurd (cc)
sure_fit Always w own' may path below found h a = (refl, (sure_code own'.code _ path below found h).0)

outcome_free : (code : Option TypeCode) (k : Kinded) (path : List PathPart) (below : List Placed) (o : Evaluated) → code ≡ None →
    ResultOf every_fault wants.Any (with_below below (unless_code code k path)) o → OutcomeOf every_fault wants.Any k.kind o
outcome_free None k path below o e law = law (within_every k.may)
outcome_free (Some c) k path below o e law = absurd (cc)

-- a node that is fitted: where it is marked, fitting what it gives changes nothing
fitted_stays : (w : Want) (own' : Own) (may : FaultSet) (path : List PathPart) (below : List Placed) (found : TypedNodes) (o : Evaluated) →
    with_below below (fitted w own' may path) ≡ Ok found → found.node.root.always ≡ true →
    ResultOf every_fault wants.Any (with_below below (fitted wants.Any own' may path)) o → (w ≡ wants.Shown → ⊥) →
    then_value o (fit w) ≡ o
fitted_stays w own' may path below found o h a law n =
    let s = sure_fit (fits own'.kind w) w own' may path below found h a in
    fit_stays w own'.kind o (outcome_free own'.code _ path below o s.1 law) s.0 n

module _ (op : Operator) (plain : is_branching op ≡ false) (own_want_of : HasOwnWants op)
    (own_same : (w : Want) (ls : List (Option Data)) (ks : List Kind) → own op w ls ks ≡ own op wants.Any ls ks) where
  founds_same : (m k : ℕ) (ts : List Typing) (x y : Want) (scope : KindScope) (path : List PathPart) →
      founds_of op m k ts x scope path ≡ founds_of op m k ts y scope path
  founds_same m k [] x y scope path = refl
  founds_same m k (t ∷ ts) x y scope path =
      let there = argument_path op m k path in
      λ i. and_found (typed_look (is_sequence_of op k)
      (t (is_sequence_of op k) (own_want_of m k (handed op x) (handed op y) i) scope there) there)
      (founds_same m (k + 1) ts x y scope path i)

  -- a node of known arguments
  finished_is : (w : Want) (own' : Own) (founds : List TypedNodes) (path : List PathPart) →
      finished op w own' founds path ≡ with_below (all_places founds) (fitted w own' (all_may founds) path)
  finished_is w own' founds path = ap (λ (b : Bool). with_below (all_places founds)
      (if b then branched w own' (all_may founds) path else fitted w own' (all_may founds) path)) plain

  by_founds : (asked : Bool) (w : Want) (ls : List (Option Data)) (path : List PathPart) (found : TypedNodes) (o : Evaluated)
      (r : Result (List TypedNodes) TypeFault) →
      then_found r (λ founds. finished op w (own_where asked (own op w ls (kinds_in founds))) founds path) ≡ Ok found →
      found.node.root.always ≡ true →
      ResultOf every_fault wants.Any (then_found r (λ founds. finished op wants.Any (own_where asked (own op wants.Any ls (kinds_in founds))) founds path)) o →
      (w ≡ wants.Shown → ⊥) → then_value o (fit w) ≡ o
  by_founds asked w ls path found o (Ok founds) h a law n =
      let mine = own_where asked (own op wants.Any ls (kinds_in founds)) in
      let here : with_below (all_places founds) (fitted w mine (all_may founds) path) ≡ Ok found =
      sym (finished_is w mine founds path)
      ∙ (sym (ap (λ x. finished op w (own_where asked x) founds path) (own_same w ls (kinds_in founds))) ∙ h) in
      fitted_stays w mine (all_may founds) path (all_places founds) found o here a
      (subst (λ r. ResultOf every_fault wants.Any r o) (finished_is wants.Any mine founds path) law) n
  by_founds asked w ls path found o (Err f) h a law n = absurd (cc)

  plain_stays : (asked : Bool) (w : Want) (ls : List (Option Data)) (ts : List Typing) (scope : KindScope) (path : List PathPart)
      (found : TypedNodes) (o : Evaluated) → plain_typed op ls ts asked w scope path ≡ Ok found →
      found.node.root.always ≡ true → ResultOf every_fault wants.Any (plain_typed op ls ts asked wants.Any scope path) o →
      (w ≡ wants.Shown → ⊥) → then_value o (fit w) ≡ o
  plain_stays asked w ls ts scope path found o h a law n =
      by_founds asked w ls path found o (founds_of op (length ts) 0 ts w scope path) h a
      (subst (λ r. ResultOf every_fault wants.Any (then_found r (λ founds. finished op wants.Any (own_where asked (own op wants.Any ls (kinds_in founds))) founds path)) o)
      (founds_same (length ts) 0 ts wants.Any w scope path) law) n

node_stays : (op : Operator) → has_fit (rule_of op) ≡ true → (asked : Bool) (w : Want) (ls : List (Option Data)) (ts : List Typing)
    (scope : KindScope) (path : List PathPart) (found : TypedNodes) (o : Evaluated) →
    node_typed op ls ts asked w scope path ≡ Ok found → found.node.root.always ≡ true →
    ResultOf every_fault wants.Any (node_typed op ls ts asked wants.Any scope path) o → (w ≡ wants.Shown → ⊥) →
    then_value o (fit w) ≡ o
node_stays ops.Case p asked w ls ts scope path found o h a law n = absurd (cc)
node_stays (ops.Match ls') p asked w ls ts scope path found o h a law n = absurd (cc)
node_stays (ops.Step inputs) p asked w ls ts scope path found o h a law n = absurd (cc)
node_stays (ops.Interpolate r) p asked w ls ts scope path found o h a law n = absurd (cc)
node_stays (ops.Let names) p asked w ls ts scope path found o h a law n = absurd (cc)
node_stays (ops.Var name) p asked w ls ts scope path found o h a law n =
    fitted_stays w (own_named scope name) no_faults path [] found o h a law n
node_stays op p asked w ls ts scope path found o h a law n =
    plain_stays op refl (own_wants op refl) (λ w ls ks. refl) asked w ls ts scope path found o h a law n

-- ---- a marked node

untested_same : (m : Want → Evaluated) (w : Want) → ((w ≡ wants.Shown → ⊥) → m w ≡ m wants.Any) → m w ≡ m (untested w)
untested_same m wants.Shown h = refl
untested_same m wants.Any h = refl
untested_same m w h = h (λ e. absurd (cc))

own_stays : (b a : Bool) (m : Want → Evaluated) (w : Want) → (b ≡ true → a ≡ true → (w ≡ wants.Shown → ⊥) → m w ≡ m wants.Any) →
    m w ≡ m (if b && a then untested w else w)
own_stays true true m w h = untested_same m w (h refl refl)
own_stays true false m w h = refl
own_stays false a m w h = refl

pub marked_stays : (bound : List (List ℕ)) (op : Operator) (ts : Terms) → IsRead bound (node op ts) →
    (asked : Bool) (w : Want) (scope : KindScope) (path : List PathPart) (names : BoundOutcomes) (world : World) →
    NamesOf every_fault scope names → (found : TypedNodes) → typed_as (node op ts) asked w scope path ≡ Ok found →
    (left : List Bool) →
    mean (node op ts) w names world ≡ mean (node op ts) (own_want op (found.node.root.always ∷ left) w) names world
marked_stays bound op ts read asked w scope path names world n found h left =
    own_stays (has_fit (rule_of op)) found.node.root.always (λ v. mean (node op ts) v names world) w
    (λ p a unshown. rule_fits (rule_of op) op p (own_wants op p) (means ts) w names world
    ∙ node_stays op p asked w (literals ts) (typings ts) scope path found (mean (node op ts) wants.Any names world) h a
    (mean_ok every_fault bound (node op ts) read asked wants.Any scope path names world n) unshown)
