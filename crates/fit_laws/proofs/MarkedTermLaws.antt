-- What marks say of each node of an expression that has a kind.
use Rattle.std.proofs.Common.{◌≡◌, ℕ, ◌+◌, zero, suc, List, [], ◌∷◌, ◌++◌, length, take, drop, Bool, true, false, Option, Result, Ok, Err, refl, arith, ap, sym, ◌∙◌, subst, append_assoc}
use Rattle.std.proofs.lemmas.Bool.{eq-eqb, ne_eqb}
use Rattle.std.proofs.lemmas.List.{append-nil, map-append}
use Rattle.decimal_json.specs.declared.paths.PathPart.{PathPart}
use Rattle.prop_values.specs.Data.{Data}
use Rattle.prop_values.specs.declared.kinds.Kind.{Kind}
use Rattle.prop_values.specs.declared.kinds.Want.{Want}
use Rattle.prop_values.specs.declared.kinds.Want.TheVariants as wants
use Rattle.expr_syntax.specs.Mentioned.{count}
use Rattle.expr_syntax.specs.ReadTerms.{names_within, IsRead, AreRead}
use Rattle.expr_syntax.specs.Rows.{is_last}
use Rattle.expr_syntax.specs.Term.{Term, literal, node, Terms, no_terms, term}
use Rattle.expr_syntax.specs.TermSize.{nodes}
use Rattle.expr_syntax.specs.declared.expression.Operator.{Operator}
use Rattle.expr_syntax.specs.declared.expression.Operator.TheVariants as ops
use Rattle.expr_types.specs.ArgumentPaths.{argument_path}
use Rattle.expr_types.specs.OwnTable.{own}
use Rattle.expr_types.specs.Sequences.{sequence_fit}
use Rattle.expr_types.specs.Typing.{TypedNodes, Typed, Node, KindScope, Typing, places_of, with_below, own_where, handed, with_misfit, sequence_if, looked_at, is_sequence_of, argument_want, argument_typed, and_found, founds_of, kinds_in, places_after, all_may, all_places, then_found, frame, with_bindings, body_typed, let_typed, node_typed, finished, finished_node, plain_typed, typed_as, typings, literals}
use Rattle.expr_types.specs.declared.fault.TypeFault.{TypeFault}
use Rattle.expr_types.specs.declared.fits.Fit.{Fit}
use Rattle.expr_types.specs.declared.fits.Fit.TheVariants.{Always, Maybe, Never}
use Rattle.expr_types.specs.declared.placed.Kinded.{Kinded}
use Rattle.expr_types.specs.declared.placed.Placed.{Placed}
use Rattle.operator_values.specs.Evaluated.{Evaluated}
use Rattle.eval_face.specs.Bindings.{outcomes_of}
use Rattle.eval_face.specs.Meaning.{means}
use Rattle.eval_face.specs.Names.{BoundOutcomes, bound as bound_names}
use Rattle.eval_face.specs.Rules.{rule_of}
use Rattle.eval_face.specs.World.{World}
use Rattle.expr_nodes.specs.Marks.{HoldsBy, MarksHold, ArgumentMarksHold, LetMarksHold}
use Rattle.expr_nodes.specs.Resolving.{count_of, outputs_want, own_want, argument_want as node_want}
use Rattle.fit_laws.specs.MarkedNodes.{marks_of, IsOutcomeOf, BindingsAreOfTheirKinds, NamesAreOfTheirKinds, MarkedNodesFit}
use Rattle.typing_laws.proofs.Arguments.{FrameOf, NamesOf, FoundsIn, founds_ok, within_all}
use Rattle.typing_laws.proofs.BranchLaws.{want_if_node, want_if_own, without_first}
use Rattle.fit_laws.proofs.FitLaws.{every_fault, holds_every, within_every}
use Rattle.fit_laws.proofs.MarkLaws.{own_wants, marked_stays}
use Rattle.typing_laws.proofs.NameLaws.{frame_ok, take_agree, take_literals, take_within}
use Rattle.typing_laws.proofs.Outcomes.{OutcomeOf}
use Rattle.typing_laws.proofs.PlaceLaws.{HasPlaces, typed_places}
use Rattle.typing_laws.proofs.TermLaws.{literals_ok, means_ok}

-- ---- places and marks

places_append : (places : List Placed) (founds : List TypedNodes) → places_after places founds ≡ places ++ all_places founds
places_append places [] = sym (append-nil places)
places_append places (found ∷ founds) =
    places_append (places ++ places_of found) founds
    ∙ (append_assoc places (places_of found) (all_places founds)
    ∙ ap (λ ps. places ++ ps) (sym (places_append (places_of found) founds)))

first_places : (found : TypedNodes) (founds : List TypedNodes) → all_places (found ∷ founds) ≡ places_of found ++ all_places founds
first_places found founds = places_append (places_of found) founds

-- the marks of some places, and of others after them
marks_before : (ps qs : List Placed) (left : List Bool) → marks_of (ps ++ qs) ++ left ≡ marks_of ps ++ (marks_of qs ++ left)
marks_before ps qs left =
    ap (λ ms. ms ++ left) (map-append (λ (p : Placed). p.always) ps qs) ∙ append_assoc (marks_of ps) (marks_of qs) left

marks_length : (ps : List Placed) → length (marks_of ps) ≡ length ps
marks_length [] = refl
marks_length (p ∷ ps) = ap suc (marks_length ps)

drop_front : (xs left : List Bool) (n : ℕ) → length xs ≡ n → left ≡ drop n (xs ++ left)
drop_front [] [] zero e = refl
drop_front [] (x ∷ left) zero e = refl
drop_front [] left (suc n) e = absurd (omega (arith, e))
drop_front (x ∷ xs) left zero e = absurd (omega (arith, e))
drop_front (x ∷ xs) left (suc n) e = drop_front xs left n (omega (arith, e))

-- ---- what was found

abbrev found_or : Typed → TypedNodes → TypedNodes
found_or (Ok f) other = f
found_or (Err e) other = other

abbrev all_or : Result (List TypedNodes) TypeFault → List TypedNodes → List TypedNodes
all_or (Ok fs) other = fs
all_or (Err e) other = other

below_is : (below : List Placed) (n : Node) (found : TypedNodes) → with_below below n ≡ Ok found → below ≡ found.below
below_is below (Ok k) found h = ap (λ r. (found_or r found).below) h
below_is below (Err f) found h = absurd (cc)

-- an argument that has to be a text or a list has the places that it has by itself
misfit_places : (f : Fit) (below : List Placed) (k : Kinded) (path : List PathPart) (g : TypedNodes) →
    with_below below (with_misfit f k path) ≡ Ok g → places_of g ≡ k.root ∷ below
misfit_places Always below k path g h = sym (ap (λ r. places_of (found_or r g)) h)
misfit_places Maybe below k path g h = sym (ap (λ r. places_of (found_or r g)) h)
misfit_places Never below k path g h = absurd (cc)

sequence_places : (asked : Bool) (below : List Placed) (k : Kinded) (path : List PathPart) (g : TypedNodes) →
    with_below below (sequence_if asked k path) ≡ Ok g → places_of g ≡ k.root ∷ below
sequence_places true below k path g h = misfit_places (sequence_fit k.kind) below k path g h
sequence_places false below k path g h = sym (ap (λ r. places_of (found_or r g)) h)

looked_places : (asked : Bool) (r : Typed) (path : List PathPart) (g : TypedNodes) → looked_at asked r path ≡ Ok g →
    (f : TypedNodes) × (r ≡ Ok f) × (places_of g ≡ places_of f)
looked_places asked (Ok f) path g h = (f, refl, sequence_places asked f.below f.node path g h)
looked_places asked (Err e) path g h = absurd (cc)

both_found : (r : Typed) (rs : Result (List TypedNodes) TypeFault) (founds : List TypedNodes) → and_found r rs ≡ Ok founds →
    (g : TypedNodes) × (gs : List TypedNodes) × (r ≡ Ok g) × (rs ≡ Ok gs) × (founds ≡ g ∷ gs)
both_found (Ok g) (Ok gs) founds h = (g, gs, refl, refl, sym (ap (λ r. all_or r founds) h))
both_found (Ok g) (Err e) founds h = absurd (cc)
both_found (Err e) rs founds h = absurd (cc)

all_found : (rs : Result (List TypedNodes) TypeFault) (go : List TypedNodes → Typed) (found : TypedNodes) → then_found rs go ≡ Ok found →
    (founds : List TypedNodes) × (rs ≡ Ok founds) × (go founds ≡ Ok found)
all_found (Ok founds) go found h = (founds, refl, h)
all_found (Err e) go found h = absurd (cc)

-- the places below a node are those of its arguments
plain_below : (op : Operator) (ls : List (Option Data)) (ts : List Typing) (asked : Bool) (w : Want) (scope : KindScope)
    (path : List PathPart) (found : TypedNodes) → plain_typed op ls ts asked w scope path ≡ Ok found →
    (founds : List TypedNodes) × (founds_of op (length ts) 0 ts w scope path ≡ Ok founds) × (all_places founds ≡ found.below)
plain_below op ls ts asked w scope path found h =
    let a = all_found (founds_of op (length ts) 0 ts w scope path)
    (λ founds. finished op w (own_where asked (own op w ls (kinds_in founds))) founds path) found h in
    (a.0, a.1, below_is (all_places a.0) (finished_node op w (own_where asked (own op w ls (kinds_in a.0))) (all_may a.0) path) found a.2)

-- ---- wants of arguments

want_agrees : (op : Operator) (marks : List Bool) (w : Want) (m k : ℕ) →
    argument_want op m k w ≡ node_want op m k (own_want op marks w)
want_agrees ops.Case marks w m k = refl
want_agrees (ops.Match ls) marks w m k = refl
want_agrees (ops.Step inputs) marks w m k = refl
want_agrees (ops.Interpolate r) marks w m k = refl
want_agrees (ops.Let names) marks w m k = refl
want_agrees op marks w m k = own_wants op refl m k (handed op w) (outputs_want (rule_of op) (own_want op marks w))

count_typed : (ts : Terms) → length (typings ts) ≡ count_of ts
count_typed no_terms = refl
count_typed (term t ts) = let q = count_typed ts in omega (arith, q)

-- ---- arguments that were read

first_read : (bound inner : List (List ℕ)) (t : Term) (ts : Terms) → AreRead bound inner (term t ts) → (b : List (List ℕ)) × IsRead b t
first_read bound inner t no_terms read = (inner, read)
first_read bound inner t (term u us) read = (bound, read.0)

later_read : (bound inner : List (List ℕ)) (t : Term) (ts : Terms) → AreRead bound inner (term t ts) → AreRead bound inner ts
later_read bound inner t no_terms read = tt
later_read bound inner t (term u us) read = read.1

places_count : (bound : List (List ℕ)) (t : Term) → IsRead bound t → (asked : Bool) (w : Want) (scope : KindScope)
    (path : List PathPart) (f : TypedNodes) → typed_as t asked w scope path ≡ Ok f → length (marks_of (places_of f)) ≡ nodes t
places_count bound t read asked w scope path f h =
    marks_length (places_of f) ∙ subst (λ r. HasPlaces r (nodes t)) h (typed_places bound t read asked w scope path)

-- ---- the body of a `let`, and the names in it

abbrev BodyIs : List Typing → Want → KindScope → TypedNodes → Type 0
BodyIs (body ∷ []) w scope f = (asked : Bool) × (path : List PathPart) × (body asked w scope path ≡ Ok f)
BodyIs _ w scope f = ⊥

with_places : (w : Want) (founds : List TypedNodes) (r : Typed) (found : TypedNodes) → with_bindings w founds r ≡ Ok found →
    (g : TypedNodes) × (r ≡ Ok g) × (found.below ≡ all_places founds ++ places_of g)
with_places w founds (Ok g) found h = (g, refl, sym (ap (λ r. (found_or r found).below) h))
with_places w founds (Err e) found h = absurd (cc)

body_is : (bs : List (List ℕ)) (ts : List Typing) (founds : List TypedNodes) (w : Want) (scope : KindScope) (path : List PathPart)
    (found : TypedNodes) → body_typed bs ts founds w scope path ≡ Ok found →
    (f : TypedNodes) × BodyIs ts w (frame bs (kinds_in founds) ∷ scope) f × (found.below ≡ all_places founds ++ places_of f)
body_is bs [] founds w scope path found h = absurd (cc)
body_is bs (t ∷ []) founds w scope path found h =
    let op = ops.Let bs in
    let m = length bs + 1 in
    let k = length bs in
    let inner = frame bs (kinds_in founds) ∷ scope in
    let there = argument_path op m k path in
    let g = with_places w founds (argument_typed op m k t w inner path) found h in
    let f = looked_places (is_sequence_of op k) (t (is_sequence_of op k) (argument_want op m k w) inner there) there g.0 g.1 in
    let last : argument_want op m k w ≡ w = want_if_node (is_last m k) wants.Any w (eq-eqb (k + 1) (k + 1) refl) in (
      f.0,
      (is_sequence_of op k, there, sym (ap (λ v. t (is_sequence_of op k) v inner there) last) ∙ f.1),
      g.2 ∙ ap (λ ps. all_places founds ++ ps) f.2,
    )
body_is bs (t ∷ u ∷ ts) founds w scope path found h = absurd (cc)

-- ---- the induction

-- what the names of a `let` give
abbrev inside_of : List (List ℕ) → Terms → BoundOutcomes → World → List (List ℕ × Evaluated)
inside_of bs ts names world = bound_names bs (outcomes_of (take (length bs) (means ts)) names world)

abbrev Names : KindScope → BoundOutcomes → Type 0
Names = NamesOf every_fault

-- where the rule is known
holds_by : (op : Operator) (ls : List (Option Data)) (ts : List Typing) (asked : Bool) (w : Want) (scope : KindScope)
    (path : List PathPart) (found : TypedNodes) → node_typed op ls ts asked w scope path ≡ Ok found →
    (Arguments : Type 0) (InLet : List (List ℕ) → Type 0) →
    (plain_typed op ls ts asked w scope path ≡ Ok found → Arguments) →
    ((bs : List (List ℕ)) → op ≡ ops.Let bs → let_typed bs ts w scope path ≡ Ok found → InLet bs) →
    HoldsBy (rule_of op) Arguments InLet
holds_by (ops.Let bs) ls ts asked w scope path found h A L a l = l bs refl h
holds_by (ops.Var name) ls ts asked w scope path found h A L a l = tt
holds_by op ls ts asked w scope path found h A L a l = a h

-- the first of some arguments and the others, with their marks
first_found : (op : Operator) (m k : ℕ) (t : Term) (ts : List Typing) (w : Want) (scope : KindScope) (path : List PathPart)
    (founds : List TypedNodes) → founds_of op m k (typed_as t ∷ ts) w scope path ≡ Ok founds → (left : List Bool) →
    (f : TypedNodes) × (gs : List TypedNodes)
    × (typed_as t (is_sequence_of op k) (argument_want op m k w) scope (argument_path op m k path) ≡ Ok f)
    × (founds_of op m (k + 1) ts w scope path ≡ Ok gs)
    × (marks_of (all_places founds) ++ left ≡ marks_of (places_of f) ++ (marks_of (all_places gs) ++ left))
first_found op m k t ts w scope path founds h left =
    let s = both_found (argument_typed op m k (typed_as t) w scope path) (founds_of op m (k + 1) ts w scope path) founds h in
    let l = looked_places (is_sequence_of op k)
    (typed_as t (is_sequence_of op k) (argument_want op m k w) scope (argument_path op m k path)) (argument_path op m k path) s.0 s.2 in (
      l.0,
      s.1,
      l.1,
      s.3,
      ap (λ fs. marks_of (all_places fs) ++ left) s.4
          ∙ (ap (λ ps. marks_of ps ++ left) (first_places s.0 s.1 ∙ ap (λ ps. ps ++ all_places s.1) l.2)
          ∙ marks_before (places_of l.0) (all_places s.1) left),
    )

-- the marks after those of an argument
marks_after : (bound : List (List ℕ)) (t : Term) → IsRead bound t → (asked : Bool) (w : Want) (scope : KindScope) (path : List PathPart)
    (f : TypedNodes) → typed_as t asked w scope path ≡ Ok f → (marks later : List Bool) →
    marks ≡ marks_of (places_of f) ++ later → later ≡ drop (nodes t) marks
marks_after bound t read asked w scope path f h marks later e =
    drop_front (marks_of (places_of f)) later (nodes t) (places_count bound t read asked w scope path f h) ∙ ap (drop (nodes t)) (sym e)

-- the names in a `let` are of their kinds
inside_given : (bound inner : List (List ℕ)) (ts : Terms) → AreRead bound inner ts → (bs : List (List ℕ)) (w : Want) (scope : KindScope)
    (path : List PathPart) (names : BoundOutcomes) (world : World) → Names scope names → (founds : List TypedNodes) →
    founds_of (ops.Let bs) (length (typings ts)) 0 (take (length bs) (typings ts)) w scope path ≡ Ok founds →
    length (typings ts) ≡ length bs + 1 →
    Names (frame bs (kinds_in founds) ∷ scope) (inside_of bs ts names world ∷ names)
inside_given bound inner ts read bs w scope path names world n founds h e =
    let b = length bs in
    let m = length (typings ts) in
    let ls = take b (literals ts) in
    let ms = take b (means ts) in
    let found : FoundsIn every_fault (ops.Let bs) m 0 w names world ls ms (founds_of (ops.Let bs) m 0 (take b (typings ts)) w scope path) =
    founds_ok every_fault (ops.Let bs) m 0 ls (take b (typings ts)) ms (take_literals every_fault b (literals ts) (means ts) (literals_ok every_fault ts))
    (take_agree every_fault b (typings ts) (means ts) (means_ok every_fault bound inner ts read)) w scope path names world n in
    let given : FoundsIn every_fault (ops.Let bs) m 0 w names world ls ms (Ok founds) =
    subst (λ r. FoundsIn every_fault (ops.Let bs) m 0 w names world ls ms r) h found in
    let within = take_within b (means ts) in (
      frame_ok every_fault bs bs m 0 w names world ls (kinds_in founds) ms (omega (arith, within, e))
          (given (within_all every_fault founds (within_every (all_may founds)))),
      n,
    )

counts_agree : (ts : Terms) → count_of ts ≡ count ts
counts_agree no_terms = refl
counts_agree (term t ts) = let q = counts_agree ts in omega (arith, q)

-- so many arguments as a `let` has
let_count : (bound : List (List ℕ)) (op : Operator) (bs : List (List ℕ)) (ts : Terms) → IsRead bound (node op ts) → op ≡ ops.Let bs →
    length (typings ts) ≡ length bs + 1
let_count bound op bs ts read e =
    let here : IsRead bound (node (ops.Let bs) ts) = subst (λ o. IsRead bound (node o ts)) e read in
    count_typed ts ∙ (counts_agree ts ∙ here.1.1)

let_want : (op : Operator) (bs : List (List ℕ)) (marks : List Bool) (w : Want) → op ≡ ops.Let bs → w ≡ own_want op marks w
let_want op bs marks w e = sym (ap (λ o. own_want o marks w) e)

mutual
  pub holds : (bound : List (List ℕ)) (t : Term) → IsRead bound t → (asked : Bool) (w : Want) (scope : KindScope)
      (path : List PathPart) (names : BoundOutcomes) (world : World) → Names scope names → (found : TypedNodes) →
      typed_as t asked w scope path ≡ Ok found → (left : List Bool) →
      MarksHold t w (marks_of (places_of found) ++ left) names world
  holds bound (literal d) read asked w scope path names world n found h left = tt
  holds bound (node op ts) read asked w scope path names world n found h left =
      let marks = marks_of (places_of found) ++ left in
      let own' = own_want op marks w in
      let rest = marks_of found.below ++ left in
      let below : rest ≡ drop 1 marks = without_first Bool found.node.root.always rest in
      let inner = names_within op bound in
      let m = length (typings ts) in (
        marked_stays bound op ts read asked w scope path names world n found h rest,
        holds_by op (literals ts) (typings ts) asked w scope path found h
            (ArgumentMarksHold ts op (count_of ts) 0 own' (drop 1 marks) names world)
            (λ bs. LetMarksHold ts bs own' (drop 1 marks) names (inside_of bs ts names world ∷ names) world)
            (λ g.
            let p = plain_below op (literals ts) (typings ts) asked w scope path found g in
            subst (λ ms. ArgumentMarksHold ts op (count_of ts) 0 own' ms names world) (ap (λ ps. marks_of ps ++ left) p.2 ∙ below)
            (subst (λ (c : ℕ). ArgumentMarksHold ts op c 0 own' (marks_of (all_places p.0) ++ left) names world) (count_typed ts)
            (arguments_hold bound inner ts read.2 op m 0 w own' (want_agrees op marks w m) scope path names world n p.0 p.1 left)))
            (λ bs e g.
            let a = all_found (founds_of (ops.Let bs) m 0 (take (length bs) (typings ts)) w scope path)
            (λ founds. body_typed bs (drop (length bs) (typings ts)) founds w scope path) found g in
            let b = body_is bs (drop (length bs) (typings ts)) a.0 w scope path found a.2 in
            let c = let_count bound op bs ts read e in
            let there : marks_of (all_places a.0) ++ (marks_of (places_of b.0) ++ left) ≡ drop 1 marks =
            sym (ap (λ ps. marks_of ps ++ left) b.2 ∙ marks_before (all_places a.0) (places_of b.0) left) ∙ below in
            subst (λ ms. LetMarksHold ts bs own' ms names (inside_of bs ts names world ∷ names) world) there
            (subst (λ v. LetMarksHold ts bs v (marks_of (all_places a.0) ++ (marks_of (places_of b.0) ++ left)) names (inside_of bs ts names world ∷ names) world)
            (let_want op bs marks w e)
            (let_holds bound inner ts read.2 bs bs m 0 (omega (arith, c)) w scope path names world n a.0 a.1
            (frame bs (kinds_in a.0) ∷ scope) (inside_of bs ts names world ∷ names)
            (inside_given bound inner ts read.2 bs w scope path names world n a.0 a.1 c) b.0 b.1 left))),
      )

  arguments_hold : (bound inner : List (List ℕ)) (ts : Terms) → AreRead bound inner ts → (op : Operator) (m k : ℕ) (w own' : Want) →
      ((j : ℕ) → argument_want op m j w ≡ node_want op m j own') → (scope : KindScope) (path : List PathPart)
      (names : BoundOutcomes) (world : World) → Names scope names → (founds : List TypedNodes) →
      founds_of op m k (typings ts) w scope path ≡ Ok founds → (left : List Bool) →
      ArgumentMarksHold ts op m k own' (marks_of (all_places founds) ++ left) names world
  arguments_hold bound inner no_terms read op m k w own' agree scope path names world n founds h left = tt
  arguments_hold bound inner (term t ts) read op m k w own' agree scope path names world n founds h left =
      let marks = marks_of (all_places founds) ++ left in
      let s = first_found op m k t (typings ts) w scope path founds h left in
      let r = first_read bound inner t ts read in
      let later = marks_of (all_places s.1) ++ left in
      let there = argument_path op m k path in
      let asked = is_sequence_of op k in
      let v = argument_want op m k w in (
        subst (λ ms. MarksHold t (node_want op m k own') ms names world) (sym s.4)
            (subst (λ x. MarksHold t x (marks_of (places_of s.0) ++ later) names world) (agree k)
            (holds r.0 t r.1 asked v scope there names world n s.0 s.2 later)),
        subst (λ ms. ArgumentMarksHold ts op m (k + 1) own' ms names world)
            (marks_after r.0 t r.1 asked v scope there s.0 s.2 marks later s.4)
            (arguments_hold bound inner ts (later_read bound inner t ts read) op m (k + 1) w own' agree scope path names world n s.1 s.3 left),
      )

  let_holds : (bound inner : List (List ℕ)) (ts : Terms) → AreRead bound inner ts → (all bs : List (List ℕ)) (m k : ℕ) →
      k + length bs + 1 ≡ m → (w : Want) (scope : KindScope) (path : List PathPart) (names : BoundOutcomes) (world : World) →
      Names scope names → (founds : List TypedNodes) →
      founds_of (ops.Let all) m k (take (length bs) (typings ts)) w scope path ≡ Ok founds →
      (within : KindScope) (inside : BoundOutcomes) → Names within inside → (f : TypedNodes) →
      BodyIs (drop (length bs) (typings ts)) w within f → (left : List Bool) →
      LetMarksHold ts bs w (marks_of (all_places founds) ++ (marks_of (places_of f) ++ left)) names inside world
  let_holds bound inner no_terms read all bs m k c w scope path names world n founds h within inside i f b left = tt
  let_holds bound inner (term t no_terms) read all [] m k c w scope path names world n founds h within inside i f b left =
      let none : [] ≡ founds = ap (λ r. all_or r founds) h in
      subst (λ fs. MarksHold t w (marks_of (all_places fs) ++ (marks_of (places_of f) ++ left)) inside world) none
      (holds inner t read b.0 w within b.1 inside world i f b.2 left)
  let_holds bound inner (term t (term u us)) read all [] m k c w scope path names world n founds h within inside i f b left = absurd b
  let_holds bound inner (term t ts) read all (name ∷ bs) m k c w scope path names world n founds h within inside i f b left =
      let op = ops.Let all in
      let body = marks_of (places_of f) ++ left in
      let marks = marks_of (all_places founds) ++ body in
      let s = first_found op m k t (take (length bs) (typings ts)) w scope path founds h body in
      let r = first_read bound inner t ts read in
      let later = marks_of (all_places s.1) ++ body in
      let there = argument_path op m k path in
      let asked = is_sequence_of op k in
      let v = argument_want op m k w in
      let any : v ≡ wants.Any = want_if_own (is_last m k) wants.Any w (ne_eqb (k + 1) m (λ e. omega (arith, c, e))) in (
        subst (λ ms. MarksHold t wants.Any ms names world) (sym s.4)
            (subst (λ x. MarksHold t x (marks_of (places_of s.0) ++ later) names world) any
            (holds r.0 t r.1 asked v scope there names world n s.0 s.2 later)),
        subst (λ ms. LetMarksHold ts bs w ms names inside world)
            (marks_after r.0 t r.1 asked v scope there s.0 s.2 marks later s.4)
            (let_holds bound inner ts (later_read bound inner t ts read) all bs m (k + 1) (omega (arith, c)) w scope path names world n
            s.1 s.3 within inside i f b left),
      )

-- ---- the law

outcome_every : (k : Kind) (o : Evaluated) → IsOutcomeOf k o → OutcomeOf every_fault wants.Any k o
outcome_every k (Ok d) h = (refl, h)
outcome_every k (Err f) h = holds_every f

frame_every : (as_ : List (List ℕ × Kind)) (bs : List (List ℕ × Evaluated)) → BindingsAreOfTheirKinds as_ bs → FrameOf every_fault as_ bs
frame_every [] [] h = tt
frame_every (a ∷ as_) (b ∷ bs) h = (h.0, outcome_every a.1 b.1 h.1, frame_every as_ bs h.2)
frame_every [] (b ∷ bs) h = absurd h
frame_every (a ∷ as_) [] h = absurd h

names_every : (scope : KindScope) (names : BoundOutcomes) → NamesAreOfTheirKinds scope names → Names scope names
names_every [] [] h = tt
names_every (as_ ∷ scope) (bs ∷ names) h = (frame_every as_ bs h.0, names_every scope names h.1)
names_every [] (bs ∷ names) h = absurd h
names_every (as_ ∷ scope) [] h = absurd h

pub marked_nodes_fit : MarkedNodesFit
marked_nodes_fit bound t asked want scope path names world found read h kinds' =
    subst (λ ms. MarksHold t want ms names world) (append-nil (marks_of (places_of found)))
    (holds bound t read asked want scope path names world (names_every scope names kinds') found h [])
