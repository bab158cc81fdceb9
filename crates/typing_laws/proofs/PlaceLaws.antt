-- What is known of an expression is known of each of its nodes.
use Rattle.std.proofs.Common.{◌≡◌, ℕ, ◌+◌, zero, suc, List, [], ◌∷◌, ◌++◌, length, take, drop, Bool, false, Option, Result, Ok, Err, refl, arith, sym, subst, ap, ◌∙◌, length-append}
use Rattle.decimal_json.specs.declared.paths.PathPart.{PathPart}
use Rattle.prop_values.specs.Data.{Data}
use Rattle.prop_values.specs.Faults.{no_faults}
use Rattle.prop_values.specs.declared.kinds.Want.{Want}
use Rattle.expr_syntax.specs.Mentioned.{count}
use Rattle.expr_syntax.specs.ReadTerms.{HasSoundParts, names_within, IsRead, AreRead}
use Rattle.expr_syntax.specs.Term.{Term, literal, node, Terms, no_terms, term}
use Rattle.expr_syntax.specs.TermSize.{nodes, terms_nodes}
use Rattle.expr_syntax.specs.declared.expression.Operator.{Operator}
use Rattle.expr_syntax.specs.declared.expression.Operator.TheVariants as ops
use Rattle.expr_types.specs.ArgumentPaths.{argument_path}
use Rattle.expr_types.specs.JudgedFacts.{found_places}
use Rattle.expr_types.specs.OwnTable.{own}
use Rattle.expr_types.specs.Typing.{TypedNodes, Typed, Node, KindScope, Typing, places_of, literal_node, with_below, own_where, sequence_if, is_sequence_of, looked_at, argument_want, argument_typed, and_found, founds_of, kinds_in, places_after, all_may, all_places, then_found, frame, own_named, fitted, finished_node, finished, plain_typed, with_bindings, body_typed, let_typed, node_typed, literals, typed_as, typings}
use Rattle.expr_types.specs.declared.fault.TypeFault.{TypeFault}
use Rattle.expr_types.specs.declared.placed.Placed.{Placed}
use Rattle.typing_laws.specs.TypingLaws.{EachNodeHasAPlace}

-- so many places, where there is a kind
abbrev pub HasPlaces : Typed → ℕ → Type 0
HasPlaces (Ok found) n = length (places_of found) ≡ n
HasPlaces (Err f) n = Unit {0}

abbrev Counts : Typing → ℕ → Type 0
Counts t n = (asked : Bool) (w : Want) (scope : KindScope) (path : List PathPart) → HasPlaces (t asked w scope path) n

abbrev AllCount : List Typing → List ℕ → Type 0
AllCount [] [] = Unit {0}
AllCount (t ∷ ts) (n ∷ ns) = Counts t n × AllCount ts ns
AllCount _ _ = ⊥

abbrev total : List ℕ → ℕ
total [] = 0
total (n ∷ ns) = n + total ns

abbrev HaveAll : Result (List TypedNodes) TypeFault → ℕ → Type 0
HaveAll (Ok founds) n = length (all_places founds) ≡ n
HaveAll (Err f) n = Unit {0}

-- ---- places of several

after_length : (places : List Placed) (founds : List TypedNodes) →
    length (places_after places founds) ≡ length places + length (all_places founds)
after_length places [] = let e : length {A = Placed} [] ≡ 0 = refl in omega (arith, e)
after_length places (found ∷ founds) =
    let one = after_length (places ++ places_of found) founds in
    let alone = after_length ([] ++ places_of found) founds in
    let more : length (places ++ places_of found) ≡ length places + length (places_of found) = length-append
    places (places_of found) in
    omega (arith, one, alone, more)

first_length : (found : TypedNodes) (founds : List TypedNodes) →
    length (all_places (found ∷ founds)) ≡ length (places_of found) + length (all_places founds)
first_length found founds = after_length ([] ++ places_of found) founds

below_places : (below : List Placed) (n : Node) (m : ℕ) → length below + 1 ≡ m →
    HasPlaces (with_below below n) m
below_places below (Ok k) m h = let e : length (k.root ∷ below) ≡ length below + 1 = omega arith in e ∙ h
below_places below (Err f) m h = tt

looked_places : (asked : Bool) (r : Typed) (path : List PathPart) (n : ℕ) → HasPlaces r n →
    HasPlaces (looked_at asked r path) n
looked_places asked (Ok found) path n h = below_places found.below (sequence_if asked found.node path) n
    (let e : length (places_of found) ≡ length found.below + 1 = omega arith in sym e ∙ h)
looked_places asked (Err f) path n h = tt

found_step : (r : Typed) (rs : Result (List TypedNodes) TypeFault) (n m : ℕ) → HasPlaces r n → HaveAll rs m →
    HaveAll (and_found r rs) (n + m)
found_step (Ok found) (Ok founds) n m h g = let e = first_length found founds in omega (arith, e, h, g)
found_step (Ok found) (Err f) n m h g = tt
found_step (Err f) rs n m h g = tt

founds_places : (op : Operator) (m k : ℕ) (ts : List Typing) (ns : List ℕ) → AllCount ts ns →
    (w : Want) (scope : KindScope) (path : List PathPart) → HaveAll (founds_of op m k ts w scope path) (total ns)
founds_places op m k [] [] h w scope path = refl
founds_places op m k (t ∷ ts) (n ∷ ns) h w scope path =
    found_step (argument_typed op m k t w scope path) (founds_of op m (k + 1) ts w scope path) n (total ns)
    (looked_places (is_sequence_of op k)
    (t (is_sequence_of op k) (argument_want op m k w) scope (argument_path op m k path))
    (argument_path op m k path) n
    (h.0 (is_sequence_of op k) (argument_want op m k w) scope (argument_path op m k path)))
    (founds_places op m (k + 1) ts ns h.1 w scope path)
founds_places op m k [] (n ∷ ns) h w scope path = absurd h
founds_places op m k (t ∷ ts) [] h w scope path = absurd h

then_places : (rs : Result (List TypedNodes) TypeFault) (go : List TypedNodes → Typed) (n m : ℕ) → HaveAll rs n →
    ((founds : List TypedNodes) → length (all_places founds) ≡ n → HasPlaces (go founds) m) →
    HasPlaces (then_found rs go) m
then_places (Ok founds) go n m h all = all founds h
then_places (Err f) go n m h all = tt

-- ---- nodes

plain_places : (op : Operator) (ls : List (Option Data)) (ts : List Typing) (ns : List ℕ) → AllCount ts ns →
    Counts (plain_typed op ls ts) (1 + total ns)
plain_places op ls ts ns h asked w scope path =
    then_places (founds_of op (length ts) 0 ts w scope path)
    (λ founds. finished op w (own_where asked (own op w ls (kinds_in founds))) founds path) (total ns) (1 + total ns)
    (founds_places op (length ts) 0 ts ns h w scope path)
    (λ founds e. below_places (all_places founds)
    (finished_node op w (own_where asked (own op w ls (kinds_in founds))) (all_may founds) path) (1 + total ns)
    (omega (arith, e)))

with_places : (w : Want) (founds : List TypedNodes) (r : Typed) (n m : ℕ) → length (all_places founds) ≡ n →
    HasPlaces r m → HasPlaces (with_bindings w founds r) (1 + (n + m))
with_places w founds (Ok body) n m h g = let e = length-append (all_places founds) (places_of body) in omega
    (arith, e, h, g)
with_places w founds (Err f) n m h g = tt

body_places : (bs : List (List ℕ)) (ts : List Typing) (ns : List ℕ) → AllCount ts ns →
    (founds : List TypedNodes) (n : ℕ) → length (all_places founds) ≡ n →
    (w : Want) (scope : KindScope) (path : List PathPart) →
    HasPlaces (body_typed bs ts founds w scope path) (1 + (n + total ns))
body_places bs [] ns h founds n e w scope path = tt
body_places bs (t ∷ []) (b ∷ []) h founds n e w scope path =
    let m = length bs + 1 in let k = length bs in let inner = frame bs (kinds_in founds) ∷ scope in
    let sum : b ≡ total (b ∷ []) = omega arith in
    subst (λ (x : ℕ). HasPlaces (body_typed bs (t ∷ []) founds w scope path) (1 + (n + x))) sum
    (with_places w founds (argument_typed (ops.Let bs) m k t w inner path) n b e
    (looked_places (is_sequence_of (ops.Let bs) k)
    (t (is_sequence_of (ops.Let bs) k) (argument_want (ops.Let bs) m k w) inner (argument_path (ops.Let bs) m k path))
    (argument_path (ops.Let bs) m k path) b
    (h.0 (is_sequence_of (ops.Let bs) k) (argument_want (ops.Let bs) m k w) inner
    (argument_path (ops.Let bs) m k path))))
body_places bs (t ∷ t' ∷ ts) ns h founds n e w scope path = tt
body_places bs (t ∷ []) [] h founds n e w scope path = absurd h
body_places bs (t ∷ []) (b ∷ c ∷ ns) h founds n e w scope path = absurd h.1

take_count : (n : ℕ) (ts : List Typing) (ns : List ℕ) → AllCount ts ns → AllCount (take n ts) (take n ns)
take_count zero [] [] h = tt
take_count zero (t ∷ ts) (m ∷ ns) h = tt
take_count (suc n) [] [] h = tt
take_count (suc n) (t ∷ ts) (m ∷ ns) h = (h.0, take_count n ts ns h.1)
take_count n [] (m ∷ ns) h = absurd h
take_count n (t ∷ ts) [] h = absurd h

drop_count : (n : ℕ) (ts : List Typing) (ns : List ℕ) → AllCount ts ns → AllCount (drop n ts) (drop n ns)
drop_count zero [] [] h = tt
drop_count zero (t ∷ ts) (m ∷ ns) h = h
drop_count (suc n) [] [] h = tt
drop_count (suc n) (t ∷ ts) (m ∷ ns) h = drop_count n ts ns h.1
drop_count n [] (m ∷ ns) h = absurd h
drop_count n (t ∷ ts) [] h = absurd h

both_totals : (n : ℕ) (ns : List ℕ) → total (take n ns) + total (drop n ns) ≡ total ns
both_totals zero [] = refl
both_totals zero (m ∷ ns) = omega arith
both_totals (suc n) [] = refl
both_totals (suc n) (m ∷ ns) = let q = both_totals n ns in omega (arith, q)

let_places : (bs : List (List ℕ)) (ts : List Typing) (ns : List ℕ) → AllCount ts ns →
    (w : Want) (scope : KindScope) (path : List PathPart) → HasPlaces (let_typed bs ts w scope path) (1 + total ns)
let_places bs ts ns h w scope path =
    let b = length bs in
    subst (λ (x : ℕ). HasPlaces (let_typed bs ts w scope path) (1 + x)) (both_totals b ns)
    (then_places (founds_of (ops.Let bs) (length ts) 0 (take b ts) w scope path)
    (λ founds. body_typed bs (drop b ts) founds w scope path) (total (take b ns))
    (1 + (total (take b ns) + total (drop b ns)))
    (founds_places (ops.Let bs) (length ts) 0 (take b ts) (take b ns) (take_count b ts ns h) w scope path)
    (λ founds e. body_places bs (drop b ts) (drop b ns) (drop_count b ts ns h) founds (total (take b ns)) e w
    scope path))

-- a `var` has no arguments
no_total : (ts : List Typing) (ns : List ℕ) → AllCount ts ns → length ns ≡ 0 → 1 ≡ 1 + total ns
no_total ts [] h e = refl
no_total ts (n ∷ ns) h e = absurd (omega (arith, e))

node_places : (bound : List (List ℕ)) (op : Operator) (ls : List (Option Data)) (ts : List Typing)
    (ns : List ℕ) → HasSoundParts bound op (length ns) → AllCount ts ns →
    Counts (node_typed op ls ts) (1 + total ns)
node_places bound (ops.Let bs) ls ts ns s h = λ asked. let_places bs ts ns h
node_places bound (ops.Var name) ls ts ns s h = λ asked w scope path. below_places []
    (fitted w (own_named scope name) no_faults path) (1 + total ns) (no_total ts ns h s.1)
node_places bound op ls ts ns s h = plain_places op ls ts ns h

-- ---- terms

abbrev node_counts : Terms → List ℕ
node_counts no_terms = []
node_counts (term t ts) = nodes t ∷ node_counts ts

counts_length : (ts : Terms) → count ts ≡ length (node_counts ts)
counts_length no_terms = refl
counts_length (term t ts) = let q = counts_length ts in omega (arith, q)

counts_total : (ts : Terms) → total (node_counts ts) ≡ terms_nodes ts
counts_total no_terms = refl
counts_total (term t ts) = ap (λ n. nodes t + n) (counts_total ts)

mutual
  pub typed_places : (bound : List (List ℕ)) (t : Term) → IsRead bound t → Counts (typed_as t) (nodes t)
  typed_places bound (literal d) read = λ asked w scope path. below_places [] (literal_node d w path) 1 refl
  typed_places bound (node op ts) read =
      subst (λ (n : ℕ). Counts (typed_as (node op ts)) (1 + n)) (counts_total ts)
      (node_places bound op (literals ts) (typings ts) (node_counts ts)
      (subst (λ (m : ℕ). HasSoundParts bound op m) (counts_length ts) read.1)
      (typings_places bound (names_within op bound) ts read.2))

  typings_places : (bound inner : List (List ℕ)) (ts : Terms) → AreRead bound inner ts →
      AllCount (typings ts) (node_counts ts)
  typings_places bound inner no_terms read = tt
  typings_places bound inner (term t no_terms) read = (typed_places inner t read, tt)
  typings_places bound inner (term t (term u ts)) read =
      (typed_places bound t read.0, typings_places bound inner (term u ts) read.1)

pub each_node_has_a_place : EachNodeHasAPlace
each_node_has_a_place t want found h =
    ap (λ r. length (found_places r)) h.1 ∙ subst (λ r. HasPlaces r (nodes t)) h.1
    (typed_places [] t h.0 false want [] [])
