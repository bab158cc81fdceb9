-- What more bindings promise: the same of those before, and a node asks for nothing that comes later.
use Rattle.std.proofs.Common.{◌≡◌, ℕ, ◌+◌, ◌<◌, ◌≤◌, zero, suc, List, [], ◌∷◌, ◌++◌, length, Some, unwrap_or, refl, arith, sym, ap, ◌∙◌, subst}
use Rattle.std.proofs.lemmas.List.{append-nil, length-append}
use Rattle.std.specs.List.{slice_get}
use Rattle.property_tables.specs.Fitting.{fit}
use Rattle.operator_values.specs.Evaluated.{Evaluated, then_value}
use Rattle.eval_face.specs.Meaning.{node_meaning}
use Rattle.eval_face.specs.World.{World}
use Rattle.expr_nodes.specs.Limits.{AsksBelow, AllAskBelow, AskEarlier}
use Rattle.expr_nodes.specs.Node.{Node, constant, asked, property, inner, Children, childless, child, size, total_size}
use Rattle.expr_nodes.specs.Outcome.{all_known, promised, outcome, outcomes, promises_after, promises}

-- ---- lists

pub get_front : {A : Type 0} (xs ys : List A) (i : ℕ) → i < length xs → slice_get (xs ++ ys) i ≡ slice_get xs i
get_front [] ys i h = absurd (omega arith)
get_front (x ∷ xs) ys zero h = refl
get_front (x ∷ xs) ys (suc i) h = get_front xs ys i (omega arith)

pub get_new : {A : Type 0} (xs ys : List A) (y : A) → slice_get (xs ++ y ∷ ys) (length xs) ≡ Some y
get_new [] ys y = refl
get_new (x ∷ xs) ys y = get_new xs ys y

pub length_last : {A : Type 0} (xs : List A) (y : A) → length (xs ++ y ∷ []) ≡ length xs + 1
length_last [] y = refl
length_last (x ∷ xs) y = let r = length_last xs y in omega arith

pub append_last : {A : Type 0} (xs : List A) (y : A) (ys : List A) → (xs ++ y ∷ []) ++ ys ≡ xs ++ y ∷ ys
append_last [] y ys = refl
append_last (x ∷ xs) y ys = ap (λ zs. x ∷ zs) (append_last xs y ys)

pub longer : (before later all : List Node) → all ≡ before ++ later → length before ≤ length all
longer before later all e = let a = ap length e in let b = length-append before later in omega arith

pub size_last : (before : List Node) (binding : Node) →
    total_size (before ++ binding ∷ []) ≡ total_size before + size binding
size_last [] binding = omega arith
size_last (b ∷ before) binding = let r = size_last before binding in omega arith

-- ---- limits

mutual
  pub below_more : (limit more : ℕ) (n : Node) → limit ≤ more → AsksBelow limit n → AsksBelow more n
  below_more limit more (constant known) w h = tt
  below_more limit more (asked slot want) w h = omega (arith, h)
  below_more limit more (property key want) w h = tt
  below_more limit more (inner op want ns) w h = (h.0, all_below_more limit more ns w h.1)

  pub all_below_more : (limit more : ℕ) (ns : Children) → limit ≤ more → AllAskBelow limit ns →
      AllAskBelow more ns
  all_below_more limit more childless w h = tt
  all_below_more limit more (child n ns) w h =
      (below_more limit more n w h.0, all_below_more limit more ns w h.1)

-- a binding that asks for those before it is put after them
push_earlier : (before : List Node) (binding : Node) (from i : ℕ) (found : Node) →
    ((j : ℕ) (b : Node) → slice_get before j ≡ Some b → AsksBelow (from + j) b) →
    AsksBelow (from + length before) binding →
    slice_get (before ++ binding ∷ []) i ≡ Some found → AsksBelow (from + i) found
push_earlier [] binding from zero found h w e =
    subst (λ b. AsksBelow (from + zero) b) (ap (λ o. unwrap_or o binding) e) w
push_earlier [] binding from (suc i) found h w e = absurd (cc)
push_earlier (b ∷ before) binding from zero found h w e = h zero found e
push_earlier (b ∷ before) binding from (suc i) found h w e =
    let here : suc from + i ≡ from + suc i = omega arith in
    let end : from + suc (length before) ≡ suc from + length before = omega arith in
    subst (λ m. AsksBelow m found) here (push_earlier before binding (suc from) i found
    (λ j d g. let place : from + suc j ≡ suc from + j = omega arith in
    subst (λ m. AsksBelow m d) place (h (suc j) d g))
    (subst (λ m. AsksBelow m binding) end w) e)

pub earlier_last : (before : List Node) (binding : Node) → AskEarlier before →
    AsksBelow (length before) binding →
    AskEarlier (before ++ binding ∷ [])
earlier_last before binding h w i found e =
    let here : zero + i ≡ i = omega arith in
    let end : length before ≡ zero + length before = omega arith in
    subst (λ m. AsksBelow m found) here (push_earlier before binding zero i found
    (λ j d g. let place : j ≡ zero + j = omega arith in subst (λ m. AsksBelow m d) place (h j d g))
    (subst (λ m. AsksBelow m binding) end w) e)

-- ---- promises of more bindings

-- what was promised stays
pub promises_stay : (bindings : List Node) (before : List Evaluated) (world : World) →
    (later : List Evaluated) × (promises_after before bindings world ≡ before ++ later)
promises_stay [] before world = ([], sym (append-nil before))
promises_stay (binding ∷ bindings) before world =
    let own = outcome binding before world in
    let r = promises_stay bindings (before ++ own ∷ []) world in
    (own ∷ r.0, r.1 ∙ append_last before own r.0)

promises_length : (bindings : List Node) (before : List Evaluated) (world : World) →
    length (promises_after before bindings world) ≡ length before + length bindings
promises_length [] before world = omega arith
promises_length (binding ∷ bindings) before world =
    let own = outcome binding before world in
    let r = promises_length bindings (before ++ own ∷ []) world in
    let q = length_last before own in
    omega arith

pub promises_both : (before : List Evaluated) (bindings later : List Node) (world : World) →
    promises_after before (bindings ++ later) world
    ≡ promises_after (promises_after before bindings world) later world
promises_both before [] later world = refl
promises_both before (binding ∷ bindings) later world =
    promises_both (before ++ outcome binding before world ∷ []) bindings later world

pub promise_count : (bindings : List Node) (world : World) → length (promises bindings world) ≡ length bindings
promise_count bindings world = let r = promises_length bindings [] world in omega arith

pub more_promises : (bindings later all : List Node) (world : World) → all ≡ bindings ++ later →
    (more : List Evaluated) × (promises all world ≡ promises bindings world ++ more)
more_promises bindings later all world e =
    let r = promises_stay later (promises bindings world) world in
    (r.0, ap (λ bs. promises bs world) e ∙ (promises_both [] bindings later world ∙ r.1))

-- the binding that was put last is at its number
pub last_promise : (bindings : List Node) (binding : Node) (world : World) →
    slice_get (promises (bindings ++ binding ∷ []) world) (length bindings)
    ≡ Some (outcome binding (promises bindings world) world)
last_promise bindings binding world =
    let before = promises bindings world in
    let own = outcome binding before world in
    ap (λ ps. slice_get ps (length bindings)) (promises_both [] bindings (binding ∷ []) world)
    ∙ (ap (λ n. slice_get (before ++ own ∷ []) n) (sym (promise_count bindings world)) ∙ get_new before [] own)

-- ---- a node asks for nothing that comes later

mutual
  pub outcome_front : (n : Node) (front later : List Evaluated) (world : World) → AsksBelow (length front) n →
      outcome n (front ++ later) world ≡ outcome n front world
  outcome_front (constant known) front later world h = refl
  outcome_front (asked slot want) front later world h =
      ap (λ o. then_value (promised o) (fit want)) (get_front front later slot h)
  outcome_front (property key want) front later world h = refl
  outcome_front (inner op want ns) front later world h =
      ap (λ os. node_meaning op (all_known os) want [] world) (outcomes_front ns front later world h.1)

  pub outcomes_front : (ns : Children) (front later : List Evaluated) (world : World) →
      AllAskBelow (length front) ns →
      outcomes ns (front ++ later) world ≡ outcomes ns front world
  outcomes_front childless front later world h = refl
  outcomes_front (child n ns) front later world h =
      λ i. outcome_front n front later world h.0 i ∷ outcomes_front ns front later world h.1 i

-- what was resolved before gives the same when there are more bindings
pub outcome_later : (n : Node) (bindings later all : List Node) (world : World) → all ≡ bindings ++ later →
    AsksBelow (length bindings) n → outcome n (promises all world) world
    ≡ outcome n (promises bindings world) world
outcome_later n bindings later all world e h =
    let r = more_promises bindings later all world e in
    ap (λ ps. outcome n ps world) r.1
    ∙ outcome_front n (promises bindings world) r.0 world
    (subst (λ m. AsksBelow m n) (sym (promise_count bindings world)) h)
