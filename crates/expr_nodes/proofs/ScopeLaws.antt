-- Names with outcomes, and the same names with the numbers of their bindings.
use Rattle.std.proofs.Common.{◌≡◌, ℕ, ◌<◌, ◌≤◌, List, [], ◌∷◌, ◌++◌, Bool, true, false, Option, Some, None, if◌then◌else◌, refl, arith, sym, ap, ◌∙◌, subst}
use Rattle.std.proofs.lemmas.Option.{slice_get_within}
use Rattle.std.specs.List.{slice_get}
use Rattle.prop_values.specs.Equality.{same_text}
use Rattle.prop_values.specs.declared.kinds.Want.{Want}
use Rattle.property_tables.specs.Fitting.{fit}
use Rattle.operator_values.specs.Evaluated.{Evaluated, then_value}
use Rattle.eval_face.specs.Names.{BoundOutcomes, or_own, last_named, or_outer, named}
use Rattle.eval_face.specs.World.{World}
use Rattle.expr_nodes.specs.Limits.{AsksBelow}
use Rattle.expr_nodes.specs.Node.{Node, size}
use Rattle.expr_nodes.specs.Outcome.{promised, outcome, promises}
use Rattle.expr_nodes.specs.Resolving.{NumberedNames, or_own_number, last_number, or_outer_number, number_of, variable_node}
use Rattle.expr_nodes.proofs.PromiseLaws.{get_front, more_promises}

-- ---- the outcome of a name is what its number is promised

abbrev pub NamesMatch : NumberedNames → List (List ℕ × Evaluated) → List Evaluated → Type 0
NamesMatch [] [] ps = Unit {0}
NamesMatch (b ∷ bs) (c ∷ cs) ps = (b.0 ≡ c.0) × (slice_get ps b.1 ≡ Some c.1) × NamesMatch bs cs ps
NamesMatch [] (c ∷ cs) ps = ⊥
NamesMatch (b ∷ bs) [] ps = ⊥

-- `let` by `let`
abbrev pub Matches : List NumberedNames → BoundOutcomes → List Evaluated → Type 0
Matches [] [] ps = Unit {0}
Matches (f ∷ scope) (g ∷ names) ps = NamesMatch f g ps × Matches scope names ps
Matches [] (g ∷ names) ps = ⊥
Matches (f ∷ scope) [] ps = ⊥

names_grow : (f : NumberedNames) (g : List (List ℕ × Evaluated)) (ps more : List Evaluated) →
    NamesMatch f g ps →
    NamesMatch f g (ps ++ more)
names_grow [] [] ps more h = tt
names_grow (b ∷ bs) (c ∷ cs) ps more h =
    (h.0, get_front ps more b.1 (slice_get_within ps b.1 c.1 h.1) ∙ h.1, names_grow bs cs ps more h.2)
names_grow [] (c ∷ cs) ps more h = absurd h
names_grow (b ∷ bs) [] ps more h = absurd h

scope_grows : (scope : List NumberedNames) (names : BoundOutcomes) (ps more : List Evaluated) →
    Matches scope names ps →
    Matches scope names (ps ++ more)
scope_grows [] [] ps more h = tt
scope_grows (f ∷ scope) (g ∷ names) ps more h =
    (names_grow f g ps more h.0, scope_grows scope names ps more h.1)
scope_grows [] (g ∷ names) ps more h = absurd h
scope_grows (f ∷ scope) [] ps more h = absurd h

-- they match as well where there are more bindings
pub names_later : (f : NumberedNames) (g : List (List ℕ × Evaluated)) (bindings later all : List Node)
    (world : World) →
    all ≡ bindings ++ later → NamesMatch f g (promises bindings world) → NamesMatch f g (promises all world)
names_later f g bindings later all world e h =
    let r = more_promises bindings later all world e in
    subst (λ ps. NamesMatch f g ps) (sym r.1) (names_grow f g (promises bindings world) r.0 h)

pub scope_later : (scope : List NumberedNames) (names : BoundOutcomes) (bindings later all : List Node)
    (world : World) →
    all ≡ bindings ++ later → Matches scope names (promises bindings world) →
    Matches scope names (promises all world)
scope_later scope names bindings later all world e h =
    let r = more_promises bindings later all world e in
    subst (λ ps. Matches scope names ps) (sym r.1) (scope_grows scope names (promises bindings world) r.0 h)

pub names_last : (f : NumberedNames) (g : List (List ℕ × Evaluated)) (ps : List Evaluated) (name : List ℕ)
    (slot : ℕ)
    (o : Evaluated) → NamesMatch f g ps → slice_get ps slot ≡ Some o →
    NamesMatch (f ++ (name, slot) ∷ []) (g ++ (name, o) ∷ []) ps
names_last [] [] ps name slot o h e = (refl, e, tt)
names_last (b ∷ bs) (c ∷ cs) ps name slot o h e = (h.0, h.1, names_last bs cs ps name slot o h.2 e)
names_last [] (c ∷ cs) ps name slot o h e = absurd h
names_last (b ∷ bs) [] ps name slot o h e = absurd h

-- ---- a name that is looked for

abbrev NumberFits : Option ℕ → Option Evaluated → List Evaluated → Type 0
NumberFits None None ps = Unit {0}
NumberFits (Some slot) (Some o) ps = slice_get ps slot ≡ Some o
NumberFits None (Some o) ps = ⊥
NumberFits (Some slot) None ps = ⊥

number_if : (b : Bool) (slot : ℕ) (o : Evaluated) (ps : List Evaluated) → slice_get ps slot ≡ Some o →
    NumberFits (if b then Some slot else None) (if b then Some o else None) ps
number_if true slot o ps e = e
number_if false slot o ps e = tt

own_fits : (a : Option ℕ) (r : Option Evaluated) (n m : List ℕ) (slot : ℕ) (o : Evaluated) (x : List ℕ)
    (ps : List Evaluated) →
    NumberFits a r ps → n ≡ m → slice_get ps slot ≡ Some o →
    NumberFits (or_own_number a n slot x) (or_own r m o x) ps
own_fits (Some a) (Some r) n m slot o x ps h e k = h
own_fits None None n m slot o x ps h e k =
    subst (λ y. NumberFits (if same_text n x then Some slot else None) (if same_text y x then Some o else None)
    ps) e
    (number_if (same_text n x) slot o ps k)
own_fits None (Some r) n m slot o x ps h e k = absurd h
own_fits (Some a) None n m slot o x ps h e k = absurd h

last_fits : (f : NumberedNames) (g : List (List ℕ × Evaluated)) (x : List ℕ) (ps : List Evaluated) →
    NamesMatch f g ps →
    NumberFits (last_number f x) (last_named g x) ps
last_fits [] [] x ps h = tt
last_fits (b ∷ bs) (c ∷ cs) x ps h =
    own_fits (last_number bs x) (last_named cs x) b.0 c.0 b.1 c.1 x ps (last_fits bs cs x ps h.2) h.0 h.1
last_fits [] (c ∷ cs) x ps h = absurd h
last_fits (b ∷ bs) [] x ps h = absurd h

outer_same : (a : Option ℕ) (r : Option Evaluated) (outer : Option ℕ) (o : Evaluated) (want : Want)
    (ps : List Evaluated)
    (world : World) → NumberFits a r ps → outcome (variable_node outer want) ps world
    ≡ then_value o (fit want) →
    outcome (variable_node (or_outer_number a outer) want) ps world ≡ then_value (or_outer r o) (fit want)
outer_same (Some slot) (Some own) outer o want ps world h e = ap (λ y. then_value (promised y) (fit want)) h
outer_same None None outer o want ps world h e = e
outer_same None (Some own) outer o want ps world h e = absurd h
outer_same (Some slot) None outer o want ps world h e = absurd h

pub variable_same : (scope : List NumberedNames) (names : BoundOutcomes) (x : List ℕ) (want : Want)
    (ps : List Evaluated)
    (world : World) → Matches scope names ps →
    outcome (variable_node (number_of scope x) want) ps world ≡ then_value (named names x) (fit want)
variable_same [] [] x want ps world h = refl
variable_same (f ∷ scope) (g ∷ names) x want ps world h =
    outer_same (last_number f x) (last_named g x) (number_of scope x) (named names x) want ps world
    (last_fits f g x ps h.0)
    (variable_same scope names x want ps world h.1)
variable_same [] (g ∷ names) x want ps world h = absurd h
variable_same (f ∷ scope) [] x want ps world h = absurd h

-- ---- the numbers are below that of all bindings

abbrev pub NamesBelow : ℕ → NumberedNames → Type 0
NamesBelow limit [] = Unit {0}
NamesBelow limit (b ∷ bs) = (b.1 < limit) × NamesBelow limit bs

abbrev pub ScopeBelow : ℕ → List NumberedNames → Type 0
ScopeBelow limit [] = Unit {0}
ScopeBelow limit (f ∷ scope) = NamesBelow limit f × ScopeBelow limit scope

pub names_more : (limit more : ℕ) (f : NumberedNames) → limit ≤ more → NamesBelow limit f → NamesBelow more f
names_more limit more [] w h = tt
names_more limit more (b ∷ bs) w h = (omega (arith, h.0), names_more limit more bs w h.1)

pub scope_more : (limit more : ℕ) (scope : List NumberedNames) → limit ≤ more → ScopeBelow limit scope →
    ScopeBelow more scope
scope_more limit more [] w h = tt
scope_more limit more (f ∷ scope) w h = (names_more limit more f w h.0, scope_more limit more scope w h.1)

pub names_below_last : (limit : ℕ) (f : NumberedNames) (name : List ℕ) (slot : ℕ) → NamesBelow limit f →
    slot < limit →
    NamesBelow limit (f ++ (name, slot) ∷ [])
names_below_last limit [] name slot h w = (w, tt)
names_below_last limit (b ∷ bs) name slot h w = (h.0, names_below_last limit bs name slot h.1 w)

abbrev NumberBelow : ℕ → Option ℕ → Type 0
NumberBelow limit (Some slot) = slot < limit
NumberBelow limit None = Unit {0}

own_below : (limit : ℕ) (a : Option ℕ) (name : List ℕ) (slot : ℕ) (x : List ℕ) → NumberBelow limit a →
    slot < limit →
    NumberBelow limit (or_own_number a name slot x)
own_below limit (Some a) name slot x h w = h
own_below limit None name slot x h w = by_test (same_text name x)
  where
    by_test : (b : Bool) → NumberBelow limit (if b then Some slot else None)
    by_test true = w
    by_test false = tt

last_below : (limit : ℕ) (f : NumberedNames) (x : List ℕ) → NamesBelow limit f →
    NumberBelow limit (last_number f x)
last_below limit [] x h = tt
last_below limit (b ∷ bs) x h = own_below limit (last_number bs x) b.0 b.1 x (last_below limit bs x h.1) h.0

outer_below : (limit : ℕ) (a b : Option ℕ) → NumberBelow limit a → NumberBelow limit b →
    NumberBelow limit (or_outer_number a b)
outer_below limit (Some slot) b h k = h
outer_below limit None b h k = k

number_below : (limit : ℕ) (scope : List NumberedNames) (x : List ℕ) → ScopeBelow limit scope →
    NumberBelow limit (number_of scope x)
number_below limit [] x h = tt
number_below limit (f ∷ scope) x h =
    outer_below limit (last_number f x) (number_of scope x) (last_below limit f x h.0)
    (number_below limit scope x h.1)

node_below : (limit : ℕ) (a : Option ℕ) (want : Want) → NumberBelow limit a →
    AsksBelow limit (variable_node a want)
node_below limit (Some slot) want h = h
node_below limit None want h = tt

pub variable_below : (limit : ℕ) (scope : List NumberedNames) (x : List ℕ) (want : Want) →
    ScopeBelow limit scope →
    AsksBelow limit (variable_node (number_of scope x) want)
variable_below limit scope x want h = node_below limit (number_of scope x) want (number_below limit scope x h)

pub variable_size : (a : Option ℕ) (want : Want) → size (variable_node a want) ≡ 1
variable_size (Some slot) want = refl
variable_size None want = refl
