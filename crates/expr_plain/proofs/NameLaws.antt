-- What a look-up finds, and what a `let` binds.
use Rattle.std.specs.Prelude.{◌≡◌, ℕ, ◌+◌, List, [], ◌∷◌, length, ◌<◌, Option, Some, None, Err, refl}
use Rattle.std.proofs.Common.{inl, inr, zero, suc, sym, ap, ◌∙◌, arith, subst, take, drop, get_or}
use Rattle.prop_values.specs.Equality.{same_text}
use Rattle.prop_values.specs.declared.fault.EvalFault.TheVariants.{WrongType}
use Rattle.prop_values.specs.declared.kinds.Want.{Want}
use Rattle.prop_values.specs.declared.kinds.Want.TheVariants as wants
use Rattle.expr_syntax.specs.declared.expression.Expr.{Expr}
use Rattle.expr_syntax.specs.NameIndex.{last_place}
use Rattle.expr_syntax.specs.TermView.{weight}
use Rattle.expr_syntax.proofs.Falls.{argument_weight}
use Rattle.expr_syntax.proofs.LastPlaces.{none_first, some_cases, last_above}
use Rattle.expr_syntax.specs.TermSize.{nodes}
use Rattle.expr_syntax.specs.TermView.{term_of}
use Rattle.operator_values.specs.Evaluated.{Evaluated}
use Rattle.eval_face.specs.World.{World}
use Rattle.eval_face.specs.Names.{BoundOutcomes, bound, last_named, or_outer, named}
use Rattle.eval_face.specs.Bindings.{outcomes_of, body_of, let_of}
use Rattle.eval_face.specs.Meaning.{mean}
use Rattle.expr_plain.specs.Frames.{names_of, promise_of, scope_size, IsReady, IsNamed, Finds}
use Rattle.expr_plain.specs.Terms.{meanings}
use Rattle.expr_plain.specs.declared.frames.Binding.{Binding}
use Rattle.expr_plain.specs.declared.frames.BindingScope.{BindingScope, Empty, Frame'}
use Rattle.expr_plain.proofs.FrameLaws.{has_at, outcome_at}

-- Of names and outcomes.

last_none : (ns : List (List ℕ)) (os : List Evaluated) (x : List ℕ) (i : ℕ) → last_place i ns x ≡ None → last_named (bound ns os) x ≡ None
last_none [] os x i h = refl
last_none (n ∷ ns) [] x i h = refl
last_none (n ∷ ns) (o ∷ os) x i h =
    let q = none_first (last_place (i + 1) ns x) (same_text n x) i h in
    let r = last_none ns os x (i + 1) q.0 in
    rw (r, q.1) refl

last_some : (ns : List (List ℕ)) (es : List Expr) (x : List ℕ) (i j k : ℕ) (e : Expr) (names : BoundOutcomes) (world : World) → length ns ≡ length es → last_place i ns x ≡ Some j → j ≡ i + k → e ≡ get_or es k e → last_named (bound ns (outcomes_of (meanings es) names world)) x ≡ Some (mean (term_of e) wants.Any names world)
last_some [] es x i j k e names world l h q g = absurd (cc)
last_some (n ∷ ns) [] x i j k e names world l h q g = absurd (omega arith)
last_some (n ∷ ns) (a ∷ es) x i j zero e names world l h q g =
    elim (some_cases (last_place (i + 1) ns x) (same_text n x) i j h) [ inl r ↦ absurd (let w = last_above ns x (i + 1) j r in omega arith) | inr r ↦ rw (last_none ns (outcomes_of (meanings es) names world) x (i + 1) r.0, r.1) (ap (λ y. Some (mean (term_of y) wants.Any names world)) (sym g)) ]
last_some (n ∷ ns) (a ∷ es) x i j (suc k) e names world l h q g =
    elim (some_cases (last_place (i + 1) ns x) (same_text n x) i j h) [ inl r ↦ rw (last_some ns es x (i + 1) j k e names world (omega arith) r (omega arith) g) refl | inr r ↦ absurd (omega (arith, r.2)) ]

-- a name means what its binding means in the outer names
var_found : (ns : List (List ℕ)) (es : List Expr) (x : List ℕ) (k : ℕ) (e : Expr) (names : BoundOutcomes) (world : World) → length ns ≡ length es → last_place 0 ns x ≡ Some k → e ≡ get_or es k e → named (bound ns (outcomes_of (meanings es) names world) ∷ names) x ≡ mean (term_of e) wants.Any names world
var_found ns es x k e names world l h g = ap (λ o. or_outer o (named names x)) (last_some ns es x 0 k k e names world l h (omega arith) g)

-- or what it means in them
var_later : (ns : List (List ℕ)) (os : List Evaluated) (x : List ℕ) (names : BoundOutcomes) → last_place 0 ns x ≡ None → named (bound ns os ∷ names) x ≡ named names x
var_later ns os x names h = ap (λ o. or_outer o (named names x)) (last_none ns os x 0 h)

-- Of frames.

-- a name is that of binding k in the innermost frame
abbrev pub IsHere : BindingScope → List ℕ → ℕ → Binding → Type 0
IsHere Empty name k b = ⊥
IsHere (Frame' names es first p outer q below) name k b =
    (last_place 0 names.now name ≡ Some k)
    × (length names.now ≡ length es.now)
    × (k < length es.now)
    × (b.expression.now ≡ get_or es.now k b.expression.now)
    × (b.slot ≡ first + k)
    × (b.outer.now ≡ outer)

pub named_here : (scope : BindingScope) (name : List ℕ) (k : ℕ) (b : Binding) → IsHere scope name k b → IsNamed name scope b
named_here Empty name k b h = absurd h
named_here (Frame' names es first p outer q below) name k b h =
    let e = b.expression.now in
    record {
      meant = λ world. var_found names.now es.now name k e (names_of outer world) world h.1 h.0 h.3 ∙ ap (λ o. promise_of e o world) (sym h.5);
      promised = λ world ps r. has_at (outcomes_of (meanings es.now) (names_of outer world) world) first ps k b.slot (promise_of e outer world) r.0 (outcome_at es.now k e (names_of outer world) world h.3 h.2) h.4 ∙ ap (λ o. Some (promise_of e o world)) (sym h.5);
      ready = λ world ps r. let R : BindingScope → Type 0 = λ s. IsReady s world ps in subst R (sym h.5) r.2;
      smaller = let w = argument_weight es.now k e h.3 h.2 in let s = ap scope_size h.5 in omega arith;
    }

-- or it is none of that frame
abbrev pub IsLater : BindingScope → List ℕ → Option Binding → Type 0
IsLater Empty name found = ⊥
IsLater (Frame' names es first p outer q below) name found = (last_place 0 names.now name ≡ None) × Finds name outer found

pub named_later : (scope : BindingScope) (name : List ℕ) (found : Option Binding) → IsLater scope name found → Finds name scope found
named_later Empty name found h = absurd h
named_later (Frame' names es first p outer q below) name (Some b) h = record {
  meant = λ world. var_later names.now (outcomes_of (meanings es.now) (names_of outer world) world) name (names_of outer world) h.0 ∙ h.1.meant world;
  promised = λ world ps r. h.1.promised world ps r.2;
  ready = λ world ps r. h.1.ready world ps r.2;
  smaller = let l = h.1.smaller in omega arith;
}
named_later (Frame' names es first p outer q below) name None h = λ world. var_later names.now (outcomes_of (meanings es.now) (names_of outer world) world) name (names_of outer world) h.0 ∙ h.1 world

-- The parts of a `let`.

meanings_take : (n : ℕ) (es : List Expr) → take n (meanings es) ≡ meanings (take n es)
meanings_take zero [] = refl
meanings_take zero (x ∷ es) = refl
meanings_take (suc n) [] = refl
meanings_take (suc n) (x ∷ es) = ap (λ ms. mean (term_of x) ∷ ms) (meanings_take n es)

last_argument : (n : ℕ) (es : List Expr) (e : Expr) → length es ≡ n + 1 → e ≡ get_or es n e → drop n (meanings es) ≡ mean (term_of e) ∷ []
last_argument zero [] e l g = absurd (omega arith)
last_argument zero (x ∷ []) e l g = ap (λ y. mean (term_of y) ∷ []) (sym g)
last_argument zero (x ∷ y ∷ es) e l g = absurd (omega arith)
last_argument (suc n) [] e l g = absurd (omega arith)
last_argument (suc n) (x ∷ es) e l g = last_argument n es e (omega arith) g

-- a `let` means its body in the names of its frame
body_last : (ns : List (List ℕ)) (es : List Expr) (e : Expr) (want : Want) (names : BoundOutcomes) (world : World) → length es ≡ length ns + 1 → e ≡ get_or es (length ns) e → let_of ns (meanings es) want names world ≡ mean (term_of e) want (bound ns (outcomes_of (meanings (take (length ns) es)) names world) ∷ names) world
body_last ns es e want names world l g =
    ap (λ ms. body_of (drop (length ns) (meanings es)) want (bound ns (outcomes_of ms names world) ∷ names) world) (meanings_take (length ns) es)
    ∙ ap (λ ms. body_of ms want (bound ns (outcomes_of (meanings (take (length ns) es)) names world) ∷ names) world) (last_argument (length ns) es e l g)

pub let_body : (ns : List (List ℕ)) (es : List Expr) (e : Expr) (want : Want) (names : BoundOutcomes) (world : World) (n : ℕ) → n ≡ length ns → length es ≡ n + 1 → e ≡ get_or es n e → let_of ns (meanings es) want names world ≡ mean (term_of e) want (bound ns (outcomes_of (meanings (take n es)) names world) ∷ names) world
let_body ns es e want names world n count =
    let P : ℕ → Type 0 = λ m. length es ≡ m + 1 → e ≡ get_or es m e → let_of ns (meanings es) want names world ≡ mean (term_of e) want (bound ns (outcomes_of (meanings (take m es)) names world) ∷ names) world in
    subst P (sym count) (body_last ns es e want names world)

body_misfit : (n : ℕ) (es : List Expr) (want : Want) (names : BoundOutcomes) (world : World) → (length es ≡ n + 1 → ⊥) → body_of (drop n (meanings es)) want names world ≡ Err WrongType
body_misfit zero [] want names world l = refl
body_misfit zero (x ∷ []) want names world l = absurd (l (omega arith))
body_misfit zero (x ∷ y ∷ es) want names world l = refl
body_misfit (suc n) [] want names world l = refl
body_misfit (suc n) (x ∷ es) want names world l = body_misfit n es want names world (λ q. l (omega arith))

-- a `let` of too few or too many arguments
pub let_misfit : (ns : List (List ℕ)) (es : List Expr) (want : Want) (names : BoundOutcomes) (world : World) → (length es ≡ length ns + 1 → ⊥) → let_of ns (meanings es) want names world ≡ Err WrongType
let_misfit ns es want names world l = body_misfit (length ns) es want _ world l

pub bindings_length : (n : ℕ) (es : List Expr) → length es ≡ n + 1 → n ≡ length (take n es)
bindings_length zero [] l = refl
bindings_length zero (x ∷ es) l = refl
bindings_length (suc n) [] l = absurd (omega arith)
bindings_length (suc n) (x ∷ es) l = ap suc (bindings_length n es (omega arith))

pub let_weight : (n : ℕ) (es : List Expr) (e : Expr) → length es ≡ n + 1 → e ≡ get_or es n e → weight (take n es) + nodes (term_of e) ≡ weight es
let_weight zero [] e l g = absurd (omega arith)
let_weight zero (x ∷ []) e l g = let q = ap (λ y. nodes (term_of y)) g in omega arith
let_weight zero (x ∷ y ∷ es) e l g = absurd (omega arith)
let_weight (suc n) [] e l g = absurd (omega arith)
let_weight (suc n) (x ∷ es) e l g = let r = let_weight n es e (omega arith) g in omega arith
