-- Slots hold what was promised when a binding is asked for, and when a frame is entered or left.
use Rattle.std.specs.Prelude.{◌≡◌, ℕ, ◌+◌, ◌<◌, List, [], ◌∷◌, ◌++◌, length, Some, Ok, refl}
use Rattle.std.specs.List.{slice_get}
use Rattle.std.proofs.Common.{zero, suc, sym, ap, ◌∙◌, subst, arith, set, take, get_or}
use Rattle.prop_values.specs.Data.{Data}
use Rattle.prop_values.specs.View.{data_of}
use Rattle.prop_values.specs.declared.value.Value.{Value}
use Rattle.prop_values.specs.declared.kinds.Want.TheVariants as wants
use Rattle.expr_syntax.specs.declared.expression.Expr.{Expr}
use Rattle.expr_syntax.specs.TermView.{term_of}
use Rattle.operator_values.specs.Evaluated.{Evaluated}
use Rattle.eval_face.specs.World.{World}
use Rattle.eval_face.specs.Names.{BoundOutcomes}
use Rattle.eval_face.specs.Bindings.{outcomes_of}
use Rattle.eval_face.specs.Meaning.{mean}
use Rattle.expr_plain.specs.Terms.{meanings}
use Rattle.expr_plain.specs.Frames.{names_of, promises, Has, IsReady, AreKept, IsEntered, IsWithin}
use Rattle.expr_plain.specs.Slots.{done_in, waiting}
use Rattle.expr_plain.specs.declared.evaluation.Evaluation.{Evaluation}
use Rattle.expr_plain.specs.declared.evaluation.BindingSlot.{BindingSlot}
use Rattle.expr_plain.specs.declared.evaluation.BindingSlot.TheVariants.{Waiting, Done}
use Rattle.expr_plain.specs.declared.frames.Frames.{Frames}
use Rattle.expr_plain.specs.declared.frames.BindingScope.{BindingScope, Empty, Frame'}

-- Places.

get_append : {A : Type 0} (xs ys : List A) (i : ℕ) (x : A) → slice_get xs i ≡ Some x → slice_get (xs ++ ys) i ≡ Some x
get_append [] ys i x h = absurd (cc)
get_append (a ∷ xs) ys zero x h = h
get_append (a ∷ xs) ys (suc i) x h = get_append xs ys i x h

has_append : (os : List Evaluated) (i : ℕ) (ps qs : List Evaluated) → Has os i ps → Has os i (ps ++ qs)
has_append [] i ps qs h = tt
has_append (o ∷ os) i ps qs h = (get_append ps qs i o h.0, has_append os (i + 1) ps qs h.1)

has_shift : (os : List Evaluated) (i : ℕ) (p : Evaluated) (ps : List Evaluated) → Has os i ps → Has os (suc i) (p ∷ ps)
has_shift [] i p ps h = tt
has_shift (o ∷ os) i p ps h =
    let q : suc (i + 1) ≡ suc i + 1 = omega arith in
    (h.0, subst (λ (n : ℕ). Has os n (p ∷ ps)) q (has_shift os (i + 1) p ps h.1))

has_all : (os : List Evaluated) → Has os 0 os
has_all [] = tt
has_all (o ∷ os) = (refl, has_shift os 0 o os (has_all os))

has_end : (os : List Evaluated) (ps : List Evaluated) → Has os (length ps) (ps ++ os)
has_end os [] = has_all os
has_end os (p ∷ ps) = has_shift os (length ps) p (ps ++ os) (has_end os ps)

pub has_at : (os : List Evaluated) (i : ℕ) (ps : List Evaluated) (k j : ℕ) (o : Evaluated) → Has os i ps → slice_get os k ≡ Some o → j ≡ i + k → slice_get ps j ≡ Some o
has_at [] i ps k j o h g q = absurd (cc)
has_at (x ∷ os) i ps zero j o h g q =
    let r : i ≡ j = omega arith in
    let P : ℕ → Type 0 = λ n. slice_get ps n ≡ Some o in
    subst P r (h.0 ∙ g)
has_at (x ∷ os) i ps (suc k) j o h g q = has_at os (i + 1) ps k j o h.1 g (omega arith)

pub outcome_at : (es : List Expr) (k : ℕ) (e : Expr) (names : BoundOutcomes) (world : World) → e ≡ get_or es k e → k < length es → slice_get (outcomes_of (meanings es) names world) k ≡ Some (mean (term_of e) wants.Any names world)
outcome_at [] k e names world g l = absurd (omega arith)
outcome_at (x ∷ es) zero e names world g l = ap (λ y. Some (mean (term_of y) wants.Any names world)) (sym g)
outcome_at (x ∷ es) (suc k) e names world g l = outcome_at es k e names world g (omega arith)

get_within : {A : Type 0} (xs : List A) (i : ℕ) (x : A) → slice_get xs i ≡ Some x → i < length xs
get_within [] i x h = absurd (cc)
get_within (a ∷ xs) zero x h = omega arith
get_within (a ∷ xs) (suc i) x h = let r = get_within xs i x h in omega arith

has_within : (os : List Evaluated) (i : ℕ) (ps : List Evaluated) (k : ℕ) → Has os i ps → k < length os → i + k < length ps
has_within [] i ps k h l = absurd (omega arith)
has_within (o ∷ os) i ps zero h l = let r = get_within ps i o h.0 in omega arith
has_within (o ∷ os) i ps (suc k) h l = let r = has_within os (i + 1) ps k h.1 (omega arith) in omega arith

outcomes_length : (es : List Expr) (names : BoundOutcomes) (world : World) → length (outcomes_of (meanings es) names world) ≡ length es
outcomes_length [] names world = refl
outcomes_length (e ∷ es) names world = ap suc (outcomes_length es names world)

-- Frames.

ready_append : (s : BindingScope) (world : World) (ps qs : List Evaluated) → IsReady s world ps → IsReady s world (ps ++ qs)
ready_append Empty world ps qs h = tt
ready_append (Frame' names es first p outer q below) world ps qs h = (has_append (outcomes_of (meanings es.now) (names_of outer world) world) first ps qs h.0, h.1, ready_append outer world ps qs h.2)

kept_length : (ps : List Evaluated) (ss : List BindingSlot) → AreKept ps ss → length ps ≡ length ss
kept_length [] [] h = refl
kept_length (p ∷ ps) (s ∷ ss) h = ap suc (kept_length ps ss h.1)
kept_length [] (s ∷ ss) h = absurd h
kept_length (p ∷ ps) [] h = absurd h

kept_new : (es : List Expr) (names : BoundOutcomes) (world : World) → AreKept (outcomes_of (meanings es) names world) (waiting es)
kept_new [] names world = tt
kept_new (e ∷ es) names world = (tt, kept_new es names world)

pub enter_kept : (es : List Expr) (names : BoundOutcomes) (world : World) (ps : List Evaluated) (ss : List BindingSlot) → AreKept ps ss → AreKept (ps ++ outcomes_of (meanings es) names world) (ss ++ waiting es)
enter_kept es names world [] [] h = kept_new es names world
enter_kept es names world (p ∷ ps) (s ∷ ss) h = (h.0, enter_kept es names world ps ss h.1)
enter_kept es names world [] (s ∷ ss) h = absurd h
enter_kept es names world (p ∷ ps) [] h = absurd h

-- a frame that is entered is ready
pub enter_ready : (s : BindingScope) (es : List Expr) (world : World) (ps : List Evaluated) (ss : List BindingSlot) (i n : ℕ) → IsReady s world ps → AreKept ps ss → i ≡ length ss → n ≡ length es → Has (outcomes_of (meanings es) (names_of s world) world) i (ps ++ outcomes_of (meanings es) (names_of s world) world) × (n ≡ length es) × IsReady s world (ps ++ outcomes_of (meanings es) (names_of s world) world)
enter_ready s es world ps ss i n h k e l =
    let os = outcomes_of (meanings es) (names_of s world) world in
    let P : ℕ → Type 0 = λ m. Has os m (ps ++ os) in
    (subst P (kept_length ps ss k ∙ sym e) (has_end os ps), l, ready_append s world ps os h)

kept_take : (ps qs : List Evaluated) (ss : List BindingSlot) → AreKept (ps ++ qs) ss → AreKept ps (take (length ps) ss)
kept_take [] qs ss h = tt
kept_take (p ∷ ps) qs [] h = absurd h
kept_take (p ∷ ps) qs (s ∷ ss) h = (h.0, kept_take ps qs ss h.1)

pub leave_kept : (ps qs : List Evaluated) (ss us : List BindingSlot) → AreKept ps ss → AreKept (ps ++ qs) us → AreKept ps (take (length ss) us)
leave_kept ps qs ss us k h = let P : ℕ → Type 0 = λ n. AreKept ps (take n us) in subst P (kept_length ps ss k) (kept_take ps qs us h)

ready_within : (s : BindingScope) (world : World) (ps : List Evaluated) → IsReady s world ps → IsWithin (length ps) s
ready_within Empty world ps h = tt
ready_within (Frame' names es first p outer q below) world ps h =
    let os = outcomes_of (meanings es.now) (names_of outer world) world in
    (λ k l. has_within os first ps k h.0 (let o = outcomes_length es.now (names_of outer world) world in omega arith), h.1, ready_within outer world ps h.2)

pub entered_within : (frames : Frames) (world : World) (evaluation : Evaluation) (n : ℕ) → IsEntered frames world evaluation → n ≡ length evaluation.slots.items → IsWithin n frames.scope.now
entered_within frames world evaluation n h e =
    let P : ℕ → Type 0 = λ m. IsWithin m frames.scope.now in
    subst P (kept_length (promises frames.entered.now world) evaluation.slots.items h.kept ∙ sym e) (ready_within frames.scope.now world (promises frames.entered.now world) h.ready)

-- Asking.

pub kept_within : (ps : List Evaluated) (ss : List BindingSlot) (i : ℕ) (p : Evaluated) → AreKept ps ss → slice_get ps i ≡ Some p → i < length ss
kept_within [] ss i p h g = absurd (cc)
kept_within (q ∷ ps) [] i p h g = absurd h
kept_within (q ∷ ps) (s ∷ ss) zero p h g = omega arith
kept_within (q ∷ ps) (s ∷ ss) (suc i) p h g = let r = kept_within ps ss i p h.1 g in omega arith

pub kept_done : (ps : List Evaluated) (ss : List BindingSlot) (i : ℕ) (p : Evaluated) (d : Data) → AreKept ps ss → slice_get ps i ≡ Some p → done_in (slice_get ss i) ≡ Some d → p ≡ Ok d
kept_done [] ss i p d h g e = absurd (cc)
kept_done (q ∷ ps) [] i p d h g e = absurd h
kept_done (q ∷ ps) (Done v ∷ ss) zero p d h g e = let r : q ≡ p = cc in let f : data_of v ≡ d = cc in sym r ∙ (h.0 ∙ ap Ok f)
kept_done (q ∷ ps) (Waiting ∷ ss) zero p d h g e = absurd (cc)
kept_done (q ∷ ps) (s ∷ ss) (suc i) p d h g e = kept_done ps ss i p d h.1 g e

pub kept_set : (ps : List Evaluated) (ss : List BindingSlot) (i : ℕ) (p : Evaluated) (v : Value) → AreKept ps ss → slice_get ps i ≡ Some p → p ≡ Ok (data_of v) → AreKept ps (set ss i (Done v))
kept_set [] [] i p v h g e = tt
kept_set (q ∷ ps) (s ∷ ss) zero p v h g e = let r : q ≡ p = cc in (r ∙ e, h.1)
kept_set (q ∷ ps) (s ∷ ss) (suc i) p v h g e = (h.0, kept_set ps ss i p v h.1 g e)
kept_set [] (s ∷ ss) i p v h g e = absurd h
kept_set (q ∷ ps) [] i p v h g e = absurd h
