-- Expressions stay what they are where others are put, replaced or moved.
use Rattle.std.specs.Prelude.{true, ◌⊎◌}
use Rattle.std.proofs.Common.{◌≡◌, ℕ, ◌+◌, ◌-◌, ◌<◌, ◌≤◌, zero, suc, List, [], ◌∷◌, ◌++◌, length, take, drop, map, set, get_or, Some, unwrap_or, option_map, refl, arith, sym, ap, ◌∙◌, subst, inl, inr}
use Rattle.std.specs.List.{slice_get}
use Rattle.std.proofs.lemmas.List.{append-nil, append_assoc, length-append, length-map, length-drop, length-take-le, map_push, map-set, take-append-le, drop-append-le, take_at, drop_at, take-set-le, drop-set-lt, drop-set-add, take_more, drop_more, get_or-take, get_or-drop, flat_map_more}
use Rattle.std.proofs.lemmas.Option.{slice_get-map, slice_get_within}
use Rattle.expr_nodes.specs.Evaluators.{IsEvaluable, sized_node}
use Rattle.expr_nodes.specs.Node.{Node}
use Rattle.expr_nodes.specs.NodeCode.{BoundNode}
use Rattle.node_pool.specs.Pooled.{nodes_from, pooled_nodes, node_in, last_node, are_ordered}
use Rattle.node_pool.specs.Flattened.{IsBlock}
use Rattle.node_pool.specs.Blocks.{length_of, block_of, bound_in, bound_at, BoundNodes, bound_nodes, IsHeld, AreHeld, AreApart, total_length, IsSound, IsAdded, begins_at, one_after_another, blocks_of}
use Rattle.node_pool.specs.declared.pooled_expression.PooledExpression.{PooledExpression}
use Rattle.node_pool.specs.declared.pooled_node.PooledNode.{PooledNode}
use Rattle.node_pool.proofs.PoolLaws.{get_drop, get_here}
use Rattle.node_pool.proofs.FlatLaws.{kept_length, kept_split}

-- ---- places of lists

last_or_before : {X : Type 0} (xs : List X) (x : X) (i : ℕ) (y : X) → slice_get (xs ++ x ∷ []) i ≡ Some y →
    (slice_get xs i ≡ Some y) ⊎ ((x ≡ y) × (i ≡ length xs))
last_or_before [] x zero y e = inr (ap (λ o. unwrap_or o x) e, refl)
last_or_before [] x (suc i) y e = absurd (cc)
last_or_before (z ∷ xs) x zero y e = inl e
last_or_before (z ∷ xs) x (suc i) y e =
    elim (last_or_before xs x i y e) [
      | inl r ↦ inl r
      | inr r ↦ inr (r.0, ap suc r.1)
    ]

set_or_other : {X : Type 0} (xs : List X) (k i : ℕ) (x y : X) → slice_get (set xs k x) i ≡ Some y →
    ((x ≡ y) × (i ≡ k)) ⊎ ((slice_get xs i ≡ Some y) × (i ≡ k → ⊥))
set_or_other [] zero i x y e = absurd (cc)
set_or_other [] (suc k) i x y e = absurd (cc)
set_or_other (z ∷ xs) zero zero x y e = inl (ap (λ o. unwrap_or o x) e, refl)
set_or_other (z ∷ xs) zero (suc i) x y e = inr (e, λ q. absurd (omega (arith, q)))
set_or_other (z ∷ xs) (suc k) zero x y e = inr (e, λ q. absurd (omega (arith, q)))
set_or_other (z ∷ xs) (suc k) (suc i) x y e =
    elim (set_or_other xs k i x y e) [
      | inl r ↦ inl (r.0, ap suc r.1)
      | inr r ↦ inr (r.0, λ q. r.1 (omega (arith, q)))
    ]

-- ---- the sum of the lengths

total_last : (es : List PooledExpression) (e : PooledExpression) → total_length (es ++ e ∷ []) ≡ total_length es + length_of e
total_last [] e = omega arith
total_last (f ∷ es) e = let r = total_last es e in omega (arith, r)

pub total_at : (es : List PooledExpression) (k : ℕ) (r : PooledExpression) → slice_get es k ≡ Some r → length_of r ≤ total_length es
total_at [] k r g = absurd (cc)
total_at (f ∷ es) zero r g = let q = ap (λ o. length_of (unwrap_or o f)) g in omega (arith, q)
total_at (f ∷ es) (suc k) r g = let q = total_at es k r g in omega (arith, q)

total_set : (es : List PooledExpression) (k : ℕ) (e r : PooledExpression) → slice_get es k ≡ Some r →
    total_length (set es k e) + length_of r ≡ total_length es + length_of e
total_set [] k e r g = absurd (cc)
total_set (f ∷ es) zero e r g = let q = ap (λ o. length_of (unwrap_or o f)) g in omega (arith, q)
total_set (f ∷ es) (suc k) e r g = let q = total_set es k e r g in omega (arith, q)

pub total_next : (es : List PooledExpression) (i : ℕ) (e : PooledExpression) → i < length es → e ≡ get_or es i e →
    total_length (take (i + 1) es) ≡ total_length (take i es) + length_of e
total_next es i e h g =
    ap total_length (take_more es i e h)
    ∙ (total_last (take i es) (get_or es i e) ∙ ap (λ x. total_length (take i es) + length_of x) (sym g))

pub total_taken : (es : List PooledExpression) (i : ℕ) → total_length (take i es) ≤ total_length es
total_taken [] zero = omega arith
total_taken [] (suc i) = omega arith
total_taken (e ∷ es) zero = omega arith
total_taken (e ∷ es) (suc i) = let r = total_taken es i in omega (arith, r)

pub total_dropped : (es : List PooledExpression) (i : ℕ) (e : PooledExpression) → i < length es → e ≡ get_or es i e →
    total_length (drop i es) ≡ length_of e + total_length (drop (i + 1) es)
total_dropped es i e h g =
    ap total_length (drop_more es i e h) ∙ ap (λ x. length_of x + total_length (drop (i + 1) es)) (sym g)

-- ---- nodes that are put after others

block_kept : (old new : List PooledNode) (e : PooledExpression) → take (length old) new ≡ old → e.start + length_of e ≤ length old →
    block_of new e ≡ block_of old e
block_kept old new e k h =
    let rest = drop (length old) new in
    let d = length-drop e.start old in
    ap (λ ps. block_of ps e) (kept_split old new k)
    ∙ (ap (take (length_of e)) (drop-append-le e.start old rest (omega (arith, h)))
    ∙ take-append-le (length_of e) (drop e.start old) rest (omega (arith, d, h)))

held_as : (ps qs : List PooledNode) (e : PooledExpression) (start : ℕ) → block_of qs (begins_at start e) ≡ block_of ps e →
    start + length_of e ≤ length qs → IsHeld ps e → IsHeld qs (begins_at start e)
held_as ps qs e start b w h =
    let P : List PooledNode → Type 0 = λ x. are_ordered 0 x ≡ true in
    let Q : List PooledNode → Type 0 = λ x. IsEvaluable (bound_in e x) in
    record {
      within = w;
      ordered = subst P (sym b) h.ordered;
      evaluable = subst Q (sym b) h.evaluable;
    }

held_kept : (old new : List PooledNode) (e : PooledExpression) → take (length old) new ≡ old → IsHeld old e → IsHeld new e
held_kept old new e k h =
    let l = kept_length old new k in
    held_as old new e e.start (block_kept old new e k h.within) (omega (arith, l, h.within)) h

bounds_kept : (old new : List PooledNode) (es : List PooledExpression) → take (length old) new ≡ old → AreHeld old es →
    bound_nodes new es ≡ bound_nodes old es
bounds_kept old new [] k h = refl
bounds_kept old new (e ∷ es) k h =
    let b = block_kept old new e k (h 0 e refl).within in
    let r = bounds_kept old new es k (λ i f g. h (suc i) f g) in
    λ i. bound_in e (b i) ∷ r i

held_added : (e : PooledExpression) (bound : BoundNode) (old new : List PooledNode) → IsAdded e bound old new → IsHeld new e
held_added e bound old new a =
    record {
      within = omega (arith, a.start, a.counted);
      ordered = a.ordered;
      evaluable = subst (λ x. IsEvaluable x) (sym a.is_bound) a.evaluable;
    }

apart_from_added : (e : PooledExpression) (bound : BoundNode) (old new : List PooledNode) (f : PooledExpression) →
    IsAdded e bound old new → IsHeld old f → f.start + length_of f ≤ e.start
apart_from_added e bound old new f a h = omega (arith, a.start, h.within)

-- ---- an expression more

pub put_sound : (old new : List PooledNode) (es : List PooledExpression) (unused : ℕ) (e : PooledExpression) (bound : BoundNode) →
    IsSound old es unused → IsAdded e bound old new → IsSound new (es ++ e ∷ []) unused
put_sound old new es unused e bound s a =
    let t = total_last es e in
    record {
      held = λ i f g. elim (last_or_before es e i f g) [
        | inl r ↦ held_kept old new f a.kept (s.held i f r)
        | inr r ↦ subst (λ x. IsHeld new x) r.0 (held_added e bound old new a)
      ];
      apart = λ i j f g w p q. elim (last_or_before es e i f p) [
        | inl r ↦ elim (last_or_before es e j g q) [
          | inl t ↦ s.apart i j f g w r t
          | inr t ↦ inl (subst (λ x. f.start + length_of f ≤ x.start) t.0 (apart_from_added e bound old new f a (s.held i f r)))
        ]
        | inr r ↦ elim (last_or_before es e j g q) [
          | inl t ↦ absurd (let u = slice_get_within es j g t in omega (arith, u, w, r.1))
          | inr t ↦ absurd (omega (arith, w, r.1, t.1))
        ]
      ];
      counted = omega (arith, t, s.counted, a.counted);
    }

pub put_bounds : (old new : List PooledNode) (es : List PooledExpression) (e : PooledExpression) (bound : BoundNode) →
    AreHeld old es → IsAdded e bound old new → bound_nodes new (es ++ e ∷ []) ≡ bound_nodes old es ++ bound ∷ []
put_bounds old new es e bound h a =
    let r = bounds_kept old new es a.kept h in
    map_push (bound_at new) es e ∙ (λ i. r i ++ a.is_bound i ∷ [])

-- ---- an expression in the place of another

pub set_sound : (old new : List PooledNode) (es : List PooledExpression) (unused k : ℕ) (e replaced : PooledExpression) (bound : BoundNode) →
    IsSound old es unused → IsAdded e bound old new → slice_get es k ≡ Some replaced →
    IsSound new (set es k e) (unused + length_of replaced)
set_sound old new es unused k e replaced bound s a o =
    let t = total_set es k e replaced o in
    record {
      held = λ i f g. elim (set_or_other es k i e f g) [
        | inl r ↦ subst (λ x. IsHeld new x) r.0 (held_added e bound old new a)
        | inr r ↦ held_kept old new f a.kept (s.held i f r.0)
      ];
      apart = λ i j f g w p q. elim (set_or_other es k i e f p) [
        | inl r ↦ elim (set_or_other es k j e g q) [
          | inl t ↦ absurd (omega (arith, w, r.1, t.1))
          | inr t ↦ inr (subst (λ x. g.start + length_of g ≤ x.start) r.0 (apart_from_added e bound old new g a (s.held j g t.0)))
        ]
        | inr r ↦ elim (set_or_other es k j e g q) [
          | inl t ↦ inl (subst (λ x. f.start + length_of f ≤ x.start) t.0 (apart_from_added e bound old new f a (s.held i f r.0)))
          | inr t ↦ s.apart i j f g w r.0 t.0
        ]
      ];
      counted = omega (arith, t, s.counted, a.counted);
    }

pub set_bounds : (old new : List PooledNode) (es : List PooledExpression) (k : ℕ) (e : PooledExpression) (bound : BoundNode) →
    AreHeld old es → IsAdded e bound old new → bound_nodes new (set es k e) ≡ set (bound_nodes old es) k bound
set_bounds old new es k e bound h a =
    let r = bounds_kept old new es a.kept h in
    map-set (bound_at new) es k e ∙ (λ i. set (r i) k (a.is_bound i))

-- nothing but nodes that no expression has
pub kept_sound : (old new : List PooledNode) (es : List PooledExpression) (unused : ℕ) → new ≡ old → IsSound old es unused → IsSound new es unused
kept_sound old new es unused e s = subst (λ x. IsSound x es unused) (sym e) s

-- ---- the block of an expression that was put at the end

block_at_end : (old block new : List PooledNode) (e : PooledExpression) → new ≡ old ++ block → e.start ≡ length old →
    length_of e ≡ length block → block_of new e ≡ block
block_at_end old block new e n s l =
    ap (λ ps. take (length_of e) (drop e.start ps)) n
    ∙ (ap (take (length_of e)) (drop_at old block e.start (sym s))
    ∙ (ap (take (length_of e)) (sym (append-nil block)) ∙ take_at block [] (length_of e) (sym l)))

last_of_block : (first : ℕ) (root : Node) (bindings : List Node) (block : List PooledNode) → IsBlock first root bindings block →
    last_node block ≡ root
last_of_block first root bindings block b =
    let ns = pooled_nodes block in
    let k : length block - 1 ≡ first + length bindings = omega (arith, b.counted) in
    ap node_in (ap (slice_get ns) k
    ∙ (sym (get_drop first (length bindings) ns)
    ∙ (ap (λ xs. slice_get xs (length bindings)) b.nodes ∙ get_here bindings root [] (length bindings) refl)))

bindings_of_block : (first count : ℕ) (root : Node) (bindings : List Node) (block : List PooledNode) → IsBlock first root bindings block →
    count ≡ length bindings → nodes_from (pooled_nodes block) first count ≡ bindings
bindings_of_block first count root bindings block b c =
    ap (take count) b.nodes ∙ take_at bindings (root ∷ []) count (sym c)

pub added_at_end : (old block new : List PooledNode) (e : PooledExpression) (root : Node) (bindings : List Node) (bound : BoundNode) →
    new ≡ old ++ block → e.start ≡ length old → e.bindings ≡ length bindings → IsBlock e.first root bindings block →
    (root, bindings, e.nodes) ≡ bound → IsEvaluable (root, bindings, e.nodes) → IsAdded e bound old new
added_at_end old block new e root bindings bound n s c b same v =
    let l : length_of e ≡ length block = omega (arith, b.counted, c) in
    let here = block_at_end old block new e n s l in
    let m = ap length n ∙ length-append old block in
    let P : List PooledNode → Type 0 = λ x. are_ordered 0 x ≡ true in
    let r = last_of_block e.first root bindings block b in
    let t = bindings_of_block e.first e.bindings root bindings block b c in
    let whole : ◌≡◌ {A = BoundNode} (bound_at new e) (root, bindings, e.nodes) =
    ap (bound_in e) here ∙ (λ i. (r i, t i, e.nodes)) in
    record {
      start = s;
      counted = omega (arith, m, l);
      kept = ap (take (length old)) n ∙ take_at old block (length old) refl;
      ordered = subst P (sym here) b.ordered;
      is_bound = whole ∙ same;
      evaluable = subst (λ x. IsEvaluable x) same v;
    }

-- ---- the expression of a number

pub slot_within : (ps : List PooledNode) (es : List PooledExpression) (given : BoundNodes) (slot : ℕ) → bound_nodes ps es ≡ given →
    slot < length (map sized_node given) → slot < length es
slot_within ps es given slot e h =
    let a = length-map given sized_node in
    let b = ap length e in
    let c = length-map es (bound_at ps) in
    omega (arith, a, b, c, h)

pub slot_is : (ps : List PooledNode) (es : List PooledExpression) (given : BoundNodes) (slot : ℕ) (e : PooledExpression) →
    bound_nodes ps es ≡ given → slice_get es slot ≡ Some e →
    slice_get (map sized_node given) slot ≡ Some (sized_node (bound_at ps e))
slot_is ps es given slot e v g =
    ap (λ ns. slice_get (map sized_node ns) slot) (sym v)
    ∙ (slice_get-map sized_node (bound_nodes ps es) slot
    ∙ ap (option_map sized_node) (slice_get-map (bound_at ps) es slot ∙ ap (option_map (bound_at ps)) g))

-- ---- blocks that are moved together

first_of : {X : Type 0} (zs : List X) (i : ℕ) (d : X) → get_or (take 1 (drop i zs)) 0 d ≡ get_or zs i d
first_of zs i d =
    let z : i + 0 ≡ i = omega arith in
    get_or-take 1 (drop i zs) 0 d (omega arith) ∙ (get_or-drop i zs 0 d ∙ ap (λ k. get_or zs k d) z)

pub elements_same : {X : Type 0} (xs ys : List X) (i : ℕ) (d : X) → take 1 (drop i xs) ≡ take 1 (drop i ys) → get_or xs i d ≡ get_or ys i d
elements_same xs ys i d e = sym (first_of xs i d) ∙ (ap (λ zs. get_or zs 0 d) e ∙ first_of ys i d)

pub set_outside : {X : Type 0} (xs : List X) (k s n : ℕ) (x : X) → (s + n ≤ k) ⊎ (k < s) → take n (drop s (set xs k x)) ≡ take n (drop s xs)
set_outside xs k s n x (inr h) = ap (take n) (drop-set-lt s xs k x h)
set_outside xs k s n x (inl h) =
    let e : k ≡ s + (k - s) = omega (arith, h) in
    ap (λ j. take n (drop s (set xs j x))) e
    ∙ (ap (take n) (drop-set-add s xs (k - s) x) ∙ take-set-le n (drop s xs) (k - s) x (omega (arith, h)))

pub blocks_next : (ps : List PooledNode) (es : List PooledExpression) (i : ℕ) (e : PooledExpression) → i < length es →
    e ≡ get_or es i e → blocks_of ps (take i es) ++ block_of ps e ≡ blocks_of ps (take (i + 1) es)
blocks_next ps es i e h g =
    ap (λ x. blocks_of ps (take i es) ++ block_of ps x) g
    ∙ (flat_map_more (block_of ps) [] (take i es) (get_or es i e) ∙ ap (blocks_of ps) (sym (take_more es i e h)))

-- where each block was moved to
pub record IsMoved (ps qs : List PooledNode) (e f : PooledExpression) : Type 0 where
  pub same : f ≡ begins_at f.start e
  pub block : block_of qs f ≡ block_of ps e
  pub within : f.start + length_of f ≤ length qs

abbrev pub AreMoved : List PooledNode → List PooledNode → List PooledExpression → List PooledExpression → Type 0
AreMoved ps qs [] [] = Unit {0}
AreMoved ps qs (e ∷ es) (f ∷ fs) = IsMoved ps qs e f × AreMoved ps qs es fs
AreMoved ps qs [] (f ∷ fs) = ⊥
AreMoved ps qs (e ∷ es) [] = ⊥

pub block_length : (ps : List PooledNode) (e : PooledExpression) → e.start + length_of e ≤ length ps → length (block_of ps e) ≡ length_of e
block_length ps e h =
    let d = length-drop e.start ps in
    length-take-le (length_of e) (drop e.start ps) (omega (arith, d, h))

are_moved : (ps before : List PooledNode) (es : List PooledExpression) (start : ℕ) (qs : List PooledNode) → AreHeld ps es →
    start ≡ length before → qs ≡ before ++ blocks_of ps es → AreMoved ps qs es (one_after_another start es)
are_moved ps before [] start qs h s q = tt
are_moved ps before (e ∷ es) start qs h s q =
    let b = block_of ps e in
    let rest = blocks_of ps es in
    let l = block_length ps e (h 0 e refl).within in
    let m = length-append before b in
    let n = ap length q ∙ length-append before (b ++ rest) in
    let o = length-append b rest in (
      record {
        same = refl;
        block = ap (λ xs. take (length_of e) (drop start xs)) q
            ∙ (ap (take (length_of e)) (drop_at before (b ++ rest) start (sym s)) ∙ take_at b rest (length_of e) l);
        within = omega (arith, s, n, o, l);
      },
      are_moved ps (before ++ b) es (start + length_of e) qs (λ i f g. h (suc i) f g) (omega (arith, s, m, l))
          (q ∙ sym (append_assoc before b rest)),
    )

moved_bounds : (ps qs : List PooledNode) (es fs : List PooledExpression) → AreMoved ps qs es fs → bound_nodes qs fs ≡ bound_nodes ps es
moved_bounds ps qs [] [] m = refl
moved_bounds ps qs (e ∷ es) (f ∷ fs) m =
    let r = moved_bounds ps qs es fs m.1 in
    let one : bound_at qs f ≡ bound_at ps e = ap (λ x. bound_in x (block_of qs f)) m.0.same ∙ ap (bound_in e) m.0.block in
    λ i. one i ∷ r i
moved_bounds ps qs [] (f ∷ fs) m = absurd m
moved_bounds ps qs (e ∷ es) [] m = absurd m

moved_one : (ps qs : List PooledNode) (e f : PooledExpression) → IsMoved ps qs e f → IsHeld ps e → IsHeld qs f
moved_one ps qs e f m h =
    let P : PooledExpression → Type 0 = λ x. IsHeld qs x in
    let b = ap (block_of qs) (sym m.same) ∙ m.block in
    let l = ap length_of m.same in
    subst P (sym m.same) (held_as ps qs e f.start b (omega (arith, m.within, l)) h)

moved_held : (ps qs : List PooledNode) (es fs : List PooledExpression) → AreMoved ps qs es fs → AreHeld ps es → AreHeld qs fs
moved_held ps qs [] [] m h i x g = absurd (cc)
moved_held ps qs (e ∷ es) (f ∷ fs) m h zero x g =
    let P : PooledExpression → Type 0 = λ y. IsHeld qs y in
    subst P (ap (λ o. unwrap_or o f) g) (moved_one ps qs e f m.0 (h 0 e refl))
moved_held ps qs (e ∷ es) (f ∷ fs) m h (suc i) x g = moved_held ps qs es fs m.1 (λ j y k. h (suc j) y k) i x g
moved_held ps qs [] (f ∷ fs) m h i x g = absurd m
moved_held ps qs (e ∷ es) [] m h i x g = absurd m

starts_later : (es : List PooledExpression) (start j : ℕ) (f : PooledExpression) → slice_get (one_after_another start es) j ≡ Some f →
    start ≤ f.start
starts_later [] start j f g = absurd (cc)
starts_later (e ∷ es) start zero f g = let q = ap (λ o. (unwrap_or o (begins_at start e)).start) g in omega (arith, q)
starts_later (e ∷ es) start (suc j) f g = let r = starts_later es (start + length_of e) j f g in omega (arith, r)

are_apart : (es : List PooledExpression) (start : ℕ) → AreApart (one_after_another start es)
are_apart [] start i j a b w p q = absurd (cc)
are_apart (e ∷ es) start zero zero a b w p q = absurd (omega (arith, w))
are_apart (e ∷ es) start (suc i) zero a b w p q = absurd (omega (arith, w))
are_apart (e ∷ es) start zero (suc j) a b w p q =
    let x = begins_at start e in
    let r = starts_later es (start + length_of e) j b q in
    let s = ap (λ o. (unwrap_or o x).start + length_of (unwrap_or o x)) p in
    inl (omega (arith, r, s))
are_apart (e ∷ es) start (suc i) (suc j) a b w p q = are_apart es (start + length_of e) i j a b (omega (arith, w)) p q

total_moved : (es : List PooledExpression) (start : ℕ) → total_length (one_after_another start es) ≡ total_length es
total_moved [] start = refl
total_moved (e ∷ es) start = ap (λ x. length_of e + x) (total_moved es (start + length_of e))

blocks_length : (ps : List PooledNode) (es : List PooledExpression) → AreHeld ps es → length (blocks_of ps es) ≡ total_length es
blocks_length ps [] h = refl
blocks_length ps (e ∷ es) h =
    let l = block_length ps e (h 0 e refl).within in
    let r = blocks_length ps es (λ i f g. h (suc i) f g) in
    let a = length-append (block_of ps e) (blocks_of ps es) in
    omega (arith, l, r, a)

pub gathered_sound : (ps : List PooledNode) (es : List PooledExpression) (unused : ℕ) → IsSound ps es unused →
    IsSound (blocks_of ps es) (one_after_another 0 es) 0
gathered_sound ps es unused s =
    let t = total_moved es 0 in
    let l = blocks_length ps es s.held in
    record {
      held = moved_held ps (blocks_of ps es) es (one_after_another 0 es) (are_moved ps [] es 0 (blocks_of ps es) s.held refl refl) s.held;
      apart = are_apart es 0;
      counted = omega (arith, t, l);
    }

pub gathered_bounds : (ps : List PooledNode) (es : List PooledExpression) → AreHeld ps es →
    bound_nodes (blocks_of ps es) (one_after_another 0 es) ≡ bound_nodes ps es
gathered_bounds ps es h =
    moved_bounds ps (blocks_of ps es) es (one_after_another 0 es) (are_moved ps [] es 0 (blocks_of ps es) h refl refl)

-- ---- expressions that are renumbered one by one

pub not_moved_yet : (es : List PooledExpression) (i start : ℕ) (e : PooledExpression) → i < length es →
    e ≡ get_or (one_after_another start (take i es) ++ drop i es) i e → e ≡ get_or es i e
not_moved_yet [] i start e h g = absurd (omega (arith, h))
not_moved_yet (x ∷ es) zero start e h g = g
not_moved_yet (x ∷ es) (suc i) start e h g = not_moved_yet es i (start + length_of x) e (omega (arith, h)) g

pub one_moved : (es : List PooledExpression) (i start : ℕ) (e : PooledExpression) → i < length es → e ≡ get_or es i e →
    set (one_after_another start (take i es) ++ drop i es) i (begins_at (start + total_length (take i es)) e)
    ≡ one_after_another start (take (i + 1) es) ++ drop (i + 1) es
one_moved [] i start e h g = absurd (omega (arith, h))
one_moved (x ∷ es) zero start e h g =
    let z : start + 0 ≡ start = omega arith in
    λ j. begins_at (z j) (g j) ∷ es
one_moved (x ∷ es) (suc i) start e h g =
    let k : suc (i + 1) ≡ suc i + 1 = omega arith in
    let z : start + total_length (take (suc i) (x ∷ es)) ≡ (start + length_of x) + total_length (take i es) = omega arith in
    let rest = one_after_another (start + length_of x) (take i es) ++ drop i es in
    ap (λ n. begins_at start x ∷ set rest i (begins_at n e)) z
    ∙ (ap (λ xs. begins_at start x ∷ xs) (one_moved es i (start + length_of x) e (omega (arith, h)) g)
    ∙ ap (λ n. one_after_another start (take n (x ∷ es)) ++ drop n (x ∷ es)) k)
