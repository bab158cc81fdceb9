-- A binding gives what is promised at its number.
use Rattle.std.proofs.Common.{◌≡◌, ℕ, ◌+◌, zero, suc, List, [], ◌∷◌, ◌++◌, length, Option, Some, None, refl, arith, sym, ap, ◌∙◌, subst}
use Rattle.std.specs.List.{slice_get}
use Rattle.operator_values.specs.Evaluated.{Evaluated}
use Rattle.eval_face.specs.World.{World}
use Rattle.expr_nodes.specs.Node.{Node}
use Rattle.expr_nodes.specs.Outcome.{outcome, promises_after, promises}
use Rattle.expr_nodes.specs.Limits.{AsksBelow, AskEarlier}
use Rattle.expr_nodes.proofs.PromiseLaws.{get_new, length_last, append_last, promises_stay, outcome_front}

abbrev pub node_or : Option Node → Node → Node
node_or (Some n) other = n
node_or None other = other

promise_after : (bs : List Node) (before : List Evaluated) (world : World) (i j : ℕ) (b : Node) →
    ((k : ℕ) (c : Node) → slice_get bs k ≡ Some c → AsksBelow (length before + k) c) →
    slice_get bs i ≡ Some b → j ≡ length before + i →
    slice_get (promises_after before bs world) j ≡ Some (outcome b (promises_after before bs world) world)
promise_after [] before world i j b h e q = absurd (cc)
promise_after (c ∷ bs) before world zero j b h e q =
    let m = outcome c before world in
    let r = promises_stay bs (before ++ m ∷ []) world in
    let whole : promises_after (before ++ m ∷ []) bs world ≡ before ++ m ∷ r.0 = r.1 ∙ append_last before m r.0 in
    let z : length before + 0 ≡ length before = omega arith in
    let P : ℕ → Type 0 = λ n. AsksBelow n c in
    let here : slice_get (before ++ m ∷ r.0) j ≡ Some m =
    ap (slice_get (before ++ m ∷ r.0)) (q ∙ z) ∙ get_new before r.0 m in
    let same : outcome c (before ++ m ∷ r.0) world ≡ m =
    outcome_front c before (m ∷ r.0) world (subst P z (h zero c refl)) in
    let c_is : c ≡ b = ap (λ o. node_or o c) e in
    ap (λ x. slice_get x j) whole
    ∙ (here
    ∙ (ap Some (sym same)
    ∙ (ap (λ x. Some (outcome c x world)) (sym whole)
    ∙ ap (λ x. Some (outcome x (promises_after (before ++ m ∷ []) bs world) world)) c_is)))
promise_after (c ∷ bs) before world (suc i) j b h e q =
    let m = outcome c before world in
    let l = length_last before m in
    promise_after bs (before ++ m ∷ []) world i j b
    (λ k d g. let P : ℕ → Type 0 = λ n. AsksBelow n d in
    let w : length before + suc k ≡ length (before ++ m ∷ []) + k = omega arith in
    subst P w (h (suc k) d g))
    e (omega arith)

pub promise_at : (bs : List Node) (world : World) (i : ℕ) (b : Node) → AskEarlier bs → slice_get bs i ≡ Some b →
    slice_get (promises bs world) i ≡ Some (outcome b (promises bs world) world)
promise_at bs world i b h e =
    promise_after bs [] world i i b
    (λ k c g. let P : ℕ → Type 0 = λ n. AsksBelow n c in
    let w : k ≡ 0 + k = omega arith in
    subst P w (h k c g))
    e (omega arith)
