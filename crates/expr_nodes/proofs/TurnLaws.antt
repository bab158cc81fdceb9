-- Bindings that are evaluated in turn, each over what those before it gave.
use Rattle.std.proofs.Common.{◌≡◌, ℕ, ◌+◌, ◌≤◌, suc, List, [], ◌∷◌, ◌++◌, length, take, Some, arith, sym, ap, ◌∙◌, subst}
use Rattle.std.specs.List.{slice_get}
use Rattle.std.proofs.Math.Seq.{take-suc}
use Rattle.std.proofs.lemmas.List.{length-take-le}
use Rattle.std.proofs.lemmas.Option.{slice_get_within, get_or_from_slice_get}
use Rattle.operator_values.specs.Evaluated.{Evaluated}
use Rattle.eval_face.specs.World.{World}
use Rattle.expr_nodes.specs.Node.{Node, size, total_size}
use Rattle.expr_nodes.specs.Outcome.{outcome, promises}
use Rattle.expr_nodes.specs.Limits.{AsksBelow, AskEarlier}
use Rattle.expr_nodes.specs.Filled.{filled}
use Rattle.expr_nodes.proofs.PromiseLaws.{promise_count, promises_both, size_last}
use Rattle.expr_nodes.proofs.NodeLaws.{take_within}
use Rattle.expr_nodes.proofs.FilledLaws.{filled_outcome, filled_below, filled_size}

next_taken : (bs : List Node) (k : ℕ) (b : Node) → slice_get bs k ≡ Some b → take (k + 1) bs ≡ take k bs ++ b ∷ []
next_taken bs k b e =
    let next : k + 1 ≡ suc k = omega arith in
    ap (λ (m : ℕ). take m bs) next
    ∙ (take-suc bs k b (slice_get_within bs k b e)
    ∙ ap (λ c. take k bs ++ c ∷ []) (get_or_from_slice_get bs k b b e))

turn_size : (bs : List Node) (k : ℕ) (b : Node) → slice_get bs k ≡ Some b →
    total_size (take (k + 1) bs) ≡ total_size (take k bs) + size b
turn_size bs k b e = ap total_size (next_taken bs k b e) ∙ size_last (take k bs) b

-- what a binding is evaluated over has no binding left to ask for
turn_asks : (bs : List Node) (given : List Evaluated) (world : World) (k : ℕ) (b : Node) → AskEarlier bs →
    slice_get bs k ≡ Some b → given ≡ promises (take k bs) world → AsksBelow (length given) b
turn_asks bs given world k b h e p =
    let w = slice_get_within bs k b e in
    let l = length-take-le k bs (omega arith) in
    let c = promise_count (take k bs) world in
    let q = ap length p in
    let here : k ≡ length given = omega arith in
    subst (λ (m : ℕ). AsksBelow m b) here (h k b e)

pub turn_below : (bs : List Node) (given : List Evaluated) (world : World) (k : ℕ) (b : Node) → AskEarlier bs →
    slice_get bs k ≡ Some b → given ≡ promises (take k bs) world → AsksBelow 0 (filled given b)
turn_below bs given world k b h e p = filled_below b given (turn_asks bs given world k b h e p)

-- what it gives is promised next
pub turn_gives : (bs : List Node) (given : List Evaluated) (world : World) (k : ℕ) (b : Node) (own : Evaluated) →
    AskEarlier bs → slice_get bs k ≡ Some b → given ≡ promises (take k bs) world →
    outcome (filled given b) [] world ≡ own → given ++ own ∷ [] ≡ promises (take (k + 1) bs) world
turn_gives bs given world k b own h e p q =
    let before = promises (take k bs) world in
    let own_is : own ≡ outcome b before world =
    sym q ∙ (filled_outcome b given [] world (turn_asks bs given world k b h e p)
    ∙ ap (λ ps. outcome b ps world) p) in
    (λ i. p i ++ own_is i ∷ [])
    ∙ sym (ap (λ xs. promises xs world) (next_taken bs k b e) ∙ promises_both [] (take k bs) (b ∷ []) world)

-- the node that asks for them
pub root_below : (bs : List Node) (given : List Evaluated) (world : World) (n : Node) → AsksBelow (length bs) n →
    given ≡ promises bs world → AsksBelow 0 (filled given n)
root_below bs given world n h p = filled_below n given (subst (λ (m : ℕ). AsksBelow m n) (sym (ap length p ∙ promise_count bs world)) h)

pub root_gives : (bs : List Node) (given : List Evaluated) (world : World) (n : Node) → AsksBelow (length bs) n →
    given ≡ promises bs world → outcome (filled given n) [] world ≡ outcome n (promises bs world) world
root_gives bs given world n h p =
    filled_outcome n given [] world (subst (λ (m : ℕ). AsksBelow m n) (sym (ap length p ∙ promise_count bs world)) h)
    ∙ ap (λ ps. outcome n ps world) p

-- ---- what the bindings cost

pub turn_paid : (bs : List Node) (given : List Evaluated) (k : ℕ) (b : Node) (before steps after : ℕ) →
    slice_get bs k ≡ Some b → steps ≤ before + total_size (take k bs) → after ≤ steps + size (filled given b) →
    after ≤ before + total_size (take (k + 1) bs)
turn_paid bs given k b before steps after e p q =
    let s = turn_size bs k b e in let f = filled_size b given in omega arith

pub turn_within : (bs : List Node) (given : List Evaluated) (k : ℕ) (b : Node) (before steps after : ℕ) →
    slice_get bs k ≡ Some b → steps ≤ before + total_size (take k bs) → after ≤ steps + size (filled given b) →
    after ≤ before + total_size bs
turn_within bs given k b before steps after e p q =
    let r = turn_paid bs given k b before steps after e p q in let w = take_within bs (k + 1) in omega arith
