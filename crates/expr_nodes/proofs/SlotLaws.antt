-- What slots hold is what was promised, and each binding is paid for once.
use Rattle.std.proofs.Common.{◌≡◌, ℕ, ◌+◌, ◌*◌, ◌<◌, ◌≤◌, zero, suc, List, [], ◌∷◌, length, set, replicate, Option, Some, None, Ok, refl, arith, ap, ◌∙◌}
use Rattle.std.specs.List.{slice_get}
use Rattle.prop_values.specs.Data.{Data}
use Rattle.prop_values.specs.View.{data_of}
use Rattle.prop_values.specs.declared.value.Value.{Value}
use Rattle.operator_values.specs.Evaluated.{Evaluated}
use Rattle.expr_nodes.specs.Node.{Node, size, total_size}
use Rattle.expr_nodes.specs.Outcome.{promised}
use Rattle.expr_nodes.specs.Slots.{HoldPromises, wait_of, pending, reach, done_in}
use Rattle.expr_nodes.specs.declared.workspace.PromiseSlot.{PromiseSlot}
use Rattle.expr_nodes.specs.declared.workspace.PromiseSlot.TheVariants.{Waiting, Done}
use Rattle.expr_nodes.proofs.BindingPlaces.{node_or}

pub none_there : {A : Type 0} (xs : List A) → length xs ≡ 0 → xs ≡ []
none_there [] h = refl
none_there (x ∷ xs) h = absurd (omega arith)

at_set : (ss : List PromiseSlot) (j : ℕ) (x : PromiseSlot) (i : ℕ) → j < i → slice_get (set ss j x) i ≡ slice_get ss i
at_set [] j x i h = refl
at_set (s ∷ ss) zero x zero h = absurd (omega arith)
at_set (s ∷ ss) zero x (suc i) h = refl
at_set (s ∷ ss) (suc j) x zero h = absurd (omega arith)
at_set (s ∷ ss) (suc j) x (suc i) h = at_set ss j x i (omega arith)

pub kept_length : (ps : List Evaluated) (ss : List PromiseSlot) → HoldPromises ps ss → length ps ≡ length ss
kept_length [] [] h = refl
kept_length (p ∷ ps) (s ∷ ss) h = ap suc (kept_length ps ss h.1)
kept_length [] (s ∷ ss) h = absurd h
kept_length (p ∷ ps) [] h = absurd h

pub kept_waiting : (ps : List Evaluated) (n : ℕ) → length ps ≡ n → HoldPromises ps (replicate n Waiting)
kept_waiting [] zero h = tt
kept_waiting [] (suc n) h = absurd (omega arith)
kept_waiting (p ∷ ps) zero h = absurd (omega arith)
kept_waiting (p ∷ ps) (suc n) h = (tt, kept_waiting ps n (omega arith))

pub kept_done : (ps : List Evaluated) (ss : List PromiseSlot) (i : ℕ) (d : Data) → HoldPromises ps ss → done_in (slice_get ss i) ≡ Some d → promised (slice_get ps i) ≡ Ok d
kept_done [] [] i d h e = absurd (cc)
kept_done (p ∷ ps) (Waiting ∷ ss) zero d h e = absurd (cc)
kept_done (p ∷ ps) (Done x ∷ ss) zero d h e = let q : data_of x ≡ d = cc in h.0 ∙ ap Ok q
kept_done (p ∷ ps) (s ∷ ss) (suc i) d h e = kept_done ps ss i d h.1 e
kept_done [] (s ∷ ss) i d h e = absurd h
kept_done (p ∷ ps) [] i d h e = absurd h

pub kept_set : (ps : List Evaluated) (ss : List PromiseSlot) (i : ℕ) (v : Value) → HoldPromises ps ss → promised (slice_get ps i) ≡ Ok (data_of v) → HoldPromises ps (set ss i (Done v))
kept_set [] [] i v h e = tt
kept_set (p ∷ ps) (s ∷ ss) zero v h e = (e, h.1)
kept_set (p ∷ ps) (s ∷ ss) (suc i) v h e = (h.0, kept_set ps ss i v h.1 e)
kept_set [] (s ∷ ss) i v h e = absurd h
kept_set (p ∷ ps) [] i v h e = absurd h

pub still_waits : (ss : List PromiseSlot) (i : ℕ) → i < length ss → done_in (slice_get ss i) ≡ None → slice_get ss i ≡ Some Waiting
still_waits [] i h d = absurd (omega arith)
still_waits (Waiting ∷ ss) zero h d = refl
still_waits (Done v ∷ ss) zero h d = absurd (cc)
still_waits (s ∷ ss) (suc i) h d = still_waits ss i (omega arith) d

pub above_set : (ss us : List PromiseSlot) (j m : ℕ) (x : PromiseSlot) → j < m → ((i : ℕ) → j ≤ i → slice_get us i ≡ slice_get ss i) → (i : ℕ) → m ≤ i → slice_get (set us j x) i ≡ slice_get ss i
above_set ss us j m x h a i k = at_set us j x i (omega arith) ∙ a i (omega arith)

-- ---- the nodes of bindings that wait

abbrev slot_or : Option PromiseSlot → PromiseSlot → PromiseSlot
slot_or (Some s) other = s
slot_or None other = other

-- what is asked for waits
pub pending_at : (m j : ℕ) (bs : List Node) (ss : List PromiseSlot) (b : Node) → j < m → slice_get bs j ≡ Some b → slice_get ss j ≡ Some Waiting → pending j bs ss + size b ≤ pending m bs ss
pending_at zero j bs ss b h e w = absurd (omega arith)
pending_at (suc m) j [] ss b h e w = absurd (cc)
pending_at (suc m) j (c ∷ bs) [] b h e w = absurd (cc)
pending_at (suc m) zero (c ∷ bs) (s ∷ ss) b h e w =
    let q : wait_of c s ≡ size b = (λ i. wait_of (node_or (e i) c) (slot_or (w i) s)) in
    omega arith
pending_at (suc m) (suc j) (c ∷ bs) (s ∷ ss) b h e w = let r = pending_at m j bs ss b (omega arith) e w in omega arith

pending_same : (m : ℕ) (bs : List Node) (ss us : List PromiseSlot) → length us ≡ length ss → ((i : ℕ) → slice_get us i ≡ slice_get ss i) → pending m bs us ≡ pending m bs ss
pending_same zero bs ss us l h = refl
pending_same (suc m) [] ss us l h = refl
pending_same (suc m) (b ∷ bs) [] [] l h = refl
pending_same (suc m) (b ∷ bs) [] (u ∷ us) l h = absurd (omega arith)
pending_same (suc m) (b ∷ bs) (s ∷ ss) [] l h = absurd (omega arith)
pending_same (suc m) (b ∷ bs) (s ∷ ss) (u ∷ us) l h =
    let q = ap (λ o. wait_of b (slot_or o u)) (h zero) in
    let r = pending_same m bs ss us (omega arith) (λ i. h (suc i)) in
    omega arith

-- a binding that was evaluated waits no more
pub pending_set : (m j : ℕ) (bs : List Node) (ss us : List PromiseSlot) (b : Node) (v : Value) → j < m → slice_get bs j ≡ Some b → slice_get ss j ≡ Some Waiting → length us ≡ length ss → ((i : ℕ) → j ≤ i → slice_get us i ≡ slice_get ss i) → pending m bs (set us j (Done v)) + pending j bs ss + size b ≤ pending m bs ss + pending j bs us
pending_set zero j bs ss us b v h e w l a = absurd (omega arith)
pending_set (suc m) j [] ss us b v h e w l a = absurd (cc)
pending_set (suc m) j (c ∷ bs) [] us b v h e w l a = absurd (cc)
pending_set (suc m) j (c ∷ bs) (s ∷ ss) [] b v h e w l a = absurd (omega arith)
pending_set (suc m) zero (c ∷ bs) (s ∷ ss) (u ∷ us) b v h e w l a =
    let q : wait_of c s ≡ size b = (λ i. wait_of (node_or (e i) c) (slot_or (w i) s)) in
    let r = pending_same m bs ss us (omega arith) (λ i. a (suc i) (omega arith)) in
    omega arith
pending_set (suc m) (suc j) (c ∷ bs) (s ∷ ss) (u ∷ us) b v h e w l a =
    let r = pending_set m j bs ss us b v (omega arith) e w (omega arith) (λ i k. a (suc i) (omega arith)) in
    omega arith

pub pending_all : (bs : List Node) (n : ℕ) → length bs ≡ n → pending n bs (replicate n Waiting) ≡ total_size bs
pending_all [] zero h = refl
pending_all [] (suc n) h = absurd (omega arith)
pending_all (b ∷ bs) zero h = absurd (omega arith)
pending_all (b ∷ bs) (suc n) h = let r = pending_all bs n (omega arith) in omega arith

-- ---- the measure

pub reach_at : (m j : ℕ) (bs : List Node) (b : Node) → j < m → slice_get bs j ≡ Some b → reach j bs + 2 + 6 * size b ≤ reach m bs
reach_at zero j bs b h e = absurd (omega arith)
reach_at (suc m) j [] b h e = absurd (cc)
reach_at (suc m) zero (c ∷ bs) b h e = let q = ap (λ o. size (node_or o c)) e in omega arith
reach_at (suc m) (suc j) (c ∷ bs) b h e = let r = reach_at m j bs b (omega arith) e in omega arith
