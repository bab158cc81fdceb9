-- Layers with the ranges that are to be set of them, as layers come, go and move and as a range is set or done.
use Rattle.std.proofs.Common.{◌≡◌, ◌∙◌, ◌<◌, ◌≤◌, ℕ, zero, suc, List, [], ◌∷◌, length, get_or, set, refl, ap, sym, arith, false, Option, Some, None}
use Rattle.std.specs.Prelude.{insert, remove}
use Rattle.std.proofs.lemmas.List.Edits.{length-remove}
use Rattle.decimal_json.specs.Tree.{Tree, null}
use Rattle.decimal_json.specs.View.{moved_items}
use Rattle.pending_ranges.specs.Pending.{Pending, ZoomRange, is_pending}
use Rattle.edit_session.specs.Ranges.{ranged_layer, ranged_layers}
use Rattle.edit_session.specs.Setting.{NonePending, moved_slots}

pub ranged_length : (rs : Pending) (ts : List Tree) → length (ranged_layers rs ts) ≡ length ts
ranged_length [] ts = refl
ranged_length (r ∷ rs) [] = refl
ranged_length (r ∷ rs) (t ∷ ts) = ap suc (ranged_length rs ts)

-- where no range is to be set the layers are as they are
none_here : (r : Option ZoomRange) (t : Tree) → is_pending (r ∷ []) 0 ≡ false → ranged_layer r t ≡ t
none_here None t h = refl
none_here (Some r) t h = absurd (cc)

pub none_ranged : (rs : Pending) (ts : List Tree) → NonePending rs → ranged_layers rs ts ≡ ts
none_ranged [] ts none = refl
none_ranged (r ∷ rs) [] none = refl
none_ranged (r ∷ rs) (t ∷ ts) none =
    λ i. none_here r t (none 0) i ∷ none_ranged rs ts (λ place. none (suc place)) i

pub ranged_at : (rs : Pending) (ts : List Tree) (i : ℕ) → i < length ts
    → get_or (ranged_layers rs ts) i null ≡ ranged_layer (get_or rs i None) (get_or ts i null)
ranged_at [] ts i within = refl
ranged_at (r ∷ rs) [] i within = absurd (omega (arith, within))
ranged_at (r ∷ rs) (t ∷ ts) zero within = refl
ranged_at (r ∷ rs) (t ∷ ts) (suc i) within = ranged_at rs ts i (omega (arith, within))

-- ---- layers come, go and move

pub ranged_remove : (rs : Pending) (ts : List Tree) (i : ℕ) → length rs ≡ length ts → i < length ts
    → ranged_layers (remove rs i) (remove ts i) ≡ remove (ranged_layers rs ts) i
ranged_remove [] [] i same within = absurd (omega (arith, within))
ranged_remove [] (t ∷ ts) i same within = absurd (omega (arith, same))
ranged_remove (r ∷ rs) [] i same within = absurd (omega (arith, same))
ranged_remove (r ∷ rs) (t ∷ ts) zero same within = refl
ranged_remove (r ∷ rs) (t ∷ ts) (suc i) same within =
    ap (λ us. ranged_layer r t ∷ us) (ranged_remove rs ts i (omega (arith, same)) (omega (arith, within)))

pub ranged_insert : (rs : Pending) (ts : List Tree) (i : ℕ) (r : Option ZoomRange) (t : Tree) → length rs ≡ length ts → i ≤ length ts
    → ranged_layers (insert rs i r) (insert ts i t) ≡ insert (ranged_layers rs ts) i (ranged_layer r t)
ranged_insert rs ts zero r t same within = refl
ranged_insert [] [] (suc i) r t same within = absurd (omega (arith, within))
ranged_insert [] (u ∷ ts) (suc i) r t same within = absurd (omega (arith, same))
ranged_insert (s ∷ rs) [] (suc i) r t same within = absurd (omega (arith, same))
ranged_insert (s ∷ rs) (u ∷ ts) (suc i) r t same within =
    ap (λ us. ranged_layer s u ∷ us) (ranged_insert rs ts i r t (omega (arith, same)) (omega (arith, within)))

pub ranged_move : (rs : Pending) (ts : List Tree) (from to : ℕ) → length rs ≡ length ts → from < length ts → to < length ts
    → ranged_layers (moved_slots from to rs) (moved_items from to ts) ≡ moved_items from to (ranged_layers rs ts)
ranged_move rs ts from to same within there =
    let left = length-remove ts from within in
    let left_slots = length-remove rs from (omega (arith, within, same)) in
    ranged_insert (remove rs from) (remove ts from) to (get_or rs from None) (get_or ts from null)
    (omega (arith, left, left_slots, same)) (omega (arith, left, there))
    ∙ (λ i. insert (ranged_remove rs ts from same within i) to (sym (ranged_at rs ts from within) i))

-- ---- a range is set, or done

-- the range of a slot is set in its layer, and the slot is empty
pub ranged_done : (rs : Pending) (ts : List Tree) (i : ℕ) → i < length ts
    → ranged_layers (set rs i None) (set ts i (ranged_layer (get_or rs i None) (get_or ts i null))) ≡ ranged_layers rs ts
ranged_done [] [] i within = absurd (omega (arith, within))
ranged_done [] (t ∷ ts) zero within = refl
ranged_done [] (t ∷ ts) (suc i) within = ap (λ us. t ∷ us) (itself ts i (omega (arith, within)))
  where
    itself : (us : List Tree) (k : ℕ) → k < length us → set us k (get_or us k null) ≡ us
    itself [] k h = absurd (omega (arith, h))
    itself (u ∷ us) zero h = refl
    itself (u ∷ us) (suc k) h = ap (λ xs. u ∷ xs) (itself us k (omega (arith, h)))
ranged_done (r ∷ rs) [] i within = absurd (omega (arith, within))
ranged_done (r ∷ rs) (t ∷ ts) zero within = refl
ranged_done (r ∷ rs) (t ∷ ts) (suc i) within = ap (λ us. ranged_layer r t ∷ us) (ranged_done rs ts i (omega (arith, within)))

-- a range is to be set of a layer
pub ranged_put : (rs : Pending) (ts : List Tree) (i : ℕ) (r : ZoomRange) → length rs ≡ length ts → i < length ts
    → ranged_layers (set rs i (Some r)) ts ≡ set (ranged_layers rs ts) i (ranged_layer (Some r) (get_or ts i null))
ranged_put [] [] i r same within = absurd (omega (arith, within))
ranged_put [] (t ∷ ts) i r same within = absurd (omega (arith, same))
ranged_put (s ∷ rs) [] i r same within = absurd (omega (arith, same))
ranged_put (s ∷ rs) (t ∷ ts) zero r same within = refl
ranged_put (s ∷ rs) (t ∷ ts) (suc i) r same within =
    ap (λ us. ranged_layer s t ∷ us) (ranged_put rs ts i r (omega (arith, same)) (omega (arith, within)))

pub set_itself : {A : Type 0} (xs : List A) (i : ℕ) (d : A) → set xs i (get_or xs i d) ≡ xs
set_itself [] i d = refl
set_itself (x ∷ xs) zero d = refl
set_itself (x ∷ xs) (suc i) d = ap (λ ys. x ∷ ys) (set_itself xs i d)
