-- The ranges once one is set.
use Rattle.std.proofs.Common.{◌≡◌, ◌≢◌, ◌∙◌, ◌≤◌, ◌<◌, ◌+◌, ap, arith, is_some, ℕ, length, get_or, set, refl, sym, subst, Bool, true, false, Option, Some, None}
use Rattle.std.proofs.lemmas.Bool.{eqb-true, eqb-false}
use Rattle.std.proofs.lemmas.List.{get_or-set_same, get_or-set_other}
use Rattle.std.specs.Prelude.{max, min, nat_eq}
use Rattle.pending_ranges.specs.Pending.{AreBetween, AreZoomRanges, is_pending, IsZoomRange, Pending, ZoomRange}

pub zooms_set : (xs : Pending) (place : ℕ) (range : Option ZoomRange) → place < length xs → IsZoomRange range → AreZoomRanges xs
    → AreZoomRanges (set xs place range)
zooms_set xs place range within fits all p = by (nat_eq place p) refl
  where
    by : (same : Bool) → nat_eq place p ≡ same → IsZoomRange (get_or (set xs place range) p None)
    by true e =
        subst (λ q. IsZoomRange (get_or (set xs place range) q None)) (eqb-true place p e)
        (subst IsZoomRange (sym (get_or-set_same xs place range None within)) fits)
    by false e = subst IsZoomRange (sym (get_or-set_other xs place p range None (λ is. eqb-false place p e (sym is)))) (all p)

-- a range that is there is the one that was set, or was there
was_there : (P : ℕ → Type 0) (xs : Pending) (place : ℕ) (range : Option ZoomRange) (p : ℕ) → is_pending (set xs place range) p ≡ true
    → (p ≡ place → P p) → (is_pending xs p ≡ true → P p) → P p
was_there P xs place range p full new old = by (nat_eq place p) refl
  where
    by : (same : Bool) → nat_eq place p ≡ same → P p
    by true e = new (sym (eqb-true place p e))
    by false e = old (ap is_some (sym (get_or-set_other xs place p range None (λ is. eqb-false place p e (sym is)))) ∙ full)

pub set_between : (xs : Pending) (place start end : ℕ) (range : Option ZoomRange) → AreBetween start end xs
    → AreBetween (min start place) (max end (place + 1)) (set xs place range)
set_between xs place start end range between p full =
    was_there (λ q. (min start place ≤ q) × (q < max end (place + 1))) xs place range p full
    (λ e. (omega (arith, e), omega (arith, e)))
    (λ h. let b = between p h in (omega (arith, b.0), omega (arith, b.1)))

pub set_first : (xs : Pending) (place start end : ℕ) (range : Option ZoomRange) → end ≤ start → AreBetween start end xs
    → AreBetween place (place + 1) (set xs place range)
set_first xs place start end range none between p full =
    was_there (λ q. (place ≤ q) × (q < place + 1)) xs place range p full
    (λ e. (omega (arith, e), omega (arith, e)))
    (λ h. let b = between p h in absurd (omega (arith, none, b.0, b.1)))

-- once the first of them is taken, all are after it
pub taken_between : (xs : Pending) (place end : ℕ) (ys : Pending) → ys ≡ set xs place None → place < length xs → AreBetween place end xs
    → AreBetween (place + 1) end ys
taken_between xs place end ys is within between p full = by (nat_eq place p) refl
  where
    left : is_pending (set xs place None) p ≡ true
    left = ap (λ zs. is_pending zs p) (sym is) ∙ full

    empty : {A : Type 0} → place ≡ p → A
    empty e =
        let no : true ≡ false = sym left ∙ (ap (is_pending (set xs place None)) (sym e) ∙ ap is_some (get_or-set_same xs place None None within)) in
        absurd (cc)

    by : (same : Bool) → nat_eq place p ≡ same → (place + 1 ≤ p) × (p < end)
    by true e = empty (eqb-true place p e)
    by false e =
        let b = between p (ap is_some (sym (get_or-set_other xs place p None None (λ is. eqb-false place p e (sym is)))) ∙ left) in
        let other : place ≢ p = eqb-false place p e in
        (omega (arith, b.0, other), b.1)
