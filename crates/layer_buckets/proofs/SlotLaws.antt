-- A slot is emptied, or filled.
use Rattle.std.proofs.Common.{◌≡◌, ◌≢◌, ℕ, ◌+◌, ◌<◌, ◌≤◌, zero, suc, List, [], ◌∷◌, ◌++◌, length, set, Bool, true, false, Option, Some, None, is_some, refl, sym, ap, ◌∙◌, arith, if◌then◌else◌}
use Rattle.std.specs.List.{slice_get}
use Rattle.std.proofs.lemmas.Bool.{false≢true}
use Rattle.index_lists.specs.SlotLists.{times_in}
use Rattle.index_lists.specs.Holds.{one_of}
use Rattle.index_lists.proofs.Comparing.{by_test}
use Rattle.index_lists.proofs.Times.{one_same, one_other, times_in-append}
use Rattle.operator_values.specs.Evaluated.{Evaluated}
use Rattle.layer_buckets.specs.KeptSlots.{Kept, kept_in, kept_of, no_slot, place_in, is_place, same_place, outcome_for, outcome_by, outcome_at, slot_of, full_count}
use Rattle.layer_buckets.specs.declared.columns.Column.{Column}
use Rattle.layer_buckets.specs.declared.slots.CellPlace.{CellPlace}
use Rattle.layer_buckets.specs.declared.slots.ValueSlot.{ValueSlot}
use Rattle.layer_buckets.proofs.Places.{get_set_here, get_set_other, get_within, get_past, by_bool, by_place, place_self}

-- ---- what a slot keeps

pub kept_here : (slots : List ValueSlot) (slot : ℕ) (x : ValueSlot) → slot < length slots → kept_of (set slots slot x) slot ≡ kept_in (Some x)
kept_here slots slot x w = ap kept_in (get_set_here slots slot x w)

pub kept_other : (slots : List ValueSlot) (slot : ℕ) (x : ValueSlot) (s : ℕ) → s ≢ slot → kept_of (set slots slot x) s ≡ kept_of slots s
kept_other slots slot x s d = ap kept_in (get_set_other slots slot x s d)

pub full_within : (slots : List ValueSlot) (slot : ℕ) → is_some (kept_of slots slot) ≡ true → slot < length slots
full_within slots slot e = get_within slots slot (go (slice_get slots slot) e)
  where
    go : (o : Option ValueSlot) → is_some (kept_in o) ≡ true → is_some o ≡ true
    go None q = absurd (cc)
    go (Some x) q = refl

-- ---- how many slots keep something

pub full_emptied : (slots : List ValueSlot) (slot : ℕ) → is_some (kept_of slots slot) ≡ true → full_count (set slots slot no_slot) + 1 ≡ full_count slots
full_emptied [] slot e = absurd (cc)
full_emptied (x ∷ slots) zero e = let o = ap one_of e in omega arith
full_emptied (x ∷ slots) (suc slot) e = let r = full_emptied slots slot e in omega arith

pub full_filled : (slots : List ValueSlot) (slot : ℕ) (x : ValueSlot) → slot < length slots → kept_of slots slot ≡ None → is_some (kept_in (Some x)) ≡ true → full_count (set slots slot x) ≡ full_count slots + 1
full_filled [] slot x w e f = absurd (omega arith)
full_filled (y ∷ slots) zero x w e f = let o = ap (λ k. one_of (is_some k)) e in let p = ap one_of f in omega arith
full_filled (y ∷ slots) (suc slot) x w e f = let r = full_filled slots slot x (omega arith) e f in omega arith

-- ---- a place keeps its slot

if_same : (b : Bool) → (let n : Option Evaluated = None in n) ≡ (if b then None else None)
if_same true = refl
if_same false = refl

if_none : (b : Bool) (v : Evaluated) → (let n : Option Evaluated = None in n) ≡ (if b then None else (if b then Some v else None))
if_none true v = refl
if_none false v = refl

outcome_gone : (p : CellPlace) (k : Option Kept) → (let n : Option Evaluated = None in n) ≡ (if is_place p (place_in k) then None else outcome_for p k)
outcome_gone p None = refl
outcome_gone p (Some k) = if_none (same_place k.place p) k.outcome

abbrev place_or : Option CellPlace → CellPlace → CellPlace
place_or (Some q) other = q
place_or None other = other

abbrev slot_or : Option ℕ → ℕ → ℕ
slot_or (Some s) other = s
slot_or None other = other

-- another slot keeps another place
pub not_placed : (columns : List Column) (p : CellPlace) (s slot : ℕ) (k : Option Kept) → ((q : CellPlace) → place_in k ≡ Some q → slot_of columns q ≡ Some slot) → slot_of columns p ≡ Some s → s ≢ slot → is_place p (place_in k) ≡ false
not_placed columns p s slot None b e d = refl
not_placed columns p s slot (Some k) b e d = by_place k.place p
    (λ q. absurd (d (ap (λ o. slot_or o s) (sym e ∙ (ap (slot_of columns) (sym q) ∙ b k.place refl)))))
    (λ f. f)

pub outcome_emptied : (columns : List Column) (slots : List ValueSlot) (slot : ℕ) (p : CellPlace) → slot < length slots → ((q : CellPlace) → place_in (kept_of slots slot) ≡ Some q → slot_of columns q ≡ Some slot) → outcome_at columns (set slots slot no_slot) p ≡ (if is_place p (place_in (kept_of slots slot)) then None else outcome_at columns slots p)
outcome_emptied columns slots slot p w b = go (slot_of columns p) refl
  where
    go : (o : Option ℕ) → slot_of columns p ≡ o → outcome_by (kept_of (set slots slot no_slot)) p o ≡ (if is_place p (place_in (kept_of slots slot)) then None else outcome_by (kept_of slots) p o)
    go None e = if_same (is_place p (place_in (kept_of slots slot)))
    go (Some s) e = by_test s slot
        (λ q. ap (outcome_for p) (ap (kept_of (set slots slot no_slot)) q ∙ kept_here slots slot no_slot w)
        ∙ (outcome_gone p (kept_of slots slot) ∙ ap (λ n. if is_place p (place_in (kept_of slots slot)) then None else outcome_for p (kept_of slots n)) (sym q)))
        (λ d. ap (outcome_for p) (kept_other slots slot no_slot s d)
        ∙ sym (ap (λ t. if t then None else outcome_for p (kept_of slots s)) (not_placed columns p s slot (kept_of slots slot) b e d)))

pub back_emptied : (columns : List Column) (slots : List ValueSlot) (slot : ℕ) → slot < length slots → ((s : ℕ) (q : CellPlace) → place_in (kept_of slots s) ≡ Some q → slot_of columns q ≡ Some s) → (s : ℕ) (q : CellPlace) → place_in (kept_of (set slots slot no_slot) s) ≡ Some q → slot_of columns q ≡ Some s
back_emptied columns slots slot w b s q t = by_test s slot
    (λ e. absurd (nothing (sym (ap place_in (ap (kept_of (set slots slot no_slot)) e ∙ kept_here slots slot no_slot w)) ∙ t)))
    (λ d. b s q (sym (ap place_in (kept_other slots slot no_slot s d)) ∙ t))
  where
    nothing : None ≡ Some q → ⊥
    nothing e = absurd (cc)

-- ---- a place names the slot that is filled

pub outcome_filled : (columns slot_named : List Column) (slots : List ValueSlot) (slot : ℕ) (x : ValueSlot) (k : Kept) (p : CellPlace) → slot < length slots → kept_of slots slot ≡ None → kept_in (Some x) ≡ Some k
    → ((q : CellPlace) → slot_of slot_named q ≡ (if same_place k.place q then Some slot else slot_of columns q))
    → outcome_at slot_named (set slots slot x) p ≡ (if same_place k.place p then Some k.outcome else outcome_at columns slots p)
outcome_filled columns slot_named slots slot x k p w n e s = by_bool (same_place k.place p)
    (λ t. ap (outcome_by (kept_of (set slots slot x)) p) (s p ∙ ap (λ b. if b then Some slot else slot_of columns p) t)
    ∙ (ap (outcome_for p) (kept_here slots slot x w ∙ e)
    ∙ (ap (λ b. if b then Some k.outcome else None) t ∙ sym (ap (λ b. if b then Some k.outcome else outcome_at columns slots p) t))))
    (λ f. ap (outcome_by (kept_of (set slots slot x)) p) (s p ∙ ap (λ b. if b then Some slot else slot_of columns p) f)
    ∙ (go f (slot_of columns p) ∙ sym (ap (λ b. if b then Some k.outcome else outcome_at columns slots p) f)))
  where
    go : same_place k.place p ≡ false → (o : Option ℕ) → outcome_by (kept_of (set slots slot x)) p o ≡ outcome_by (kept_of slots) p o
    go f None = refl
    go f (Some r) = by_test r slot
        (λ q. ap (outcome_for p) (ap (kept_of (set slots slot x)) q ∙ (kept_here slots slot x w ∙ e))
        ∙ (ap (λ b. if b then Some k.outcome else None) f ∙ ap (outcome_for p) (sym n ∙ ap (kept_of slots) (sym q))))
        (λ d. ap (outcome_for p) (kept_other slots slot x r d))

-- a place that a slot keeps has an outcome
pub outcome_there : (p : CellPlace) (k : Option Kept) → place_in k ≡ Some p → is_some (outcome_for p k) ≡ true
outcome_there p None e = absurd (cc)
outcome_there p (Some k) e = ap (λ b. is_some (if b then Some k.outcome else None)) (ap (λ q. same_place q p) (ap (λ o. place_or o p) e) ∙ place_self p)

pub back_filled : (columns slot_named : List Column) (slots : List ValueSlot) (slot : ℕ) (x : ValueSlot) (k : Kept) → slot < length slots → kept_in (Some x) ≡ Some k → outcome_at columns slots k.place ≡ None
    → ((q : CellPlace) → slot_of slot_named q ≡ (if same_place k.place q then Some slot else slot_of columns q))
    → ((s : ℕ) (q : CellPlace) → place_in (kept_of slots s) ≡ Some q → slot_of columns q ≡ Some s)
    → (s : ℕ) (q : CellPlace) → place_in (kept_of (set slots slot x) s) ≡ Some q → slot_of slot_named q ≡ Some s
back_filled columns slot_named slots slot x k w e n names b s q t = by_test s slot
    (λ p.
    let here : Some k.place ≡ Some q = sym (ap place_in (ap (kept_of (set slots slot x)) p ∙ (kept_here slots slot x w ∙ e))) ∙ t in
    let same : k.place ≡ q = ap (λ o. place_or o q) here in
    names q ∙ (ap (λ c. if c then Some slot else slot_of columns q) (ap (λ z. same_place z q) same ∙ place_self q) ∙ ap Some (sym p)))
    (λ d.
    let old : place_in (kept_of slots s) ≡ Some q = sym (ap place_in (kept_other slots slot x s d)) ∙ t in
    by_place k.place q
    (λ same. absurd (lost s q old same))
    (λ f. names q ∙ (ap (λ c. if c then Some slot else slot_of columns q) f ∙ b s q old)))
  where
    lost : (s : ℕ) (q : CellPlace) → place_in (kept_of slots s) ≡ Some q → k.place ≡ q → ⊥
    lost s q old same =
        let there : is_some (outcome_at columns slots q) ≡ true = ap (λ o. is_some (outcome_by (kept_of slots) q o)) (b s q old) ∙ outcome_there q (kept_of slots s) old in
        let none : outcome_at columns slots q ≡ None = ap (outcome_at columns slots) (sym same) ∙ n in
        absurd (false≢true (sym (ap is_some none) ∙ there))

-- ---- free slots

pub longer : (xs : List ℕ) (y : ℕ) → length (xs ++ y ∷ []) ≡ length xs + 1
longer [] y = refl
longer (x ∷ xs) y = let r = longer xs y in omega arith

pub free_emptied : (free : List ℕ) (slots : List ValueSlot) (slot : ℕ) → slot < length slots → is_some (kept_of slots slot) ≡ true → ((s : ℕ) → times_in s free + one_of (is_some (kept_of slots s)) ≤ 1) → (s : ℕ) → times_in s (free ++ slot ∷ []) + one_of (is_some (kept_of (set slots slot no_slot) s)) ≤ 1
free_emptied free slots slot w full f s = by_test s slot
    (λ e.
    let a = times_in-append s free (slot ∷ []) in
    let b : times_in s (slot ∷ []) ≡ 1 = omega (arith, one_same slot s (sym e)) in
    let n : one_of (is_some (kept_of (set slots slot no_slot) s)) ≡ 0 = ap (λ o. one_of (is_some o)) (ap (kept_of (set slots slot no_slot)) e ∙ kept_here slots slot no_slot w) in
    let o : one_of (is_some (kept_of slots s)) ≡ 1 = ap one_of (ap (λ k. is_some (kept_of slots k)) e ∙ full) in
    let g = f s in
    omega arith)
    (λ d.
    let a = times_in-append s free (slot ∷ []) in
    let b : times_in s (slot ∷ []) ≡ 0 = omega (arith, one_other slot s (λ q. d (sym q))) in
    let n = ap (λ o. one_of (is_some o)) (kept_other slots slot no_slot s d) in
    let g = f s in
    omega arith)

pub within_emptied : (free : List ℕ) (slots : List ValueSlot) (slot : ℕ) → slot < length slots → ((s : ℕ) → 0 < times_in s free → s < length slots) → (s : ℕ) → 0 < times_in s (free ++ slot ∷ []) → s < length slots
within_emptied free slots slot w h s k = by_test s slot
    (λ e. omega arith)
    (λ d.
    let a = times_in-append s free (slot ∷ []) in
    let b : times_in s (slot ∷ []) ≡ 0 = omega (arith, one_other slot s (λ q. d (sym q))) in
    h s (omega arith))

pub taken_unkept : (free : List ℕ) (slots : List ValueSlot) (slot : ℕ) → times_in slot (free ++ slot ∷ []) + one_of (is_some (kept_of slots slot)) ≤ 1 → kept_of slots slot ≡ None
taken_unkept free slots slot h =
    let a = times_in-append slot free (slot ∷ []) in
    let b : times_in slot (slot ∷ []) ≡ 1 = omega (arith, one_same slot slot refl) in
    none_of (kept_of slots slot) (omega arith)
  where
    none_of : (o : Option Kept) → one_of (is_some o) ≡ 0 → o ≡ None
    none_of None e = refl
    none_of (Some x) e = absurd (omega arith)

pub taken_within : (free : List ℕ) (slot n : ℕ) → ((s : ℕ) → 0 < times_in s (free ++ slot ∷ []) → s < n) → slot < n
taken_within free slot n w =
    let a = times_in-append slot free (slot ∷ []) in
    let b : times_in slot (slot ∷ []) ≡ 1 = omega (arith, one_same slot slot refl) in
    w slot (omega arith)

pub free_filled : (free : List ℕ) (slots : List ValueSlot) (slot : ℕ) (x : ValueSlot) → slot < length slots → is_some (kept_in (Some x)) ≡ true → ((s : ℕ) → times_in s (free ++ slot ∷ []) + one_of (is_some (kept_of slots s)) ≤ 1) → (s : ℕ) → times_in s free + one_of (is_some (kept_of (set slots slot x) s)) ≤ 1
free_filled free slots slot x w full f s = by_test s slot
    (λ e.
    let a = times_in-append s free (slot ∷ []) in
    let b : times_in s (slot ∷ []) ≡ 1 = omega (arith, one_same slot s (sym e)) in
    let n : one_of (is_some (kept_of (set slots slot x) s)) ≡ 1 = ap (λ o. one_of (is_some o)) (ap (kept_of (set slots slot x)) e ∙ kept_here slots slot x w) ∙ ap one_of full in
    let g = f s in
    omega arith)
    (λ d.
    let a = times_in-append s free (slot ∷ []) in
    let b : times_in s (slot ∷ []) ≡ 0 = omega (arith, one_other slot s (λ q. d (sym q))) in
    let n = ap (λ o. one_of (is_some o)) (kept_other slots slot x s d) in
    let g = f s in
    omega arith)

-- ---- a slot is added

pub kept_added : (slots : List ValueSlot) (s : ℕ) → kept_of (slots ++ no_slot ∷ []) s ≡ kept_of slots s
kept_added [] zero = refl
kept_added [] (suc s) = refl
kept_added (x ∷ slots) zero = refl
kept_added (x ∷ slots) (suc s) = kept_added slots s

pub full_added : (slots : List ValueSlot) → full_count (slots ++ no_slot ∷ []) ≡ full_count slots
full_added [] = refl
full_added (x ∷ slots) = ap (λ n. one_of (is_some (kept_in (Some x))) + n) (full_added slots)

pub count_added : (slots : List ValueSlot) → length (slots ++ no_slot ∷ []) ≡ length slots + 1
count_added [] = refl
count_added (x ∷ slots) = let r = count_added slots in omega arith

pub outcome_added : (columns : List Column) (slots : List ValueSlot) (p : CellPlace) → outcome_at columns (slots ++ no_slot ∷ []) p ≡ outcome_at columns slots p
outcome_added columns slots p = go (slot_of columns p)
  where
    go : (o : Option ℕ) → outcome_by (kept_of (slots ++ no_slot ∷ [])) p o ≡ outcome_by (kept_of slots) p o
    go None = refl
    go (Some s) = ap (outcome_for p) (kept_added slots s)

pub free_added : (free : List ℕ) (slots : List ValueSlot) → ((s : ℕ) → 0 < times_in s free → s < length slots) → ((s : ℕ) → times_in s free + one_of (is_some (kept_of slots s)) ≤ 1) → (s : ℕ) → times_in s (free ++ length slots ∷ []) + one_of (is_some (kept_of slots s)) ≤ 1
free_added free slots w f s = by_test s (length slots)
    (λ e.
    let a = times_in-append s free (length slots ∷ []) in
    let b : times_in s (length slots ∷ []) ≡ 1 = omega (arith, one_same (length slots) s (sym e)) in
    let n : times_in s free ≡ 0 = by_test (times_in s free) 0 (λ q. q) (λ d. let v : s < length slots = w s (omega arith) in absurd (omega arith)) in
    let o : one_of (is_some (kept_of slots s)) ≡ 0 = ap (λ k. one_of (is_some (kept_in k))) (get_past slots s (omega arith)) in
    omega arith)
    (λ d.
    let a = times_in-append s free (length slots ∷ []) in
    let b : times_in s (length slots ∷ []) ≡ 0 = omega (arith, one_other (length slots) s (λ q. d (sym q))) in
    let g = f s in
    omega arith)

pub within_added : (free : List ℕ) (n : ℕ) → ((s : ℕ) → 0 < times_in s free → s < n) → (s : ℕ) → 0 < times_in s (free ++ n ∷ []) → s < n + 1
within_added free n w s h = by_test s n
    (λ e. omega arith)
    (λ d.
    let a = times_in-append s free (n ∷ []) in
    let b : times_in s (n ∷ []) ≡ 0 = omega (arith, one_other n s (λ q. d (sym q))) in
    let v = w s (omega arith) in
    omega arith)
