-- Where the ranges are once a slot has moved.
use Rattle.std.proofs.Common.{◌≡◌, ◌∙◌, ◌<◌, ◌≤◌, ◌+◌, ◌-◌, ℕ, List, length, get_or, refl, ap, sym, subst, arith, Bool, true, false, Option, None, is_some}
use Rattle.std.proofs.lemmas.Bool.{ltb-true, ltb-false}
use Rattle.std.proofs.lemmas.List.Edits.{get_or-insert_at, get_or-insert_above, get_or-insert_below, get_or-remove_above, get_or-remove_below, length-remove}
use Rattle.std.specs.Prelude.{insert, remove, min, max, if◌then◌else◌, nat_lt}
use Rattle.pending_ranges.specs.Pending.{AreBetween, Pending, ZoomRange, is_pending}

module _ (xs : Pending) (from to : ℕ) (h : from < length xs) (k : to < length xs) where
  abbrev moved : Pending
  moved = insert (remove xs from) to (get_or xs from None)

  -- where the slot at a place was once one is taken out
  abbrev skip : ℕ → ℕ
  skip p = if nat_lt p from then p else p + 1

  left_at : (p : ℕ) → get_or (remove xs from) p None ≡ get_or xs (skip p) None
  left_at p = by (nat_lt p from) refl
    where
      by : (b : Bool) → nat_lt p from ≡ b → get_or (remove xs from) p None ≡ get_or xs (if b then p else p + 1) None
      by true e = get_or-remove_below xs from None p (ltb-true p from e) h
      by false e = get_or-remove_above xs from None p (ltb-false p from e) h

  room : to ≤ length (remove xs from)
  room = omega (arith, length-remove xs from h, k)

  put_at : (p : ℕ) → p ≡ to → get_or moved p None ≡ get_or xs from None
  put_at p e = ap (λ q. get_or moved q None) e ∙ get_or-insert_at (remove xs from) to (get_or xs from None) None room

  before_at : (p : ℕ) → p < to → get_or moved p None ≡ get_or xs (skip p) None
  before_at p e = get_or-insert_below (remove xs from) to (get_or xs from None) None p e room ∙ left_at p

  after_at : (p : ℕ) → to ≤ p → get_or moved (p + 1) None ≡ get_or xs (skip p) None
  after_at p e = get_or-insert_above (remove xs from) to (get_or xs from None) None p e room ∙ left_at p

  -- A slot represents one that was there: what holds of the place of that one holds of its own, if it does so in each case.
  by_place : (P : ℕ → Type 0) → (p : ℕ) → is_pending moved p ≡ true
      → (p ≡ to → is_pending xs from ≡ true → P p)
      → (p < to → p < from → is_pending xs p ≡ true → P p)
      → (p < to → from ≤ p → is_pending xs (p + 1) ≡ true → P p)
      → (to < p → p ≤ from → is_pending xs (p - 1) ≡ true → P p)
      → (to < p → from < p → is_pending xs p ≡ true → P p)
      → P p
  by_place P p full at low near high past = which (nat_lt p to) (nat_lt to p) refl refl
    where
      was : (q : ℕ) → get_or moved p None ≡ get_or xs q None → is_pending xs q ≡ true
      was q e = sym (ap is_some e) ∙ full

      below : p < to → (b : Bool) → nat_lt p from ≡ b → get_or moved p None ≡ get_or xs (if b then p else p + 1) None → P p
      below h true e is = low h (ltb-true p from e) (was p is)
      below h false e is = near h (ltb-false p from e) (was (p + 1) is)

      back : to < p → (p - 1) + 1 ≡ p
      back h = omega (arith, h)

      above : to < p → (b : Bool) → nat_lt (p - 1) from ≡ b → get_or moved p None ≡ get_or xs (if b then p - 1 else (p - 1) + 1) None → P p
      above h true e is = high h (let lt = ltb-true (p - 1) from e in omega (arith, lt, h)) (was (p - 1) is)
      above h false e is = past h (let le = ltb-false (p - 1) from e in omega (arith, le, h)) (was p (is ∙ ap (λ q. get_or xs q None) (back h)))

      which : (less more : Bool) → nat_lt p to ≡ less → nat_lt to p ≡ more → P p
      which true more e f = let h = ltb-true p to e in below h (nat_lt p from) refl (before_at p h)
      which false false e f =
          let h : p ≡ to = let a = ltb-false p to e in let b = ltb-false to p f in omega (arith, a, b) in at h (was from (put_at p h))
      which false true e f =
          let h = ltb-true to p f in
          above h (nat_lt (p - 1) from) refl (ap (λ q. get_or moved q None) (sym (back h)) ∙ after_at (p - 1) (omega (arith, h)))

  -- each slot is one that was there
  pub moved_each : (P : Option ZoomRange → Type 0) → ((q : ℕ) → P (get_or xs q None)) → (p : ℕ) → P (get_or moved p None)
  moved_each P all p = which (nat_lt p to) (nat_lt to p) refl refl
    where
      which : (less more : Bool) → nat_lt p to ≡ less → nat_lt to p ≡ more → P (get_or moved p None)
      which true more e f = subst P (sym (before_at p (ltb-true p to e))) (all (skip p))
      which false false e f =
          let h : p ≡ to = let a = ltb-false p to e in let b = ltb-false to p f in omega (arith, a, b) in
          subst P (sym (put_at p h)) (all from)
      which false true e f =
          let h = ltb-true to p f in
          let back : (p - 1) + 1 ≡ p = omega (arith, h) in
          subst P (sym (ap (λ q. get_or moved q None) (sym back) ∙ after_at (p - 1) (omega (arith, h)))) (all (skip (p - 1)))

  pub moved_between : (start end : ℕ) → start < end → AreBetween start end xs
      → AreBetween (min (min start from) to) (max (max end (from + 1)) (to + 1)) moved
  moved_between start end some between p full =
      by_place (λ q. (min (min start from) to ≤ q) × (q < max (max end (from + 1)) (to + 1))) p full
      (λ e h. (omega (arith, e), omega (arith, e)))
      (λ lt e h. let b = between p h in (omega (arith, b.0), omega (arith, b.1)))
      (λ lt e h. let b = between (p + 1) h in (omega (arith, e), omega (arith, b.1)))
      (λ lt e h. let b = between (p - 1) h in (omega (arith, lt), omega (arith, e)))
      (λ lt e h. let b = between p h in (omega (arith, b.0), omega (arith, b.1)))

  pub none_moved : (start end : ℕ) → end ≤ start → AreBetween start end xs → AreBetween start end moved
  none_moved start end none between p full =
      let never : (q : ℕ) → is_pending xs q ≡ true → ⊥ = λ q h. let b = between q h in omega (arith, none, b.0, b.1) in
      by_place (λ q. (start ≤ q) × (q < end)) p full
      (λ e h. absurd (never from h)) (λ lt e h. absurd (never p h)) (λ lt e h. absurd (never (p + 1) h))
      (λ lt e h. absurd (never (p - 1) h)) (λ lt e h. absurd (never p h))
