-- A list that ascends and keeps the order of equal elements is the list in order.
use Rattle.std.proofs.Common.{◌≡◌, ℕ, zero, suc, ◌+◌, ◌<◌, ◌≤◌, Bool, true, false, not, cond, ◌&&◌, List, [], ◌∷◌, length, get_or, filter, refl, sym, ap, ◌∙◌, subst, arith, inl, inr, suc-le-suc, zero-le, add-one}
use Rattle.std.specs.Cmp.{IsStrictWeakOrder}
use Rattle.std.specs.List.Sorted.{ties, IsSortedBy, IsStableBy}
use Rattle.std.proofs.lemmas.Bool.{cond-true, cond-false, cases_Bool, and_parts, not-true}
use Rattle.std.proofs.lemmas.List.Sorted.{sorted_far}
use Rattle.stable_order.specs.InOrder.{put, in_order}

module _ {X : Type 0} (lt : X → X → Bool) (o : IsStrictWeakOrder lt) where
  abbrev pub Above : X → List X → Type 0
  Above x [] = Unit {0}
  Above x (y ∷ ys) = (lt y x ≡ false) × Above x ys

  abbrev pub Up : List X → Type 0
  Up [] = Unit {0}
  Up (x ∷ xs) = Above x xs × Up xs

  irreflexive : (x : X) → lt x x ≡ false
  irreflexive x = elim (cases_Bool (lt x x)) [ inl is ↦ o.one_way x x is | inr not ↦ not ]

  tie_from : (x y : X) → lt x y ≡ false → lt y x ≡ false → ties lt x y ≡ true
  tie_from x y a b = λ i. not (a i) && not (b i)

  tie_parts : (x y : X) → ties lt x y ≡ true → (lt x y ≡ false) × (lt y x ≡ false)
  tie_parts x y h = let parts = and_parts (not (lt x y)) (not (lt y x)) h in (not-true _ parts.0, not-true _ parts.1)

  filter_kept : (p : X → Bool) (y : X) (ys : List X) → p y ≡ true → filter p (y ∷ ys) ≡ y ∷ filter p ys
  filter_kept p y ys h = cond-true _ _ _ h

  filter_dropped : (p : X → Bool) (y : X) (ys : List X) → p y ≡ false → filter p (y ∷ ys) ≡ filter p ys
  filter_dropped p y ys h = cond-false _ _ _ h

  put_past : (x y : X) (ys : List X) → lt y x ≡ true → put lt x (y ∷ ys) ≡ y ∷ put lt x ys
  put_past x y ys h = cond-true _ _ _ h

  put_here : (x y : X) (ys : List X) → lt y x ≡ false → put lt x (y ∷ ys) ≡ x ∷ y ∷ ys
  put_here x y ys h = cond-false _ _ _ h

  Above_along : (x y : X) (ys : List X) → lt y x ≡ false → Above y ys → Above x ys
  Above_along x y [] h above = tt
  Above_along x y (z ∷ zs) h above = (o.chain z y x above.0 h, Above_along x y zs h above.1)

  Above_put : (z x : X) (ys : List X) → lt x z ≡ false → Above z ys → Above z (put lt x ys)
  Above_put z x [] h above = (h, tt)
  Above_put z x (y ∷ ys) h above = elim (cases_Bool (lt y x)) [
    | inl past ↦ subst (Above z) (sym (put_past x y ys past)) (above.0, Above_put z x ys h above.1)
    | inr here ↦ subst (Above z) (sym (put_here x y ys here)) (h, above)
  ]

  Up_put : (x : X) (ys : List X) → Up ys → Up (put lt x ys)
  Up_put x [] up = (tt, tt)
  Up_put x (y ∷ ys) up = elim (cases_Bool (lt y x)) [
    | inl past ↦ subst Up (sym (put_past x y ys past)) (Above_put y x ys (o.one_way y x past) up.0, Up_put x ys up.1)
    | inr here ↦ subst Up (sym (put_here x y ys here)) ((here, Above_along x y ys here up.0), up)
  ]

  pub Up_in_order : (xs : List X) → Up (in_order lt xs)
  Up_in_order [] = tt
  Up_in_order (x ∷ xs) = Up_put x (in_order lt xs) (Up_in_order xs)

  -- of two that are equal to z in the order, neither is before the other
  no_tie : (z x y : X) → ties lt z x ≡ true → ties lt z y ≡ true → lt y x ≡ false
  no_tie z x y with also = o.chain y z x (tie_parts z y also).1 (tie_parts z x with).0

  filter_put : (z x : X) (ys : List X) → filter (ties lt z) (put lt x ys) ≡ filter (ties lt z) (x ∷ ys)
  filter_put z x [] = refl
  filter_put z x (y ∷ ys) =
      let p = ties lt z in
      elim (cases_Bool (lt y x)) [
        | inr here ↦ ap (filter p) (put_here x y ys here)
        | inl past ↦
            ap (filter p) (put_past x y ys past)
            ∙ elim (cases_Bool (p y)) [
              | inr without ↦
                  filter_dropped p y (put lt x ys) without ∙ filter_put z x ys
                  ∙ ap (λ l. cond (p x) (x ∷ l) l) (sym (filter_dropped p y ys without))
              | inl with ↦
                  elim (cases_Bool (p x)) [
                    | inl both ↦ absurd (let never = sym past ∙ no_tie z x y both with in cc)
                    | inr only ↦
                        filter_kept p y (put lt x ys) with ∙ ap (λ l. y ∷ l) (filter_put z x ys ∙ filter_dropped p x ys only)
                        ∙ sym (filter_dropped p x (y ∷ ys) only ∙ filter_kept p y ys with)
                  ]
            ]
      ]

  pub filter_in_order : (z : X) (xs : List X) → filter (ties lt z) (in_order lt xs) ≡ filter (ties lt z) xs
  filter_in_order z [] = refl
  filter_in_order z (x ∷ xs) = filter_put z x (in_order lt xs) ∙ ap (λ l. cond (ties lt z x) (x ∷ l) l) (filter_in_order z xs)

  Above_at : (x : X) (ys : List X) → ((j : ℕ) → j < length ys → lt (get_or ys j x) x ≡ false) → Above x ys
  Above_at x [] h = tt
  Above_at x (y ∷ ys) h = (h zero (suc-le-suc zero-le), Above_at x ys (λ j below. h (suc j) (suc-le-suc below)))

  Up_from : (ys : List X) → ((i j : ℕ) (d : X) → i ≤ j → j < length ys → lt (get_or ys j d) (get_or ys i d) ≡ false) → Up ys
  Up_from [] h = tt
  Up_from (y ∷ ys) h = (
    Above_at y ys (λ j below. h zero (suc j) y zero-le (suc-le-suc below)),
    Up_from ys (λ i j d le below. h (suc i) (suc j) d (suc-le-suc le) (suc-le-suc below)),
  )

  -- one that is equal to y in the order is among them
  found_above : (z y : X) (ys : List X) (w : X) (ws : List X) → Above z ys → filter (ties lt y) ys ≡ w ∷ ws → lt y z ≡ false
  found_above z y [] w ws above e = absurd (cc)
  found_above z y (x ∷ xs) w ws above e = elim (cases_Bool (ties lt y x)) [
    | inl with ↦ o.chain y x z (tie_parts y x with).0 above.0
    | inr without ↦ found_above z y xs w ws above.1 (sym (filter_dropped (ties lt y) x xs without) ∙ e)
  ]

  ties_itself : (x : X) → ties lt x x ≡ true
  ties_itself x = tie_from x x (irreflexive x) (irreflexive x)

  one_list : (ys zs : List X) → Up ys → Up zs → ((x : X) → filter (ties lt x) ys ≡ filter (ties lt x) zs) → ys ≡ zs
  one_list [] [] left right same = refl
  one_list [] (z ∷ zs) left right same = let clash = same z ∙ filter_kept (ties lt z) z zs (ties_itself z) in absurd (cc)
  one_list (y ∷ ys) [] left right same = let clash = sym (same y) ∙ filter_kept (ties lt y) y ys (ties_itself y) in absurd (cc)
  one_list (y ∷ ys) (z ∷ zs) left right same =
      let at_y = filter_kept (ties lt y) y ys (ties_itself y) in
      let at_z = filter_kept (ties lt z) z zs (ties_itself z) in
      let down = found_above z y (z ∷ zs) y (filter (ties lt y) ys) (irreflexive z, right.0) (sym (same y) ∙ at_y) in
      let up = found_above y z (y ∷ ys) z (filter (ties lt z) zs) (irreflexive y, left.0) (same z ∙ at_z) in
      let heads = sym at_y ∙ same y ∙ filter_kept (ties lt y) z zs (tie_from y z down up) in
      let head : y ≡ z = cc in
      let tails : (x : X) → filter (ties lt x) ys ≡ filter (ties lt x) zs =
      λ x. elim (cases_Bool (ties lt x y)) [
        | inl with ↦
            let both = sym (filter_kept (ties lt x) y ys with) ∙ same x ∙ filter_kept (ties lt x) z zs (ap (ties lt x) (sym head) ∙ with) in cc
        | inr without ↦
            sym (filter_dropped (ties lt x) y ys without) ∙ same x ∙ filter_dropped (ties lt x) z zs (ap (ties lt x) (sym head) ∙ without)
      ] in
      ap (λ w. w ∷ ys) head ∙ ap (λ l. z ∷ l) (one_list ys zs left.1 right.1 tails)

  pub in_order_from_sort : (xs ys : List X) → IsSortedBy lt ys → IsStableBy lt xs ys → ys ≡ in_order lt xs
  in_order_from_sort xs ys sorted stable =
      one_list ys (in_order lt xs) (Up_from ys (sorted_far lt o ys sorted)) (Up_in_order xs) (λ x. stable x ∙ sym (filter_in_order x xs))

  Above_get : (x : X) (ys : List X) (k : ℕ) (d : X) → k < length ys → Above x ys → lt (get_or ys k d) x ≡ false
  Above_get x [] k d below above = absurd (omega (arith, below))
  Above_get x (y ∷ ys) zero d below above = above.0
  Above_get x (y ∷ ys) (suc k) d below above = Above_get x ys k d (omega (arith, below)) above.1

  Up_suc : (ys : List X) → Up ys → (k : ℕ) (d : X) → suc k < length ys → lt (get_or ys (suc k) d) (get_or ys k d) ≡ false
  Up_suc [] up k d below = absurd (omega (arith, below))
  Up_suc (y ∷ ys) up zero d below = Above_get y ys zero d (omega (arith, below)) up.0
  Up_suc (y ∷ ys) up (suc k) d below = Up_suc ys up.1 k d (omega (arith, below))

  pub Up_next : (ys : List X) → Up ys → (k : ℕ) (d : X) → k + 1 < length ys → lt (get_or ys (k + 1) d) (get_or ys k d) ≡ false
  Up_next ys up k d below = rw add-one (Up_suc ys up k d (omega (arith, below)))
