-- What nodes keep, read off them, and after each edit.
use Rattle.std.proofs.Common.{◌≡◌, ◌≢◌, ℕ, ◌+◌, ◌-◌, ◌<◌, ◌≤◌, ◌⊎◌, inl, inr, true, false, ◌||◌, List, [], ◌∷◌, ◌++◌, map, length, length-set, length-append, eqb, if◌then◌else◌, refl, sym, ap, subst, ◌∙◌, arith, zero, suc}
use Rattle.std.specs.Prelude.{Option, Some, None, slice_get, replicate}
use Rattle.std.specs.List.{slice_index_or, IsDistinct, list_any, AllByRecursion}
use Rattle.std.proofs.lemmas.List.{length-replicate, length-map}
use Rattle.std.proofs.lemmas.Map.Steps.{length-le_from_distinct_below}
use Rattle.std.proofs.lemmas.Bool.Decides.{nat_tests}
use Rattle.index_lists.specs.Rounds.{head, Chain, Rounds, walks, Keeps}
use Rattle.index_lists.specs.SlotLists.{times_in, times, without, placed, next_in, next_of}
use Rattle.index_lists.specs.Nodes.{put, next_out, prev_out, next_into, prev_into}
use Rattle.index_lists.proofs.Comparing.{same_value, is_true, is_false, by_test, by_order}
use Rattle.index_lists.proofs.Times.{one_same, one_other, miss_first, times-without_same, times-without_other, times-placed_same, times-placed_other, times-pushed, times-append, times-replicate, pushed}
use Rattle.index_lists.proofs.Chains.{IsOnce, chain_below, once_first, once_rest, back_at, walk_is, next_stays, prev_stays, next_remains, prev_remains}
use Rattle.index_lists.proofs.Turns.{head_past, past, rounds_back, rounds_forth, round_at, times_in_list, rounds_out, rounds_placed, rounds_pushed}

-- a list of different slots is no longer than there are slots

unlike : (x : ℕ) (xs : List ℕ) → times_in x xs ≡ 0 → AllByRecursion (λ y. eqb x y ≡ false) xs
unlike x [] t = tt
unlike x (w ∷ xs) t = ((let d = miss_first x w xs t in grind (arith, nat_tests)), unlike x xs (omega (arith, t)))

distinct : (xs : List ℕ) → IsOnce xs → IsDistinct eqb xs
unfolding IsDistinct
distinct [] once = tt
distinct (x ∷ xs) once = (unlike x xs (once_first x xs once), distinct xs (once_rest x xs once))

stands : (xs : List ℕ) (q : ℕ) → list_any (eqb q) xs ≡ true → 0 < times_in q xs
stands [] q t = absurd (cc)
stands (x ∷ xs) q t = by_test x q
    (λ e. omega (arith, one_same x q e))
    (λ d.
    let f : eqb q x ≡ false = grind (arith, nat_tests) in
    omega (arith, stands xs q (ap (λ b. b || list_any (eqb q) xs) (sym f) ∙ t)))

no_longer : (slots : ℕ) (xs : List ℕ) → IsOnce xs → ((y : ℕ) → 0 < times_in y xs → y < slots) → length xs ≤ slots
no_longer slots xs once within = length-le_from_distinct_below xs slots (distinct xs once) (λ q t. within q (stands xs q t))

-- the lists that nodes keep are those that a walk along each of them gives

walks_are : (n p : ℕ → ℕ) (slots count : ℕ) → slots + count ≤ 4294967296 → (list : ℕ) (lists : List (List ℕ)) → list + length lists ≤ count
    → ((y : ℕ) → times y lists ≤ 1) → ((y : ℕ) → 0 < times y lists → y < slots) → Rounds n p list lists → walks n slots list (length lists) ≡ lists
walks_are n p slots count fits list [] l once within r = refl
walks_are n p slots count fits list (xs ∷ lists) l once within r =
    let beyond = head_past slots count list fits (omega (arith, l)) in
    let unlisted : times_in (head list) xs ≡ 0 = by_test (times_in (head list) xs) 0 (λ e. e) (λ d. let u : head list < slots = within (head list) (omega (arith, d)) in absurd (omega (arith, beyond, u))) in
    let short : length xs ≤ slots = no_longer slots xs (λ y. omega (arith, once y)) (λ y t. within y (omega (arith, t))) in
    let first = walk_is n p (head list) xs (head list) slots r.0 unlisted short in
    let rest = walks_are n p slots count fits (suc list) lists (omega (arith, l)) (λ y. omega (arith, once y)) (λ y t. within y (omega (arith, t))) r.1 in
    λ i. first i ∷ rest i

pub read : (n p : ℕ → ℕ) (slots count : ℕ) (lists : List (List ℕ)) → Keeps n p slots count lists → walks n slots 0 count ≡ lists
read n p slots count lists k =
    ap (walks n slots 0) (sym k.counted) ∙ walks_are n p slots count k.fits 0 lists (omega (arith, k.counted)) k.once k.within k.rounds

-- the same links elsewhere
pub same_links : (n p n' p' : ℕ → ℕ) (slots count : ℕ) (lists : List (List ℕ)) → ((k : ℕ) → n' k ≡ n k) → ((k : ℕ) → p' k ≡ p k) → Keeps n p slots count lists → Keeps n' p' slots count lists
same_links n p n' p' slots count lists f g k =
    let after : n ≡ n' = λ i x. sym (f x) i in
    let before : p ≡ p' = λ i x. sym (g x) i in
    subst (λ q. Keeps q p' slots count lists) after (subst (λ q. Keeps n q slots count lists) before k)

module _ (n p : ℕ → ℕ) (slots count : ℕ) (lists : List (List ℕ)) (k : Keeps n p slots count lists) where
  pub back : (x : ℕ) → 0 < times x lists → n (p x) ≡ x
  back x t = rounds_back n p x 0 lists k.rounds t

  pub forth : (x : ℕ) → 0 < times x lists → p (n x) ≡ x
  forth x t = rounds_forth n p x 0 lists k.rounds t

  pub list_round : (list : ℕ) → list < count → Chain n p (head list) (slice_index_or lists list []) (head list)
  list_round list h =
      let same : 0 + list ≡ list = omega arith in
      subst (λ m. Chain n p (head m) (slice_index_or lists list []) (head m)) same (round_at n p 0 list lists k.rounds (omega (arith, k.counted, h)))

  pub back_head : (list : ℕ) → list < count → n (p (head list)) ≡ head list
  back_head list h = back_at n p (head list) (slice_index_or lists list []) (head list) (list_round list h)

  pub unlinked : (x : ℕ) → 0 < times x lists → Keeps (next_out n p x) (prev_out n p x) slots count (map (without x) lists)
  unlinked x t = record {
    counted = length-map lists _ ∙ k.counted;
    fits = k.fits;
    rounds = rounds_out slots count k.fits n p x (back x t) (forth x t) (k.within x t) 0 lists (omega (arith, k.counted)) k.once k.rounds;
    once = λ y. by_test y x
        (λ e. omega (arith, subst (λ z. times z (map (without x) lists) ≡ 0) (sym e) (times-without_same x lists)))
        (λ d. omega (arith, times-without_other y x lists d, k.once y));
    within = λ y u. by_test y x
        (λ e. subst (λ z. z < slots) (sym e) (k.within x t))
        (λ d. k.within y (omega (arith, times-without_other y x lists d, u)));
    free_next = λ y h u. by_test y x
        (λ e. subst (λ z. next_out n p x z ≡ z) (sym e) (same_value (put n (p x) (n x)) x x))
        (λ d. next_stays n p x (back x t) (forth x t) y y d d (k.free_next y h (sym (times-without_other y x lists d) ∙ u)));
    free_prev = λ y h u. by_test y x
        (λ e. subst (λ z. prev_out n p x z ≡ z) (sym e) (same_value (put p (n x) (p x)) x x))
        (λ d. prev_stays n p x (back x t) (forth x t) y y d d (k.free_prev y h (sym (times-without_other y x lists d) ∙ u)));
  }

  pub inserted : (x b : ℕ) → x < slots → times x lists ≡ 0 → 0 < times b lists → Keeps (next_into n p b x) (prev_into n p b x) slots count (map (placed x b) lists)
  inserted x b hx m t =
      let apart : b ≢ x = λ e. absurd (omega (arith, t, subst (λ z. times z lists ≡ 0) (sym e) m)) in
      record {
        counted = length-map lists _ ∙ k.counted;
        fits = k.fits;
        rounds = rounds_placed slots count k.fits n p b x (back b t) apart hx (k.within b t) 0 lists (omega (arith, k.counted)) k.once m k.rounds;
        once = λ y. by_test y x
            (λ e. omega (arith, subst (λ z. times z (map (placed x b) lists) ≡ times x lists + times b lists) (sym e) (times-placed_same x b lists), m, k.once b))
            (λ d. omega (arith, times-placed_other y x b lists d, k.once y));
        within = λ y u. by_test y x
            (λ e. subst (λ z. z < slots) (sym e) hx)
            (λ d. k.within y (omega (arith, times-placed_other y x b lists d, u)));
        free_next = λ y h u. by_test y x
            (λ e. absurd (omega (arith, subst (λ z. times z (map (placed x b) lists) ≡ times x lists + times b lists) (sym e) (times-placed_same x b lists), t, u)))
            (λ d.
            let free : times y lists ≡ 0 = sym (times-placed_other y x b lists d) ∙ u in
            next_remains n p b x (back b t) apart y y d (λ e. absurd (omega (arith, t, subst (λ z. times z lists ≡ 0) e free))) (k.free_next y h free));
        free_prev = λ y h u. by_test y x
            (λ e. absurd (omega (arith, subst (λ z. times z (map (placed x b) lists) ≡ times x lists + times b lists) (sym e) (times-placed_same x b lists), t, u)))
            (λ d.
            let free : times y lists ≡ 0 = sym (times-placed_other y x b lists d) ∙ u in
            prev_remains n p b x (back b t) apart y y d (λ e. absurd (omega (arith, t, subst (λ z. times z lists ≡ 0) e free))) (k.free_prev y h free));
      }

  pub pushed_last : (list x : ℕ) → list < count → x < slots → times x lists ≡ 0 → Keeps (next_into n p (head list) x) (prev_into n p (head list) x) slots count (pushed list x lists)
  pushed_last list x hl hx m =
      let beyond = head_past slots count list k.fits hl in
      let apart : head list ≢ x = past slots x (head list) hx beyond in
      let inside : list < length lists = omega (arith, k.counted, hl) in
      record {
        counted = length-set lists list _ ∙ k.counted;
        fits = k.fits;
        rounds = rounds_pushed slots count k.fits n p list x (back_head list hl) hx 0 list lists (omega arith) inside (omega (arith, k.counted)) k.within m k.rounds;
        once = λ y. by_test x y
            (λ e. omega (arith, times-pushed y list x lists inside, one_same x y e, subst (λ z. times z lists ≡ 0) e m))
            (λ d. omega (arith, times-pushed y list x lists inside, one_other x y d, k.once y));
        within = λ y u. by_test x y
            (λ e. subst (λ z. z < slots) e hx)
            (λ d. k.within y (omega (arith, times-pushed y list x lists inside, one_other x y d, u)));
        free_next = λ y h u. by_test x y
            (λ e. absurd (omega (arith, times-pushed y list x lists inside, one_same x y e, u)))
            (λ d.
            let free : times y lists ≡ 0 = omega (arith, times-pushed y list x lists inside, one_other x y d, u) in
            next_remains n p (head list) x (back_head list hl) apart y y (λ e. d (sym e)) (λ e. past slots y (head list) h beyond (sym e)) (k.free_next y h free));
        free_prev = λ y h u. by_test x y
            (λ e. absurd (omega (arith, times-pushed y list x lists inside, one_same x y e, u)))
            (λ d.
            let free : times y lists ≡ 0 = omega (arith, times-pushed y list x lists inside, one_other x y d, u) in
            prev_remains n p (head list) x (back_head list hl) apart y y (λ e. d (sym e)) (λ e. past slots y (head list) h beyond (sym e)) (k.free_prev y h free));
      }

-- more slots and more lists

repeated : (n p : ℕ → ℕ) (list more : ℕ) → ((m : ℕ) → list ≤ m → m < list + more → (n (head m) ≡ head m) × (p (head m) ≡ head m)) → Rounds n p list (replicate more [])
repeated n p list zero alone = tt
repeated n p list (suc more) alone = (alone list (omega arith) (omega arith), repeated n p (suc list) more (λ m a b. alone m (omega (arith, a)) (omega (arith, b))))

module _ (n p n' p' : ℕ → ℕ) (slots count slots' count' : ℕ) (fits' : slots' + count' ≤ 4294967296) (more_slots : slots ≤ slots') (more_lists : count ≤ count')
    (old_slot : (k : ℕ) → k < slots → (n' k ≡ n k) × (p' k ≡ p k)) (old_list : (m : ℕ) → m < count → (n' (head m) ≡ n (head m)) × (p' (head m) ≡ p (head m)))
    (new_slot : (k : ℕ) → slots ≤ k → k < slots' → (n' k ≡ k) × (p' k ≡ k)) (new_list : (m : ℕ) → count ≤ m → m < count' → (n' (head m) ≡ head m) × (p' (head m) ≡ head m)) where
  rounds_grown : (list : ℕ) (lists : List (List ℕ)) → list + length lists ≡ count → ((y : ℕ) → 0 < times y lists → y < slots) → Rounds n p list lists
      → Rounds n' p' list (lists ++ replicate (count' - count) [])
  rounds_grown list [] l within r = repeated n' p' list (count' - count) (λ m a b. new_list m (omega (arith, l, a)) (omega (arith, l, b, more_lists)))
  rounds_grown list (xs ∷ lists) l within r =
      let here = old_list list (omega (arith, l)) in (
        chain_below n p n' p' slots (head list) xs (head list) (λ k h. (old_slot k h).0) (λ k h. (old_slot k h).1) (λ y t. within y (omega (arith, t))) here.0 here.1 r.0,
        rounds_grown (suc list) lists (omega (arith, l)) (λ y t. within y (omega (arith, t))) r.1,
      )

  pub grown : (lists : List (List ℕ)) → Keeps n p slots count lists → Keeps n' p' slots' count' (lists ++ replicate (count' - count) [])
  grown lists k =
      let same : (y : ℕ) → times y (lists ++ replicate (count' - count) []) ≡ times y lists = λ y. omega (arith, times-append y lists (replicate (count' - count) []), times-replicate y (count' - count)) in
      record {
        counted = omega (arith, length-append lists (replicate (count' - count) []), length-replicate {A = List ℕ} (count' - count) [], k.counted, more_lists);
        fits = fits';
        rounds = rounds_grown 0 lists (omega (arith, k.counted)) k.within k.rounds;
        once = λ y. omega (arith, same y, k.once y);
        within = λ y t. let u : y < slots = k.within y (omega (arith, same y, t)) in omega (arith, u, more_slots);
        free_next = λ y h t. by_order y slots
            (λ u. (old_slot y u).0 ∙ k.free_next y u (sym (same y) ∙ t))
            (λ u. (new_slot y u h).0);
        free_prev = λ y h t. by_order y slots
            (λ u. (old_slot y u).1 ∙ k.free_prev y u (sym (same y) ∙ t))
            (λ u. (new_slot y u h).1);
      }

-- what follows a slot, and what is first in a list

abbrev Follows : ℕ → ℕ → ℕ → Option ℕ → Type 0
Follows slots x y answer = ((answer ≡ None) × (slots ≤ y)) ⊎ ((answer ≡ Some y) × (y < slots) × (y ≢ x))

follows_in : (n p : ℕ → ℕ) (slots x c : ℕ) (ws : List ℕ) (z : ℕ) → Chain n p c ws z → IsOnce ws → ((y : ℕ) → 0 < times_in y ws → y < slots) → slots ≤ z → 0 < times_in x ws
    → Follows slots x (n x) (next_in x ws)
follows_in n p slots x c [] z h once m l t = absurd (omega (arith, t))
follows_in n p slots x c (w ∷ []) z h once m l t = by_test w x
    (λ e. inl (ap (λ b. if b then None else None) (is_true w x e), subst (λ y. slots ≤ y) (sym (ap n (sym e) ∙ h.2.0)) l))
    (λ d. absurd (omega (arith, t, one_other w x d)))
follows_in n p slots x c (w ∷ v ∷ ws) z h once m l t = by_test w x
    (λ e.
    let is : n x ≡ v = ap n (sym e) ∙ h.2.0 in
    inr (
      ap (λ b. if b then Some v else next_in x (v ∷ ws)) (is_true w x e) ∙ ap Some (sym is),
      subst (λ y. y < slots) (sym is) (m v (omega (arith, one_same v v refl))),
      λ q. absurd (omega (arith, once x, one_same w x e, one_same v x (sym is ∙ q))),
    ))
    (λ d. subst (Follows slots x (n x)) (sym (ap (λ b. if b then Some v else next_in x (v ∷ ws)) (is_false w x d)))
    (follows_in n p slots x w (v ∷ ws) z h.2 (once_rest w (v ∷ ws) once) (λ y u. m y (omega (arith, u))) l (omega (arith, t, one_other w x d))))

follows : (n p : ℕ → ℕ) (slots count : ℕ) → slots + count ≤ 4294967296 → (x list : ℕ) (lists : List (List ℕ)) → list + length lists ≤ count → ((y : ℕ) → times y lists ≤ 1)
    → ((y : ℕ) → 0 < times y lists → y < slots) → Rounds n p list lists → 0 < times x lists → Follows slots x (n x) (next_of x lists)
follows n p slots count fits x list [] l once within r t = absurd (omega (arith, t))
follows n p slots count fits x list (xs ∷ lists) l once within r t = by_test (times_in x xs) 0
    (λ e. subst (Follows slots x (n x)) (sym (ap (λ b. if b then next_of x lists else next_in x xs) (is_true (times_in x xs) 0 e)))
    (follows n p slots count fits x (suc list) lists (omega (arith, l)) (λ y. omega (arith, once y)) (λ y u. within y (omega (arith, u))) r.1 (omega (arith, t, e))))
    (λ d. subst (Follows slots x (n x)) (sym (ap (λ b. if b then next_of x lists else next_in x xs) (is_false (times_in x xs) 0 d)))
    (follows_in n p slots x (head list) xs (head list) r.0 (λ y. omega (arith, once y)) (λ y u. within y (omega (arith, u))) (head_past slots count list fits (omega (arith, l))) (omega (arith, d))))

follows_none : (x : ℕ) (lists : List (List ℕ)) → times x lists ≡ 0 → next_of x lists ≡ None
follows_none x [] t = refl
follows_none x (xs ∷ lists) t =
    let none : times_in x xs ≡ 0 = omega (arith, t) in
    ap (λ b. if b then next_of x lists else next_in x xs) (is_true (times_in x xs) 0 none) ∙ follows_none x lists (omega (arith, t))

first_in : (n p : ℕ → ℕ) (slots c : ℕ) (ws : List ℕ) (z : ℕ) → Chain n p c ws z → ((y : ℕ) → 0 < times_in y ws → y < slots) → slots ≤ z
    → ((slice_get ws 0 ≡ None) × (slots ≤ n c)) ⊎ ((slice_get ws 0 ≡ Some (n c)) × (n c < slots))
first_in n p slots c [] z h m l = inl (refl, subst (λ y. slots ≤ y) (sym h.0) l)
first_in n p slots c (w ∷ ws) z h m l = inr (ap Some (sym h.0), subst (λ y. y < slots) (sym h.0) (m w (omega (arith, one_same w w refl))))

module _ (n p : ℕ → ℕ) (slots count : ℕ) (lists : List (List ℕ)) (k : Keeps n p slots count lists) where
  pub next_within : (x : ℕ) → x < slots → n x < slots → n x ≢ x → Some (n x) ≡ next_of x lists
  next_within x h l d = by_test (times x lists) 0
      (λ e. absurd (d (k.free_next x h e)))
      (λ t. elim (follows n p slots count k.fits x 0 lists (omega (arith, k.counted)) k.once k.within k.rounds (omega (arith, t))) [
        | inl none ↦ absurd (omega (arith, l, none.1))
        | inr some ↦ sym some.0
      ])

  pub next_past : (x : ℕ) → x < slots → slots ≤ n x → None ≡ next_of x lists
  next_past x h l = by_test (times x lists) 0
      (λ e. sym (follows_none x lists e))
      (λ t. elim (follows n p slots count k.fits x 0 lists (omega (arith, k.counted)) k.once k.within k.rounds (omega (arith, t))) [
        | inl none ↦ sym none.0
        | inr some ↦ absurd (omega (arith, l, some.1))
      ])

  pub next_itself : (x : ℕ) → x < slots → n x ≡ x → None ≡ next_of x lists
  next_itself x h e = by_test (times x lists) 0
      (λ t. sym (follows_none x lists t))
      (λ t. elim (follows n p slots count k.fits x 0 lists (omega (arith, k.counted)) k.once k.within k.rounds (omega (arith, t))) [
        | inl none ↦ sym none.0
        | inr some ↦ absurd (some.2 e)
      ])

  first_cases : (list : ℕ) → list < count → ((slice_get (slice_index_or lists list []) 0 ≡ None) × (slots ≤ n (head list))) ⊎ ((slice_get (slice_index_or lists list []) 0 ≡ Some (n (head list))) × (n (head list) < slots))
  first_cases list h =
      first_in n p slots (head list) (slice_index_or lists list []) (head list) (list_round n p slots count lists k list h)
      (λ y t. k.within y (omega (arith, t, times_in_list y list lists))) (head_past slots count list k.fits h)

  pub first_within : (list : ℕ) → list < count → n (head list) < slots → Some (n (head list)) ≡ slice_get (slice_index_or lists list []) 0
  first_within list h l = elim (first_cases list h) [
    | inl none ↦ absurd (omega (arith, l, none.1))
    | inr some ↦ sym some.0
  ]

  pub first_past : (list : ℕ) → list < count → slots ≤ n (head list) → None ≡ slice_get (slice_index_or lists list []) 0
  first_past list h l = elim (first_cases list h) [
    | inl none ↦ sym none.0
    | inr some ↦ absurd (omega (arith, l, some.1))
  ]
