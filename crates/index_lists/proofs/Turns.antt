-- The rounds of all lists, and what an edit of the links leaves of them.
use Rattle.std.proofs.Common.{◌≡◌, ◌≢◌, ℕ, ◌+◌, ◌<◌, ◌≤◌, List, [], ◌∷◌, ◌++◌, map, length, sym, subst, arith, zero, suc}
use Rattle.std.specs.List.{slice_index_or}
use Rattle.index_lists.specs.Rounds.{head, Chain, Rounds}
use Rattle.index_lists.specs.SlotLists.{times_in, times, without, placed}
use Rattle.index_lists.specs.Nodes.{next_out, prev_out, next_into, prev_into}
use Rattle.index_lists.proofs.Comparing.{by_test}
use Rattle.index_lists.proofs.Times.{pushed}
use Rattle.index_lists.proofs.Chains.{back_in, forth_in, prev_holds, next_holds, taken_out, remains, put_before, put_last}

-- the nodes of lists are past those of slots, and differ
pub head_past : (slots count list : ℕ) → slots + count ≤ 4294967296 → list < count → slots ≤ head list
head_past slots count list fits h = omega (arith, fits, h)

heads_differ : (slots count list other : ℕ) → slots + count ≤ 4294967296 → list < count → other < count → list ≢ other → head list ≢ head other
heads_differ slots count list other fits h k d e = d (omega (arith, fits, h, k, e))

pub past : (slots x y : ℕ) → x < slots → slots ≤ y → y ≢ x
past slots x y h k e = absurd (omega (arith, h, k, e))

-- the next of the previous of a slot, and the previous of its next

pub rounds_back : (n p : ℕ → ℕ) (x list : ℕ) (lists : List (List ℕ)) → Rounds n p list lists → 0 < times x lists → n (p x) ≡ x
rounds_back n p x list [] r t = absurd (omega (arith, t))
rounds_back n p x list (xs ∷ lists) r t = by_test (times_in x xs) 0
    (λ e. rounds_back n p x (suc list) lists r.1 (omega (arith, t, e)))
    (λ d. back_in n p x (head list) xs (head list) r.0 (omega (arith, d)))

pub rounds_forth : (n p : ℕ → ℕ) (x list : ℕ) (lists : List (List ℕ)) → Rounds n p list lists → 0 < times x lists → p (n x) ≡ x
rounds_forth n p x list [] r t = absurd (omega (arith, t))
rounds_forth n p x list (xs ∷ lists) r t = by_test (times_in x xs) 0
    (λ e. rounds_forth n p x (suc list) lists r.1 (omega (arith, t, e)))
    (λ d. forth_in n p x (head list) xs (head list) r.0 (omega (arith, d)))

-- the round of one list
pub round_at : (n p : ℕ → ℕ) (list k : ℕ) (lists : List (List ℕ)) → Rounds n p list lists → k < length lists
    → Chain n p (head (list + k)) (slice_index_or lists k []) (head (list + k))
round_at n p list k [] r h = absurd (omega (arith, h))
round_at n p list zero (xs ∷ lists) r h =
    let same : list + 0 ≡ list = omega arith in
    subst (λ m. Chain n p (head m) xs (head m)) (sym same) r.0
round_at n p list (suc k) (xs ∷ lists) r h =
    let same : list + suc k ≡ suc list + k = omega arith in
    subst (λ m. Chain n p (head m) (slice_index_or lists k []) (head m)) (sym same) (round_at n p (suc list) k lists r.1 (omega (arith, h)))

pub times_in_list : (y k : ℕ) (lists : List (List ℕ)) → times_in y (slice_index_or lists k []) ≤ times y lists
times_in_list y k [] = omega arith
times_in_list y zero (xs ∷ lists) = omega arith
times_in_list y (suc k) (xs ∷ lists) = omega (arith, times_in_list y k lists)

-- what holds of each head and each slot holds of the nodes beside a slot

pub rounds_prev : (P : ℕ → Type 0) (n p : ℕ → ℕ) (x list : ℕ) (lists : List (List ℕ)) → Rounds n p list lists
    → ((m : ℕ) → m < list + length lists → P (head m)) → ((y : ℕ) → 0 < times y lists → P y) → 0 < times x lists → P (p x)
rounds_prev P n p x list [] r ph py t = absurd (omega (arith, t))
rounds_prev P n p x list (xs ∷ lists) r ph py t = by_test (times_in x xs) 0
    (λ e. rounds_prev P n p x (suc list) lists r.1 (λ m h. ph m (omega (arith, h))) (λ y u. py y (omega (arith, u))) (omega (arith, t, e)))
    (λ d. prev_holds P n p x (head list) xs (head list) r.0 (ph list (omega arith)) (λ y u. py y (omega (arith, u))) (omega (arith, d)))

pub rounds_next : (P : ℕ → Type 0) (n p : ℕ → ℕ) (x list : ℕ) (lists : List (List ℕ)) → Rounds n p list lists
    → ((m : ℕ) → m < list + length lists → P (head m)) → ((y : ℕ) → 0 < times y lists → P y) → 0 < times x lists → P (n x)
rounds_next P n p x list [] r ph py t = absurd (omega (arith, t))
rounds_next P n p x list (xs ∷ lists) r ph py t = by_test (times_in x xs) 0
    (λ e. rounds_next P n p x (suc list) lists r.1 (λ m h. ph m (omega (arith, h))) (λ y u. py y (omega (arith, u))) (omega (arith, t, e)))
    (λ d. next_holds P n p x (head list) xs (head list) r.0 (ph list (omega arith)) (λ y u. py y (omega (arith, u))) (omega (arith, d)))

-- where each slot that is listed is below a bound, a number past it is in no list
none_past : (slots h : ℕ) → slots ≤ h → (xs : List ℕ) → (0 < times_in h xs → h < slots) → times_in h xs ≡ 0
none_past slots h k xs w = by_test (times_in h xs) 0 (λ e. e) (λ d. let u : h < slots = w (omega (arith, d)) in absurd (omega (arith, k, u)))

module _ (slots count : ℕ) (fits : slots + count ≤ 4294967296) where
  -- a slot taken out of all lists
  pub rounds_out : (n p : ℕ → ℕ) (x : ℕ) (back : n (p x) ≡ x) (forth : p (n x) ≡ x) → x < slots → (list : ℕ) (lists : List (List ℕ)) → list + length lists ≤ count
      → ((y : ℕ) → times y lists ≤ 1) → Rounds n p list lists → Rounds (next_out n p x) (prev_out n p x) list (map (without x) lists)
  rounds_out n p x back forth hx list [] l once r = tt
  rounds_out n p x back forth hx list (xs ∷ lists) l once r =
      let far : head list ≢ x = past slots x (head list) hx (head_past slots count list fits (omega (arith, l))) in (
        taken_out n p x back forth (head list) xs (head list) far far (λ y. omega (arith, once y)) r.0,
        rounds_out n p x back forth hx (suc list) lists (omega (arith, l)) (λ y. omega (arith, once y)) r.1,
      )

  -- a free slot put before another
  pub rounds_placed : (n p : ℕ → ℕ) (b x : ℕ) (back : n (p b) ≡ b) (apart : b ≢ x) → x < slots → b < slots → (list : ℕ) (lists : List (List ℕ)) → list + length lists ≤ count
      → ((y : ℕ) → times y lists ≤ 1) → times x lists ≡ 0 → Rounds n p list lists → Rounds (next_into n p b x) (prev_into n p b x) list (map (placed x b) lists)
  rounds_placed n p b x back apart hx hb list [] l once m r = tt
  rounds_placed n p b x back apart hx hb list (xs ∷ lists) l once m r =
      let beyond = head_past slots count list fits (omega (arith, l)) in
      let far : head list ≢ x = past slots x (head list) hx beyond in (
        put_before n p b x back apart (head list) xs (head list) far (omega (arith, m)) far (past slots b (head list) hb beyond) (λ y. omega (arith, once y)) r.0,
        rounds_placed n p b x back apart hx hb (suc list) lists (omega (arith, l)) (λ y. omega (arith, once y)) (omega (arith, m)) r.1,
      )

  -- lists after the one to which a slot is pushed
  rounds_remain : (n p : ℕ → ℕ) (at x : ℕ) (back : n (p (head at)) ≡ head at) → x < slots → at < count → (list : ℕ) (lists : List (List ℕ)) → list + length lists ≤ count → at < list
      → ((y : ℕ) → 0 < times y lists → y < slots) → times x lists ≡ 0 → Rounds n p list lists → Rounds (next_into n p (head at) x) (prev_into n p (head at) x) list lists
  rounds_remain n p at x back hx ha list [] l a within m r = tt
  rounds_remain n p at x back hx ha list (xs ∷ lists) l a within m r =
      let far : head list ≢ x = past slots x (head list) hx (head_past slots count list fits (omega (arith, l))) in
      let apart : head at ≢ x = past slots x (head at) hx (head_past slots count at fits ha) in
      let unlisted : times_in (head at) xs ≡ 0 = none_past slots (head at) (head_past slots count at fits ha) xs (λ t. within (head at) (omega (arith, t))) in (
        remains n p (head at) x back apart (head list) xs (head list) far (omega (arith, m)) far unlisted (heads_differ slots count list at fits (omega (arith, l)) ha (λ e. absurd (omega (arith, a, e)))) r.0,
        rounds_remain n p at x back hx ha (suc list) lists (omega (arith, l)) (omega (arith, a)) (λ y t. within y (omega (arith, t))) (omega (arith, m)) r.1,
      )

  -- a free slot pushed to one of the lists
  pub rounds_pushed : (n p : ℕ → ℕ) (at x : ℕ) (back : n (p (head at)) ≡ head at) → x < slots → (list k : ℕ) (lists : List (List ℕ)) → at ≡ list + k → k < length lists → list + length lists ≤ count
      → ((y : ℕ) → 0 < times y lists → y < slots) → times x lists ≡ 0 → Rounds n p list lists → Rounds (next_into n p (head at) x) (prev_into n p (head at) x) list (pushed k x lists)
  rounds_pushed n p at x back hx list k [] is h l within m r = absurd (omega (arith, h))
  rounds_pushed n p at x back hx list zero (xs ∷ lists) is h l within m r =
      let ha : at < count = omega (arith, is, l) in
      let beyond = head_past slots count at fits ha in
      let apart : head at ≢ x = past slots x (head at) hx beyond in
      let unlisted : times_in (head at) xs ≡ 0 = none_past slots (head at) beyond xs (λ t. within (head at) (omega (arith, t))) in
      let same : at ≡ list = omega (arith, is) in
      let here : Chain n p (head at) xs (head at) = subst (λ m. Chain n p (head m) xs (head m)) (sym same) r.0 in
      let made : Chain (next_into n p (head at) x) (prev_into n p (head at) x) (head at) (xs ++ x ∷ []) (head at) =
      put_last n p (head at) x back apart (head at) xs apart (omega (arith, m)) unlisted here in (
        subst (λ m. Chain (next_into n p (head at) x) (prev_into n p (head at) x) (head m) (xs ++ x ∷ []) (head m)) same made,
        rounds_remain n p at x back hx ha (suc list) lists (omega (arith, l)) (omega (arith, is)) (λ y t. within y (omega (arith, t))) (omega (arith, m)) r.1,
      )
  rounds_pushed n p at x back hx list (suc k) (xs ∷ lists) is h l within m r =
      let ha : at < count = omega (arith, is, h, l) in
      let beyond = head_past slots count at fits ha in
      let far : head list ≢ x = past slots x (head list) hx (head_past slots count list fits (omega (arith, l))) in
      let apart : head at ≢ x = past slots x (head at) hx beyond in
      let unlisted : times_in (head at) xs ≡ 0 = none_past slots (head at) beyond xs (λ t. within (head at) (omega (arith, t))) in (
        remains n p (head at) x back apart (head list) xs (head list) far (omega (arith, m)) far unlisted (heads_differ slots count list at fits (omega (arith, l)) ha (λ e. absurd (omega (arith, is, e)))) r.0,
        rounds_pushed n p at x back hx (suc list) k lists (omega (arith, is)) (omega (arith, h)) (omega (arith, l)) (λ y t. within y (omega (arith, t))) (omega (arith, m)) r.1,
      )
