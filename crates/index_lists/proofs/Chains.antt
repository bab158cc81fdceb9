-- Chains of nodes, and what an edit of the links between them leaves.
use Rattle.std.proofs.Common.{◌≡◌, ◌≢◌, ℕ, ◌<◌, ◌≤◌, List, [], ◌∷◌, ◌++◌, length, if◌then◌else◌, refl, sym, ap, subst, ◌∙◌, arith, zero, suc}
use Rattle.index_lists.specs.Nodes.{put, next_out, prev_out, next_into, prev_into}
use Rattle.index_lists.specs.Rounds.{Chain, walk}
use Rattle.index_lists.specs.SlotLists.{times_in, without, placed}
use Rattle.index_lists.proofs.Comparing.{same_value, other_value, is_true, is_false, by_test}
use Rattle.index_lists.proofs.Times.{one_same, one_other, miss_first, miss_rest, without_first, without_other, without_missing, placed_first, placed_other, placed_missing}

-- no slot occurs twice in the list
abbrev pub IsOnce : List ℕ → Type 0
IsOnce xs = (y : ℕ) → times_in y xs ≤ 1

pub once_rest : (w : ℕ) (ws : List ℕ) → IsOnce (w ∷ ws) → IsOnce ws
once_rest w ws once = λ y. omega (arith, once y)

pub once_first : (w : ℕ) (ws : List ℕ) → IsOnce (w ∷ ws) → times_in w ws ≡ 0
once_first w ws once = omega (arith, once w, one_same w w refl)

-- links that are the same everywhere
pub same_chain : (n p n' p' : ℕ → ℕ) (c : ℕ) (ws : List ℕ) (z : ℕ) → ((k : ℕ) → n' k ≡ n k) → ((k : ℕ) → p' k ≡ p k) → Chain n p c ws z → Chain n' p' c ws z
same_chain n p n' p' c [] z f g h = (f c ∙ h.0, g z ∙ h.1)
same_chain n p n' p' c (w ∷ ws) z f g h = (f c ∙ h.0, g w ∙ h.1, same_chain n p n' p' w ws z f g h.2)

-- links that are the same below a bound and at the two ends
pub chain_below : (n p n' p' : ℕ → ℕ) (bound c : ℕ) (ws : List ℕ) (z : ℕ) → ((k : ℕ) → k < bound → n' k ≡ n k) → ((k : ℕ) → k < bound → p' k ≡ p k)
    → ((y : ℕ) → 0 < times_in y ws → y < bound) → n' c ≡ n c → p' z ≡ p z → Chain n p c ws z → Chain n' p' c ws z
chain_below n p n' p' bound c [] z f g m a b h = (a ∙ h.0, b ∙ h.1)
chain_below n p n' p' bound c (w ∷ ws) z f g m a b h =
    let within : w < bound = m w (omega (arith, one_same w w refl)) in
    (a ∙ h.0, g w within ∙ h.1, chain_below n p n' p' bound w ws z f g (λ y t. m y (omega (arith, t))) (f w within) b h.2)

-- the next of the previous, and the previous of the next

pub forth_at : (n p : ℕ → ℕ) (c : ℕ) (ws : List ℕ) (z : ℕ) → Chain n p c ws z → p (n c) ≡ c
forth_at n p c [] z h = ap p h.0 ∙ h.1
forth_at n p c (w ∷ ws) z h = ap p h.0 ∙ h.1

pub back_at : (n p : ℕ → ℕ) (c : ℕ) (ws : List ℕ) (z : ℕ) → Chain n p c ws z → n (p z) ≡ z
back_at n p c [] z h = ap n h.1 ∙ h.0
back_at n p c (w ∷ ws) z h = back_at n p w ws z h.2

pub back_in : (n p : ℕ → ℕ) (x c : ℕ) (ws : List ℕ) (z : ℕ) → Chain n p c ws z → 0 < times_in x ws → n (p x) ≡ x
back_in n p x c [] z h t = absurd (omega (arith, t))
back_in n p x c (w ∷ ws) z h t = by_test w x
    (λ e. ap (λ k. n (p k)) (sym e) ∙ ap n h.1 ∙ h.0 ∙ e)
    (λ d. back_in n p x w ws z h.2 (omega (arith, t, one_other w x d)))

pub forth_in : (n p : ℕ → ℕ) (x c : ℕ) (ws : List ℕ) (z : ℕ) → Chain n p c ws z → 0 < times_in x ws → p (n x) ≡ x
forth_in n p x c [] z h t = absurd (omega (arith, t))
forth_in n p x c (w ∷ ws) z h t = by_test w x
    (λ e. subst (λ k. p (n k) ≡ k) e (forth_at n p w ws z h.2))
    (λ d. forth_in n p x w ws z h.2 (omega (arith, t, one_other w x d)))

-- what is said of the first node and of each slot holds of the previous node of a slot, and of the last

pub prev_holds : (P : ℕ → Type 0) (n p : ℕ → ℕ) (x c : ℕ) (ws : List ℕ) (z : ℕ) → Chain n p c ws z → P c → ((y : ℕ) → 0 < times_in y ws → P y) → 0 < times_in x ws → P (p x)
prev_holds P n p x c [] z h pc m t = absurd (omega (arith, t))
prev_holds P n p x c (w ∷ ws) z h pc m t = by_test w x
    (λ e. subst P (sym (ap p (sym e) ∙ h.1)) pc)
    (λ d. prev_holds P n p x w ws z h.2 (m w (omega (arith, one_same w w refl))) (λ y u. m y (omega (arith, u))) (omega (arith, t, one_other w x d)))

pub last_holds : (P : ℕ → Type 0) (n p : ℕ → ℕ) (c : ℕ) (ws : List ℕ) (z : ℕ) → Chain n p c ws z → P c → ((y : ℕ) → 0 < times_in y ws → P y) → P (p z)
last_holds P n p c [] z h pc m = subst P (sym h.1) pc
last_holds P n p c (w ∷ ws) z h pc m = last_holds P n p w ws z h.2 (m w (omega (arith, one_same w w refl))) (λ y u. m y (omega (arith, u)))

pub next_holds : (P : ℕ → Type 0) (n p : ℕ → ℕ) (x c : ℕ) (ws : List ℕ) (z : ℕ) → Chain n p c ws z → P z → ((y : ℕ) → 0 < times_in y ws → P y) → 0 < times_in x ws → P (n x)
next_holds P n p x c [] z h pz m t = absurd (omega (arith, t))
next_holds P n p x c (w ∷ []) z h pz m t = by_test w x
    (λ e. subst P (sym (ap n (sym e) ∙ h.2.0)) pz)
    (λ d. absurd (omega (arith, t, one_other w x d)))
next_holds P n p x c (w ∷ v ∷ ws) z h pz m t = by_test w x
    (λ e. subst P (sym (ap n (sym e) ∙ h.2.0)) (m v (omega (arith, one_same v v refl))))
    (λ d. next_holds P n p x w (v ∷ ws) z h.2 pz (λ y u. m y (omega (arith, u))) (omega (arith, t, one_other w x d)))

module _ (n p : ℕ → ℕ) (x : ℕ) (back : n (p x) ≡ x) (forth : p (n x) ≡ x) where
  -- a link between two other nodes stays
  pub next_stays : (c w : ℕ) → c ≢ x → w ≢ x → n c ≡ w → next_out n p x c ≡ w
  next_stays c w hc hw e = other_value (put n (p x) (n x)) x x c hc ∙ (other_value n (p x) (n x) c (λ q. hw (sym e ∙ (ap n q ∙ back))) ∙ e)

  pub prev_stays : (c w : ℕ) → c ≢ x → w ≢ x → p w ≡ c → prev_out n p x w ≡ c
  prev_stays c w hc hw e = other_value (put p (n x) (p x)) x x w hw ∙ (other_value p (n x) (p x) w (λ q. hc (sym e ∙ (ap p q ∙ forth))) ∙ e)

  skip : (c : ℕ) (ws : List ℕ) (z : ℕ) → c ≢ x → times_in x ws ≡ 0 → z ≢ x → Chain n p c ws z → Chain (next_out n p x) (prev_out n p x) c ws z
  skip c [] z hc m hz h = (next_stays c z hc hz h.0, prev_stays c z hc hz h.1)
  skip c (w ∷ ws) z hc m hz h =
      let hw = miss_first x w ws m in
      (next_stays c w hc hw h.0, prev_stays c w hc hw h.1, skip w ws z hw (miss_rest x w ws m) hz h.2)

  -- the two nodes beside x are joined
  next_joins : (c w : ℕ) → c ≢ x → p x ≡ c → n x ≡ w → next_out n p x c ≡ w
  next_joins c w hc e f = other_value (put n (p x) (n x)) x x c hc ∙ (ap (λ k. put n (p x) (n x) k) (sym e) ∙ (same_value n (p x) (n x) ∙ f))

  prev_joins : (c w : ℕ) → w ≢ x → p x ≡ c → n x ≡ w → prev_out n p x w ≡ c
  prev_joins c w hw e f = other_value (put p (n x) (p x)) x x w hw ∙ (ap (λ k. put p (n x) (p x) k) (sym f) ∙ (same_value p (n x) (p x) ∙ e))

  join : (c : ℕ) (ws : List ℕ) (z : ℕ) → c ≢ x → times_in x ws ≡ 0 → z ≢ x → p x ≡ c → Chain n p x ws z → Chain (next_out n p x) (prev_out n p x) c ws z
  join c [] z hc m hz e h = (next_joins c z hc e h.0, prev_joins c z hz e h.0)
  join c (w ∷ ws) z hc m hz e h =
      let hw = miss_first x w ws m in
      (next_joins c w hc e h.0, prev_joins c w hw e h.0, skip w ws z hw (miss_rest x w ws m) hz h.2)

  -- every chain whose ends are not x has lost x, if it had it
  pub taken_out : (c : ℕ) (ws : List ℕ) (z : ℕ) → c ≢ x → z ≢ x → IsOnce ws → Chain n p c ws z → Chain (next_out n p x) (prev_out n p x) c (without x ws) z
  taken_out c [] z hc hz once h = (next_stays c z hc hz h.0, prev_stays c z hc hz h.1)
  taken_out c (w ∷ ws) z hc hz once h = by_test w x
      (λ e.
      let missing : times_in x ws ≡ 0 = omega (arith, once x, one_same w x e) in
      let P : List ℕ → Type 0 = λ us. Chain (next_out n p x) (prev_out n p x) c us z in
      subst P (sym (without_first x w ws e ∙ without_missing x ws missing))
      (join c ws z hc missing hz (ap p (sym e) ∙ h.1) (subst (λ y. Chain n p y ws z) e h.2)))
      (λ d.
      let P : List ℕ → Type 0 = λ us. Chain (next_out n p x) (prev_out n p x) c us z in
      subst P (sym (without_other x w ws d))
      (next_stays c w hc d h.0, prev_stays c w hc d h.1, taken_out w ws z d hz (once_rest w ws once) h.2))

module _ (n p : ℕ → ℕ) (b x : ℕ) (back : n (p b) ≡ b) (apart : b ≢ x) where
  pub next_remains : (c w : ℕ) → c ≢ x → w ≢ b → n c ≡ w → next_into n p b x c ≡ w
  next_remains c w hc hw e = other_value (put n (p b) x) x b c hc ∙ (other_value n (p b) x c (λ q. hw (sym e ∙ (ap n q ∙ back))) ∙ e)

  pub prev_remains : (c w : ℕ) → w ≢ x → w ≢ b → p w ≡ c → prev_into n p b x w ≡ c
  prev_remains c w hx hw e = other_value (put p b x) x (p b) w hx ∙ (other_value p b x w hw ∙ e)

  -- a chain without b stays
  pub remains : (c : ℕ) (ws : List ℕ) (z : ℕ) → c ≢ x → times_in x ws ≡ 0 → z ≢ x → times_in b ws ≡ 0 → z ≢ b → Chain n p c ws z → Chain (next_into n p b x) (prev_into n p b x) c ws z
  remains c [] z hc m hz k kz h = (next_remains c z hc kz h.0, prev_remains c z hz kz h.1)
  remains c (w ∷ ws) z hc m hz k kz h =
      let hw = miss_first x w ws m in
      let kw = miss_first b w ws k in
      (next_remains c w hc kw h.0, prev_remains c w hw kw h.1, remains w ws z hw (miss_rest x w ws m) hz (miss_rest b w ws k) kz h.2)

  -- before b come the node that was before it, and x
  at_c : (c : ℕ) → c ≢ x → p b ≡ c → next_into n p b x c ≡ x
  at_c c hc e = other_value (put n (p b) x) x b c hc ∙ (ap (λ k. put n (p b) x k) (sym e) ∙ same_value n (p b) x)

  at_b : prev_into n p b x b ≡ x
  at_b = other_value (put p b x) x (p b) b apart ∙ same_value p b x

  -- every chain that does not end in b has x before b, if it had b
  pub put_before : (c : ℕ) (ws : List ℕ) (z : ℕ) → c ≢ x → times_in x ws ≡ 0 → z ≢ x → z ≢ b → IsOnce ws → Chain n p c ws z → Chain (next_into n p b x) (prev_into n p b x) c (placed x b ws) z
  put_before c [] z hc m hz kz once h = (next_remains c z hc kz h.0, prev_remains c z hz kz h.1)
  put_before c (w ∷ ws) z hc m hz kz once h = by_test w b
      (λ e.
      let missing : times_in b ws ≡ 0 = omega (arith, once b, one_same w b e) in
      let P : List ℕ → Type 0 = λ us. Chain (next_into n p b x) (prev_into n p b x) c us z in
      let pc = ap p (sym e) ∙ h.1 in
      subst P (sym (placed_first x b w ws e ∙ ap (λ us. x ∷ w ∷ us) (placed_missing x b ws missing))) (
        at_c c hc pc,
        same_value (put p b x) x (p b) ∙ pc,
        (same_value (put n (p b) x) x b ∙ sym e, ap (prev_into n p b x) e ∙ at_b, remains w ws z (miss_first x w ws m) (miss_rest x w ws m) hz missing kz h.2),
      ))
      (λ d.
      let P : List ℕ → Type 0 = λ us. Chain (next_into n p b x) (prev_into n p b x) c us z in
      let hw = miss_first x w ws m in
      subst P (sym (placed_other x b w ws d))
      (next_remains c w hc d h.0, prev_remains c w hw d h.1, put_before w ws z hw (miss_rest x w ws m) hz kz (once_rest w ws once) h.2))

  -- a chain that ends in b has x as its last
  pub put_last : (c : ℕ) (ws : List ℕ) → c ≢ x → times_in x ws ≡ 0 → times_in b ws ≡ 0 → Chain n p c ws b → Chain (next_into n p b x) (prev_into n p b x) c (ws ++ x ∷ []) b
  put_last c [] hc m k h = (at_c c hc h.1, same_value (put p b x) x (p b) ∙ h.1, (same_value (put n (p b) x) x b, at_b))
  put_last c (w ∷ ws) hc m k h =
      let hw = miss_first x w ws m in
      let kw = miss_first b w ws k in
      (next_remains c w hc kw h.0, prev_remains c w hw kw h.1, put_last w ws hw (miss_rest x w ws m) (miss_rest b w ws k) h.2)

-- a walk along a chain gives its slots
pub walk_is : (n p : ℕ → ℕ) (c : ℕ) (ws : List ℕ) (z fuel : ℕ) → Chain n p c ws z → times_in z ws ≡ 0 → length ws ≤ fuel → walk n z fuel (n c) ≡ ws
walk_is n p c [] z zero h m l = refl
walk_is n p c [] z (suc fuel) h m l = ap (λ b. if b then [] else n c ∷ walk n z fuel (n (n c))) (is_true (n c) z h.0)
walk_is n p c (w ∷ ws) z zero h m l = absurd (omega (arith, l))
walk_is n p c (w ∷ ws) z (suc fuel) h m l =
    ap (λ b. if b then [] else n c ∷ walk n z fuel (n (n c))) (is_false (n c) z (λ q. miss_first z w ws m (sym h.0 ∙ q)))
    ∙ ap (λ k. k ∷ walk n z fuel (n k)) h.0
    ∙ ap (λ us. w ∷ us) (walk_is n p w ws z fuel h.2 (miss_rest z w ws m) (omega (arith, l)))
