-- Runs at the front of some bytes, found a block at a time.
use Rattle.std.proofs.Common.{◌≡◌, ℕ, suc, ◌+◌, ◌*◌, ◌<◌, ◌≤◌, Bool, true, false, not, cond, eqb, List, [], ◌∷◌, map, length, take, drop, refl, sym, ap, ◌∙◌, subst, arith}
use Rattle.std.specs.Prelude.{IsTrue}
use Rattle.std.specs.List.{prefix_len, list_all}
use Rattle.std.proofs.lemmas.Simd.{chunk-drop, length-chunk, leading_from_mask_l, trailing_mask_l}
use Rattle.std.proofs.lemmas.List.Folds.{prefix_len-append}
use Rattle.std.proofs.lemmas.List.Sums.{prefix_len-le-length}
use Rattle.std.proofs.lemmas.Bool.{eq-eqb, ne_eqb, and_from}
use lib.Lanes.{chunk, mask_l}
use lib.Count.{count_trailing_zeros}
use Rattle.json_tokens.specs.Runs.{Stops}

module _ (q : ℕ → Bool) where
  abbrev others : ℕ → Bool
  others x = not (q x)

  none_fails : (b : Bool) (n l m : ℕ) → n ≤ l → cond b (1 + n) 0 ≡ 1 + l → (n ≡ l → m ≡ 0) → cond (not b) 1 0 + 2 * m ≡ 0
  none_fails false n l m le e ih = let no : ⊥ = omega arith in absurd no
  none_fails true n l m le e ih = let z = ih (omega arith) in omega arith

  not_twice : (b : Bool) → not (not b) ≡ b
  not_twice true = refl
  not_twice false = refl

  same_run : (xs : List ℕ) → prefix_len (λ x. not (others x)) xs ≡ prefix_len q xs
  same_run [] = refl
  same_run (x ∷ xs) = ap (λ b. cond b (1 + prefix_len (λ y. not (others y)) xs) 0) (not_twice (q x)) ∙ ap (λ n. cond (q x) (1 + n) 0) (same_run xs)

  all_pass : (xs : List ℕ) → prefix_len q xs ≡ length xs → mask_l (map others xs) ≡ 0
  all_pass [] e = refl
  all_pass (x ∷ xs) e = none_fails (q x) _ (length xs) _ (prefix_len-le-length q xs) (e ∙ omega arith) (all_pass xs)

  split : (d : List ℕ) (i n : ℕ) → prefix_len q (drop i d) ≡ cond (eqb (prefix_len q (chunk i n d)) (length (chunk i n d))) (length (chunk i n d) + prefix_len q (drop (i + n) d)) (prefix_len q (chunk i n d))
  split d i n = ap (prefix_len q) (chunk-drop i n d) ∙ prefix_len-append q (chunk i n d) (drop (i + n) d)

  -- A block in which no bit is set is passed whole.
  pub run_through : (d : List ℕ) (i n : ℕ) → i + n ≤ length d → mask_l (map others (chunk i n d)) ≡ 0 → prefix_len q (drop i d) ≡ n + prefix_len q (drop (i + n) d)
  run_through d i n room none =
      let c = chunk i n d in
      split d i n ∙ ap (λ b. cond b (length c + prefix_len q (drop (i + n) d)) (prefix_len q c)) (eq-eqb _ _ (sym (same_run c) ∙ leading_from_mask_l others c none))
      ∙ ap (λ k. k + prefix_len q (drop (i + n) d)) (length-chunk i n d room)

  -- Else the run ends at the lowest bit.
  pub run_stops : (d : List ℕ) (i n : ℕ) → i + n ≤ length d → n ≤ 64 → 0 < mask_l (map others (chunk i n d)) → prefix_len q (drop i d) ≡ count_trailing_zeros 64 (mask_l (map others (chunk i n d)))
  run_stops d i n room short some =
      let c = chunk i n d in
      split d i n ∙ ap (λ b. cond b (length c + prefix_len q (drop (i + n) d)) (prefix_len q c)) (ne_eqb _ _ (λ (e : prefix_len q c ≡ length c). omega (arith, all_pass c e)))
      ∙ sym (same_run c) ∙ sym (trailing_mask_l others 64 c (omega (arith, length-chunk i n d room)) some)

  front_step : (x : ℕ) (xs : List ℕ) (b : Bool) → q x ≡ b → IsTrue (list_all q (take (prefix_len q xs) xs)) → IsTrue (list_all q (take (cond b (1 + prefix_len q xs) 0) (x ∷ xs)))
  front_step x xs true e h =
      let n : suc (prefix_len q xs) ≡ 1 + prefix_len q xs = omega arith in
      subst (λ k. IsTrue (list_all q (take k (x ∷ xs)))) n (and_from (q x) (list_all q (take (prefix_len q xs) xs)) e h)
  front_step x xs false e h = refl

  -- All bytes of the run are of the class.
  pub run_front : (xs : List ℕ) → IsTrue (list_all q (take (prefix_len q xs) xs))
  run_front [] = refl
  run_front (x ∷ xs) = front_step x xs (q x) refl (run_front xs)

  stop_step : (x : ℕ) (xs : List ℕ) (b : Bool) → q x ≡ b → Stops q (drop (prefix_len q xs) xs) → Stops q (drop (cond b (1 + prefix_len q xs) 0) (x ∷ xs))
  stop_step x xs true e h =
      let n : suc (prefix_len q xs) ≡ 1 + prefix_len q xs = omega arith in
      subst (λ k. Stops q (drop k (x ∷ xs))) n h
  stop_step x xs false e h = e

  -- And the next one is not.
  pub run_end : (xs : List ℕ) → Stops q (drop (prefix_len q xs) xs)
  run_end [] = tt
  run_end (x ∷ xs) = stop_step x xs (q x) refl (run_end xs)
