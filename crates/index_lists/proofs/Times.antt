-- How often a slot is in lists that changed.
use Rattle.std.proofs.Common.{◌≡◌, ◌≢◌, ℕ, ◌+◌, ◌<◌, not, cond, List, [], ◌∷◌, ◌++◌, map, length, nat_eq, if◌then◌else◌, refl, sym, ap, ◌∙◌, arith, zero, suc}
use Rattle.std.specs.Prelude.{replicate, Some, slice_get}
use Rattle.std.specs.List.{slice_set, slice_index_or}
use Rattle.index_lists.specs.SlotLists.{times_in, times, without, placed, next_in, next_of}
use Rattle.index_lists.proofs.Comparing.{is_true, is_false, by_test}

-- one where two slots are the same
abbrev pub one_if : ℕ → ℕ → ℕ
one_if x y = if nat_eq x y then 1 else 0

pub one_same : (x y : ℕ) → x ≡ y → one_if x y ≡ 1
one_same x y e = ap (λ b. if b then 1 else 0) (is_true x y e)

pub one_other : (x y : ℕ) → x ≢ y → one_if x y ≡ 0
one_other x y d = ap (λ b. if b then 1 else 0) (is_false x y d)

-- a slot that is not in a list differs from each of its slots
pub miss_first : (y w : ℕ) (ws : List ℕ) → times_in y (w ∷ ws) ≡ 0 → w ≢ y
miss_first y w ws t e = absurd (omega (arith, t, one_same w y e))

pub miss_rest : (y w : ℕ) (ws : List ℕ) → times_in y (w ∷ ws) ≡ 0 → times_in y ws ≡ 0
miss_rest y w ws t = omega (arith, t)

pub times_in-append : (y : ℕ) (xs ys : List ℕ) → times_in y (xs ++ ys) ≡ times_in y xs + times_in y ys
times_in-append y [] ys = omega arith
times_in-append y (x ∷ xs) ys = omega (arith, times_in-append y xs ys)

-- without

pub without_first : (y x : ℕ) (xs : List ℕ) → x ≡ y → without y (x ∷ xs) ≡ without y xs
without_first y x xs e = ap (λ b. cond (not b) (x ∷ without y xs) (without y xs)) (is_true x y e)

pub without_other : (y x : ℕ) (xs : List ℕ) → x ≢ y → without y (x ∷ xs) ≡ x ∷ without y xs
without_other y x xs d = ap (λ b. cond (not b) (x ∷ without y xs) (without y xs)) (is_false x y d)

pub without_missing : (y : ℕ) (xs : List ℕ) → times_in y xs ≡ 0 → without y xs ≡ xs
without_missing y [] t = refl
without_missing y (x ∷ xs) t = without_other y x xs (miss_first y x xs t) ∙ ap (λ rest. x ∷ rest) (without_missing y xs (miss_rest y x xs t))

pub times_in-without_same : (y : ℕ) (xs : List ℕ) → times_in y (without y xs) ≡ 0
times_in-without_same y [] = refl
times_in-without_same y (x ∷ xs) = by_test x y
    (λ e. ap (times_in y) (without_first y x xs e) ∙ times_in-without_same y xs)
    (λ d. ap (times_in y) (without_other y x xs d) ∙ omega (arith, one_other x y d, times_in-without_same y xs))

pub times_in-without_other : (z y : ℕ) (xs : List ℕ) → z ≢ y → times_in z (without y xs) ≡ times_in z xs
times_in-without_other z y [] k = refl
times_in-without_other z y (x ∷ xs) k = by_test x y
    (λ e. ap (times_in z) (without_first y x xs e) ∙ omega (arith, one_other x z (λ q. k (sym q ∙ e)), times_in-without_other z y xs k))
    (λ d. ap (times_in z) (without_other y x xs d) ∙ omega (arith, times_in-without_other z y xs k))

pub times-without_same : (y : ℕ) (lists : List (List ℕ)) → times y (map (without y) lists) ≡ 0
times-without_same y [] = refl
times-without_same y (xs ∷ lists) = omega (arith, times_in-without_same y xs, times-without_same y lists)

pub times-without_other : (z y : ℕ) (lists : List (List ℕ)) → z ≢ y → times z (map (without y) lists) ≡ times z lists
times-without_other z y [] k = refl
times-without_other z y (xs ∷ lists) k = omega (arith, times_in-without_other z y xs k, times-without_other z y lists k)

-- placed

pub placed_first : (y b x : ℕ) (xs : List ℕ) → x ≡ b → placed y b (x ∷ xs) ≡ y ∷ x ∷ placed y b xs
placed_first y b x xs e = ap (λ t. if t then y ∷ x ∷ placed y b xs else x ∷ placed y b xs) (is_true x b e)

pub placed_other : (y b x : ℕ) (xs : List ℕ) → x ≢ b → placed y b (x ∷ xs) ≡ x ∷ placed y b xs
placed_other y b x xs d = ap (λ t. if t then y ∷ x ∷ placed y b xs else x ∷ placed y b xs) (is_false x b d)

pub placed_missing : (y b : ℕ) (xs : List ℕ) → times_in b xs ≡ 0 → placed y b xs ≡ xs
placed_missing y b [] t = refl
placed_missing y b (x ∷ xs) t = placed_other y b x xs (miss_first b x xs t) ∙ ap (λ rest. x ∷ rest) (placed_missing y b xs (miss_rest b x xs t))

-- the slot that is put occurs as often more as the other occurs
pub times_in-placed_same : (y b : ℕ) (xs : List ℕ) → times_in y (placed y b xs) ≡ times_in y xs + times_in b xs
times_in-placed_same y b [] = refl
times_in-placed_same y b (x ∷ xs) = by_test x b
    (λ e. ap (times_in y) (placed_first y b x xs e) ∙ omega (arith, one_same x b e, one_same y y refl, times_in-placed_same y b xs))
    (λ d. ap (times_in y) (placed_other y b x xs d) ∙ omega (arith, one_other x b d, times_in-placed_same y b xs))

pub times_in-placed_other : (z y b : ℕ) (xs : List ℕ) → z ≢ y → times_in z (placed y b xs) ≡ times_in z xs
times_in-placed_other z y b [] k = refl
times_in-placed_other z y b (x ∷ xs) k = by_test x b
    (λ e. ap (times_in z) (placed_first y b x xs e) ∙ omega (arith, one_other y z (λ q. k (sym q)), times_in-placed_other z y b xs k))
    (λ d. ap (times_in z) (placed_other y b x xs d) ∙ omega (arith, times_in-placed_other z y b xs k))

pub times-placed_same : (y b : ℕ) (lists : List (List ℕ)) → times y (map (placed y b) lists) ≡ times y lists + times b lists
times-placed_same y b [] = refl
times-placed_same y b (xs ∷ lists) = omega (arith, times_in-placed_same y b xs, times-placed_same y b lists)

pub times-placed_other : (z y b : ℕ) (lists : List (List ℕ)) → z ≢ y → times z (map (placed y b) lists) ≡ times z lists
times-placed_other z y b [] k = refl
times-placed_other z y b (xs ∷ lists) k = omega (arith, times_in-placed_other z y b xs k, times-placed_other z y b lists k)

-- one list with a slot more at its end
abbrev pub pushed : ℕ → ℕ → List (List ℕ) → List (List ℕ)
pushed list y lists = slice_set lists list (slice_index_or lists list [] ++ y ∷ [])

pub times-pushed : (z list y : ℕ) (lists : List (List ℕ)) → list < length lists → times z (pushed list y lists) ≡ times z lists + one_if y z
times-pushed z list y [] h = absurd (omega (arith, h))
times-pushed z zero y (xs ∷ lists) h = omega (arith, times_in-append z xs (y ∷ []))
times-pushed z (suc list) y (xs ∷ lists) h = omega (arith, times-pushed z list y lists (omega (arith, h)))

-- empty lists
pub times-replicate : (z n : ℕ) → times z (replicate n []) ≡ 0
times-replicate z zero = refl
times-replicate z (suc n) = omega (arith, times-replicate z n)

pub times-append : (z : ℕ) (xs ys : List (List ℕ)) → times z (xs ++ ys) ≡ times z xs + times z ys
times-append z [] ys = omega arith
times-append z (x ∷ xs) ys = omega (arith, times-append z xs ys)

-- what is first in a list, and what follows a slot, occurs in the list

pub first_stands : (xs : List ℕ) (y : ℕ) → slice_get xs 0 ≡ Some y → 0 < times_in y xs
first_stands [] y e = absurd (cc)
first_stands (x ∷ xs) y e = let same : x ≡ y = cc in omega (arith, one_same x y same)

next_in_stands : (slot y : ℕ) (xs : List ℕ) → next_in slot xs ≡ Some y → 0 < times_in y xs
next_in_stands slot y [] e = absurd (cc)
next_in_stands slot y (x ∷ xs) e = by_test x slot
    (λ same. omega (arith, first_stands xs y (sym (ap (λ b. if b then slice_get xs 0 else next_in slot xs) (is_true x slot same)) ∙ e)))
    (λ d. omega (arith, next_in_stands slot y xs (sym (ap (λ b. if b then slice_get xs 0 else next_in slot xs) (is_false x slot d)) ∙ e)))

pub next_stands : (slot y : ℕ) (lists : List (List ℕ)) → next_of slot lists ≡ Some y → 0 < times y lists
next_stands slot y [] e = absurd (cc)
next_stands slot y (xs ∷ lists) e = by_test (times_in slot xs) 0
    (λ none. omega (arith, next_stands slot y lists (sym (ap (λ b. if b then next_of slot lists else next_in slot xs) (is_true (times_in slot xs) 0 none)) ∙ e)))
    (λ some. omega (arith, next_in_stands slot y xs (sym (ap (λ b. if b then next_of slot lists else next_in slot xs) (is_false (times_in slot xs) 0 some)) ∙ e)))
