-- The pair of a key among the pairs so far, and its place after another pair was added.
use Rattle.std.proofs.Common.{◌≡◌, ◌≢◌, ◌⊎◌, inl, inr, ℕ, zero, suc, ◌<◌, ◌≤◌, List, [], ◌∷◌, ◌++◌, refl, sym, ap, ◌∙◌, subst, arith, length, set, Bool, true, false}
use Rattle.std.specs.Prelude.{Option, Some, None, option_map, if◌then◌else◌, nat_eq, slice_index, slice_index_or}
use Rattle.std.proofs.lemmas.Bool.{false_from_ne_true, cases_eq, cases_lt}
use Rattle.std.proofs.lemmas.Bool.Decides.{Decides-eqb}
use Rattle.std.proofs.lemmas.List.{get_or-set_same, get_or-set_other, length-append}
use Rattle.std.proofs.Math.ListN.{get_or-append, length-set}
use Rattle.std.proofs.Math.Seq.{get_or-append_seam}
use Rattle.tile_reader.specs.Lookup.{pair_place, put_pair, ArePlaces}

-- the number under a `Some`
abbrev number_or : Option ℕ → ℕ → ℕ
number_or None d = d
number_or (Some n) d = n

pub some_is : (i j : ℕ) → ◌≡◌ {A = Option ℕ} (Some i) (Some j) → i ≡ j
some_is i j e = ap (λ (o : Option ℕ). number_or o 0) e

pub suc_some : (o : Option ℕ) (i : ℕ) → option_map suc o ≡ Some (suc i) → o ≡ Some i
suc_some None i e = absurd (cc)
suc_some (Some n) i e = let q : suc n ≡ suc i = some_is (suc n) (suc i) e in let r : n ≡ i = omega arith in ap Some r

pub suc_none : (o : Option ℕ) → option_map suc o ≡ None → o ≡ None
suc_none None e = refl
suc_none (Some n) e = absurd (cc)

pub suc_zero : (o : Option ℕ) → option_map suc o ≡ Some zero → ⊥
suc_zero None e = cc
suc_zero (Some n) e = let q : suc n ≡ zero = some_is (suc n) zero e in omega arith

-- a pair whose key is there is in its place
there_at : (pair first : ℕ × ℕ) (pairs : List (ℕ × ℕ)) (t : Bool) (i : ℕ) → ((j : ℕ) → pair_place pair.0 pairs ≡ Some j → put_pair pair pairs ≡ set pairs j pair) → (if t then Some 0 else option_map suc (pair_place pair.0 pairs)) ≡ Some i → (if t then pair ∷ pairs else first ∷ put_pair pair pairs) ≡ set (first ∷ pairs) i pair
there_at pair first pairs true zero later e = refl
there_at pair first pairs true (suc i) later e = let q : zero ≡ suc i = some_is zero (suc i) e in absurd (omega arith)
there_at pair first pairs false zero later e = absurd (suc_zero (pair_place pair.0 pairs) e)
there_at pair first pairs false (suc i) later e = ap (λ (ps : List (ℕ × ℕ)). first ∷ ps) (later i (suc_some (pair_place pair.0 pairs) i e))

pub put_there : (pair : ℕ × ℕ) (pairs : List (ℕ × ℕ)) (i : ℕ) → pair_place pair.0 pairs ≡ Some i → put_pair pair pairs ≡ set pairs i pair
put_there pair [] i e = absurd (cc)
put_there pair (first ∷ pairs) i e = there_at pair first pairs (nat_eq pair.0 first.0) i (put_there pair pairs) e

-- a pair of a new key is at the end
new_at : (pair first : ℕ × ℕ) (pairs : List (ℕ × ℕ)) (t : Bool) → (pair_place pair.0 pairs ≡ None → put_pair pair pairs ≡ pairs ++ pair ∷ []) → (if t then Some 0 else option_map suc (pair_place pair.0 pairs)) ≡ None → (if t then pair ∷ pairs else first ∷ put_pair pair pairs) ≡ first ∷ (pairs ++ pair ∷ [])
new_at pair first pairs true later e = absurd (cc)
new_at pair first pairs false later e = ap (λ (ps : List (ℕ × ℕ)). first ∷ ps) (later (suc_none (pair_place pair.0 pairs) e))

pub put_new : (pair : ℕ × ℕ) (pairs : List (ℕ × ℕ)) → pair_place pair.0 pairs ≡ None → put_pair pair pairs ≡ pairs ++ pair ∷ []
put_new pair [] e = refl
put_new pair (first ∷ pairs) e = new_at pair first pairs (nat_eq pair.0 first.0) (put_new pair pairs) e

-- a place is one of the pairs'
below_at : (key : ℕ) (first : ℕ × ℕ) (pairs : List (ℕ × ℕ)) (t : Bool) (i : ℕ) → ((j : ℕ) → pair_place key pairs ≡ Some j → j < length pairs) → (if t then Some 0 else option_map suc (pair_place key pairs)) ≡ Some i → i < suc (length pairs)
below_at key first pairs true i later e = let q : zero ≡ i = some_is zero i e in omega arith
below_at key first pairs false zero later e = omega arith
below_at key first pairs false (suc i) later e = let h = later i (suc_some (pair_place key pairs) i e) in omega arith

pub place_below : (key : ℕ) (pairs : List (ℕ × ℕ)) (i : ℕ) → pair_place key pairs ≡ Some i → i < length pairs
place_below key [] i e = absurd (cc)
place_below key (first ∷ pairs) i e = below_at key first pairs (nat_eq key first.0) i (place_below key pairs) e

-- the pair in the place of a key has that key
key_at : (key : ℕ) (first : ℕ × ℕ) (pairs : List (ℕ × ℕ)) (t : Bool) (i : ℕ) → nat_eq key first.0 ≡ t → ((j : ℕ) → pair_place key pairs ≡ Some j → (slice_index_or pairs j (0, 0)).0 ≡ key) → (if t then Some 0 else option_map suc (pair_place key pairs)) ≡ Some i → (slice_index_or (first ∷ pairs) i (0, 0)).0 ≡ key
key_at key first pairs true zero is later e = sym ((Decides-eqb key first.0).0 is)
key_at key first pairs true (suc i) is later e = let q : zero ≡ suc i = some_is zero (suc i) e in absurd (omega arith)
key_at key first pairs false zero is later e = absurd (suc_zero (pair_place key pairs) e)
key_at key first pairs false (suc i) is later e = later i (suc_some (pair_place key pairs) i e)

pub place_key : (key : ℕ) (pairs : List (ℕ × ℕ)) (i : ℕ) → pair_place key pairs ≡ Some i → (slice_index_or pairs i (0, 0)).0 ≡ key
place_key key [] i e = absurd (cc)
place_key key (first ∷ pairs) i e = key_at key first pairs (nat_eq key first.0) i refl (place_key key pairs) e

-- a key without a place is that of no pair
missing_at : (key : ℕ) (first : ℕ × ℕ) (pairs : List (ℕ × ℕ)) (t : Bool) (i : ℕ) → nat_eq key first.0 ≡ t → ((j : ℕ) → pair_place key pairs ≡ None → j < length pairs → (slice_index_or pairs j (0, 0)).0 ≢ key) → (if t then Some 0 else option_map suc (pair_place key pairs)) ≡ None → i < suc (length pairs) → (slice_index_or (first ∷ pairs) i (0, 0)).0 ≢ key
missing_at key first pairs true i is later e below = absurd (cc)
missing_at key first pairs false zero is later e below = λ q. let yes : nat_eq key first.0 ≡ true = (Decides-eqb key first.0).1 (sym q) in cc
missing_at key first pairs false (suc i) is later e below = later i (suc_none (pair_place key pairs) e) (omega arith)

missing : (key : ℕ) (pairs : List (ℕ × ℕ)) (i : ℕ) → pair_place key pairs ≡ None → i < length pairs → (slice_index_or pairs i (0, 0)).0 ≢ key
missing key [] i e below = absurd (omega arith)
missing key (first ∷ pairs) i e below = missing_at key first pairs (nat_eq key first.0) i refl (λ j. missing key pairs j) e below

-- the first pair of a key is the one in its place
first_at : (key : ℕ) (pairs : List (ℕ × ℕ)) (i : ℕ) → i < length pairs → (slice_index_or pairs i (0, 0)).0 ≡ key → ((j : ℕ) → j < i → (slice_index_or pairs j (0, 0)).0 ≡ key → ⊥) → pair_place key pairs ≡ Some i
first_at key [] i below is none = absurd (omega arith)
first_at key (pair ∷ pairs) zero below is none = let t : nat_eq key pair.0 ≡ true = (Decides-eqb key pair.0).1 (sym is) in rw t refl
first_at key (pair ∷ pairs) (suc i) below is none =
    let t : nat_eq key pair.0 ≡ false = false_from_ne_true (nat_eq key pair.0) (λ e. none 0 (omega arith) (sym ((Decides-eqb key pair.0).0 e))) in
    rw t (ap (option_map suc) (first_at key pairs i (omega arith) is (λ j h e. none (suc j) (omega arith) e)))

no_pair : (key : ℕ) (pairs : List (ℕ × ℕ)) → ((j : ℕ) → j < length pairs → (slice_index_or pairs j (0, 0)).0 ≡ key → ⊥) → pair_place key pairs ≡ None
no_pair key [] none = refl
no_pair key (pair ∷ pairs) none =
    let t : nat_eq key pair.0 ≡ false = false_from_ne_true (nat_eq key pair.0) (λ e. none 0 (omega arith) (sym ((Decides-eqb key pair.0).0 e))) in
    rw t (ap (option_map suc) (no_pair key pairs (λ j h e. none (suc j) (omega arith) e)))

pub place_found : (places : List ℕ) (pairs : List (ℕ × ℕ)) (key place : ℕ) → ArePlaces places pairs → slice_index places key ≡ place → place < length pairs → (slice_index_or pairs place (0, 0)).0 ≡ key → pair_place key pairs ≡ Some place
place_found places pairs key place are is below there =
    first_at key pairs place below there (λ j h e. let here : slice_index places key ≡ j = ap (slice_index places) (sym e) ∙ are j (omega arith) in omega arith)

pub place_missed : (places : List ℕ) (pairs : List (ℕ × ℕ)) (key place : ℕ) → ArePlaces places pairs → slice_index places key ≡ place → (place < length pairs → (slice_index_or pairs place (0, 0)).0 ≡ key → ⊥) → pair_place key pairs ≡ None
place_missed places pairs key place are is none =
    no_pair key pairs (λ j h e. let here : place ≡ j = sym is ∙ ap (slice_index places) (sym e) ∙ are j h in none (omega arith) (ap (λ (n : ℕ). (slice_index_or pairs n (0, 0)).0) here ∙ e))

-- a pair in the place of its key changes no place
pub places_same : (places : List ℕ) (pairs : List (ℕ × ℕ)) (pair : ℕ × ℕ) (i : ℕ) → ArePlaces places pairs → pair_place pair.0 pairs ≡ Some i → ArePlaces places (put_pair pair pairs)
places_same places pairs pair i are there = subst (ArePlaces places) (sym (put_there pair pairs i there)) (λ j h. same_place (cases_eq j i) h)
  where
    below : i < length pairs
    below = place_below pair.0 pairs i there

    key_is : (slice_index_or pairs i (0, 0)).0 ≡ pair.0
    key_is = place_key pair.0 pairs i there

    same_place : {j : ℕ} → (j ≡ i) ⊎ (j ≢ i) → j < length (set pairs i pair) → slice_index places (slice_index_or (set pairs i pair) j (0, 0)).0 ≡ j
    same_place {j} (inl e) h =
        ap (λ (p : ℕ × ℕ). slice_index places p.0) (ap (λ (n : ℕ). slice_index_or (set pairs i pair) n (0, 0)) e ∙ get_or-set_same pairs i pair (0, 0) below)
        ∙ ap (slice_index places) (sym key_is) ∙ are i below ∙ sym e
    same_place {j} (inr d) h =
        ap (λ (p : ℕ × ℕ). slice_index places p.0) (get_or-set_other pairs i j pair (0, 0) d) ∙ are j (omega (arith, length-set pairs i pair))

-- a pair of a new key is noted
pub places_more : (places : List ℕ) (pairs : List (ℕ × ℕ)) (pair : ℕ × ℕ) (n : ℕ) → ArePlaces places pairs → pair_place pair.0 pairs ≡ None → pair.0 < length places → n ≡ length pairs → ArePlaces (set places pair.0 n) (pairs ++ pair ∷ [])
places_more places pairs pair n are none inside size j h = more_place (cases_lt j (length pairs))
  where
    other : (i : ℕ) → i < length pairs → (slice_index_or pairs i (0, 0)).0 ≢ pair.0
    other i below e = missing pair.0 pairs i none below e

    more_place : (j < length pairs) ⊎ (length pairs ≤ j) → slice_index (set places pair.0 n) (slice_index_or (pairs ++ pair ∷ []) j (0, 0)).0 ≡ j
    more_place (inl below) =
        ap (λ (p : ℕ × ℕ). slice_index (set places pair.0 n) p.0) (get_or-append pairs (pair ∷ []) (0, 0) j below)
        ∙ get_or-set_other places pair.0 (slice_index_or pairs j (0, 0)).0 n 0 (other j below) ∙ are j below
    more_place (inr above) =
        let last : j ≡ length pairs = omega (arith, length-append pairs (pair ∷ [])) in
        ap (λ (k : ℕ). slice_index (set places pair.0 n) (slice_index_or (pairs ++ pair ∷ []) k (0, 0)).0) last
        ∙ ap (λ (p : ℕ × ℕ). slice_index (set places pair.0 n) p.0) (get_or-append_seam pairs pair [] (0, 0))
        ∙ get_or-set_same places pair.0 n 0 inside ∙ size ∙ sym last
