-- Places of keys in a list.
use Rattle.std.proofs.Common.{◌≡◌, ◌≢◌, ℕ, zero, suc, ◌+◌, ◌<◌, ◌≤◌, List, [], ◌∷◌, ◌++◌, length, take, drop, get_or, refl, ap, sym, ◌∙◌, arith, Bool, true, false}
use Rattle.std.specs.Prelude.{map, Option, Some, None, if◌then◌else◌}
use Rattle.std.specs.Str.{bytes_eq}
use Rattle.std.proofs.lemmas.Bool.{cond-false, false_from_ne_true}
use Rattle.std.proofs.lemmas.List.{drop-append-le, length-drop}
use Rattle.std.proofs.lemmas.Slice.Eq.{bytes_eq-Decides}
use Rattle.key_index.specs.Keys.{place_from, LacksKey, HasDistinctKeys, is_at}

pub same_bytes : (a b : List ℕ) → bytes_eq a b ≡ true → a ≡ b
same_bytes a b e = (bytes_eq-Decides a b).0 e

pub bytes_same : (a b : List ℕ) → a ≡ b → bytes_eq a b ≡ true
bytes_same a b e = (bytes_eq-Decides a b).1 e

pub bytes_differ : (a b : List ℕ) → a ≢ b → bytes_eq a b ≡ false
bytes_differ a b h = false_from_ne_true (bytes_eq a b) (λ e. h (same_bytes a b e))

-- a key that is not there has no place
pub lacking_has_no_place : (i : ℕ) (key : List ℕ) (ks : List (List ℕ)) → LacksKey key ks → place_from i key ks ≡ None
lacking_has_no_place i key [] h = refl
lacking_has_no_place i key (k ∷ ks) h = cond-false (bytes_eq k key) (Some i) (place_from (i + 1) key ks) (bytes_differ k key h.0) ∙ lacking_has_no_place (i + 1) key ks h.1

pub lacks-drop : (key : List ℕ) (n : ℕ) (ks : List (List ℕ)) → LacksKey key ks → LacksKey key (drop n ks)
lacks-drop key zero ks h = h
lacks-drop key (suc n) [] h = tt
lacks-drop key (suc n) (k ∷ ks) h = lacks-drop key n ks h.1

place_step : (i : ℕ) (q x k : List ℕ) (n : ℕ) (rest : Option ℕ) (first last : Bool) → bytes_eq x q ≡ first → bytes_eq k q ≡ last → x ≢ k → (if first then Some i else (if last then Some (i + 1 + n) else rest)) ≡ (if last then Some (i + suc n) else (if first then Some i else rest))
place_step i q x k n rest true true e f h = absurd (h (same_bytes x q e ∙ sym (same_bytes k q f)))
place_step i q x k n rest true false e f h = refl
place_step i q x k n rest false true e f h = ap Some (omega arith)
place_step i q x k n rest false false e f h = refl

pub place_push : (i : ℕ) (q : List ℕ) (ks : List (List ℕ)) (k : List ℕ) → LacksKey k ks → place_from i q (ks ++ k ∷ []) ≡ (if bytes_eq k q then Some (i + length ks) else place_from i q ks)
place_push i q [] k h = ap (λ n. if bytes_eq k q then Some n else None) (omega arith)
place_push i q (x ∷ ks) k h =
    ap (λ r. if bytes_eq x q then Some i else r) (place_push (i + 1) q ks k h.1) ∙ place_step i q x k (length ks) (place_from (i + 1) q ks) (bytes_eq x q) (bytes_eq k q) refl refl h.0

-- one more key after the first 16
pub place_more : (q : List ℕ) (ks : List (List ℕ)) (k : List ℕ) → LacksKey k ks → 16 ≤ length ks → place_from 16 q (drop 16 (ks ++ k ∷ [])) ≡ (if bytes_eq k q then Some (length ks) else place_from 16 q (drop 16 ks))
place_more q ks k h long =
    ap (place_from 16 q) (drop-append-le 16 ks (k ∷ []) long) ∙ (place_push 16 q (drop 16 ks) k (lacks-drop k 16 ks h) ∙ ap (λ n. if bytes_eq k q then Some n else place_from 16 q (drop 16 ks)) (simp length-drop (omega arith)))

-- one more key changes nothing at the places before it
pub is_at-more : (q : List ℕ) (ks : List (List ℕ)) (k : List ℕ) (p : ℕ) → p < length ks → is_at q (ks ++ k ∷ []) p ≡ is_at q ks p
is_at-more q [] k p h = absurd (omega arith)
is_at-more q (x ∷ ks) k zero h = refl
is_at-more q (x ∷ ks) k (suc p) h = is_at-more q ks k p (omega arith)

pub is_at-last : (q : List ℕ) (ks : List (List ℕ)) (k : List ℕ) → is_at q (ks ++ k ∷ []) (length ks) ≡ bytes_eq k q
is_at-last q [] k = refl
is_at-last q (x ∷ ks) k = is_at-last q ks k

-- what is at a place of entries that have keys
pub is_at-within : {T : Type 0} (key : T → List ℕ) (q : List ℕ) (es : List T) (p : ℕ) (e : T) → p < length es → e ≡ get_or es p e → is_at q (map key es) p ≡ bytes_eq (key e) q
is_at-within key q [] p e h r = absurd (omega arith)
is_at-within key q (x ∷ es) zero e h r = ap (λ y. bytes_eq (key y) q) (sym r)
is_at-within key q (x ∷ es) (suc p) e h r = is_at-within key q es p e (omega arith) r

pub is_at-past : {T : Type 0} (key : T → List ℕ) (q : List ℕ) (es : List T) (p : ℕ) → length es ≤ p → is_at q (map key es) p ≡ false
is_at-past key q [] p h = refl
is_at-past key q (x ∷ es) zero h = absurd (omega arith)
is_at-past key q (x ∷ es) (suc p) h = is_at-past key q es p (omega arith)

-- the keys before a place lack the key there
lacks_at : (key : List ℕ) (ks : List (List ℕ)) (i : ℕ) (d : List ℕ) → LacksKey key ks → i < length ks → key ≢ get_or ks i d
lacks_at key [] i d h l = absurd (omega arith)
lacks_at key (k ∷ ks) zero d h l = λ e. h.0 (sym e)
lacks_at key (k ∷ ks) (suc i) d h l = lacks_at key ks i d h.1 (omega arith)

pub lacks_before : (ks : List (List ℕ)) (i : ℕ) (d : List ℕ) → HasDistinctKeys ks → i < length ks → LacksKey (get_or ks i d) (take i ks)
lacks_before [] i d h l = absurd (omega arith)
lacks_before (k ∷ ks) zero d h l = tt
lacks_before (k ∷ ks) (suc i) d h l = (lacks_at k ks i d h.0 (omega arith), lacks_before ks i d h.1 (omega arith))

-- a key that has no place is not the first, and has none among the others
pub none_first : (i : ℕ) (rest : Option ℕ) (same : Bool) → (if same then Some i else rest) ≡ None → (same ≡ false) × (rest ≡ None)
none_first i rest true e = absurd (cc)
none_first i rest false e = (refl, e)

below_first : (i n : ℕ) (rest : Option ℕ) (same : Bool) → n < i → (if same then Some i else rest) ≡ Some n → rest ≡ Some n
below_first i n rest true l e = absurd (let p : i ≡ n = cc in omega arith)
below_first i n rest false l e = e

-- a place is no less than the number from which places are counted
pub not_below : (i n : ℕ) (q : List ℕ) (ks : List (List ℕ)) → n < i → place_from i q ks ≡ Some n → ⊥
not_below i n q [] l e = absurd (cc)
not_below i n q (k ∷ ks) l e = not_below (i + 1) n q ks (omega arith) (below_first i n (place_from (i + 1) q ks) (bytes_eq k q) l e)

-- a key that is not among the first n is among the others
pub place_later : (i n : ℕ) (q : List ℕ) (ks : List (List ℕ)) → place_from i q (take n ks) ≡ None → n ≤ length ks → place_from i q ks ≡ place_from (i + n) q (drop n ks)
place_later i zero q ks e h = ap (λ m. place_from m q ks) (omega arith)
place_later i (suc n) q [] e h = absurd (omega arith)
place_later i (suc n) q (k ∷ ks) e h =
    let parts = none_first i (place_from (i + 1) q (take n ks)) (bytes_eq k q) e in
    cond-false (bytes_eq k q) (Some i) (place_from (i + 1) q ks) parts.0 ∙ (place_later (i + 1) n q ks parts.1 (omega arith) ∙ ap (λ m. place_from m q (drop n ks)) (omega arith))

some_first : (i j : ℕ) (rest later : Option ℕ) (same : Bool) → (if same then Some i else rest) ≡ Some j → (rest ≡ Some j → later ≡ Some j) → (if same then Some i else later) ≡ Some j
some_first i j rest later true e h = e
some_first i j rest later false e h = h e

-- and a key among the first n is found there
pub place_earlier : (i n : ℕ) (q : List ℕ) (ks : List (List ℕ)) (j : ℕ) → place_from i q (take n ks) ≡ Some j → place_from i q ks ≡ Some j
place_earlier i zero q ks j e = absurd (cc)
place_earlier i (suc n) q [] j e = e
place_earlier i (suc n) q (k ∷ ks) j e = some_first i j (place_from (i + 1) q (take n ks)) (place_from (i + 1) q ks) (bytes_eq k q) e (λ f. place_earlier (i + 1) n q ks j f)

-- the key at a place of entries
pub key_at : {T : Type 0} (key : T → List ℕ) (es : List T) (p : ℕ) (e : T) → p < length es → e ≡ get_or es p e → (d : List ℕ) → key e ≡ get_or (map key es) p d
key_at key [] p e h r d = absurd (omega arith)
key_at key (x ∷ es) zero e h r d = ap key r
key_at key (x ∷ es) (suc p) e h r d = key_at key es p e (omega arith) r d
