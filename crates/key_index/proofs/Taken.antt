-- A key is taken out, and the last takes its place.
use Rattle.std.proofs.Common.{◌≡◌, ◌≢◌, ℕ, zero, suc, ◌+◌, ◌<◌, ◌≤◌, List, [], ◌∷◌, length, set, take, get_or, refl, ap, sym, ◌∙◌, arith, subst, Bool, true, false}
use Rattle.std.specs.Prelude.{map, Option, Some, None, if◌then◌else◌}
use Rattle.std.specs.Str.{bytes_eq}
use Rattle.key_index.specs.Keys.{place_from, LacksKey, HasDistinctKeys, last_of, but_last, taken_out}
use Rattle.key_index.proofs.Keys.{same_bytes, lacking_has_no_place}

lacks_last : (key k : List ℕ) (ks : List (List ℕ)) → LacksKey key (k ∷ ks) → last_of k ks ≢ key
lacks_last key k [] h = h.0
lacks_last key k (x ∷ ks) h = lacks_last key x ks h.1

lacks_get : (key : List ℕ) (ks : List (List ℕ)) (i : ℕ) (d : List ℕ) → LacksKey key ks → i < length ks → get_or ks i d ≢ key
lacks_get key [] i d h l = absurd (omega arith)
lacks_get key (k ∷ ks) zero d h l = h.0
lacks_get key (k ∷ ks) (suc i) d h l = lacks_get key ks i d h.1 (omega arith)

pub last_is : {X : Type 0} (x : X) (xs : List X) (n : ℕ) (d : X) → length (x ∷ xs) ≡ n + 1 → last_of x xs ≡ get_or (x ∷ xs) n d
last_is x [] zero d e = refl
last_is x [] (suc n) d e = absurd (omega arith)
last_is x (y ∷ ys) zero d e = absurd (omega arith)
last_is x (y ∷ ys) (suc n) d e = last_is y ys n d (omega arith)

-- two tests of keys that differ may be asked in either order
either_first : (a b q : List ℕ) (x y z : Option ℕ) (s t : Bool) → bytes_eq a q ≡ s → bytes_eq b q ≡ t → a ≢ b → (if s then x else (if t then y else z)) ≡ (if t then y else (if s then x else z))
either_first a b q x y z true true e f h = absurd (h (same_bytes a q e ∙ sym (same_bytes b q f)))
either_first a b q x y z true false e f h = refl
either_first a b q x y z false true e f h = refl
either_first a b q x y z false false e f h = refl

alone : (s : Bool) (o : ℕ) (x : Option ℕ) → None ≡ (if s then None else (if s then x else None))
alone true o x = refl
alone false o x = refl

place_but_last : (o : ℕ) (q k : List ℕ) (ks : List (List ℕ)) → HasDistinctKeys (k ∷ ks) → place_from o q (but_last k ks) ≡ (if bytes_eq (last_of k ks) q then None else place_from o q (k ∷ ks))
place_but_last o q k [] h = alone (bytes_eq k q) o (Some o)
place_but_last o q k (x ∷ ks) h =
    ap (λ r. if bytes_eq k q then Some o else r) (place_but_last (o + 1) q x ks h.1) ∙
    either_first k (last_of x ks) q (Some o) None (place_from (o + 1) q (x ∷ ks)) (bytes_eq k q) (bytes_eq (last_of x ks) q) refl refl (λ e. lacks_last k x ks h.0 (sym e))

first_step : (o : ℕ) (q x l : List ℕ) (rest : Option ℕ) (s t : Bool) → bytes_eq x q ≡ s → bytes_eq l q ≡ t → l ≢ x → (s ≡ true → rest ≡ None) → (if t then Some o else (if t then None else rest)) ≡ (if s then None else (if t then Some (o + 0) else (if s then Some o else rest)))
first_step o q x l rest true true e f h none = absurd (h (same_bytes l q f ∙ sym (same_bytes x q e)))
first_step o q x l rest true false e f h none = none refl
first_step o q x l rest false true e f h none = ap Some (omega arith)
first_step o q x l rest false false e f h none = refl

later_step : (o i : ℕ) (q x k l : List ℕ) (rest : Option ℕ) (s t u : Bool) → bytes_eq x q ≡ s → bytes_eq k q ≡ t → bytes_eq l q ≡ u → k ≢ x → l ≢ x → (if s then Some o else (if t then None else (if u then Some (o + 1 + i) else rest))) ≡ (if t then None else (if u then Some (o + suc i) else (if s then Some o else rest)))
later_step o i q x k l rest true true u e f g h m = absurd (h (same_bytes k q f ∙ sym (same_bytes x q e)))
later_step o i q x k l rest true false true e f g h m = absurd (m (same_bytes l q g ∙ sym (same_bytes x q e)))
later_step o i q x k l rest true false false e f g h m = refl
later_step o i q x k l rest false true u e f g h m = refl
later_step o i q x k l rest false false true e f g h m = ap Some (omega arith)
later_step o i q x k l rest false false false e f g h m = refl

lacks_same : (x q : List ℕ) (ks : List (List ℕ)) → LacksKey x ks → bytes_eq x q ≡ true → (o : ℕ) → place_from o q ks ≡ None
lacks_same x q ks h e o = lacking_has_no_place o q ks (subst (λ k. LacksKey k ks) (same_bytes x q e) h)

alone_first : (s : Bool) (o : ℕ) → None ≡ (if s then None else (if s then Some (o + 0) else (if s then Some o else None)))
alone_first true o = refl
alone_first false o = refl

-- Without the key at i, and with the last in its place, each key is found where it is.
pub place_taken : (o : ℕ) (q : List ℕ) (ks : List (List ℕ)) (i n : ℕ) (d : List ℕ) → HasDistinctKeys ks → length ks ≡ n + 1 → i ≤ n → place_from o q (taken_out i ks) ≡ (if bytes_eq (get_or ks i d) q then None else (if bytes_eq (get_or ks n d) q then Some (o + i) else place_from o q ks))
place_taken o q [] i n d h e l = absurd (omega arith)
place_taken o q (x ∷ []) zero zero d h e l = alone_first (bytes_eq x q) o
place_taken o q (x ∷ []) zero (suc n) d h e l = absurd (omega arith)
place_taken o q (x ∷ []) (suc i) n d h e l = absurd (omega arith)
place_taken o q (x ∷ y ∷ ys) zero zero d h e l = absurd (omega arith)
place_taken o q (x ∷ y ∷ ys) zero (suc n) d h e l =
    let last : last_of y ys ≡ get_or (y ∷ ys) n d = last_is y ys n d (omega arith) in
    ap (λ r. if bytes_eq (last_of y ys) q then Some o else r) (place_but_last (o + 1) q y ys h.1) ∙
    (first_step o q x (last_of y ys) (place_from (o + 1) q (y ∷ ys)) (bytes_eq x q) (bytes_eq (last_of y ys) q) refl refl (lacks_last x y ys h.0) (λ s. lacks_same x q (y ∷ ys) h.0 s (o + 1)) ∙
    ap (λ k. if bytes_eq x q then None else (if bytes_eq k q then Some (o + 0) else (if bytes_eq x q then Some o else place_from (o + 1) q (y ∷ ys)))) last)
place_taken o q (x ∷ y ∷ ys) (suc i) zero d h e l = absurd (omega arith)
place_taken o q (x ∷ y ∷ ys) (suc i) (suc n) d h e l =
    ap (λ r. if bytes_eq x q then Some o else r) (place_taken (o + 1) q (y ∷ ys) i n d h.1 (omega arith) (omega arith)) ∙
    later_step o i q x (get_or (y ∷ ys) i d) (get_or (y ∷ ys) n d) (place_from (o + 1) q (y ∷ ys)) (bytes_eq x q) (bytes_eq (get_or (y ∷ ys) i d) q) (bytes_eq (get_or (y ∷ ys) n d) q) refl refl refl (lacks_get x (y ∷ ys) i d h.0 (omega arith)) (lacks_get x (y ∷ ys) n d h.0 (omega arith))

take_front : {X : Type 0} (x : X) (xs : List X) (n : ℕ) → length (x ∷ xs) ≡ n + 1 → take n (x ∷ xs) ≡ but_last x xs
take_front x [] zero e = refl
take_front x [] (suc n) e = absurd (omega arith)
take_front x (y ∷ ys) zero e = absurd (omega arith)
take_front x (y ∷ ys) (suc n) e = ap (λ zs. x ∷ zs) (take_front y ys n (omega arith))

-- What a vector has once an element is taken out of it.
pub vector_taken : {X : Type 0} (xs : List X) (i n : ℕ) (d : X) → length xs ≡ n + 1 → i ≤ n → take n (set xs i (get_or xs n d)) ≡ taken_out i xs
vector_taken [] i n d e l = absurd (omega arith)
vector_taken (x ∷ []) zero zero d e l = refl
vector_taken (x ∷ []) zero (suc n) d e l = absurd (omega arith)
vector_taken (x ∷ []) (suc i) n d e l = absurd (omega arith)
vector_taken (x ∷ y ∷ ys) zero zero d e l = absurd (omega arith)
vector_taken (x ∷ y ∷ ys) zero (suc n) d e l = ap (λ z. z ∷ take n (y ∷ ys)) (sym (last_is y ys n d (omega arith))) ∙ ap (λ zs. last_of y ys ∷ zs) (take_front y ys n (omega arith))
vector_taken (x ∷ y ∷ ys) (suc i) zero d e l = absurd (omega arith)
vector_taken (x ∷ y ∷ ys) (suc i) (suc n) d e l = ap (λ zs. x ∷ zs) (vector_taken (y ∷ ys) i n d (omega arith) (omega arith))

map_last : {X Y : Type 0} (f : X → Y) (x : X) (xs : List X) → f (last_of x xs) ≡ last_of (f x) (map f xs)
map_last f x [] = refl
map_last f x (y ∷ ys) = map_last f y ys

map_but_last : {X Y : Type 0} (f : X → Y) (x : X) (xs : List X) → map f (but_last x xs) ≡ but_last (f x) (map f xs)
map_but_last f x [] = refl
map_but_last f x (y ∷ ys) = ap (λ zs. f x ∷ zs) (map_but_last f y ys)

-- What the elements are seen as is taken out with them.
pub map_taken : {X Y : Type 0} (f : X → Y) (i : ℕ) (xs : List X) → map f (taken_out i xs) ≡ taken_out i (map f xs)
map_taken f i [] = refl
map_taken f zero (x ∷ []) = refl
map_taken f zero (x ∷ y ∷ ys) = ap (λ z. z ∷ map f (but_last y ys)) (map_last f y ys) ∙ ap (λ zs. last_of (f y) (map f ys) ∷ zs) (map_but_last f y ys)
map_taken f (suc i) (x ∷ xs) = ap (λ zs. f x ∷ zs) (map_taken f i xs)
