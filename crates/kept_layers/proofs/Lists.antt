-- Lists of numbers, and lists that are related pair by pair.
use Rattle.std.proofs.Common.{◌≡◌, ◌≢◌, ℕ, zero, suc, ◌<◌, ◌≤◌, List, [], ◌∷◌, length, map, get_or, take, refl, ap, sym, subst, arith}
use Rattle.std.specs.Prelude.{insert, remove, slice_set}
use Rattle.kept_layers.specs.Holding.{AreApart, IsOther, Pairwise}

module _ {A B : Type 0} (P : A → B → Type 0) where
  pub pairs_insert : (xs : List A) (ys : List B) (i : ℕ) (a : A) (b : B) → P a b → Pairwise P xs ys
      → Pairwise P (insert xs i a) (insert ys i b)
  pairs_insert [] [] zero a b p h = (p, tt)
  pairs_insert [] [] (suc i) a b p h = (p, tt)
  pairs_insert (x ∷ xs) (y ∷ ys) zero a b p h = (p, h)
  pairs_insert (x ∷ xs) (y ∷ ys) (suc i) a b p h = (h.0, pairs_insert xs ys i a b p h.1)
  pairs_insert [] (y ∷ ys) i a b p h = absurd h
  pairs_insert (x ∷ xs) [] i a b p h = absurd h

  pub pairs_remove : (xs : List A) (ys : List B) (i : ℕ) → Pairwise P xs ys → Pairwise P (remove xs i) (remove ys i)
  pairs_remove [] [] zero h = tt
  pairs_remove [] [] (suc i) h = tt
  pairs_remove (x ∷ xs) (y ∷ ys) zero h = h.1
  pairs_remove (x ∷ xs) (y ∷ ys) (suc i) h = (h.0, pairs_remove xs ys i h.1)
  pairs_remove [] (y ∷ ys) i h = absurd h
  pairs_remove (x ∷ xs) [] i h = absurd h

  pub pairs_at : (xs : List A) (ys : List B) (i : ℕ) (a : A) (b : B) → i < length xs → Pairwise P xs ys
      → P (get_or xs i a) (get_or ys i b)
  pairs_at [] ys i a b within h = absurd (omega (arith, within))
  pairs_at (x ∷ xs) (y ∷ ys) zero a b within h = h.0
  pairs_at (x ∷ xs) (y ∷ ys) (suc i) a b within h = pairs_at xs ys i a b (omega (arith, within)) h.1
  pairs_at (x ∷ xs) [] i a b within h = absurd h

  pub pairs_lengths : (xs : List A) (ys : List B) → Pairwise P xs ys → length xs ≡ length ys
  pairs_lengths [] [] h = refl
  pairs_lengths (x ∷ xs) (y ∷ ys) h = ap suc (pairs_lengths xs ys h.1)
  pairs_lengths [] (y ∷ ys) h = absurd h
  pairs_lengths (x ∷ xs) [] h = absurd h

module _ {A B : Type 0} (P Q : A → B → Type 0) where
  -- all pairs stay related
  pub pairs_same : ((a : A) (b : B) → P a b → Q a b) → (xs : List A) (ys : List B) → Pairwise P xs ys → Pairwise Q xs ys
  pairs_same f [] [] h = tt
  pairs_same f (x ∷ xs) (y ∷ ys) h = (f x y h.0, pairs_same f xs ys h.1)
  pairs_same f [] (y ∷ ys) h = absurd h
  pairs_same f (x ∷ xs) [] h = absurd h

-- ---- numbers

pub other_at : (n : ℕ) (ns : List ℕ) (i d : ℕ) → i < length ns → IsOther n ns → n ≢ get_or ns i d
other_at n [] i d within h = absurd (omega (arith, within))
other_at n (m ∷ ns) zero d within h = h.0
other_at n (m ∷ ns) (suc i) d within h = other_at n ns i d (omega (arith, within)) h.1

turned : (n m : ℕ) → n ≢ m → m ≢ n
turned n m h e = h (sym e)

other_insert : (n m : ℕ) (ns : List ℕ) (i : ℕ) → n ≢ m → IsOther n ns → IsOther n (insert ns i m)
other_insert n m [] zero e h = (e, tt)
other_insert n m [] (suc i) e h = (e, tt)
other_insert n m (k ∷ ns) zero e h = (e, h)
other_insert n m (k ∷ ns) (suc i) e h = (h.0, other_insert n m ns i e h.1)

pub other_remove : (n : ℕ) (ns : List ℕ) (i : ℕ) → IsOther n ns → IsOther n (remove ns i)
other_remove n [] zero h = tt
other_remove n [] (suc i) h = tt
other_remove n (k ∷ ns) zero h = h.1
other_remove n (k ∷ ns) (suc i) h = (h.0, other_remove n ns i h.1)

-- a number that is new
pub apart_insert : (n : ℕ) (ns : List ℕ) (i : ℕ) → IsOther n ns → AreApart ns → AreApart (insert ns i n)
apart_insert n [] zero e h = (tt, tt)
apart_insert n [] (suc i) e h = (tt, tt)
apart_insert n (k ∷ ns) zero e h = (e, h)
apart_insert n (k ∷ ns) (suc i) e h = (other_insert k n ns i (turned n k e.0) h.0, apart_insert n ns i e.1 h.1)

pub apart_remove : (ns : List ℕ) (i : ℕ) → AreApart ns → AreApart (remove ns i)
apart_remove [] zero h = tt
apart_remove [] (suc i) h = tt
apart_remove (k ∷ ns) zero h = h.1
apart_remove (k ∷ ns) (suc i) h = (other_remove k ns i h.0, apart_remove ns i h.1)

-- the number at a place is none of the others
pub removed_other : (ns : List ℕ) (i d : ℕ) → i < length ns → AreApart ns → IsOther (get_or ns i d) (remove ns i)
removed_other [] i d within h = absurd (omega (arith, within))
removed_other (k ∷ ns) zero d within h = h.0
removed_other (k ∷ ns) (suc i) d within h =
    (turned k (get_or ns i d) (other_at k ns i d (omega (arith, within)) h.0), removed_other ns i d (omega (arith, within)) h.1)

-- a pair that moves
pub pairs_move : {B : Type 0} (P : ℕ → B → Type 0) (ns : List ℕ) (ts : List B) (from to n : ℕ) (d : B) → from < length ns → n ≡ get_or ns from n
    → Pairwise P ns ts → Pairwise P (insert (remove ns from) to n) (insert (remove ts from) to (get_or ts from d))
pairs_move P ns ts from to n d within is h = pairs_insert P (remove ns from) (remove ts from) to n (get_or ts from d)
    (subst (λ k. P k (get_or ts from d)) (sym is) (pairs_at P ns ts from n d within h)) (pairs_remove P ns ts from h)

-- ---- what changes at one number alone

pub map_others : {A : Type 0} (f g : ℕ → A) (n : ℕ) (ns : List ℕ) → IsOther n ns → ((m : ℕ) → n ≢ m → g m ≡ f m) → map g ns ≡ map f ns
map_others f g n [] other h = refl
map_others f g n (m ∷ ns) other h = λ i. h m other.0 i ∷ map_others f g n ns other.1 h i

pub map_at : {A : Type 0} (f g : ℕ → A) (ns : List ℕ) (i d : ℕ) → i < length ns → AreApart ns
    → ((m : ℕ) → get_or ns i d ≢ m → g m ≡ f m) → map g ns ≡ slice_set (map f ns) i (g (get_or ns i d))
map_at f g [] i d within apart h = absurd (omega (arith, within))
map_at f g (k ∷ ns) zero d within apart h = λ i. g k ∷ map_others f g k ns apart.0 h i
map_at f g (k ∷ ns) (suc i) d within apart h =
    let this = h k (turned k (get_or ns i d) (other_at k ns i d (omega (arith, within)) apart.0)) in
    let more = map_at f g ns i d (omega (arith, within)) apart.1 h in
    λ j. this j ∷ more j

pub map_all : {A : Type 0} (f g : ℕ → A) (ns : List ℕ) → ((m : ℕ) → g m ≡ f m) → map g ns ≡ map f ns
map_all f g [] h = refl
map_all f g (m ∷ ns) h = λ i. h m i ∷ map_all f g ns h i

module _ {B : Type 0} (P Q : ℕ → B → Type 0) where
  pub pairs_others : (n : ℕ) (ns : List ℕ) (ts : List B) → IsOther n ns → ((m : ℕ) (t : B) → n ≢ m → P m t → Q m t)
      → Pairwise P ns ts → Pairwise Q ns ts
  pairs_others n [] [] other f h = tt
  pairs_others n (m ∷ ns) (t ∷ ts) other f h = (f m t other.0 h.0, pairs_others n ns ts other.1 f h.1)
  pairs_others n [] (t ∷ ts) other f h = absurd h
  pairs_others n (m ∷ ns) [] other f h = absurd h

  pub pairs_change : (ns : List ℕ) (ts : List B) (i d : ℕ) (u : B) → i < length ns → AreApart ns
      → ((m : ℕ) (t : B) → get_or ns i d ≢ m → P m t → Q m t) → Q (get_or ns i d) u
      → Pairwise P ns ts → Pairwise Q ns (slice_set ts i u)
  pairs_change [] ts i d u within apart f q h = absurd (omega (arith, within))
  pairs_change (k ∷ ns) (t ∷ ts) zero d u within apart f q h = (q, pairs_others k ns ts apart.0 f h.1)
  pairs_change (k ∷ ns) (t ∷ ts) (suc i) d u within apart f q h = (
    f k t (turned k (get_or ns i d) (other_at k ns i d (omega (arith, within)) apart.0)) h.0,
    pairs_change ns ts i d u (omega (arith, within)) apart.1 f q h.1,
  )
  pairs_change (k ∷ ns) [] i d u within apart f q h = absurd h

-- ---- pairs by their places

pub pairs_from : {A B : Type 0} (P : A → B → Type 0) (a : A) (b : B) (xs : List A) (ys : List B) → length xs ≡ length ys
    → ((p : ℕ) → p < length xs → P (get_or xs p a) (get_or ys p b)) → Pairwise P xs ys
pairs_from P a b [] [] same h = tt
pairs_from P a b [] (y ∷ ys) same h = absurd (omega (arith, same))
pairs_from P a b (x ∷ xs) [] same h = absurd (omega (arith, same))
pairs_from P a b (x ∷ xs) (y ∷ ys) same h =
    (h 0 (omega arith), pairs_from P a b xs ys (omega (arith, same)) (λ p within. h (suc p) (omega (arith, within))))

-- numbers at two places are two
pub apart_at : (ns : List ℕ) (p q d e : ℕ) → p < length ns → q < length ns → p ≢ q → AreApart ns → get_or ns p d ≢ get_or ns q e
apart_at [] p q d e within also other apart = absurd (omega (arith, within))
apart_at (n ∷ ns) zero zero d e within also other apart = absurd (other refl)
apart_at (n ∷ ns) zero (suc q) d e within also other apart = other_at n ns q e (omega (arith, also)) apart.0
apart_at (n ∷ ns) (suc p) zero d e within also other apart = turned n (get_or ns p d) (other_at n ns p d (omega (arith, within)) apart.0)
apart_at (n ∷ ns) (suc p) (suc q) d e within also other apart =
    apart_at ns p q d e (omega (arith, within)) (omega (arith, also)) (λ same. other (ap suc same)) apart.1

-- within a list the element is the same, whatever is given beyond it
pub get_same : {A : Type 0} (xs : List A) (i : ℕ) (d e : A) → i < length xs → get_or xs i d ≡ get_or xs i e
get_same [] i d e within = absurd (omega (arith, within))
get_same (x ∷ xs) zero d e within = refl
get_same (x ∷ xs) (suc i) d e within = get_same xs i d e (omega (arith, within))

-- ---- one element after another

pub insert_next : {A : Type 0} (xs : List A) (i : ℕ) (d : A) → i < length xs → insert (take i xs) i (get_or xs i d) ≡ take (suc i) xs
insert_next [] i d within = absurd (omega (arith, within))
insert_next (x ∷ xs) zero d within = refl
insert_next (x ∷ xs) (suc i) d within = ap (λ l. x ∷ l) (insert_next xs i d (omega (arith, within)))

pub take_whole : {A : Type 0} (xs : List A) (i : ℕ) → length xs ≤ i → take i xs ≡ xs
take_whole [] zero h = refl
take_whole [] (suc i) h = refl
take_whole (x ∷ xs) zero h = absurd (omega (arith, h))
take_whole (x ∷ xs) (suc i) h = ap (λ l. x ∷ l) (take_whole xs i (omega (arith, h)))

pub take_length : {A : Type 0} (xs : List A) (i : ℕ) → i ≤ length xs → length (take i xs) ≡ i
take_length xs zero h = refl
take_length [] (suc i) h = absurd (omega (arith, h))
take_length (x ∷ xs) (suc i) h = ap suc (take_length xs i (omega (arith, h)))
