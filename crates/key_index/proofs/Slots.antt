-- Slots and buckets as keys are added.
use Rattle.std.proofs.Common.{◌≡◌, ◌≢◌, ℕ, zero, suc, ◌+◌, ◌<◌, ◌≤◌, List, [], ◌∷◌, ◌++◌, length, get_or, set, replicate, refl, ap, sym, ◌∙◌, subst, arith, Bool, true, false}
use Rattle.std.specs.Prelude.{Some, None, nat_eq, not, ◌&&◌, if◌then◌else◌}
use Rattle.std.specs.Str.{bytes_eq}
use Rattle.std.proofs.lemmas.Bool.{cond-true, cond-false, and_from, and_left, and_right, not_from_true, not_from_false, eq-eqb, ne_eqb}
use Rattle.key_index.specs.declared.table.Slot.{Slot}
use Rattle.key_index.specs.declared.table.Bucket.{Bucket}
use Rattle.key_index.specs.Keys.{is_at}
use Rattle.key_index.specs.Table.{is_slot_of, slot_place, slots_at, AreBelow, AllBelow, IsFree}
use Rattle.key_index.proofs.Keys.{is_at-more, is_at-last, bytes_same, none_first}

-- the slot of a key with this hash, whose place is n
abbrev pub slot_of : ℕ → ℕ → Slot
slot_of hash n = record { hash = hash; place = n }

slot_more : (hash : ℕ) (q : List ℕ) (ks : List (List ℕ)) (k : List ℕ) (s : Slot) → s.place < length ks → is_slot_of hash q (ks ++ k ∷ []) s ≡ is_slot_of hash q ks s
slot_more hash q ks k s h = ap (λ (b : Bool). nat_eq s.hash hash && (not (nat_eq s.place 0) && b)) (is_at-more q ks k s.place h)

pub slots_more : (hash : ℕ) (q : List ℕ) (ks : List (List ℕ)) (k : List ℕ) (ss : List Slot) → AreBelow (length ks) ss → slot_place hash q (ks ++ k ∷ []) ss ≡ slot_place hash q ks ss
slots_more hash q ks k [] h = refl
slots_more hash q ks k (s ∷ ss) h = λ i. if slot_more hash q ks k s h.0 i then Some s.place else slots_more hash q ks k ss h.1 i

pub free_is_of_none : (hash : ℕ) (q : List ℕ) (ks : List (List ℕ)) (s : Slot) → s.place ≡ 0 → is_slot_of hash q ks s ≡ false
free_is_of_none hash q ks s h = and_right (nat_eq s.hash hash) _ (and_left (not (nat_eq s.place 0)) (is_at q ks s.place) (not_from_true (nat_eq s.place 0) (eq-eqb s.place 0 h)))

-- the new slot is of its key alone
new_is_other : (hash h : ℕ) (q : List ℕ) (ks : List (List ℕ)) (k : List ℕ) → bytes_eq k q ≡ false → is_slot_of hash q (ks ++ k ∷ []) (slot_of h (length ks)) ≡ false
new_is_other hash h q ks k e = and_right (nat_eq h hash) _ (and_right (not (nat_eq (length ks) 0)) _ (is_at-last q ks k ∙ e))

new_is_of_key : (hash : ℕ) (ks : List (List ℕ)) (k : List ℕ) → 0 < length ks → is_slot_of hash k (ks ++ k ∷ []) (slot_of hash (length ks)) ≡ true
new_is_of_key hash ks k h =
    and_from (nat_eq hash hash) _ (eq-eqb hash hash refl)
    (and_from (not (nat_eq (length ks) 0)) _ (not_from_false (nat_eq (length ks) 0) (ne_eqb (length ks) 0 (λ e. omega arith))) (is_at-last k ks k ∙ bytes_same k k refl))

pub others_stay : (hash h : ℕ) (q : List ℕ) (ks : List (List ℕ)) (k : List ℕ) (ss : List Slot) (i : ℕ) → bytes_eq k q ≡ false → IsFree i ss → AreBelow (length ks) ss → slot_place hash q (ks ++ k ∷ []) (set ss i (slot_of h (length ks))) ≡ slot_place hash q ks ss
others_stay hash h q ks k [] i e f b = absurd f
others_stay hash h q ks k (s ∷ ss) zero e f b =
    cond-false (is_slot_of hash q (ks ++ k ∷ []) (slot_of h (length ks))) (Some (length ks)) (slot_place hash q (ks ++ k ∷ []) ss) (new_is_other hash h q ks k e) ∙
    (slots_more hash q ks k ss b.1 ∙ sym (cond-false (is_slot_of hash q ks s) (Some s.place) (slot_place hash q ks ss) (free_is_of_none hash q ks s f)))
others_stay hash h q ks k (s ∷ ss) (suc i) e f b = λ t. if slot_more hash q ks k s b.0 t then Some s.place else others_stay hash h q ks k ss i e f b.1 t

pub new_is_found : (hash : ℕ) (ks : List (List ℕ)) (k : List ℕ) (ss : List Slot) (i : ℕ) → 0 < length ks → slot_place hash k ks ss ≡ None → IsFree i ss → AreBelow (length ks) ss → slot_place hash k (ks ++ k ∷ []) (set ss i (slot_of hash (length ks))) ≡ Some (length ks)
new_is_found hash ks k [] i l e f b = absurd f
new_is_found hash ks k (s ∷ ss) zero l e f b = cond-true (is_slot_of hash k (ks ++ k ∷ []) (slot_of hash (length ks))) (Some (length ks)) (slot_place hash k (ks ++ k ∷ []) ss) (new_is_of_key hash ks k l)
new_is_found hash ks k (s ∷ ss) (suc i) l e f b =
    let parts = none_first s.place (slot_place hash k ks ss) (is_slot_of hash k ks s) e in
    cond-false (is_slot_of hash k (ks ++ k ∷ []) s) (Some s.place) _ (slot_more hash k ks k s b.0 ∙ parts.0) ∙ new_is_found hash ks k ss i l parts.1 f b.1

-- the slots of a bucket
pub slots_read : (bs : List Bucket) (h : ℕ) (b : Bucket) → h < length bs → (get_or bs h b).slots ≡ slots_at bs h
slots_read [] h b l = absurd (omega arith)
slots_read (x ∷ bs) zero b l = refl
slots_read (x ∷ bs) (suc h) b l = slots_read bs h b (omega arith)

pub slots_put : (bs : List Bucket) (h : ℕ) (b : Bucket) → h < length bs → slots_at (set bs h b) h ≡ b.slots
slots_put [] h b l = absurd (omega arith)
slots_put (x ∷ bs) zero b l = refl
slots_put (x ∷ bs) (suc h) b l = slots_put bs h b (omega arith)

pub slots_other : (bs : List Bucket) (h j : ℕ) (b : Bucket) → j ≢ h → slots_at (set bs h b) j ≡ slots_at bs j
slots_other [] h j b n = refl
slots_other (x ∷ bs) zero zero b n = absurd (n refl)
slots_other (x ∷ bs) zero (suc j) b n = refl
slots_other (x ∷ bs) (suc h) zero b n = refl
slots_other (x ∷ bs) (suc h) (suc j) b n = slots_other bs h j b (λ e. n (ap suc e))

are_more : (m n : ℕ) (ss : List Slot) → m ≤ n → AreBelow m ss → AreBelow n ss
are_more m n [] l h = tt
are_more m n (s ∷ ss) l h = (omega (arith, h.0), are_more m n ss l h.1)

pub all_more : (m n : ℕ) (bs : List Bucket) → m ≤ n → AllBelow m bs → AllBelow n bs
all_more m n [] l h = tt
all_more m n (b ∷ bs) l h = (are_more m n b.slots l h.0, all_more m n bs l h.1)

pub below_at : (n : ℕ) (bs : List Bucket) (h : ℕ) → AllBelow n bs → AreBelow n (slots_at bs h)
below_at n [] h a = tt
below_at n (b ∷ bs) zero a = a.0
below_at n (b ∷ bs) (suc h) a = below_at n bs h a.1

are_set : (n : ℕ) (ss : List Slot) (i : ℕ) (s : Slot) → s.place < n → AreBelow n ss → AreBelow n (set ss i s)
are_set n [] i s l h = tt
are_set n (x ∷ ss) zero s l h = (l, h.1)
are_set n (x ∷ ss) (suc i) s l h = (h.0, are_set n ss i s l h.1)

all_set : (n : ℕ) (bs : List Bucket) (h : ℕ) (b : Bucket) → AreBelow n b.slots → AllBelow n bs → AllBelow n (set bs h b)
all_set n [] h b l a = tt
all_set n (x ∷ bs) zero b l a = (l, a.1)
all_set n (x ∷ bs) (suc h) b l a = (a.0, all_set n bs h b l a.1)

-- one slot more is below a number that is one more
pub all_put : (n : ℕ) (bs : List Bucket) (h i : ℕ) (b : Bucket) (s : Slot) → b.slots ≡ set (slots_at bs h) i s → s.place ≡ n → AllBelow n bs → AllBelow (n + 1) (set bs h b)
all_put n bs h i b s e p a =
    all_set (n + 1) bs h b (subst (AreBelow (n + 1)) (sym e) (are_set (n + 1) (slots_at bs h) i s (omega (arith, p)) (are_more n (n + 1) (slots_at bs h) (omega arith) (below_at n bs h a)))) (all_more n (n + 1) bs (omega arith) a)

-- free slots are of no key
abbrev pub AreFree : List Slot → Type 0
AreFree [] = Unit {0}
AreFree (s ∷ ss) = (s.place ≡ 0) × AreFree ss

pub free_have_none : (hash : ℕ) (q : List ℕ) (ks : List (List ℕ)) (ss : List Slot) → AreFree ss → slot_place hash q ks ss ≡ None
free_have_none hash q ks [] h = refl
free_have_none hash q ks (s ∷ ss) h = cond-false (is_slot_of hash q ks s) (Some s.place) (slot_place hash q ks ss) (free_is_of_none hash q ks s h.0) ∙ free_have_none hash q ks ss h.1

free_are_below : (n : ℕ) (ss : List Slot) → 0 < n → AreFree ss → AreBelow n ss
free_are_below n [] l h = tt
free_are_below n (s ∷ ss) l h = (omega (arith, h.0), free_are_below n ss l h.1)

pub same_buckets_free : (n : ℕ) (b : Bucket) (h : ℕ) → AreFree b.slots → AreFree (slots_at (replicate n b) h)
same_buckets_free zero b h f = tt
same_buckets_free (suc n) b zero f = f
same_buckets_free (suc n) b (suc h) f = same_buckets_free n b h f

pub same_buckets_below : (m n : ℕ) (b : Bucket) → 0 < m → AreFree b.slots → AllBelow m (replicate n b)
same_buckets_below m zero b l f = tt
same_buckets_below m (suc n) b l f = (free_are_below m b.slots l f, same_buckets_below m n b l f)

-- a slot whose place is 0 is free
pub free_at : (ss : List Slot) (i : ℕ) (s : Slot) → i < length ss → s ≡ get_or ss i s → s.place ≡ 0 → IsFree i ss
free_at [] i s l r p = absurd (omega arith)
free_at (x ∷ ss) zero s l r p = ap (λ (y : Slot). y.place) (sym r) ∙ p
free_at (x ∷ ss) (suc i) s l r p = free_at ss i s (omega arith) r p

pub free_within : (ss : List Slot) (i : ℕ) → IsFree i ss → i < length ss
free_within [] i f = absurd f
free_within (s ∷ ss) zero f = omega arith
free_within (s ∷ ss) (suc i) f = omega (arith, free_within ss i f)
