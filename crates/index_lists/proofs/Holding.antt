-- What lists hold, by the list of each slot, after an edit.
use Rattle.std.proofs.Common.{◌≡◌, ◌≢◌, ℕ, ◌+◌, ◌<◌, ◌≤◌, zero, suc, List, [], ◌∷◌, ◌++◌, map, length, Bool, true, false, Option, Some, None, is_some, refl, sym, ap, ◌∙◌, arith}
use Rattle.std.specs.Prelude.{slice_get}
use Rattle.std.specs.List.{slice_set, slice_index_or}
use Rattle.index_lists.specs.SlotLists.{SlotLists, times_in, times, without, list_at, IsFree, IsListed, after_push, after_unlink}
use Rattle.index_lists.specs.Holds.{is_list, one_of, Holds, MovesSlot}
use Rattle.index_lists.proofs.Comparing.{is_true, is_false, by_test}
use Rattle.index_lists.proofs.Times.{one_same, one_other, times_in-append, times_in-without_same, times_in-without_other, first_stands}

-- ---- lists by their numbers

at_mapped : (f : List ℕ → List ℕ) (lists : List (List ℕ)) (l : ℕ) → f [] ≡ [] → slice_index_or (map f lists) l [] ≡ f (slice_index_or lists l [])
at_mapped f [] l e = sym e
at_mapped f (xs ∷ lists) zero e = refl
at_mapped f (xs ∷ lists) (suc l) e = at_mapped f lists l e

at_set_here : (lists : List (List ℕ)) (l : ℕ) (xs : List ℕ) → l < length lists → slice_index_or (slice_set lists l xs) l [] ≡ xs
at_set_here [] l xs h = absurd (omega arith)
at_set_here (ys ∷ lists) zero xs h = refl
at_set_here (ys ∷ lists) (suc l) xs h = at_set_here lists l xs (omega arith)

at_set_other : (lists : List (List ℕ)) (l m : ℕ) (xs : List ℕ) → m ≢ l → slice_index_or (slice_set lists l xs) m [] ≡ slice_index_or lists m []
at_set_other [] l m xs d = refl
at_set_other (ys ∷ lists) zero zero xs d = absurd (d refl)
at_set_other (ys ∷ lists) zero (suc m) xs d = refl
at_set_other (ys ∷ lists) (suc l) zero xs d = refl
at_set_other (ys ∷ lists) (suc l) (suc m) xs d = at_set_other lists l m xs (λ q. d (ap suc q))

none_in : (slot : ℕ) (lists : List (List ℕ)) → ((l : ℕ) → times_in slot (slice_index_or lists l []) ≡ 0) → times slot lists ≡ 0
none_in slot [] h = refl
none_in slot (xs ∷ lists) h = omega (arith, h zero, none_in slot lists (λ l. h (suc l)))

some_in : (slot : ℕ) (lists : List (List ℕ)) (l : ℕ) → times_in slot (slice_index_or lists l []) ≤ times slot lists
some_in slot [] l = omega arith
some_in slot (xs ∷ lists) zero = omega arith
some_in slot (xs ∷ lists) (suc l) = let r = some_in slot lists l in omega arith

-- ---- a slot that is in no list, and one that is in one

pub free_of : (s : SlotLists) (h : ℕ → Option ℕ) (slot : ℕ) → Holds s h → h slot ≡ None → IsFree s slot
free_of s h slot k e = none_in slot s.lists (λ l. k slot l ∙ ap (λ o. one_of (is_list l o)) e)

pub listed_of : (s : SlotLists) (h : ℕ → Option ℕ) (slot : ℕ) → Holds s h → is_some (h slot) ≡ true → IsListed s slot
listed_of s h slot k e = go (h slot) refl e
  where
    go : (o : Option ℕ) → h slot ≡ o → is_some o ≡ true → IsListed s slot
    go None p q = absurd (cc)
    go (Some l) p q =
        let one : times_in slot (list_at s l) ≡ 1 = k slot l ∙ (ap (λ o. one_of (is_list l o)) p ∙ ap one_of (is_true l l refl)) in
        let r = some_in slot s.lists l in
        omega arith

-- ---- a slot is put in a list, or taken out

pub holds_pushed : (s : SlotLists) (h g : ℕ → Option ℕ) (slot list : ℕ) → list < length s.lists → Holds s h → h slot ≡ None → MovesSlot slot (Some list) h g → Holds (after_push s list slot) g
holds_pushed s h g slot list w k e m x l = by_test l list (λ q. here q) (λ d. there d)
  where
    moved : x ≡ slot → g x ≡ Some list
    moved p = ap g p ∙ m.here

    unlisted : (n : ℕ) → x ≡ slot → times_in x (list_at s n) ≡ 0
    unlisted n p = k x n ∙ ap (λ o. one_of (is_list n o)) (ap h p ∙ e)

    others : (n : ℕ) → x ≢ slot → times_in x (list_at s n) ≡ one_of (is_list n (g x))
    others n d = k x n ∙ ap (λ o. one_of (is_list n o)) (sym (m.others x d))

    here : l ≡ list → times_in x (list_at (after_push s list slot) l) ≡ one_of (is_list l (g x))
    here q =
        let at : list_at (after_push s list slot) l ≡ list_at s list ++ slot ∷ [] = ap (list_at (after_push s list slot)) q ∙ at_set_here s.lists list (list_at s list ++ slot ∷ []) w in
        ap (times_in x) at ∙ (times_in-append x (list_at s list) (slot ∷ []) ∙ by_test x slot
        (λ p.
        let one : times_in x (slot ∷ []) ≡ 1 = omega (arith, one_same slot x (sym p)) in
        let v : one_of (is_list l (g x)) ≡ 1 = ap (λ o. one_of (is_list l o)) (moved p) ∙ ap one_of (is_true list l (sym q)) in
        omega (arith, unlisted list p))
        (λ d.
        let none : times_in x (slot ∷ []) ≡ 0 = omega (arith, one_other slot x (λ p. d (sym p))) in
        let v = others list d in
        let u = ap (λ n. one_of (is_list n (g x))) q in
        omega arith))

    there : l ≢ list → times_in x (list_at (after_push s list slot) l) ≡ one_of (is_list l (g x))
    there d =
        ap (times_in x) (at_set_other s.lists list l (list_at s list ++ slot ∷ []) d) ∙ by_test x slot
        (λ p. unlisted l p ∙ sym (ap (λ o. one_of (is_list l o)) (moved p) ∙ ap one_of (is_false list l (λ q. d (sym q)))))
        (λ p. others l p)

pub holds_taken : (s : SlotLists) (h g : ℕ → Option ℕ) (slot : ℕ) → Holds s h → MovesSlot slot None h g → Holds (after_unlink s slot) g
holds_taken s h g slot k m x l =
    ap (times_in x) (at_mapped (without slot) s.lists l refl) ∙ by_test x slot
    (λ p. ap (λ n. times_in n (without slot (list_at s l))) p ∙ (times_in-without_same slot (list_at s l) ∙ sym (ap (λ o. one_of (is_list l o)) (ap g p ∙ m.here))))
    (λ d. times_in-without_other x slot (list_at s l) d ∙ (k x l ∙ ap (λ o. one_of (is_list l o)) (sym (m.others x d))))

-- the list of a slot stays
pub holds_same : (s : SlotLists) (h g : ℕ → Option ℕ) → Holds s h → ((x : ℕ) → g x ≡ h x) → Holds s g
holds_same s h g k e x l = k x l ∙ ap (λ o. one_of (is_list l o)) (sym (e x))

pub unmoved : (slot : ℕ) (list : Option ℕ) (h g : ℕ → Option ℕ) → h slot ≡ list → MovesSlot slot list h g → (x : ℕ) → g x ≡ h x
unmoved slot list h g e m x = by_test x slot
    (λ p. ap g p ∙ (m.here ∙ (sym e ∙ ap h (sym p))))
    (λ d. m.others x d)

-- lists that are added are empty
pub holds_more : (s t : SlotLists) (h : ℕ → Option ℕ) → ((l : ℕ) → list_at t l ≡ list_at s l) → Holds s h → Holds t h
holds_more s t h e k x l = ap (times_in x) (e l) ∙ k x l

-- ---- the first slot of a list

one_is : (b : Bool) → 1 ≤ one_of b → b ≡ true
one_is true h = refl
one_is false h = absurd (omega arith)

none_is : (b : Bool) → one_of b ≡ 0 → b ≡ false
none_is true h = absurd (omega arith)
none_is false h = refl

empty : (xs : List ℕ) (slot : ℕ) → slice_get xs 0 ≡ None → times_in slot xs ≡ 0
empty [] slot e = refl
empty (x ∷ xs) slot e = absurd (cc)

pub first_some : (s : SlotLists) (h : ℕ → Option ℕ) (list slot : ℕ) → Holds s h → slice_get (list_at s list) 0 ≡ Some slot → is_list list (h slot) ≡ true
first_some s h list slot k e = let a = first_stands (list_at s list) slot e in one_is (is_list list (h slot)) (omega (arith, k slot list))

pub first_none : (s : SlotLists) (h : ℕ → Option ℕ) (list : ℕ) → Holds s h → slice_get (list_at s list) 0 ≡ None → (slot : ℕ) → is_list list (h slot) ≡ false
first_none s h list k e slot = none_is (is_list list (h slot)) (sym (k slot list) ∙ empty (list_at s list) slot e)
