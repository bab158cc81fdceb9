-- Ascending keys, and the place of a key among them.
use Rattle.std.proofs.Common.{◌≡◌, ◌≢◌, ℕ, zero, suc, ◌+◌, ◌<◌, List, [], ◌∷◌, ◌++◌, length, take, drop, get_or, refl, ap, sym, ◌∙◌, arith, true, nat_cmp, Ordering}
use Rattle.std.specs.Prelude.{Some}
use Rattle.std.specs.Cmp.Lexicographic.{slice_cmp}
use Rattle.std.specs.Ordering.{is_eq, is_lt, ordering_reverse}
use Rattle.std.specs.Str.{bytes_eq}
use Rattle.std.specs.declared.cmp.Ordering.TheVariants.{Less, Equal, Greater}
use Rattle.std.proofs.lemmas.Bool.{cond-true, cond-false, both_ways}
use Rattle.std.proofs.lemmas.Cmp.{nat_list_cmp_total}
use Rattle.std.proofs.lemmas.Map.Text.{is_eq-slice_cmp}
use Rattle.key_index.specs.Ascending.{IsBelow, IsAscending}
use Rattle.key_index.specs.Keys.{place_from, LacksKey}
use Rattle.key_index.proofs.Keys.{same_bytes, bytes_same, bytes_differ}

below_trans : (a b c : List ℕ) → slice_cmp nat_cmp a b ≡ Less → slice_cmp nat_cmp b c ≡ Less → slice_cmp nat_cmp a c ≡ Less
below_trans a b c h l = nat_list_cmp_total.trans a b c h l

below_differs : (a b : List ℕ) → slice_cmp nat_cmp a b ≡ Less → a ≢ b
below_differs a b h = λ e. both_ways (bytes_eq a b) (sym (is_eq-slice_cmp a b) ∙ ap is_eq h) (bytes_same a b e)

pub equal_keys : (a b : List ℕ) → slice_cmp nat_cmp a b ≡ Equal → a ≡ b
equal_keys a b h = same_bytes a b (sym (is_eq-slice_cmp a b) ∙ ap is_eq h)

pub is_less : (o : Ordering) → is_lt o ≡ true → o ≡ Less
is_less Less e = refl
is_less Equal e = absurd (cc)
is_less Greater e = absurd (cc)

turned : (a b : List ℕ) → slice_cmp nat_cmp a b ≡ Greater → slice_cmp nat_cmp b a ≡ Less
turned a b h = nat_list_cmp_total.antisymm b a ∙ ap ordering_reverse h

below_push : (key : List ℕ) (ks : List (List ℕ)) (k : List ℕ) → IsBelow key ks → slice_cmp nat_cmp key k ≡ Less → IsBelow key (ks ++ k ∷ [])
below_push key [] k h l = (l, tt)
below_push key (x ∷ ks) k h l = (h.0, below_push key ks k h.1 l)

below_at : (key : List ℕ) (ks : List (List ℕ)) (i : ℕ) (d : List ℕ) → IsBelow key ks → i < length ks → slice_cmp nat_cmp key (get_or ks i d) ≡ Less
below_at key [] i d h l = absurd (omega arith)
below_at key (k ∷ ks) zero d h l = h.0
below_at key (k ∷ ks) (suc i) d h l = below_at key ks i d h.1 (omega arith)

below_last : (key : List ℕ) (ks : List (List ℕ)) (k : List ℕ) → IsBelow key (ks ++ k ∷ []) → slice_cmp nat_cmp key k ≡ Less
below_last key [] k h = h.0
below_last key (x ∷ ks) k h = below_last key ks k h.1

-- a key above the last of ascending keys may follow them
pub ascending_push : (ks : List (List ℕ)) (n : ℕ) (k d : List ℕ) → IsAscending ks → length ks ≡ n + 1 → slice_cmp nat_cmp (get_or ks n d) k ≡ Less → IsAscending (ks ++ k ∷ [])
ascending_push [] n k d a e l = (tt, tt)
ascending_push (x ∷ []) zero k d a e l = ((l, tt), (tt, tt))
ascending_push (x ∷ y ∷ ks) zero k d a e l = absurd (omega arith)
ascending_push (x ∷ ks) (suc n) k d a e l =
    (below_push x ks k a.0 (below_trans x (get_or ks n d) k (below_at x ks n d a.0 (omega arith)) l), ascending_push ks n k d a.1 (omega arith) l)

lacks_above : (key k : List ℕ) (ks : List (List ℕ)) → IsBelow k ks → slice_cmp nat_cmp key k ≡ Less → LacksKey key ks
lacks_above key k [] h l = tt
lacks_above key k (x ∷ ks) h l = (λ e. below_differs key x (below_trans key k x l h.0) (sym e), lacks_above key k ks h.1 l)

-- the keys from one that is above the key on lack it
pub lacks_from : (ks : List (List ℕ)) (i : ℕ) (key d : List ℕ) → IsAscending ks → i < length ks → slice_cmp nat_cmp (get_or ks i d) key ≡ Greater → LacksKey key (drop i ks)
lacks_from [] i key d a h l = absurd (omega arith)
lacks_from (k ∷ ks) zero key d a h l = (λ e. below_differs key k (turned k key l) (sym e), lacks_above key k ks a.0 (turned k key l))
lacks_from (k ∷ ks) (suc i) key d a h l = lacks_from ks i key d a.1 (omega arith) l

-- and so do those up to one that is below it
pub lacks_up_to : (ks : List (List ℕ)) (i : ℕ) (key d : List ℕ) → IsAscending ks → i < length ks → slice_cmp nat_cmp (get_or ks i d) key ≡ Less → LacksKey key (take (suc i) ks)
lacks_up_to [] i key d a h l = absurd (omega arith)
lacks_up_to (k ∷ ks) zero key d a h l = (below_differs k key l, tt)
lacks_up_to (k ∷ ks) (suc i) key d a h l =
    (below_differs k key (below_trans k (get_or ks i d) key (below_at k ks i d a.0 (omega arith)) l), lacks_up_to ks i key d a.1 (omega arith) l)

pub lacks_both : (n : ℕ) (key : List ℕ) (ks : List (List ℕ)) → LacksKey key (take n ks) → LacksKey key (drop n ks) → LacksKey key ks
lacks_both zero key ks h l = l
lacks_both (suc n) key [] h l = tt
lacks_both (suc n) key (k ∷ ks) h l = (h.0, lacks_both n key ks h.1 l)

-- a key after ascending keys is none of them
pub ascending_lacks : (ks : List (List ℕ)) (k : List ℕ) → IsAscending (ks ++ k ∷ []) → LacksKey k ks
ascending_lacks [] k a = tt
ascending_lacks (x ∷ ks) k a = (below_differs x k (below_last x ks k a.0), ascending_lacks ks k a.1)

-- a search in ascending keys gives the place of the key
pub ascending_at : (i : ℕ) (ks : List (List ℕ)) (n : ℕ) (key d : List ℕ) → IsAscending ks → n < length ks → get_or ks n d ≡ key → place_from i key ks ≡ Some (i + n)
ascending_at i [] n key d a h e = absurd (omega arith)
ascending_at i (k ∷ ks) zero key d a h e = cond-true (bytes_eq k key) (Some i) (place_from (i + 1) key ks) (bytes_same k key e) ∙ ap Some (omega arith)
ascending_at i (k ∷ ks) (suc n) key d a h e =
    let differs : k ≢ key = λ s. below_differs k (get_or ks n d) (below_at k ks n d a.0 (omega arith)) (s ∙ sym e) in
    cond-false (bytes_eq k key) (Some i) (place_from (i + 1) key ks) (bytes_differ k key differs) ∙ (ascending_at (i + 1) ks n key d a.1 (omega arith) e ∙ ap Some (omega arith))
