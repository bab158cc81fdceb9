-- A table as keys are noted.
use Rattle.std.proofs.Common.{◌≡◌, ℕ, ◌+◌, ◌%◌, ◌<◌, List, [], ◌∷◌, ◌++◌, length, drop, get_or, set, refl, ap, sym, ◌∙◌, subst, arith, Bool, true, false, inl, inr, replicate}
use Rattle.std.specs.Prelude.{string_bytes, Option, Some, None, if◌then◌else◌}
use Rattle.std.specs.Option.{option_or}
use Rattle.std.specs.Str.{bytes_eq}
use Rattle.std.specs.BTreeMap.{BTreeMap, is_at}
use Rattle.std.specs.Map.{lookup}
use Rattle.std.specs.Ordering.{nat_cmp}
use Rattle.std.specs.Cmp.Lexicographic.{slice_cmp}
use Rattle.std.specs.declared.string.String.{String}
use Rattle.std.specs.declared.alloc.Global.{Global}
use Rattle.std.proofs.lemmas.Bool.{cases_eq}
use Rattle.std.proofs.lemmas.List.{length-set, length_push, length-replicate, drop_all}
use Rattle.key_index.specs.declared.table.Bucket.{Bucket}
use Rattle.key_index.specs.declared.table.Table.{Table}
use Rattle.key_index.specs.Keys.{place_from, LacksKey}
use Rattle.key_index.specs.Hash.{hash_of}
use Rattle.key_index.specs.Table.{slot_place, slots_at, later_place, AllBelow, IsFree, IsTable}
use Rattle.key_index.specs.Places.{noted}
use Rattle.key_index.proofs.Keys.{same_bytes, lacking_has_no_place, lacks-drop, place_more}
use Rattle.key_index.proofs.Slots.{slot_of, slots_more, others_stay, new_is_found, slots_put, slots_other, all_more, all_put, below_at, slots_read, AreFree, free_have_none, same_buckets_free, same_buckets_below}

first_none : (a b : Option ℕ) → option_or a b ≡ None → a ≡ None
first_none None b e = refl
first_none (Some x) b e = absurd (cc)

-- a key that is not there is in no slot
no_slot : (t : Table) (ks : List (List ℕ)) (k : List ℕ) → IsTable t ks → LacksKey k ks → slot_place (hash_of k) k ks (slots_at t.buckets.items (hash_of k % length t.buckets.items)) ≡ None
no_slot t ks k h l = first_none (slot_place (hash_of k) k ks (slots_at t.buckets.items (hash_of k % length t.buckets.items))) (noted t.crowded k) (h.places k ∙ lacking_has_no_place 16 k (drop 16 ks) (lacks-drop k 16 ks l))

-- what is found once `find` finds one key more
abbrev pub FindsMore : Table → Table → List (List ℕ) → List ℕ → Type 0
FindsMore t u ks k = (q : List ℕ) → later_place u (ks ++ k ∷ []) q ≡ (if bytes_eq k q then Some (length ks) else later_place t ks q)

-- a table that finds one key more represents the keys and this one
pub table_more : (t u : Table) (ks : List (List ℕ)) (k : List ℕ) → IsTable t ks → LacksKey k ks → 0 < length u.buckets.items → AllBelow (length ks + 1) u.buckets.items → FindsMore t u ks k → IsTable u (ks ++ k ∷ [])
table_more t u ks k h l some below more = record {
  some = some;
  many = omega (arith, length_push ks k, h.many);
  below = subst (λ n. AllBelow n u.buckets.items) (sym (length_push ks k)) below;
  places = λ q. more q ∙ (ap (λ r. if bytes_eq k q then Some (length ks) else r) (h.places q) ∙ sym (place_more q ks k l (omega (arith, h.many))));
}

slots_of_others : (bs : List Bucket) (home i j : ℕ) (b : Bucket) (hash h : ℕ) (q : List ℕ) (ks : List (List ℕ)) (k : List ℕ) → b.slots ≡ set (slots_at bs home) i (slot_of h (length ks)) → home < length bs → bytes_eq k q ≡ false → IsFree i (slots_at bs home) → AllBelow (length ks) bs → slot_place hash q (ks ++ k ∷ []) (slots_at (set bs home b) j) ≡ slot_place hash q ks (slots_at bs j)
slots_of_others bs home i j b hash h q ks k e l n f a =
    elim (cases_eq j home) [
      | inl s ↦ ap (λ m. slot_place hash q (ks ++ k ∷ []) (slots_at (set bs home b) m)) s ∙ (ap (slot_place hash q (ks ++ k ∷ [])) (slots_put bs home b l ∙ e) ∙
          (others_stay hash h q ks k (slots_at bs home) i n f (below_at (length ks) bs home a) ∙ ap (λ m. slot_place hash q ks (slots_at bs m)) (sym s)))
      | inr d ↦ ap (slot_place hash q (ks ++ k ∷ [])) (slots_other bs home j b d) ∙ slots_more hash q ks k (slots_at bs j) (below_at (length ks) bs j a)
    ]

put_finds : (t u : Table) (ks : List (List ℕ)) (k q : List ℕ) (home i : ℕ) (b : Bucket) (same : Bool) → bytes_eq k q ≡ same → IsTable t ks → LacksKey k ks → home ≡ hash_of k % length t.buckets.items → home < length t.buckets.items → b.slots ≡ set (slots_at t.buckets.items home) i (slot_of (hash_of k) (length ks)) → IsFree i (slots_at t.buckets.items home) → u.buckets.items ≡ set t.buckets.items home b → u.crowded ≡ t.crowded → later_place u (ks ++ k ∷ []) q ≡ (if same then Some (length ks) else later_place t ks q)
put_finds t u ks k q home i b true e h l at within slots free items crowded =
    let n : length u.buckets.items ≡ length t.buckets.items = ap length items ∙ length-set t.buckets.items home b in
    let none = subst (λ m. slot_place (hash_of k) k ks (slots_at t.buckets.items m) ≡ None) (sym at) (no_slot t ks k h l) in
    let found : slot_place (hash_of k) k (ks ++ k ∷ []) (slots_at u.buckets.items (hash_of k % length u.buckets.items)) ≡ Some (length ks) =
    ap (λ m. slot_place (hash_of k) k (ks ++ k ∷ []) (slots_at u.buckets.items (hash_of k % m))) n ∙
    (ap (λ m. slot_place (hash_of k) k (ks ++ k ∷ []) (slots_at u.buckets.items m)) (sym at) ∙
    (ap (λ bs. slot_place (hash_of k) k (ks ++ k ∷ []) (slots_at bs home)) items ∙ (ap (slot_place (hash_of k) k (ks ++ k ∷ [])) (slots_put t.buckets.items home b within ∙ slots) ∙
    new_is_found (hash_of k) ks k (slots_at t.buckets.items home) i (omega (arith, h.many)) none free (below_at (length ks) t.buckets.items home h.below)))) in
    subst (λ x. later_place u (ks ++ k ∷ []) x ≡ Some (length ks)) (same_bytes k q e) (ap (λ r. option_or r (noted u.crowded k)) found)
put_finds t u ks k q home i b false e h l at within slots free items crowded =
    let n : length u.buckets.items ≡ length t.buckets.items = ap length items ∙ length-set t.buckets.items home b in
    ap (λ m. option_or (slot_place (hash_of q) q (ks ++ k ∷ []) (slots_at u.buckets.items (hash_of q % m))) (noted u.crowded q)) n ∙
    (ap (λ bs. option_or (slot_place (hash_of q) q (ks ++ k ∷ []) (slots_at bs (hash_of q % length t.buckets.items))) (noted u.crowded q)) items ∙
    (ap (λ r. option_or r (noted u.crowded q)) (slots_of_others t.buckets.items home i (hash_of q % length t.buckets.items) b (hash_of q) (hash_of k) q ks k slots within e free h.below) ∙
    ap (λ c. option_or (slot_place (hash_of q) q ks (slots_at t.buckets.items (hash_of q % length t.buckets.items))) (noted c q)) crowded))

-- A key is put into a free slot of its bucket.
pub table_put : (t u : Table) (ks : List (List ℕ)) (k : List ℕ) (home i : ℕ) (b : Bucket) → IsTable t ks → LacksKey k ks → home ≡ hash_of k % length t.buckets.items → home < length t.buckets.items → b.slots ≡ set (slots_at t.buckets.items home) i (slot_of (hash_of k) (length ks)) → IsFree i (slots_at t.buckets.items home) → u.buckets.items ≡ set t.buckets.items home b → u.crowded ≡ t.crowded → IsTable u (ks ++ k ∷ [])
table_put t u ks k home i b h l at within slots free items crowded =
    table_more t u ks k h l (subst (λ bs. 0 < length bs) (sym items) (omega (arith, length-set t.buckets.items home b, h.some)))
    (subst (AllBelow (length ks + 1)) (sym items) (all_put (length ks) t.buckets.items home i b (slot_of (hash_of k) (length ks)) slots refl h.below)) (λ q. put_finds t u ks k q home i b (bytes_eq k q) refl h l at within slots free items crowded)

crowd_finds : (t u : Table) (ks : List (List ℕ)) (k q : List ℕ) (same : Bool) → bytes_eq k q ≡ same → IsTable t ks → LacksKey k ks → u.buckets ≡ t.buckets → noted u.crowded q ≡ (if same then Some (length ks) else noted t.crowded q) → later_place u (ks ++ k ∷ []) q ≡ (if same then Some (length ks) else later_place t ks q)
crowd_finds t u ks k q true e h l buckets notes =
    let at : slots_at u.buckets.items (hash_of k % length u.buckets.items) ≡ slots_at t.buckets.items (hash_of k % length t.buckets.items) = ap (λ v. slots_at v.items (hash_of k % length v.items)) buckets in
    let none : slot_place (hash_of k) k (ks ++ k ∷ []) (slots_at u.buckets.items (hash_of k % length u.buckets.items)) ≡ None =
    ap (slot_place (hash_of k) k (ks ++ k ∷ [])) at ∙ (slots_more (hash_of k) k ks k (slots_at t.buckets.items (hash_of k % length t.buckets.items)) (below_at (length ks) t.buckets.items _ h.below) ∙ no_slot t ks k h l) in
    let here : noted u.crowded k ≡ Some (length ks) = subst (λ x. noted u.crowded x ≡ Some (length ks)) (sym (same_bytes k q e)) notes in
    subst (λ x. later_place u (ks ++ k ∷ []) x ≡ Some (length ks)) (same_bytes k q e) (ap (λ r. option_or r (noted u.crowded k)) none ∙ here)
crowd_finds t u ks k q false e h l buckets notes =
    ap (λ r. option_or (slot_place (hash_of q) q (ks ++ k ∷ []) (slots_at u.buckets.items (hash_of q % length u.buckets.items))) r) notes ∙
    (ap (λ v. option_or (slot_place (hash_of q) q (ks ++ k ∷ []) (slots_at v.items (hash_of q % length v.items))) (noted t.crowded q)) buckets ∙
    ap (λ r. option_or r (noted t.crowded q)) (slots_more (hash_of q) q ks k (slots_at t.buckets.items (hash_of q % length t.buckets.items)) (below_at (length ks) t.buckets.items _ h.below)))

-- A key whose bucket is full is noted in the ordered map.
pub table_crowd : (t u : Table) (ks : List (List ℕ)) (k : List ℕ) → IsTable t ks → LacksKey k ks → u.buckets ≡ t.buckets → ((q : List ℕ) → noted u.crowded q ≡ (if bytes_eq k q then Some (length ks) else noted t.crowded q)) → IsTable u (ks ++ k ∷ [])
table_crowd t u ks k h l buckets notes =
    table_more t u ks k h l (subst (λ v. 0 < length v.items) (sym buckets) h.some)
    (subst (λ v. AllBelow (length ks + 1) v.items) (sym buckets) (all_more (length ks) (length ks + 1) t.buckets.items (omega arith) h.below)) (λ q. crowd_finds t u ks k q (bytes_eq k q) refl h l buckets (notes q))

-- A table in which nothing changed represents the same keys.
pub table_same : (t u : Table) (ks : List (List ℕ)) → IsTable t ks → u.buckets ≡ t.buckets → ((q : List ℕ) → noted u.crowded q ≡ noted t.crowded q) → IsTable u ks
table_same t u ks h buckets notes = record {
  some = subst (λ v. 0 < length v.items) (sym buckets) h.some;
  many = h.many;
  below = subst (λ v. AllBelow (length ks) v.items) (sym buckets) h.below;
  places = λ q. ap (λ v. option_or (slot_place (hash_of q) q ks (slots_at v.items (hash_of q % length v.items))) (noted u.crowded q)) buckets ∙ (ap (option_or (slot_place (hash_of q) q ks (slots_at t.buckets.items (hash_of q % length t.buckets.items)))) (notes q) ∙ h.places q);
}

-- The bucket of a key, as it is read.
pub bucket_read : (bs : List Bucket) (hash n : ℕ) (b : Bucket) (k : List ℕ) → hash ≡ hash_of k → n ≡ length bs → hash % n < length bs → b ≡ get_or bs (hash % n) b → b.slots ≡ slots_at bs (hash_of k % length bs)
bucket_read bs hash n b k h e l r = ap (λ (x : Bucket). x.slots) r ∙ (slots_read bs (hash % n) b l ∙ (ap (λ m. slots_at bs (m % n)) h ∙ ap (λ m. slots_at bs (hash_of k % m)) e))

none_noted : (m : BTreeMap (String Global) ℕ) (q : List ℕ) → m.entries ≡ [] → noted m q ≡ None
none_noted m q e = ap (λ es. lookup (is_at (λ k. slice_cmp nat_cmp q (string_bytes k))) es) e

-- A table whose slots are free represents 16 keys.
pub new_table : (t : Table) (n : ℕ) (b : Bucket) (ks : List (List ℕ)) → 0 < n → t.buckets.items ≡ replicate n b → AreFree b.slots → t.crowded.entries ≡ [] → length ks ≡ 16 → IsTable t ks
new_table t n b ks l items free none few = record {
  some = subst (λ bs. 0 < length bs) (sym items) (omega (arith, length-replicate n b));
  many = omega (arith, few);
  below = subst (AllBelow (length ks)) (sym items) (same_buckets_below (length ks) n b (omega (arith, few)) free);
  places = λ q.
      ap (λ bs. option_or (slot_place (hash_of q) q ks (slots_at bs (hash_of q % length bs))) (noted t.crowded q)) items ∙
      (ap (λ r. option_or r (noted t.crowded q)) (free_have_none (hash_of q) q ks (slots_at (replicate n b) (hash_of q % length (replicate n b))) (same_buckets_free n b _ free)) ∙
      (none_noted t.crowded q none ∙ ap (place_from 16 q) (sym (drop_all 16 ks (omega (arith, few))))));
}
