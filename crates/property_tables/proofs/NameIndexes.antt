-- What an index of names says: its places are within, their names ascend, and each place is among them.
use Rattle.std.proofs.Common.{◌≡◌, ◌∙◌, ℕ, zero, suc, ◌+◌, ◌<◌, ◌≤◌, sym, ap, refl, subst, List, [], ◌∷◌, ◌⊎◌, Bool, true, false, get_or, length, map, arith, inl, inr}
use Rattle.std.specs.Prelude.{◌&&◌, ltb, eqb}
use Rattle.std.specs.List.{list_all, list_any, range_with_len}
use Rattle.std.specs.declared.cmp.Ordering.{Ordering}
use Rattle.std.specs.declared.cmp.Ordering.TheVariants.{Less, Equal, Greater}
use Rattle.std.specs.Ordering.{nat_cmp, is_lt, is_eq, ordering_reverse}
use Rattle.std.specs.Cmp.Lexicographic.{slice_cmp}
use Rattle.std.proofs.lemmas.Bool.{cases_Bool, false≢true, ltb-true, ltb-false, eqb-true}
use Rattle.std.proofs.lemmas.Cmp.{nat_list_cmp_total}
use Rattle.std.proofs.lemmas.List.{get_or-map, get_or_default, length-map}
use Rattle.std.proofs.lemmas.List.Folds.{list_all_at, Any-from_list_any}
use Rattle.std.proofs.lemmas.List.FromFn.{get_or-range_with_len, length-range_with_len}
use Rattle.std.proofs.lemmas.Map.Text.{is_eq-slice_cmp}
use Rattle.std.proofs.lemmas.Slice.Eq.{bytes_eq-Decides}
use Rattle.property_tables.specs.RowView.{names_of}
use Rattle.property_tables.specs.declared.entry.TableEntry.{TableEntry}
use Rattle.property_tables.specs.NameIndex.{name_at, is_before, ascends, is_index, IsPlaceOf, IsNowhere}

pub both : (a b : Bool) → (a && b) ≡ true → (a ≡ true) × (b ≡ true)
both true b e = (refl, e)
both false b e = absurd (false≢true e)

pub all_at : {X : Type 0} (p : X → Bool) (xs : List X) (i : ℕ) (d : X) → i < length xs → list_all p xs ≡ true → p (get_or xs i d) ≡ true
all_at p xs i d h e = elim (cases_Bool (p (get_or xs i d))) [
  | inl holds ↦ holds
  | inr fails ↦ absurd (false≢true (sym (list_all_at p xs i d h fails) ∙ e))
]

less_is : (r : Ordering) → is_lt r ≡ true → r ≡ Less
less_is Less e = refl
less_is Equal e = absurd (false≢true e)
less_is Greater e = absurd (false≢true e)

-- nothing is before itself, nor before what is before it
both_less : (a b : List ℕ) → slice_cmp nat_cmp a b ≡ Less → slice_cmp nat_cmp b a ≡ Less → ⊥
both_less a b e f = let g = nat_list_cmp_total.antisymm a b in absurd (cc)

pub same_order : (a b : List ℕ) → slice_cmp nat_cmp a b ≡ Equal → a ≡ b
same_order a b e = (bytes_eq-Decides a b).0 (sym (is_eq-slice_cmp a b) ∙ ap is_eq e)

ascending_at : (xs : List (List ℕ)) → ascends xs ≡ true → (i j : ℕ) → i < j → j < length xs → slice_cmp nat_cmp (get_or xs i []) (get_or xs j []) ≡ Less
ascending_at [] e i j h k = absurd (omega (arith, k))
ascending_at (x ∷ xs) e i zero h k = absurd (omega (arith, h))
ascending_at (x ∷ xs) e zero (suc j) h k = less_is _ (all_at (is_before x) xs j [] (omega (arith, k)) (both (list_all (is_before x) xs) (ascends xs) e).0)
ascending_at (x ∷ xs) e (suc i) (suc j) h k = ascending_at xs (both (list_all (is_before x) xs) (ascends xs) e).1 i j (omega (arith, h)) (omega (arith, k))

turned : (a b : List ℕ) → slice_cmp nat_cmp b a ≡ Greater → slice_cmp nat_cmp a b ≡ Less
turned a b e = nat_list_cmp_total.antisymm a b ∙ ap ordering_reverse e

split_last : (k m : ℕ) → k < m + 1 → (k < m) ⊎ (k ≡ m)
split_last k m h = elim (cases_Bool (ltb k m)) [
  | inl below ↦ inl (ltb-true k m below)
  | inr not ↦ inr (omega (arith, h, ltb-false k m not))
]

split_first : (m k : ℕ) → m ≤ k → (m < k) ⊎ (m ≡ k)
split_first m k h = elim (cases_Bool (ltb m k)) [
  | inl below ↦ inl (ltb-true m k below)
  | inr not ↦ inr (omega (arith, h, ltb-false m k not))
]

trichotomy : (k m : ℕ) → (k < m) ⊎ ((k ≡ m) ⊎ (m < k))
trichotomy k m = elim (cases_Bool (ltb k m)) [
  | inl below ↦ inl (ltb-true k m below)
  | inr not ↦ elim (split_first m k (ltb-false k m not)) [
    | inl later ↦ inr (inr later)
    | inr same ↦ inr (inl (sym same))
  ]
]

-- the place at position k of the order, and its name
abbrev pub placed : List ℕ → ℕ → ℕ
placed order k = get_or order k 0

module _ (names : List (List ℕ)) (order : List ℕ) (index : is_index names order ≡ true) where
  firsts : (list_all (λ k. ltb k (length names)) order ≡ true) × ((ascends (map (name_at names) order) && list_all (λ i. list_any (eqb i) order) (range_with_len 0 (length names))) ≡ true)
  unfolding is_index
  firsts = both (list_all (λ k. ltb k (length names)) order) _ index

  others : (ascends (map (name_at names) order) ≡ true) × (list_all (λ i. list_any (eqb i) order) (range_with_len 0 (length names)) ≡ true)
  others = both (ascends (map (name_at names) order)) _ firsts.1

  pub place_within : (k : ℕ) → k < length order → placed order k < length names
  place_within k h = ltb-true _ _ (all_at (λ p. ltb p (length names)) order k 0 h firsts.0)

  pub names_ascend : (j k : ℕ) → j < k → k < length order → slice_cmp nat_cmp (name_at names (placed order j)) (name_at names (placed order k)) ≡ Less
  names_ascend j k h w =
      let at_j = get_or-map (name_at names) order j 0 [] (omega (arith, h, w)) in
      let at_k = get_or-map (name_at names) order k 0 [] w in
      let there = ascending_at (map (name_at names) order) others.0 j k h (omega (arith, w, length-map order (name_at names))) in
      subst (λ a. slice_cmp nat_cmp a (name_at names (placed order k)) ≡ Less) at_j (subst (λ b. slice_cmp nat_cmp (get_or (map (name_at names) order) j []) b ≡ Less) at_k there)

  among_at : (i : ℕ) → i < length names → list_any (eqb i) order ≡ true
  among_at i h =
      let there = all_at (λ j. list_any (eqb j) order) (range_with_len 0 (length names)) i 0 (omega (arith, h, length-range_with_len 0 (length names))) others.1 in
      subst (λ j. list_any (eqb j) order ≡ true) (let from_0 : 0 + i ≡ i = omega arith in get_or-range_with_len 0 (length names) i 0 h ∙ from_0) there

  -- each place is among them
  pub place_among : (i : ℕ) → i < length names → (k : ℕ) × (k < length order) × (placed order k ≡ i)
  place_among i h =
      let (k, x, w, there, same) = Any-from_list_any (eqb i) order (among_at i h) in
      (k, w, get_or_default order k 0 x w ∙ there ∙ sym (eqb-true i x same))

  not_below_itself : (q : List ℕ) → slice_cmp nat_cmp q q ≡ Less → ⊥
  not_below_itself q less = both_less q q less less

  -- what is at or before the middle of a search is another name, where the middle is below the name
  pub not_below : (q : List ℕ) (m k : ℕ) → m < length order → slice_cmp nat_cmp (name_at names (placed order m)) q ≡ Less → k < m + 1 → name_at names (placed order k) ≡ q → ⊥
  not_below q m k w less h same = elim (split_last k m h) [
    | inl before ↦ both_less (name_at names (placed order m)) q less (subst (λ a. slice_cmp nat_cmp a (name_at names (placed order m)) ≡ Less) same (names_ascend k m before w))
    | inr here ↦ not_below_itself q (subst (λ a. slice_cmp nat_cmp a q ≡ Less) (ap (λ i. name_at names (placed order i)) (sym here) ∙ same) less)
  ]

  -- and what is at or after it, where it is above
  pub not_above : (q : List ℕ) (m k : ℕ) → k < length order → slice_cmp nat_cmp (name_at names (placed order m)) q ≡ Greater → m ≤ k → name_at names (placed order k) ≡ q → ⊥
  not_above q m k w greater h same =
      let less : slice_cmp nat_cmp q (name_at names (placed order m)) ≡ Less = turned q (name_at names (placed order m)) greater in
      elim (split_first m k h) [
        | inl later ↦ both_less q (name_at names (placed order m)) less (subst (λ a. slice_cmp nat_cmp (name_at names (placed order m)) a ≡ Less) same (names_ascend m k later w))
        | inr here ↦ not_below_itself q (subst (λ a. slice_cmp nat_cmp q a ≡ Less) (ap (λ i. name_at names (placed order i)) here ∙ same) less)
      ]

  pub nowhere_from_order : (q : List ℕ) → ((k : ℕ) → k < length order → name_at names (placed order k) ≡ q → ⊥) → IsNowhere names q
  nowhere_from_order q none i h same =
      let (k, w, there) = place_among i h in
      none k w (ap (name_at names) there ∙ same)

  -- the name at a place in the order is nowhere else
  same_place : (q : List ℕ) (m k : ℕ) → m < length order → k < length order → name_at names (placed order m) ≡ q → name_at names (placed order k) ≡ q → k ≡ m
  same_place q m k w v at_m at_k = elim (trichotomy k m) [
    | inl before ↦ absurd (not_below_itself q (subst (λ a. slice_cmp nat_cmp a q ≡ Less) at_k (subst (λ b. slice_cmp nat_cmp (name_at names (placed order k)) b ≡ Less) at_m (names_ascend k m before w))))
    | inr rest ↦ elim rest [
      | inl same ↦ same
      | inr behind ↦ absurd (not_below_itself q (subst (λ a. slice_cmp nat_cmp a q ≡ Less) at_m (subst (λ b. slice_cmp nat_cmp (name_at names (placed order m)) b ≡ Less) at_k (names_ascend m k behind v))))
    ]
  ]

  pub place_from_order : (q : List ℕ) (m : ℕ) → m < length order → name_at names (placed order m) ≡ q → IsPlaceOf names q (placed order m)
  place_from_order q m w there = record {
    within = place_within m w;
    there = there;
    alone = λ j h same. let (k, v, at) = place_among j h in sym at ∙ ap (placed order) (same_place q m k w v there (ap (name_at names) at ∙ same));
  }

-- the names of entries, each by its entry
pub entry_name : (es : List TableEntry) (i : ℕ) (d : TableEntry) → i < length es → name_at (names_of es) i ≡ (get_or es i d).name.now
entry_name es i d h = get_or-map (λ e. e.name.now) es i d [] h
