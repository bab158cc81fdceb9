-- Looking a name up in a table in order.
use Rattle.std.proofs.Common.{Ordering, Less, Equal, Greater, ◌≡◌, ◌≢◌, ◌∙◌, ℕ, zero, suc, ◌<◌, ◌≤◌, sym, ap, refl, List, [], ◌∷◌, true, false, get_or, length, arith, inl, inr}
use Rattle.std.specs.Prelude.{Some, None, Ok, Err, Bool, nat_le, map, ◌&&◌}
use Rattle.std.specs.Char.{to_ascii_lowercase}
use Rattle.std.specs.Str.{bytes_eq}
use Rattle.std.specs.Ordering.{is_eq, is_lt, nat_cmp, ordering_index}
use Rattle.std.specs.List.Sorted.{IsBinarySearchResult, IsNonDecreasingBy}
use Rattle.std.specs.Cmp.Lexicographic.{slice_cmp, lists_ties}
use Rattle.std.specs.Cmp.{tied_itself, tied_back, alike_right, unsigned_ties}
use Rattle.std.proofs.lemmas.Cmp.{nat_list_cmp_total}
use Rattle.std.proofs.lemmas.Bool.{cases_Bool, cases_lt, and_parts, true≢false, leb-true}
use Rattle.std.proofs.lemmas.List.{length-map}
use Rattle.std.proofs.lemmas.Slice.Eq.{bytes_eq-Decides}
use Rattle.color_values.specs.ColorName.{names, value_at, value_of_name}
use Rattle.color_values.specs.Views.{pairs_of, rises, value_among}
use Rattle.std.specs.Borrow.{Bor}

abbrev order : List ℕ → List ℕ → Ordering
order = slice_cmp nat_cmp

-- bytes in an order are not the same
apart : (x t : List ℕ) → order t x ≢ Equal → bytes_eq x t ≡ false
apart x t h = elim (cases_Bool (bytes_eq x t)) [
  | inl same ↦ absurd (h (ap (λ y. order y x) (sym ((bytes_eq-Decides x t).0 same)) ∙ tied_itself nat_list_cmp_total x))
  | inr other ↦ other
]

-- equal in the order, and so the same
equal_same : (x t : List ℕ) → order t x ≡ Equal → bytes_eq x t ≡ true
equal_same x t h = lists_ties nat_cmp unsigned_ties x t ∙ ap is_eq (tied_back nat_list_cmp_total t x h)

-- what is_lt says
is_less : (r : Ordering) → is_lt r ≡ true → r ≡ Less
is_less Less h = refl
is_less Equal h = absurd (true≢false (sym h))
is_less Greater h = absurd (true≢false (sym h))

abbrev Name : Type 0
Name = Bor (List ℕ) × ℕ

rises_rest : (n : Name) (ns : List Name) → rises (pairs_of (n ∷ ns)) ≡ true → rises (pairs_of ns) ≡ true
rises_rest n [] h = refl
rises_rest n (m ∷ ns) h = (and_parts (is_lt (order n.0.now m.0.now)) (rises (pairs_of (m ∷ ns))) h).1

rises_step : (n m : Name) (ns : List Name) → rises (pairs_of (n ∷ m ∷ ns)) ≡ true → order n.0.now m.0.now ≡ Less
rises_step n m ns h = is_less (order n.0.now m.0.now) ((and_parts (is_lt (order n.0.now m.0.now)) (rises (pairs_of (m ∷ ns))) h).0)

-- each name is below all later ones
first_below : (n : Name) (ns : List Name) (j : ℕ) (d : Name) → rises (pairs_of (n ∷ ns)) ≡ true → j < length ns → order n.0.now (get_or ns j d).0.now ≡ Less
first_below n [] j d h within = absurd (omega arith)
first_below n (m ∷ ns) zero d h within = rises_step n m ns h
first_below n (m ∷ ns) (suc j) d h within =
    nat_list_cmp_total.trans n.0.now m.0.now (get_or ns j d).0.now (rises_step n m ns h) (first_below m ns j d (rises_rest n (m ∷ ns) h) (omega arith))

below : (ns : List Name) (i j : ℕ) (d : Name) → rises (pairs_of ns) ≡ true → i < j → j < length ns → order (get_or ns i d).0.now (get_or ns j d).0.now ≡ Less
below [] i j d h before within = absurd (omega arith)
below (n ∷ ns) zero (suc j) d h before within = first_below n ns j d h (omega arith)
below (n ∷ ns) (suc i) (suc j) d h before within = below ns i j d (rises_rest n ns h) (omega arith) (omega arith)
below (n ∷ ns) i zero d h before within = absurd (omega arith)

-- so their comparisons with a text rise, as a search by halves asks
below_keeps : (x s t : List ℕ) (at : Ordering) → order s t ≡ Less → order t x ≡ at → at ≢ Greater → order s x ≡ Less
below_keeps x s t Less less e h = nat_list_cmp_total.trans s t x less e
below_keeps x s t Equal less e h = sym (alike_right nat_list_cmp_total t x s e) ∙ less
below_keeps x s t Greater less e h = absurd (h refl)

index_up : (x s t : List ℕ) (at : Ordering) → order s t ≡ Less → order t x ≡ at → ordering_index (order s x) ≤ ordering_index (order t x)
index_up x s t Less less e = let first = below_keeps x s t Less less e (λ g. cc) in rw (first, e) (omega arith)
index_up x s t Equal less e = let first = below_keeps x s t Equal less e (λ g. cc) in rw (first, e) (omega arith)
index_up x s t Greater less e = rw e (most (order s x))
  where
    most : (r : Ordering) → ordering_index r ≤ ordering_index Greater
    most Less = omega arith
    most Equal = omega arith
    most Greater = omega arith

comparisons_rise : (x : List ℕ) (ns : List Name) → rises (pairs_of ns) ≡ true → IsNonDecreasingBy (λ n. ordering_index (order n.0.now x)) ns
comparisons_rise x ns h i j d upto within = elim (cases_lt i j) [
  | inl before ↦ index_up x (get_or ns i d).0.now (get_or ns j d).0.now (order (get_or ns j d).0.now x) (below ns i j d h before within) refl
  | inr not_before ↦ let same : i ≡ j = omega arith in rw same (omega arith)
]

-- a text that is no name
none_of : (x : List ℕ) (ns : List Name) → ((k : ℕ) (d : Name) → k < length ns → bytes_eq x (get_or ns k d).0.now ≡ false) → value_among x (pairs_of ns) ≡ None
none_of x [] other = refl
none_of x (n ∷ ns) other = rw (other zero n (omega arith)) (none_of x ns (λ k d h. other (suc k) d (omega arith)))

pub name_is_none : (x : List ℕ) (ns : List Name) (place : ℕ) → rises (pairs_of ns) ≡ true → place ≤ length ns → IsBinarySearchResult (λ (n : Name). order n.0.now x) ns (Err place) → None ≡ value_among x (pairs_of ns)
name_is_none x ns place h within searched = sym (none_of x ns (λ k d inside. apart x (get_or ns k d).0.now (λ same. elim (cases_lt k place) [
  | inl before ↦ let less = (searched (comparisons_rise x ns h)).0 k d (omega arith) before in let clash = sym same ∙ less in cc
  | inr after ↦ let more = (searched (comparisons_rise x ns h)).1 k d (omega arith) inside in let clash = sym same ∙ more in cc
])))

-- the name at a place
found_at : (x : List ℕ) (ns : List Name) (m : ℕ) (d : Name) → rises (pairs_of ns) ≡ true → m < length ns → order (get_or ns m d).0.now x ≡ Equal → value_among x (pairs_of ns) ≡ Some (get_or ns m d).1
found_at x [] m d h within same = absurd (omega arith)
found_at x (n ∷ ns) zero d h within same = rw (equal_same x n.0.now same) refl
found_at x (n ∷ ns) (suc m) d h within same =
    let other : bytes_eq x n.0.now ≡ false = apart x n.0.now (λ e. let less = below_keeps x n.0.now (get_or ns m d).0.now Equal (first_below n ns m d h (omega arith)) same (λ g. cc) in let clash = sym e ∙ less in cc) in
    rw other (found_at x ns m d (rises_rest n ns h) (omega arith) same)

pub name_is_found : (x : List ℕ) (ns : List Name) (place : ℕ) (d : Name) → rises (pairs_of ns) ≡ true → place < length ns → IsBinarySearchResult (λ (n : Name). order n.0.now x) ns (Ok place) → Some (get_or ns place d).1 ≡ value_among x (pairs_of ns)
name_is_found x ns place d h within searched = sym (found_at x ns place d h within (searched d))

-- letters count without case where the names have none in upper case
in_lower_case : (name : List ℕ) (ps : List (List ℕ × ℕ)) → value_at name ps ≡ value_among (map to_ascii_lowercase name) (map (λ p. (map to_ascii_lowercase p.0, p.1)) ps)
unfolding value_at
in_lower_case name [] = refl
in_lower_case name (p ∷ ps) = rw (in_lower_case name ps) refl

pub value_of_letters : (name : List ℕ) → value_of_name name ≡ value_among (map to_ascii_lowercase name) names
unfolding value_of_name names
value_of_letters name = in_lower_case name names

-- a text that is longer than each name is none
all_short : List (List ℕ × ℕ) → Bool
all_short [] = true
all_short (p ∷ ps) = nat_le (length p.0) 20 && all_short ps

too_long : (x : List ℕ) (ps : List (List ℕ × ℕ)) → 20 < length x → all_short ps ≡ true → value_among x ps ≡ None
unfolding all_short
too_long x [] long h = refl
too_long x (p ∷ ps) long h =
    let both = and_parts (nat_le (length p.0) 20) (all_short ps) h in
    let short : length p.0 ≤ 20 = leb-true (length p.0) 20 both.0 in
    elim (cases_Bool (bytes_eq x p.0)) [
      | inl same ↦ absurd (omega (arith, ap length ((bytes_eq-Decides x p.0).0 same)))
      | inr other ↦ rw other (too_long x ps long both.1)
    ]

pub no_long_name : (name : List ℕ) → 20 < length name → value_of_name name ≡ None
unfolding names all_short
no_long_name name long = value_of_letters name ∙ too_long (map to_ascii_lowercase name) names (omega (arith, length-map name to_ascii_lowercase)) refl
