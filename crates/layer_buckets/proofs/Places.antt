-- Places and slots, one of which is set.
use Rattle.std.proofs.Common.{◌≡◌, ◌≢◌, ℕ, ◌<◌, ◌≤◌, zero, suc, List, [], ◌∷◌, length, set, Bool, true, false, ◌&&◌, nat_eq, Option, Some, None, is_some, refl, ap, ◌∙◌, arith}
use Rattle.std.specs.List.{slice_get}
use Rattle.index_lists.proofs.Comparing.{is_true, test_true}
use Rattle.layer_buckets.specs.KeptSlots.{same_place, seen_column, column_at}
use Rattle.layer_buckets.specs.declared.columns.Column.{Column}
use Rattle.layer_buckets.specs.declared.slots.CellPlace.{CellPlace}

-- ---- lists

pub get_set_other : {A : Type 0} (xs : List A) (i : ℕ) (x : A) (k : ℕ) → k ≢ i → slice_get (set xs i x) k ≡ slice_get xs k
get_set_other [] i x k d = refl
get_set_other (y ∷ xs) zero x zero d = absurd (d refl)
get_set_other (y ∷ xs) zero x (suc k) d = refl
get_set_other (y ∷ xs) (suc i) x zero d = refl
get_set_other (y ∷ xs) (suc i) x (suc k) d = get_set_other xs i x k (λ q. d (ap suc q))

pub get_set_here : {A : Type 0} (xs : List A) (i : ℕ) (x : A) → i < length xs → slice_get (set xs i x) i ≡ Some x
get_set_here [] i x h = absurd (omega arith)
get_set_here (y ∷ xs) zero x h = refl
get_set_here (y ∷ xs) (suc i) x h = get_set_here xs i x (omega arith)

pub get_within : {A : Type 0} (xs : List A) (i : ℕ) → is_some (slice_get xs i) ≡ true → i < length xs
get_within [] i e = absurd (cc)
get_within (y ∷ xs) zero e = omega arith
get_within (y ∷ xs) (suc i) e = let r = get_within xs i e in omega arith

pub get_past : {A : Type 0} (xs : List A) (i : ℕ) → length xs ≤ i → slice_get xs i ≡ None
get_past [] i h = refl
get_past (y ∷ xs) zero h = absurd (omega arith)
get_past (y ∷ xs) (suc i) h = get_past xs i (omega arith)

pub get_inside : {A : Type 0} (xs : List A) (i : ℕ) → i < length xs → is_some (slice_get xs i) ≡ true
get_inside [] i h = absurd (omega arith)
get_inside (y ∷ xs) zero h = refl
get_inside (y ∷ xs) (suc i) h = get_inside xs i (omega arith)

-- ---- tests

pub and_true : (a b : Bool) → (a && b) ≡ true → (a ≡ true) × (b ≡ true)
and_true true true e = (refl, refl)
and_true true false e = absurd (cc)
and_true false b e = absurd (cc)

pub by_bool : {Q : Type 0} (b : Bool) → (b ≡ true → Q) → (b ≡ false → Q) → Q
by_bool true f g = f refl
by_bool false f g = g refl

pub both : (a b : Bool) → a ≡ true → b ≡ true → (a && b) ≡ true
both a b e f = ap (λ x. x && b) e ∙ f

pub place_true : (a b : CellPlace) → same_place a b ≡ true → a ≡ b
place_true a b e =
    let t = and_true (nat_eq a.column b.column) (nat_eq a.row b.row) e in
    λ i. record { column = test_true a.column b.column t.0 i; row = test_true a.row b.row t.1 i }

pub place_self : (a : CellPlace) → same_place a a ≡ true
place_self a = both (nat_eq a.column a.column) (nat_eq a.row a.row) (is_true a.column a.column refl) (is_true a.row a.row refl)

pub by_place : {Q : Type 0} (a b : CellPlace) → (a ≡ b → Q) → (same_place a b ≡ false → Q) → Q
by_place a b f g = by_bool (same_place a b) (λ t. f (place_true a b t)) g

-- ---- columns

pub seen_inside : (columns : List Column) (n : ℕ) → n < length columns → is_some (column_at columns n) ≡ true
seen_inside columns n h = go (slice_get columns n) (get_inside columns n h)
  where
    go : (o : Option Column) → is_some o ≡ true → is_some (seen_column o) ≡ true
    go None e = absurd (cc)
    go (Some c) e = refl
