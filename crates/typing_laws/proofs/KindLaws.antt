-- Kinds and the values that are of them.
use Rattle.std.proofs.Common.{◌≡◌, ℕ, List, [], ◌∷◌, Bool, true, false, ◌||◌, nat_lt, Option, Some, None, Ok, Err, if◌then◌else◌, refl, ap, sym, subst}
use Rattle.std.proofs.lemmas.Bool.{eqb-true, eq-eqb, and_parts, and_from}
use Rattle.prop_values.specs.Data.{Data, null, boolean, number, text, color, list, map, Items, no_items, item}
use Rattle.prop_values.specs.declared.fault.EvalFault.TheVariants as faults
use Rattle.prop_values.specs.declared.kinds.Item.{Item}
use Rattle.prop_values.specs.declared.kinds.Item.TheVariants as items
use Rattle.prop_values.specs.declared.kinds.Kind.{Kind}
use Rattle.prop_values.specs.declared.kinds.Kind.TheVariants as kinds
use Rattle.property_tables.specs.Fitting.{are_items, has_count, item_count}
use Rattle.expr_types.specs.Fits.{same_item, same_count, same_kind, is_any_item, is_open}
use Rattle.expr_types.specs.Literals.{is_value, are_all, item_of, count_of, literal_kind}
use Rattle.expr_types.specs.Own.{all_kinds, common_kind}
use Rattle.typing_laws.specs.OfKind.{is_of}

item_eq : (a b : Item) → same_item a b ≡ true → a ≡ b
item_eq items.Any items.Any h = refl
item_eq items.Boolean items.Boolean h = refl
item_eq items.Number items.Number h = refl
item_eq items.Text items.Text h = refl
item_eq _ _ h = absurd (cc)

count_eq : (n m : Option ℕ) → same_count n m ≡ true → n ≡ m
count_eq None None h = refl
count_eq (Some a) (Some b) h = ap Some (eqb-true a b h)
count_eq _ _ h = absurd (cc)

pub kind_eq : (a b : Kind) → same_kind a b ≡ true → a ≡ b
kind_eq kinds.Any kinds.Any h = refl
kind_eq kinds.Boolean kinds.Boolean h = refl
kind_eq kinds.Number kinds.Number h = refl
kind_eq kinds.Text kinds.Text h = refl
kind_eq kinds.Color kinds.Color h = refl
kind_eq kinds.Object kinds.Object h = refl
kind_eq kinds.Image kinds.Image h = refl
kind_eq (kinds.List a n) (kinds.List b m) h = λ i. kinds.List (item_eq a b ((and_parts _ _ h).0) i)
    (count_eq n m ((and_parts _ _ h).1) i)
kind_eq _ _ h = absurd (cc)

pub any_items : (ds : Items) → are_items items.Any ds ≡ true
any_items no_items = refl
any_items (item d ds) = any_items ds

-- a wider item, a wider count
pub item_wide : (a b : Item) (ds : Items) → (is_any_item b || same_item a b) ≡ true → are_items a ds ≡ true →
    are_items b ds ≡ true
item_wide a items.Any ds h k = any_items ds
item_wide a items.Boolean ds h k = subst (λ i. are_items i ds ≡ true) (item_eq a items.Boolean h) k
item_wide a items.Number ds h k = subst (λ i. are_items i ds ≡ true) (item_eq a items.Number h) k
item_wide a items.Text ds h k = subst (λ i. are_items i ds ≡ true) (item_eq a items.Text h) k

pub count_wide : (n m : Option ℕ) (ds : Items) → (is_open m || same_count n m) ≡ true →
    has_count n ds ≡ true → has_count m ds ≡ true
count_wide n None ds h k = refl
count_wide n (Some m) ds h k = subst (λ c. has_count c ds ≡ true) (count_eq n (Some m) h) k

-- ---- literals

value_if : (b : Bool) (ds : Items) → is_value (if b then Ok (list ds) else Err faults.WrongType) ≡ true →
    b ≡ true
value_if true ds h = refl
value_if false ds h = absurd (cc)

pick_item : (t : Bool) (i j : Item) (ds : Items) → (t ≡ true → are_items i ds ≡ true) →
    are_items j ds ≡ true → are_items (if t then i else j) ds ≡ true
pick_item true i j ds h k = h refl
pick_item false i j ds h k = k

are_of : (i : Item) (ds : Items) → are_all i ds ≡ true → are_items i ds ≡ true
are_of i ds h = value_if (are_items i ds) ds h

item_of_is : (ds : Items) → are_items (item_of ds) ds ≡ true
item_of_is no_items = refl
item_of_is (item d ds) =
    let all = item d ds in
    pick_item (are_all items.Boolean all) items.Boolean _ all (are_of items.Boolean all)
    (pick_item (are_all items.Number all) items.Number _ all (are_of items.Number all)
    (pick_item (are_all items.Text all) items.Text _ all (are_of items.Text all) (any_items all)))

pub count_of_is : (n : ℕ) (ds : Items) → item_count ds ≡ n → has_count (count_of n) ds ≡ true
count_of_is n ds h = pick (nat_lt n 4294967296)
  where
    pick : (t : Bool) → has_count (if t then Some n else None) ds ≡ true
    pick true = eq-eqb (item_count ds) n h
    pick false = refl

pub literal_is : (d : Data) → is_of (literal_kind d) d ≡ true
literal_is null = refl
literal_is (boolean b) = refl
literal_is (number z) = refl
literal_is (text s) = refl
literal_is (color c) = refl
literal_is (list ds) = and_from _ _ (count_of_is (item_count ds) ds refl) (item_of_is ds)
literal_is (map ps) = refl

-- ---- the common kind of several

-- what is of one of these kinds is of a kind
abbrev pub Covers : Kind → List Kind → Type 0
Covers k [] = Unit {0}
Covers k (j ∷ js) = ((d : Data) → is_of j d ≡ true → is_of k d ≡ true) × Covers k js

covers_any : (js : List Kind) → Covers kinds.Any js
covers_any [] = tt
covers_any (j ∷ js) = (λ d h. refl, covers_any js)

covers_equal : (k : Kind) (js : List Kind) → all_kinds k js ≡ true → Covers k js
covers_equal k [] h = tt
covers_equal k (j ∷ js) h = (
  λ d g. subst (λ x. is_of x d ≡ true) (sym (kind_eq k j ((and_parts _ _ h).0))) g,
  covers_equal k js ((and_parts _ _ h).1),
)

covers_with : (k : Kind) (js : List Kind) (b : Bool) → all_kinds k js ≡ b →
    Covers (if b then k else kinds.Any) (k ∷ js)
covers_with k js true h = (λ d g. g, covers_equal k js h)
covers_with k js false h = covers_any (k ∷ js)

pub covers_common : (js : List Kind) → Covers (common_kind js) js
covers_common [] = tt
covers_common (k ∷ js) = covers_with k js (all_kinds k js) refl
