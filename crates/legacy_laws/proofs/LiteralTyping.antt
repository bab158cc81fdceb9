-- How literals that fit are typed: none has a type fault.
use Rattle.std.proofs.Common.{◌≡◌, ◌∙◌, ℕ, List, [], refl, ap, sym, true, false}
use Rattle.std.specs.Prelude.{Bool, ◌&&◌, ◌||◌, nat_eq, nat_lt, Option, Some, None, Result, Ok, Err, if◌then◌else◌}
use Rattle.decimal_json.specs.declared.paths.PathPart.{PathPart}
use Rattle.prop_values.specs.Data.{Data, null, boolean, number as number_data, text, color, list, map as map_of, Items, no_items, item}
use Rattle.prop_values.specs.Faults.{no_faults}
use Rattle.prop_values.specs.declared.fault.EvalFault.{EvalFault}
use Rattle.prop_values.specs.declared.fault.EvalFault.TheVariants.{WrongType}
use Rattle.prop_values.specs.declared.fault.FaultSet.{FaultSet}
use Rattle.prop_values.specs.declared.kinds.Item.{Item}
use Rattle.prop_values.specs.declared.kinds.Item.TheVariants as items
use Rattle.prop_values.specs.declared.kinds.Kind.{Kind}
use Rattle.prop_values.specs.declared.kinds.Kind.TheVariants as kinds
use Rattle.prop_values.specs.declared.kinds.Want.{Want}
use Rattle.prop_values.specs.declared.kinds.Want.TheVariants as wants
use Rattle.property_tables.specs.Fitting.{fit, has_count, are_items, item_count}
use Rattle.expr_syntax.specs.Term.{Term, literal}
use Rattle.expr_types.specs.Fits.{same_item, is_any_item, is_open, same_count, list_fit, fits}
use Rattle.expr_types.specs.Literals.{is_value, are_all, item_of, count_of}
use Rattle.expr_types.specs.Own.{owns}
use Rattle.expr_types.specs.Typing.{Node, KindScope, fit_or, with_below, typed}
use Rattle.expr_types.specs.declared.fault.TypeFault.{TypeFault}
use Rattle.expr_types.specs.declared.fits.Fit.{Fit}
use Rattle.expr_types.specs.declared.fits.Fit.TheVariants.{Always, Maybe, Never}
use Rattle.expr_types.specs.declared.placed.Placed.{Placed}
use Rattle.legacy_laws.proofs.TableRows.{is_property_want}

-- ---- a result that is no fault

abbrev pub IsOk : {A : Type 0} → Result A TypeFault → Type 0
IsOk (Ok a) = Unit {0}
IsOk (Err f) = ⊥

-- well typed under a want, in all scopes and at all paths
abbrev pub IsTypedUnder : Want → Term → Type 0
IsTypedUnder want e = (scope : KindScope) (path : List PathPart) → IsOk (typed e want scope path)

abbrev pub MayFit : Fit → Type 0
MayFit Always = Unit {0}
MayFit Maybe = Unit {0}
MayFit Never = ⊥

pub fit_is_ok : (f : Fit) (want : Want) (k : Kind) (s may : FaultSet) (path : List PathPart) → MayFit f
    → IsOk (fit_or f want (owns k s) may path)
fit_is_ok Always want k s may path h = tt
fit_is_ok Maybe want k s may path h = tt
fit_is_ok Never want k s may path h = absurd h

pub below_is_ok : (below : List Placed) (r : Node) → IsOk r → IsOk (with_below below r)
below_is_ok below (Ok k) h = tt
below_is_ok below (Err f) h = absurd h

either_is_ok : {A : Type 0} (b : Bool) (a : A) (r : Result A TypeFault) → (b ≡ false → IsOk r)
    → IsOk (if b then Ok a else r)
either_is_ok true a r h = tt
either_is_ok false a r h = h refl

-- ---- literals that fit

pub or_true : (b : Bool) → (b || true) ≡ true
or_true true = refl
or_true false = refl

-- the item of a list whose items are known is that one, or none is known
abbrev item_by : Bool → Bool → Bool → Item
item_by a b c = if a then items.Boolean else if b then items.Number else if c then items.Text else items.Any

abbrev is_known : Item → Item → Bool
is_known i known = is_any_item known || (is_any_item i || same_item known i)

all_are : (i : Item) (ds : Items) → are_items i ds ≡ true → are_all i ds ≡ true
all_are i ds h = λ j. is_value (if h j then Ok (list ds) else Err WrongType)

item_known : (i : Item) (ds : Items) → are_items i ds ≡ true → is_known i (item_of ds) ≡ true
item_known items.Any ds h = or_true (is_any_item (item_of ds))
item_known i no_items h = refl
item_known items.Boolean (item d ds) h =
    let all = all_are items.Boolean (item d ds) h in
    λ j. is_known items.Boolean (item_by (all j) (are_all items.Number (item d ds)) (are_all items.Text (item d ds)))
item_known items.Number (item null ds) h = absurd (cc)
item_known items.Number (item (boolean b) ds) h = absurd (cc)
item_known items.Number (item (number_data z) ds) h =
    let all = all_are items.Number (item (number_data z) ds) h in
    λ j. is_known items.Number (item_by false (all j) (are_all items.Text (item (number_data z) ds)))
item_known items.Number (item (text s) ds) h = absurd (cc)
item_known items.Number (item (color c) ds) h = absurd (cc)
item_known items.Number (item (list es) ds) h = absurd (cc)
item_known items.Number (item (map_of ps) ds) h = absurd (cc)
item_known items.Text (item null ds) h = absurd (cc)
item_known items.Text (item (boolean b) ds) h = absurd (cc)
item_known items.Text (item (number_data z) ds) h = absurd (cc)
item_known items.Text (item (text s) ds) h =
    let all = all_are items.Text (item (text s) ds) h in
    λ j. is_known items.Text (item_by false false (all j))
item_known items.Text (item (color c) ds) h = absurd (cc)
item_known items.Text (item (list es) ds) h = absurd (cc)
item_known items.Text (item (map_of ps) ds) h = absurd (cc)

abbrev is_counted : Option ℕ → Option ℕ → Bool
is_counted n known = is_open known || (is_open n || same_count known n)

count_by : (b : Bool) (count m : ℕ) → nat_eq count m ≡ true → is_counted (Some m) (if b then Some count else None) ≡ true
count_by true count m h = h
count_by false count m h = refl

count_known : (n : Option ℕ) (ds : Items) → has_count n ds ≡ true → is_counted n (count_of (item_count ds)) ≡ true
count_known None ds h = or_true (is_open (count_of (item_count ds)))
count_known (Some m) ds h = count_by (nat_lt (item_count ds) 4294967296) (item_count ds) m h

may_when : (x y : Bool) → y ≡ true → MayFit (if x then Always else if y then Maybe else Never)
may_when true y h = tt
may_when false true h = tt
may_when false false h = absurd (cc)

abbrev taken_if : Bool → Data → Result Data EvalFault
taken_if b d = if b then Ok d else Err WrongType

both_hold : (a b : Bool) (d e : Data) → taken_if (a && b) d ≡ Ok e → (a ≡ true) × (b ≡ true)
both_hold true true d e h = (refl, refl)
both_hold true false d e h = absurd (cc)
both_hold false b d e h = absurd (cc)

list_may_fit : (i : Item) (n : Option ℕ) (ds : Items) (e : Data) → fit (wants.List i n) (list ds) ≡ Ok e
    → MayFit (list_fit (item_of ds) (count_of (item_count ds)) i n)
list_may_fit i n ds e h =
    let hold = both_hold (has_count n ds) (are_items i ds) (list ds) e h in
    let known = item_known i ds hold.1 in
    let counted = count_known n ds hold.0 in
    may_when _ (is_known i (item_of ds) && is_counted n (count_of (item_count ds))) (λ j. known j && counted j)

pub literal_typed : (want : Want) (d e : Data) → is_property_want want ≡ true → fit want d ≡ Ok e → IsTypedUnder want (literal d)
literal_typed wants.Any d e w h scope path = absurd (cc)
literal_typed wants.Text d e w h scope path = absurd (cc)
literal_typed wants.Object d e w h scope path = absurd (cc)
literal_typed wants.Shown null e w h scope path = tt
literal_typed wants.Shown (boolean b) e w h scope path = tt
literal_typed wants.Shown (number_data z) e w h scope path = tt
literal_typed wants.Shown (text s) e w h scope path = tt
literal_typed wants.Shown (color c) e w h scope path = tt
literal_typed wants.Shown (list ds) e w h scope path = tt
literal_typed wants.Shown (map_of ps) e w h scope path = tt
literal_typed wants.Boolean null e w h scope path = tt
literal_typed wants.Boolean (boolean b) e w h scope path = tt
literal_typed wants.Boolean (number_data z) e w h scope path = absurd (cc)
literal_typed wants.Boolean (text s) e w h scope path = absurd (cc)
literal_typed wants.Boolean (color c) e w h scope path = absurd (cc)
literal_typed wants.Boolean (list ds) e w h scope path = absurd (cc)
literal_typed wants.Boolean (map_of ps) e w h scope path = absurd (cc)
literal_typed wants.Number null e w h scope path = tt
literal_typed wants.Number (boolean b) e w h scope path = absurd (cc)
literal_typed wants.Number (number_data z) e w h scope path = tt
literal_typed wants.Number (text s) e w h scope path = absurd (cc)
literal_typed wants.Number (color c) e w h scope path = absurd (cc)
literal_typed wants.Number (list ds) e w h scope path = absurd (cc)
literal_typed wants.Number (map_of ps) e w h scope path = absurd (cc)
literal_typed wants.Color null e w h scope path = tt
literal_typed wants.Color (boolean b) e w h scope path = absurd (cc)
literal_typed wants.Color (number_data z) e w h scope path = absurd (cc)
literal_typed wants.Color (text s) e w h scope path =
    below_is_ok [] _ (either_is_ok (is_value (fit wants.Color (text s))) _ _ (λ f. tt))
literal_typed wants.Color (color c) e w h scope path = tt
literal_typed wants.Color (list ds) e w h scope path = absurd (cc)
literal_typed wants.Color (map_of ps) e w h scope path = absurd (cc)
literal_typed wants.Image null e w h scope path = tt
literal_typed wants.Image (boolean b) e w h scope path = absurd (cc)
literal_typed wants.Image (number_data z) e w h scope path = absurd (cc)
literal_typed wants.Image (text s) e w h scope path = tt
literal_typed wants.Image (color c) e w h scope path = absurd (cc)
literal_typed wants.Image (list ds) e w h scope path = absurd (cc)
literal_typed wants.Image (map_of ps) e w h scope path = absurd (cc)
literal_typed (wants.List i n) null e w h scope path = tt
literal_typed (wants.List i n) (boolean b) e w h scope path = absurd (cc)
literal_typed (wants.List i n) (number_data z) e w h scope path = absurd (cc)
literal_typed (wants.List i n) (text s) e w h scope path = absurd (cc)
literal_typed (wants.List i n) (color c) e w h scope path = absurd (cc)
literal_typed (wants.List i n) (list ds) e w h scope path =
    let k = kinds.List (item_of ds) (count_of (item_count ds)) in
    below_is_ok [] (fit_or (fits k (wants.List i n)) (wants.List i n) (owns k no_faults) no_faults path)
    (fit_is_ok (fits k (wants.List i n)) (wants.List i n) k no_faults no_faults path (list_may_fit i n ds e h))
literal_typed (wants.List i n) (map_of ps) e w h scope path = absurd (cc)
literal_typed (wants.Enum c) null e w h scope path = tt
literal_typed (wants.Enum c) (boolean b) e w h scope path = absurd (cc)
literal_typed (wants.Enum c) (number_data z) e w h scope path = absurd (cc)
literal_typed (wants.Enum c) (text s) e w h scope path =
    below_is_ok [] _ (either_is_ok (is_value (fit (wants.Enum c) (text s))) _ _ (λ f. tt))
literal_typed (wants.Enum c) (color b) e w h scope path = absurd (cc)
literal_typed (wants.Enum c) (list ds) e w h scope path = absurd (cc)
literal_typed (wants.Enum c) (map_of ps) e w h scope path = absurd (cc)
literal_typed (wants.EnumList c) null e w h scope path = tt
literal_typed (wants.EnumList c) (boolean b) e w h scope path = absurd (cc)
literal_typed (wants.EnumList c) (number_data z) e w h scope path = absurd (cc)
literal_typed (wants.EnumList c) (text s) e w h scope path = absurd (cc)
literal_typed (wants.EnumList c) (color b) e w h scope path = absurd (cc)
literal_typed (wants.EnumList c) (list ds) e w h scope path =
    let sure : is_value (fit (wants.EnumList c) (list ds)) ≡ true = ap is_value h in
    below_is_ok [] _ (either_is_ok (is_value (fit (wants.EnumList c) (list ds))) _ _
    (λ f. let clash : true ≡ false = sym sure ∙ f in absurd (cc)))
literal_typed (wants.EnumList c) (map_of ps) e w h scope path = absurd (cc)

pub null_typed : (want : Want) → IsTypedUnder want (literal null)
null_typed wants.Any scope path = tt
null_typed wants.Shown scope path = tt
null_typed wants.Boolean scope path = tt
null_typed wants.Number scope path = tt
null_typed wants.Text scope path = tt
null_typed wants.Color scope path = tt
null_typed wants.Object scope path = tt
null_typed wants.Image scope path = tt
null_typed (wants.List i n) scope path = tt
null_typed (wants.Enum c) scope path = tt
null_typed (wants.EnumList c) scope path = tt

-- any literal, where nothing is wanted of it
pub any_typed : (d : Data) → IsTypedUnder wants.Any (literal d)
any_typed null scope path = tt
any_typed (boolean b) scope path = tt
any_typed (number_data z) scope path = tt
any_typed (text s) scope path = tt
any_typed (color c) scope path = tt
any_typed (list ds) scope path = tt
any_typed (map_of ps) scope path = tt
