-- A value whose kind always fits a want is fitted as it is, but for what is shown.
use Rattle.std.proofs.Common.{◌≡◌, ℕ, Bool, true, false, ◌&&◌, ◌||◌, Option, Ok, Err, if◌then◌else◌, refl}
use Rattle.std.proofs.lemmas.Bool.{and_parts, and_from}
use Rattle.prop_values.specs.Data.{Data, null, boolean, number, text, color, list, map}
use Rattle.prop_values.specs.Faults.{holds, set_by}
use Rattle.prop_values.specs.declared.choice.Choice.{Choice}
use Rattle.prop_values.specs.declared.fault.EvalFault.{EvalFault}
use Rattle.prop_values.specs.declared.fault.EvalFault.TheVariants as faults
use Rattle.prop_values.specs.declared.fault.FaultSet.{FaultSet}
use Rattle.prop_values.specs.declared.kinds.Item.{Item}
use Rattle.prop_values.specs.declared.kinds.Item.TheVariants as items
use Rattle.prop_values.specs.declared.kinds.Kind.{Kind}
use Rattle.prop_values.specs.declared.kinds.Kind.TheVariants as kinds
use Rattle.prop_values.specs.declared.kinds.Want.{Want}
use Rattle.prop_values.specs.declared.kinds.Want.TheVariants as wants
use Rattle.property_tables.specs.Fitting.{fit, are_items, has_count}
use Rattle.expr_types.specs.Fits.{fits, is_any_item, same_item}
use Rattle.expr_types.specs.declared.fits.Fit.TheVariants.{Always, Maybe, Never}
use Rattle.operator_values.specs.Evaluated.{Evaluated, then_value}
use Rattle.typing_laws.specs.OfKind.{is_of}
use Rattle.typing_laws.proofs.KindLaws.{item_wide, count_wide}
use Rattle.typing_laws.proofs.Outcomes.{OutcomeOf}
use Rattle.typing_laws.proofs.Sets.{Within}

-- every fault
abbrev pub every_fault : FaultSet
every_fault = set_by (λ f. true)

pub holds_every : (f : EvalFault) → holds every_fault f ≡ true
holds_every faults.WrongType = refl
holds_every faults.NotColor = refl
holds_every faults.NotNumberText = refl
holds_every faults.IndexOutside = refl
holds_every faults.IndexNotWhole = refl
holds_every faults.DivideByZero = refl
holds_every faults.Overflow = refl
holds_every faults.ColorRange = refl
holds_every faults.NotOrdered = refl
holds_every faults.NotInEnum = refl

pub within_every : (F : FaultSet) → Within every_fault F
within_every F f h = holds_every f

-- ---- by the want

boolean_sure : (k : Kind) (d : Data) → is_of k d ≡ true → fits k wants.Boolean ≡ Always → fit wants.Boolean d ≡ Ok d
boolean_sure kinds.Boolean (boolean b) h f = refl
boolean_sure kinds.Boolean _ h f = absurd (cc)
boolean_sure _ d h f = absurd (cc)

number_sure : (k : Kind) (d : Data) → is_of k d ≡ true → fits k wants.Number ≡ Always → fit wants.Number d ≡ Ok d
number_sure kinds.Number (number z) h f = refl
number_sure kinds.Number _ h f = absurd (cc)
number_sure _ d h f = absurd (cc)

text_sure : (k : Kind) (d : Data) → is_of k d ≡ true → fits k wants.Text ≡ Always → fit wants.Text d ≡ Ok d
text_sure kinds.Text (text s) h f = refl
text_sure kinds.Text _ h f = absurd (cc)
text_sure _ d h f = absurd (cc)

color_sure : (k : Kind) (d : Data) → is_of k d ≡ true → fits k wants.Color ≡ Always → fit wants.Color d ≡ Ok d
color_sure kinds.Color (color c) h f = refl
color_sure kinds.Color _ h f = absurd (cc)
color_sure _ d h f = absurd (cc)

object_sure : (k : Kind) (d : Data) → is_of k d ≡ true → fits k wants.Object ≡ Always → fit wants.Object d ≡ Ok d
object_sure kinds.Object (map ps) h f = refl
object_sure kinds.Object _ h f = absurd (cc)
object_sure _ d h f = absurd (cc)

image_sure : (k : Kind) (d : Data) → is_of k d ≡ true → fits k wants.Image ≡ Always → fit wants.Image d ≡ Ok d
image_sure kinds.Image (text s) h f = refl
image_sure kinds.Image null h f = refl
image_sure kinds.Image _ h f = absurd (cc)
image_sure kinds.Text (text s) h f = refl
image_sure kinds.Text _ h f = absurd (cc)
image_sure _ d h f = absurd (cc)

if_true : (b : Bool) (d : Data) → b ≡ true → (if b then Ok d else Err faults.WrongType) ≡ Ok d
if_true true d h = refl
if_true false d h = absurd (cc)

if_always : (x y : Bool) → (if x then Always else if y then Maybe else Never) ≡ Always → x ≡ true
if_always true y h = refl
if_always false true h = absurd (cc)
if_always false false h = absurd (cc)

list_sure : (b : Item) (m : Option ℕ) (k : Kind) (d : Data) → is_of k d ≡ true → fits k (wants.List b m) ≡ Always →
    fit (wants.List b m) d ≡ Ok d
list_sure b m (kinds.List a n) (list ds) h f =
    let x = if_always _ _ f in
    if_true (has_count m ds && are_items b ds) (list ds) (and_from _ _
    (count_wide n m ds ((and_parts _ _ x).1) ((and_parts _ _ h).0))
    (item_wide a b ds ((and_parts _ _ x).0) ((and_parts _ _ h).1)))
list_sure b m (kinds.List a n) _ h f = absurd (cc)
list_sure b m kinds.Any d h f = absurd (cc)
list_sure b m _ d h f = absurd (cc)

-- one of a set never fits always
choice_open : (c : Choice) (k : Kind) → fits k (wants.Enum c) ≡ Always → ⊥
choice_open c kinds.Any f = absurd (cc)
choice_open c kinds.Text f = absurd (cc)
choice_open c kinds.Image f = absurd (cc)
choice_open c _ f = absurd (cc)

maybe_open : (b : Bool) → (if b then Maybe else Never) ≡ Always → ⊥
maybe_open true h = absurd (cc)
maybe_open false h = absurd (cc)

choices_open : (c : Choice) (k : Kind) → fits k (wants.EnumList c) ≡ Always → ⊥
choices_open c (kinds.List i n) f = maybe_open (is_any_item i || same_item i items.Text) f
choices_open c kinds.Any f = absurd (cc)
choices_open c _ f = absurd (cc)

always_fits : (w : Want) (k : Kind) (d : Data) → is_of k d ≡ true → fits k w ≡ Always → (w ≡ wants.Shown → ⊥) → fit w d ≡ Ok d
always_fits wants.Any k d h f n = refl
always_fits wants.Shown k d h f n = absurd (n refl)
always_fits wants.Boolean k d h f n = boolean_sure k d h f
always_fits wants.Number k d h f n = number_sure k d h f
always_fits wants.Text k d h f n = text_sure k d h f
always_fits wants.Color k d h f n = color_sure k d h f
always_fits wants.Object k d h f n = object_sure k d h f
always_fits wants.Image k d h f n = image_sure k d h f
always_fits (wants.List b m) k d h f n = list_sure b m k d h f
always_fits (wants.Enum c) k d h f n = absurd (choice_open c k f)
always_fits (wants.EnumList c) k d h f n = absurd (choices_open c k f)

-- so the fit of an outcome changes nothing
pub fit_stays : (w : Want) (k : Kind) (o : Evaluated) → OutcomeOf every_fault wants.Any k o → fits k w ≡ Always →
    (w ≡ wants.Shown → ⊥) → then_value o (fit w) ≡ o
fit_stays w k (Ok d) h f n = always_fits w k d h.1 f n
fit_stays w k (Err e) h f n = refl
