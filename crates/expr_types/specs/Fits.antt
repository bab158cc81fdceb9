-- How a kind fits a want, the kind of a node under a want, and the faults of a fit that may fail.
-- Source: MapLibre style specification, version 8, types of expressions, as this project takes them.
use Rattle.std.specs.Prelude.{ℕ, Bool, true, false, ◌&&◌, ◌||◌, nat_eq, Option, Some, None, if◌then◌else◌}
use Rattle.prop_values.specs.Faults.{no_faults, one_fault, union}
use Rattle.prop_values.specs.declared.fault.EvalFault.TheVariants.{WrongType, NotColor, NotInEnum}
use Rattle.prop_values.specs.declared.fault.FaultSet.{FaultSet}
use Rattle.prop_values.specs.declared.kinds.Item.{Item}
use Rattle.prop_values.specs.declared.kinds.Item.TheVariants as items
use Rattle.prop_values.specs.declared.kinds.Kind.{Kind}
use Rattle.prop_values.specs.declared.kinds.Kind.TheVariants as kinds
use Rattle.prop_values.specs.declared.kinds.Want.{Want}
use Rattle.prop_values.specs.declared.kinds.Want.TheVariants as wants
use Rattle.expr_types.specs.declared.fits.Fit.{Fit}
use Rattle.expr_types.specs.declared.fits.Fit.TheVariants.{Always, Maybe, Never}

abbrev pub same_item : Item → Item → Bool
same_item items.Any items.Any = true
same_item items.Boolean items.Boolean = true
same_item items.Number items.Number = true
same_item items.Text items.Text = true
same_item _ _ = false

abbrev pub same_count : Option ℕ → Option ℕ → Bool
same_count None None = true
same_count (Some n) (Some m) = nat_eq n m
same_count _ _ = false

abbrev pub same_kind : Kind → Kind → Bool
same_kind kinds.Any kinds.Any = true
same_kind kinds.Boolean kinds.Boolean = true
same_kind kinds.Number kinds.Number = true
same_kind kinds.Text kinds.Text = true
same_kind kinds.Color kinds.Color = true
same_kind kinds.Object kinds.Object = true
same_kind kinds.Image kinds.Image = true
same_kind (kinds.List i n) (kinds.List j m) = same_item i j && same_count n m
same_kind _ _ = false

-- an item, or a number of items, of which nothing is known
abbrev pub is_any_item : Item → Bool
is_any_item i = same_item i items.Any

abbrev pub is_open : Option ℕ → Bool
is_open n = same_count n None

-- A list of i, n of them, where j, m of them, are wanted: each part that is wanted is known; else none that
-- is known differs.
abbrev pub list_fit : Item → Option ℕ → Item → Option ℕ → Fit
list_fit i n j m =
    if (is_any_item j || same_item i j) && (is_open m || same_count n m) then Always
    else if (is_any_item i || (is_any_item j || same_item i j)) && (is_open n || (is_open m || same_count n m))
    then Maybe
    else Never

-- a list of i where texts of a set are wanted
abbrev pub choices_fit : Item → Fit
choices_fit i = if is_any_item i || same_item i items.Text then Maybe else Never

abbrev pub fits : Kind → Want → Fit
fits k wants.Any = Always
fits k wants.Shown = Always
fits kinds.Boolean wants.Boolean = Always
fits kinds.Number wants.Number = Always
fits kinds.Text wants.Text = Always
fits kinds.Color wants.Color = Always
fits kinds.Object wants.Object = Always
fits kinds.Image wants.Image = Always
fits kinds.Text wants.Image = Always
fits (kinds.List i n) (wants.List j m) = list_fit i n j m
fits kinds.Any _ = Maybe
fits kinds.Image wants.Text = Maybe
fits kinds.Image wants.Color = Maybe
fits kinds.Image (wants.Enum c) = Maybe
fits kinds.Text wants.Color = Maybe
fits kinds.Text (wants.Enum c) = Maybe
fits (kinds.List i n) (wants.EnumList c) = choices_fit i
fits _ _ = Never

abbrev pub is_always : Fit → Bool
is_always Always = true
is_always _ = false

-- the kind of what is wanted
abbrev pub wanted_kind : Want → Kind
wanted_kind wants.Any = kinds.Any
wanted_kind wants.Shown = kinds.Text
wanted_kind wants.Boolean = kinds.Boolean
wanted_kind wants.Number = kinds.Number
wanted_kind wants.Text = kinds.Text
wanted_kind wants.Color = kinds.Color
wanted_kind wants.Object = kinds.Object
wanted_kind wants.Image = kinds.Image
wanted_kind (wants.List i n) = kinds.List i n
wanted_kind (wants.Enum c) = kinds.Text
wanted_kind (wants.EnumList c) = kinds.List items.Text None

-- The kind of a node under a want: the want's, where it is not Any. Under a list of anything, and of any
-- number, a list keeps its own kind.
abbrev pub list_under : Item → Option ℕ → Item → Option ℕ → Kind
list_under items.Any None i n = kinds.List i n
list_under j m i n = kinds.List j m

abbrev pub kind_under : Want → Kind → Kind
kind_under wants.Any k = k
kind_under (wants.List j m) (kinds.List i n) = list_under j m i n
kind_under want k = wanted_kind want

-- A node that hands its want to its branches has the want's kind always, where it is not Any.
abbrev pub branch_kind : Want → Kind → Kind
branch_kind wants.Any k = k
branch_kind want k = wanted_kind want

-- the faults of a fit that may fail
abbrev pub misfits : Want → Kind → FaultSet
misfits wants.Color kinds.Text = one_fault NotColor
misfits wants.Color k = union (one_fault NotColor) (one_fault WrongType)
misfits (wants.Enum c) kinds.Text = one_fault NotInEnum
misfits (wants.Enum c) k = union (one_fault NotInEnum) (one_fault WrongType)
misfits (wants.EnumList c) (kinds.List items.Text n) = one_fault NotInEnum
misfits (wants.EnumList c) k = union (one_fault NotInEnum) (one_fault WrongType)
misfits want k = one_fault WrongType

abbrev pub fit_faults : Fit → Want → Kind → FaultSet
fit_faults Maybe want k = misfits want k
fit_faults fit want k = no_faults
