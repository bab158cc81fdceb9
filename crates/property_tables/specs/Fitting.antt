-- What a value is where a value of some form is wanted: a value, or a fault.
use Rattle.std.specs.Prelude.{ℕ, ◌+◌, Bool, true, false, ◌&&◌, nat_eq, Option, Some, None, Result, Ok, Err}
use Rattle.std.specs.Prelude.{if◌then◌else◌}
use Rattle.fixed_num.specs.declared.color.Color.{Color}
use Rattle.prop_values.specs.Data.{Data, null, boolean, number, text, color, list, map, Items, no_items, item}
use Rattle.prop_values.specs.Choices.{choice_holds}
use Rattle.prop_values.specs.ValueText.{shown_text}
use Rattle.prop_values.specs.declared.choice.Choice.{Choice}
use Rattle.prop_values.specs.declared.fault.EvalFault.{EvalFault}
use Rattle.prop_values.specs.declared.fault.EvalFault.TheVariants.{WrongType, NotColor, NotInEnum}
use Rattle.prop_values.specs.declared.kinds.Item.{Item}
use Rattle.prop_values.specs.declared.kinds.Item.TheVariants as items
use Rattle.prop_values.specs.declared.kinds.Want.{Want}
use Rattle.prop_values.specs.declared.kinds.Want.TheVariants as wants
use Rattle.color_values.specs.ColorOf.{color_of}

abbrev pub fit_boolean : Data → Result Data EvalFault
fit_boolean (boolean b) = Ok (boolean b)
fit_boolean _ = Err WrongType

abbrev pub fit_number : Data → Result Data EvalFault
fit_number (number z) = Ok (number z)
fit_number _ = Err WrongType

abbrev pub fit_text : Data → Result Data EvalFault
fit_text (text s) = Ok (text s)
fit_text _ = Err WrongType

abbrev pub fit_object : Data → Result Data EvalFault
fit_object (map ps) = Ok (map ps)
fit_object _ = Err WrongType

-- a text that is no color is a fault of its own
abbrev pub read_as_color : Option Color → Result Data EvalFault
read_as_color (Some c) = Ok (color c)
read_as_color None = Err NotColor

-- a color, or the text of one
abbrev pub fit_color : Data → Result Data EvalFault
fit_color (color c) = Ok (color c)
fit_color (text s) = read_as_color (color_of s)
fit_color _ = Err WrongType

-- the name of an image, or null where there is none
abbrev pub fit_image : Data → Result Data EvalFault
fit_image null = Ok null
fit_image (text s) = Ok (text s)
fit_image _ = Err WrongType

-- whether a value is of the form of an item
abbrev pub is_item : Item → Data → Bool
is_item items.Any d = true
is_item items.Boolean (boolean b) = true
is_item items.Number (number z) = true
is_item items.Text (text s) = true
is_item _ _ = false

abbrev pub are_items : Item → Items → Bool
are_items i no_items = true
are_items i (item d ds) = is_item i d && are_items i ds

abbrev pub item_count : Items → ℕ
item_count no_items = 0
item_count (item d ds) = 1 + item_count ds

abbrev pub has_count : Option ℕ → Items → Bool
has_count None ds = true
has_count (Some n) ds = nat_eq (item_count ds) n

-- a list of items of one form, and of so many where that is given
abbrev pub fit_list : Item → Option ℕ → Data → Result Data EvalFault
fit_list i n (list ds) = if has_count n ds && are_items i ds then Ok (list ds) else Err WrongType
fit_list i n _ = Err WrongType

-- a text of a set
abbrev pub fit_choice : Choice → Data → Result Data EvalFault
fit_choice c (text s) = if choice_holds c s then Ok (text s) else Err NotInEnum
fit_choice c _ = Err WrongType

abbrev pub is_choice : Choice → Data → Bool
is_choice c (text s) = choice_holds c s
is_choice c _ = false

abbrev pub are_choices : Choice → Items → Bool
are_choices c no_items = true
are_choices c (item d ds) = is_choice c d && are_choices c ds

-- a list of texts, each of a set
abbrev pub fit_choices : Choice → Data → Result Data EvalFault
fit_choices c (list ds) =
    if are_items items.Text ds then (if are_choices c ds then Ok (list ds) else Err NotInEnum) else Err WrongType
fit_choices c _ = Err WrongType

-- Fits a value to what is wanted. Source: own, as of each form above.
abbrev pub fit : Want → Data → Result Data EvalFault
fit wants.Any d = Ok d
fit wants.Shown d = Ok (text (shown_text d))
fit wants.Boolean d = fit_boolean d
fit wants.Number d = fit_number d
fit wants.Text d = fit_text d
fit wants.Color d = fit_color d
fit wants.Object d = fit_object d
fit wants.Image d = fit_image d
fit (wants.List i n) d = fit_list i n d
fit (wants.Enum c) d = fit_choice c d
fit (wants.EnumList c) d = fit_choices c d
