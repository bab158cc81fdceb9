-- Assertions and conversions: the faults of those whose argument may be of another form. Source: MapLibre
-- style specification, version 8, expressions.
use Rattle.std.specs.Prelude.{ℕ, List, [], ◌∷◌, Bool, true, false, not, ◌||◌, is_some, Option, Some, None}
use Rattle.prop_values.specs.Data.{Data, text}
use Rattle.prop_values.specs.declared.fault.EvalFault.TheVariants.{WrongType, NotColor, NotNumberText}
use Rattle.prop_values.specs.declared.kinds.Item.{Item}
use Rattle.prop_values.specs.declared.kinds.Kind.{Kind}
use Rattle.prop_values.specs.declared.kinds.Kind.TheVariants as kinds
use Rattle.prop_values.specs.declared.kinds.Want.TheVariants as wants
use Rattle.color_values.specs.ColorOf.{color_of}
use Rattle.expr_types.specs.Fits.{fits, is_always}
use Rattle.expr_types.specs.Own.{owns, faults_if, some_kind}
use Rattle.expr_types.specs.declared.own.Own.{Own}

-- `array`
abbrev pub own_array : Item → Option ℕ → Kind → Own
own_array i n k = owns (kinds.List i n) (faults_if (not (is_always (fits k (wants.List i n)))) WrongType)

-- `boolean`, `number`, `string` and `object`
abbrev pub own_asserted : Kind → List Kind → Own
own_asserted k ks = owns k (faults_if (not (some_kind k ks)) WrongType)

-- `to-color`: a literal that is the text of a color is one
abbrev pub is_color_text : Option Data → Bool
is_color_text (Some (text s)) = is_some (color_of s)
is_color_text l = false

abbrev pub some_color_text : List (Option Data) → Bool
some_color_text [] = false
some_color_text (l ∷ ls) = is_color_text l || some_color_text ls

abbrev pub own_to_color : List (Option Data) → List Kind → Own
own_to_color ls ks = owns kinds.Color (faults_if (not (some_kind kinds.Color ks || some_color_text ls)) NotColor)

-- `to-number`
abbrev pub own_to_number : List Kind → Own
own_to_number ks =
    owns kinds.Number (faults_if (not (some_kind kinds.Number ks || some_kind kinds.Boolean ks)) NotNumberText)
