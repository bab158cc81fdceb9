-- Operators of colors. Source: MapLibre style specification, version 8, expressions.
use Rattle.std.specs.Prelude.{pos, List, [], ◌∷◌, Option, Some, None, Ok, Err}
use Rattle.fixed_num.specs.declared.color.Color.{Color}
use Rattle.prop_values.specs.Data.{Data, number, color, list, no_items, item}
use Rattle.prop_values.specs.declared.fault.EvalFault.TheVariants.{WrongType, ColorRange}
use Rattle.operator_values.specs.Evaluated.{Evaluated}
use Rattle.operator_values.specs.Conversions.{color_of_parts}

abbrev pub color_or_range : Option Color → Evaluated
color_or_range (Some c) = Ok (color c)
color_or_range None = Err ColorRange

-- `rgb` and `rgba`: without a fourth number the color is opaque
abbrev pub rgba_of : List Data → Evaluated
rgba_of (number r ∷ number g ∷ number b ∷ []) = color_or_range (color_of_parts r g b (pos 1000000))
rgba_of (number r ∷ number g ∷ number b ∷ number a ∷ []) = color_or_range (color_of_parts r g b a)
rgba_of _ = Err WrongType

-- `to-rgba`: red, green, blue and the opacity
abbrev pub parts_of : List Data → Evaluated
parts_of (color c ∷ []) =
    Ok (list (item (number c.r) (item (number c.g) (item (number c.b) (item (number c.a) no_items)))))
parts_of _ = Err WrongType
