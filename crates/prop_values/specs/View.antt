-- Which data a value of the program is.
use Rattle.prop_values.specs.Data.{Data, null, boolean, number, text, color, list, map as mapping, items_of, pairs_of}
use Rattle.prop_values.specs.Data.{list_of, entries_of}
use Rattle.prop_values.specs.declared.value.Value.{Value}
use Rattle.prop_values.specs.declared.value.Value.TheVariants.{Null, Bool as Flag, Num, Text, Color, List as ListOf}
use Rattle.prop_values.specs.declared.value.Value.TheVariants.{Map}

-- The data of a value: each variant is the form of its name. Source: own.
abbrev pub data_of : Value → Data
data_of Null = null
data_of (Flag b) = boolean b
data_of (Num n) = number n
data_of (Text s) = text s
data_of (Color c) = color c
data_of (ListOf ds) = list (items_of ds)
data_of (Map ps) = mapping (pairs_of ps)

-- The value of data, as contracts see it.
abbrev pub value_of : Data → Value
value_of null = Null
value_of (boolean b) = Flag b
value_of (number n) = Num n
value_of (text s) = Text s
value_of (color c) = Color c
value_of (list ds) = ListOf (list_of ds)
value_of (mapping ps) = Map (entries_of ps)
