-- The list that a literal is, which is kept beside it to be searched.
use Rattle.std.specs.declared.alloc.Global.{Global}
use Rattle.std.specs.Prelude.{◌≡◌, Box, Option, Some, None, List}
use Rattle.prop_values.specs.Data.{Data, list, items_of}
use Rattle.prop_values.specs.View.{data_of}
use Rattle.prop_values.specs.declared.value.Value.{Value}

abbrev pub IsSearched : Option (Box (List Data) Global) → Value → Type 0
IsSearched None value = Unit {0}
IsSearched (Some boxed) value = data_of value ≡ list (items_of boxed.value)
