-- Each child is smaller than its parent: what the models of lists and entries owe.
use Rattle.std.specs.Prelude.{◌≤◌, List, [], ◌∷◌, Option, Some, None, Vec}
use Rattle.std.specs.declared.rc.Rc.{Rc}
use Rattle.std.specs.declared.alloc.Global.{Global}
use Rattle.std.proofs.Common.{arith}
use denote.Param.Weighed.{most}
use Rattle.prop_values.specs.declared.value.Value.{Value}
use Rattle.prop_values.specs.declared.value.Value.TheVariants.{the_data, Null, Bool as Flag, Num, Text, Color}
use Rattle.prop_values.specs.declared.value.Value.TheVariants.{List as ListOf, Map}
use Rattle.prop_values.specs.declared.value.Entry.{Entry}
use Rattle.prop_values.specs.declared.value.Entries.TheDeep.{deep-Value, deep-Entry}
use Rattle.prop_values.specs.declared.value.Entries.TheShapes.{weighed-Values-values}
use Rattle.prop_values.specs.DataSize.{nodes}
use Rattle.prop_values.specs.View.{data_of}
use Rattle.prop_values.specs.ViewParts.{values_view, entries_view, values_size, entries_size, kept}

deep_le-nodes : (v : Value) → deep-Value v ≤ nodes (data_of v)
deep_le-nodes Null = omega arith
deep_le-nodes (Flag b) = omega arith
deep_le-nodes (Num n) = omega arith
deep_le-nodes (Text s) = omega arith
deep_le-nodes (Color c) = omega arith
deep_le-nodes (ListOf ds) = omega arith
deep_le-nodes (Map ps) = omega arith

pub values_fall : (vs : List Value) → most deep-Value vs ≤ values_size (values_view vs)
values_fall [] = omega arith
values_fall (v ∷ vs) = omega (arith, deep_le-nodes v, values_fall vs)

pub kept_fall : (held : Option (Rc (Vec Value Global) Global)) →
    (weighed-Values-values).weight the_data deep-Value held ≤ values_size (values_view (kept held))
kept_fall None = omega arith
kept_fall (Some values) = omega (arith, values_fall values.value.items)

pub entries_fall : (es : List Entry) → most deep-Entry es ≤ entries_size (entries_view es)
entries_fall [] = omega arith
entries_fall (e ∷ es) = omega (arith, deep_le-nodes e.value, entries_fall es)
