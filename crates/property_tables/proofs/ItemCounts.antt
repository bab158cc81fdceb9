-- Items are as many as the values that they are of.
use Rattle.std.proofs.Common.{◌≡◌, List, [], ◌∷◌, length, refl, arith}
use Rattle.prop_values.specs.ViewParts.{items}
use Rattle.prop_values.specs.declared.value.Value.{Value}
use Rattle.property_tables.specs.Fitting.{item_count}

pub count_items : (vs : List Value) → item_count (items vs) ≡ length vs
count_items [] = refl
count_items (v ∷ vs) = omega (arith, count_items vs)
