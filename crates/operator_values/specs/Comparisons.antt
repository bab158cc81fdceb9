-- Operators that compare two values. Source: MapLibre style specification, version 8, expressions.
use Rattle.std.specs.Prelude.{List, [], ◌∷◌, Bool, true, false, not, Option, Some, None, Result, Ok, Err}
use Rattle.std.specs.declared.cmp.Ordering.{Ordering}
use Rattle.std.specs.declared.cmp.Ordering.TheVariants.{Less, Equal, Greater}
use Rattle.prop_values.specs.Data.{Data, boolean}
use Rattle.prop_values.specs.Equality.{equal}
use Rattle.prop_values.specs.Forms.{order_of}
use Rattle.prop_values.specs.declared.fault.EvalFault.{EvalFault}
use Rattle.prop_values.specs.declared.fault.EvalFault.TheVariants.{WrongType, NotOrdered}
use Rattle.operator_values.specs.Evaluated.{Evaluated}

-- `==`: equal in form and parts
abbrev pub equal_of : List Data → Evaluated
equal_of (a ∷ b ∷ []) = Ok (boolean (equal a b))
equal_of _ = Err WrongType

-- `!=`
abbrev pub different_of : List Data → Evaluated
different_of (a ∷ b ∷ []) = Ok (boolean (not (equal a b)))
different_of _ = Err WrongType

abbrev pub is_less : Ordering → Bool
is_less Less = true
is_less Equal = false
is_less Greater = false

abbrev pub is_less_or_equal : Ordering → Bool
is_less_or_equal Less = true
is_less_or_equal Equal = true
is_less_or_equal Greater = false

abbrev pub is_greater : Ordering → Bool
is_greater Less = false
is_greater Equal = false
is_greater Greater = true

abbrev pub is_greater_or_equal : Ordering → Bool
is_greater_or_equal Less = false
is_greater_or_equal Equal = true
is_greater_or_equal Greater = true

-- the order of two numbers, or of two texts
abbrev pub or_not_ordered : Option Ordering → Result Ordering EvalFault
or_not_ordered (Some o) = Ok o
or_not_ordered None = Err NotOrdered

abbrev pub order_in : List Data → Result Ordering EvalFault
order_in (a ∷ b ∷ []) = or_not_ordered (order_of a b)
order_in _ = Err WrongType

abbrev pub accepted : (Ordering → Bool) → Result Ordering EvalFault → Evaluated
accepted accepts (Ok o) = Ok (boolean (accepts o))
accepted accepts (Err fault) = Err fault

-- `<`, `<=`, `>` and `>=`, each with its orders
abbrev pub ordered_of : (Ordering → Bool) → List Data → Evaluated
ordered_of accepts ds = accepted accepts (order_in ds)
