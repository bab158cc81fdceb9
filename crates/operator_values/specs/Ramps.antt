-- The value between two outputs of an interpolation. Source: MapLibre style specification, version 8,
-- expressions.
use Rattle.std.specs.Prelude.{ℤ, List, [], ◌∷◌, Result, Ok, Err}
use Rattle.prop_values.specs.Data.{Data, number, color, list, Items, no_items, item}
use Rattle.prop_values.specs.Faults.{fault_of}
use Rattle.prop_values.specs.declared.fault.EvalFault.{EvalFault}
use Rattle.prop_values.specs.declared.fault.EvalFault.TheVariants.{WrongType}
use Rattle.fixed_num.specs.declared.fixed.Arith.{Arith}
use Rattle.interpolate_fixed.specs.Linear.{linear_of, color_of}
use Rattle.operator_values.specs.Evaluated.{Evaluated}
use Rattle.operator_values.specs.Arithmetic.{the_number}

-- the numbers of two lists of one length, side by side; nothing else is interpolated
abbrev pub and_pair : ℤ → ℤ → Result (List (ℤ × ℤ)) EvalFault → Result (List (ℤ × ℤ)) EvalFault
and_pair a b (Ok pairs) = Ok ((a, b) ∷ pairs)
and_pair a b (Err fault) = Err fault

abbrev pub pairs_in : Items → Items → Result (List (ℤ × ℤ)) EvalFault
pairs_in no_items no_items = Ok []
pairs_in (item (number a) ds) (item (number b) es) = and_pair a b (pairs_in ds es)
pairs_in _ _ = Err WrongType

abbrev pub and_item : Result ℤ Arith → Result Items EvalFault → Result Items EvalFault
and_item (Ok z) (Ok ds) = Ok (item (number z) ds)
and_item (Ok z) (Err fault) = Err fault
and_item (Err fault) later = Err (fault_of fault)

-- item by item, with the fault of the first that has one
abbrev pub items_between : ℤ → ℤ → ℤ → List (ℤ × ℤ) → Result Items EvalFault
items_between x x0 x1 [] = Ok no_items
items_between x x0 x1 (p ∷ ps) = and_item (linear_of x x0 p.0 x1 p.1) (items_between x x0 x1 ps)

abbrev pub the_list : Result Items EvalFault → Evaluated
the_list (Ok ds) = Ok (list ds)
the_list (Err fault) = Err fault

abbrev pub list_between : ℤ → ℤ → ℤ → Result (List (ℤ × ℤ)) EvalFault → Evaluated
list_between x x0 x1 (Ok pairs) = the_list (items_between x x0 x1 pairs)
list_between x x0 x1 (Err fault) = Err fault

-- at x from the output d at x0 to the output e at x1: between two numbers, two colors or two lists of numbers
-- of one length
abbrev pub between_of : ℤ → ℤ → Data → ℤ → Data → Evaluated
between_of x x0 (number a) x1 (number b) = the_number (linear_of x x0 a x1 b)
between_of x x0 (color a) x1 (color b) = Ok (color (color_of x x0 a x1 b))
between_of x x0 (list ds) x1 (list es) = list_between x x0 x1 (pairs_in ds es)
between_of x x0 d x1 e = Err WrongType

-- between two items, which are numbers
abbrev pub number_between : ℤ → ℤ → Data → ℤ → Data → Evaluated
number_between x x0 (number a) x1 (number b) = the_number (linear_of x x0 a x1 b)
number_between x x0 d x1 e = Err WrongType
