-- Operators of numbers. Source: MapLibre style specification, version 8, expressions, over numbers as whole
-- millionths.
use Rattle.std.specs.Prelude.{ℤ, pos, neg_ℤ, List, [], ◌∷◌, Result, Ok, Err}
use Rattle.std.specs.Int.{int_min, int_max}
use Rattle.fixed_num.specs.Number.{sum, difference, product, quotient, remainder}
use Rattle.fixed_num.specs.declared.fixed.Arith.{Arith}
use Rattle.prop_values.specs.Data.{Data, number}
use Rattle.prop_values.specs.Faults.{fault_of}
use Rattle.prop_values.specs.declared.fault.EvalFault.TheVariants.{WrongType}
use Rattle.operator_values.specs.Evaluated.{Evaluated}

-- goes on with a number, unless there is none
abbrev pub then_number : Result ℤ Arith → (ℤ → Evaluated) → Evaluated
then_number (Ok z) go = go z
then_number (Err fault) go = Err (fault_of fault)

abbrev pub the_number : Result ℤ Arith → Evaluated
the_number answer = then_number answer (λ z. Ok (number z))

-- numbers joined from the left by an operation, from a first one on
abbrev pub folded : (ℤ → ℤ → Result ℤ Arith) → ℤ → List Data → Evaluated
folded join x [] = Ok (number x)
folded join x (number y ∷ ds) = then_number (join x y) (λ z. folded join z ds)
folded join x (_ ∷ ds) = Err WrongType

-- `+`: the sum of no numbers is 0
abbrev pub sum_of : List Data → Evaluated
sum_of = folded sum (pos 0)

-- `*`: the product of no numbers is 1
abbrev pub product_of : List Data → Evaluated
product_of = folded product (pos 1000000)

-- `-`: of two numbers, or of one from 0
abbrev pub difference_of : List Data → Evaluated
difference_of (number x ∷ []) = Ok (number (neg_ℤ x))
difference_of (number x ∷ number y ∷ []) = the_number (difference x y)
difference_of _ = Err WrongType

-- `/`
abbrev pub quotient_of : List Data → Evaluated
quotient_of (number x ∷ number y ∷ []) = the_number (quotient x y)
quotient_of _ = Err WrongType

-- `%`
abbrev pub remainder_of : List Data → Evaluated
remainder_of (number x ∷ number y ∷ []) = the_number (remainder x y)
remainder_of _ = Err WrongType

-- `abs`, `ceil`, `floor` and `round`, each with its function of one number
abbrev pub of_number : (ℤ → ℤ) → List Data → Evaluated
of_number change (number x ∷ []) = Ok (number (change x))
of_number change _ = Err WrongType

-- the one of the numbers that is chosen of each two
abbrev pub chosen : (ℤ → ℤ → ℤ) → ℤ → List Data → Evaluated
chosen choose x [] = Ok (number x)
chosen choose x (number y ∷ ds) = chosen choose (choose x y) ds
chosen choose x (_ ∷ ds) = Err WrongType

abbrev pub chosen_of : (ℤ → ℤ → ℤ) → List Data → Evaluated
chosen_of choose (number x ∷ ds) = chosen choose x ds
chosen_of choose _ = Err WrongType

-- `min` and `max`
abbrev pub least_of : List Data → Evaluated
least_of = chosen_of int_min

abbrev pub greatest_of : List Data → Evaluated
greatest_of = chosen_of int_max
