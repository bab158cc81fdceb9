-- Whole numbers of units, which are counts, indexes and places. Source: own.
use Rattle.std.specs.Prelude.{ℕ, ◌+◌, ◌-◌, ◌*◌, ◌/◌, ◌%◌, ℤ, pos, neg_ℤ, int_lt, nat_eq, unsigned_abs, min, Bool}
use Rattle.std.specs.Prelude.{Result, Ok, Err, if◌then◌else◌}
use Rattle.prop_values.specs.Data.{Data, number}
use Rattle.prop_values.specs.declared.fault.EvalFault.{EvalFault}
use Rattle.prop_values.specs.declared.fault.EvalFault.TheVariants.{IndexOutside, IndexNotWhole}

abbrev pub is_whole : ℤ → Bool
is_whole z = nat_eq (unsigned_abs z % 1000000) 0

-- how many whole units a magnitude has
abbrev pub units : ℤ → ℕ
units z = unsigned_abs z / 1000000

-- so many units, as a number
abbrev pub count : ℕ → Data
count n = number (pos (n * 1000000))

-- An index: a whole number that is not below 0.
abbrev pub index_in : ℤ → Result ℕ EvalFault
index_in z = if is_whole z then (if int_lt z (pos 0) then Err IndexOutside else Ok (units z)) else Err IndexNotWhole

-- A place in a sequence of `length` items, where a negative index counts from the end: clamped to 0 to the
-- length.
abbrev pub held_place : ℕ → ℤ → ℕ
held_place length z = if int_lt z (pos 0) then length - units z else min (units z) length

abbrev pub place_in : ℕ → ℤ → Result ℕ EvalFault
place_in length z = if is_whole z then Ok (held_place length z) else Err IndexNotWhole
