-- Arithmetic: where a number may pass the bound, and where a divisor may be 0. Source: MapLibre style
-- specification, version 8, expressions, over numbers as whole millionths.
use Rattle.std.specs.Prelude.{ℕ, pos, List, [], ◌∷◌, Bool, true, false, not, Option, Some, None}
use Rattle.std.specs.Ordering.{int_eq}
use Rattle.prop_values.specs.Data.{Data, number}
use Rattle.prop_values.specs.Faults.{no_faults, one_fault, union}
use Rattle.prop_values.specs.declared.fault.EvalFault.TheVariants.{DivideByZero, Overflow}
use Rattle.prop_values.specs.declared.kinds.Kind.{Kind}
use Rattle.prop_values.specs.declared.kinds.Kind.TheVariants as kinds
use Rattle.expr_types.specs.Own.{owns, faults_if, ill_typed}
use Rattle.expr_types.specs.declared.own.Own.{Own}

-- `-`: the negation of a number is within the bound
abbrev pub own_subtract : List Kind → Own
own_subtract (a ∷ []) = owns kinds.Number no_faults
own_subtract (a ∷ b ∷ []) = owns kinds.Number (one_fault Overflow)
own_subtract ks = ill_typed

abbrev pub is_not_zero : Option Data → Bool
is_not_zero (Some (number z)) = not (int_eq z (pos 0))
is_not_zero l = false

-- a divisor that is a literal other than 0
abbrev pub has_divisor : List (Option Data) → Bool
has_divisor (l ∷ m ∷ ls) = is_not_zero m
has_divisor ls = false

-- `/` and `%`
abbrev pub own_divide : List (Option Data) → Own
own_divide ls = owns kinds.Number (union (one_fault Overflow) (faults_if (not (has_divisor ls)) DivideByZero))

abbrev pub own_remainder : List (Option Data) → Own
own_remainder ls = owns kinds.Number (faults_if (not (has_divisor ls)) DivideByZero)
