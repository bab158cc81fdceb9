-- Arithmetic and comparisons.
use Rattle.std.proofs.Common.{◌≡◌, ℕ, ◌+◌, zero, suc, ℤ, pos, negsuc, List, [], ◌∷◌, length, Bool, true, false, not, nat_eq, nat_le, Option, Some, None, Result, Ok, Err, if◌then◌else◌, refl, arith, sym, subst}
use Rattle.std.proofs.lemmas.Bool.{ne_eqb}
use Rattle.std.specs.Prelude.{unsigned_abs, ◌+ℤ◌, ◌-ℤ◌, ◌*ℤ◌, int_div, neg_ℤ}
use Rattle.std.specs.Ordering.{int_eq}
use Rattle.std.specs.Int.{int_min, int_max}
use Rattle.std.specs.declared.cmp.Ordering.{Ordering}
use Rattle.fixed_num.specs.Rounding.{rounded}
use Rattle.fixed_num.specs.Number.{bounded, sum, difference, product, quotient, absolute, floor_of, ceil_of, round_of}
use Rattle.fixed_num.specs.declared.fixed.Arith.{Arith}
use Rattle.fixed_num.specs.declared.fixed.Arith.TheVariants as arith_faults
use Rattle.prop_values.specs.Data.{Data, null, boolean, number, text, color, list, map}
use Rattle.prop_values.specs.Faults.{holds, one_fault, fault_of}
use Rattle.prop_values.specs.Forms.{order_of}
use Rattle.prop_values.specs.declared.fault.EvalFault.TheVariants as faults
use Rattle.prop_values.specs.declared.fault.FaultSet.{FaultSet}
use Rattle.prop_values.specs.declared.kinds.Kind.{Kind}
use Rattle.prop_values.specs.declared.kinds.Kind.TheVariants as kinds
use Rattle.prop_values.specs.declared.kinds.Want.{Want}
use Rattle.prop_values.specs.declared.kinds.Want.TheVariants as wants
use Rattle.expr_syntax.specs.declared.expression.Operator.{Operator}
use Rattle.expr_syntax.specs.declared.expression.Operator.TheVariants as ops
use Rattle.expr_types.specs.Arithmetics.{is_not_zero, own_divide, own_remainder}
use Rattle.expr_types.specs.Comparing.{are_ordered, own_ordered}
use Rattle.expr_types.specs.Own.{faults_if}
use Rattle.operator_values.specs.Arithmetic.{then_number, the_number, folded, sum_of, product_of, difference_of, quotient_of, remainder_of, of_number, chosen, chosen_of, least_of, greatest_of}
use Rattle.operator_values.specs.Comparisons.{equal_of, different_of, is_less, is_less_or_equal, is_greater, is_greater_or_equal, or_not_ordered, accepted, ordered_of}
use Rattle.operator_values.specs.Evaluated.{Evaluated}
use Rattle.typing_laws.specs.OfKind.{is_of}
use Rattle.typing_laws.proofs.Sets.{Within, within_left, within_right, within_one}
use Rattle.typing_laws.proofs.Outcomes.{OutcomeOf, OwnIn}
use Rattle.typing_laws.proofs.Arguments.{LiteralIn, AllOf, Applies}
use Rattle.typing_laws.proofs.Shapes.{of_one, of_two, of_one_or_two}

-- ---- which operations overflow, and where

abbrev pub OnlyOverflows : Result ℤ Arith → Type 0
OnlyOverflows (Ok z) = Unit {0}
OnlyOverflows (Err f) = f ≡ arith_faults.Overflow

bounded_if : (b : Bool) (z : ℤ) → OnlyOverflows (if b then Ok z else Err arith_faults.Overflow)
bounded_if true z = tt
bounded_if false z = refl

pub bounded_overflows : (z : ℤ) → OnlyOverflows (bounded z)
bounded_overflows z = bounded_if _ z

pub sum_overflows : (x y : ℤ) → OnlyOverflows (sum x y)
sum_overflows x y = bounded_overflows (x +ℤ y)

pub difference_overflows : (x y : ℤ) → OnlyOverflows (difference x y)
difference_overflows x y = bounded_overflows (x -ℤ y)

pub product_overflows : (x y : ℤ) → OnlyOverflows (product x y)
product_overflows x y = bounded_overflows (rounded (x *ℤ y) 1000000)

pub quotient_overflows : (x y : ℤ) → nat_eq (unsigned_abs y) 0 ≡ false → OnlyOverflows (quotient x y)
quotient_overflows x (pos zero) h = absurd (cc)
quotient_overflows x (pos (suc d)) h = bounded_overflows (rounded (x *ℤ pos 1000000) (suc d))
quotient_overflows x (negsuc d) h = bounded_overflows (rounded (neg_ℤ x *ℤ pos 1000000) (suc d))

not_zero : (z : ℤ) → not (int_eq z (pos 0)) ≡ true → nat_eq (unsigned_abs z) 0 ≡ false
not_zero (pos zero) h = absurd (cc)
not_zero (pos (suc n)) h = ne_eqb (suc n) 0 (λ e. omega (arith, e))
not_zero (negsuc n) h = ne_eqb (suc n) 0 (λ e. omega (arith, e))

module _ (S : FaultSet) where
  number_in : (r : Result ℤ Arith) → OnlyOverflows r → holds S faults.Overflow ≡ true →
      OutcomeOf S wants.Any kinds.Number (the_number r)
  number_in (Ok z) h f = (refl, refl)
  number_in (Err e) h f = subst (λ x. holds S (fault_of x) ≡ true) (sym h) f

  -- ---- `+` and `*`

  then_folded : (r : Result ℤ Arith) (go : ℤ → Evaluated) → OnlyOverflows r → holds S faults.Overflow ≡ true →
      ((z : ℤ) → OutcomeOf S wants.Any kinds.Number (go z)) →
      OutcomeOf S wants.Any kinds.Number (then_number r go)
  then_folded (Ok z) go h f all = all z
  then_folded (Err e) go h f all = subst (λ x. holds S (fault_of x) ≡ true) (sym h) f

  -- all are numbers
  abbrev AreNumbers : List Data → Type 0
  AreNumbers [] = Unit {0}
  AreNumbers (d ∷ ds) = (is_of kinds.Number d ≡ true) × AreNumbers ds

  folded_ok : (join : ℤ → ℤ → Result ℤ Arith) → ((x y : ℤ) → OnlyOverflows (join x y)) →
      (x : ℤ) (ds : List Data) → AreNumbers ds → holds S faults.Overflow ≡ true →
      OutcomeOf S wants.Any kinds.Number (folded join x ds)
  folded_ok join over x [] h f = (refl, refl)
  folded_ok join over x (number y ∷ ds) h f = then_folded (join x y) (λ z. folded join z ds) (over x y) f
      (λ z. folded_ok join over z ds h.1 f)
  folded_ok join over x (null ∷ ds) h f = absurd (let q = h.0 in cc)
  folded_ok join over x (boolean b ∷ ds) h f = absurd (let q = h.0 in cc)
  folded_ok join over x (text s ∷ ds) h f = absurd (let q = h.0 in cc)
  folded_ok join over x (color c ∷ ds) h f = absurd (let q = h.0 in cc)
  folded_ok join over x (list es ∷ ds) h f = absurd (let q = h.0 in cc)
  folded_ok join over x (map ps ∷ ds) h f = absurd (let q = h.0 in cc)

  -- where each argument is wanted as a number
  are_numbers : (op : Operator) → ((m k : ℕ) (w : Want) (l : Option Data) (j : Kind) (d : Data) → AllOf op m k
      w (l ∷ []) (j ∷ []) (d ∷ []) → is_of kinds.Number d ≡ true) →
      (m k : ℕ) (w : Want) (ls : List (Option Data)) (js : List Kind) (ds : List Data) →
      AllOf op m k w ls js ds → AreNumbers ds
  are_numbers op each m k w [] [] [] h = tt
  are_numbers op each m k w (l ∷ ls) (j ∷ js) (d ∷ ds) h =
      (each m k w l j d (h.0, tt), are_numbers op each m (k + 1) w ls js ds h.1)
  are_numbers op each m k w [] [] (d ∷ ds) h = absurd h
  are_numbers op each m k w [] (j ∷ js) ds h = absurd h
  are_numbers op each m k w (l ∷ ls) [] ds h = absurd h
  are_numbers op each m k w (l ∷ ls) (j ∷ js) [] h = absurd h

  pub sum_ok : Applies S ops.Add (λ world ds. sum_of ds)
  sum_ok bound w world ls js ds s h = λ none all. folded_ok sum sum_overflows (pos 0) ds
      (are_numbers ops.Add (λ m k w l j d g. g.0.wanted) (length ds) 0 w ls js ds h)
      (within_one S faults.Overflow all)

  pub product_ok : Applies S ops.Multiply (λ world ds. product_of ds)
  product_ok bound w world ls js ds s h = λ none all. folded_ok product product_overflows (pos 1000000) ds
      (are_numbers ops.Multiply (λ m k w l j d g. g.0.wanted) (length ds) 0 w ls js ds h)
      (within_one S faults.Overflow all)

  -- ---- `-`, `/` and `%`

  negative_one : (d : Data) → is_of kinds.Number d ≡ true →
      OutcomeOf S wants.Any kinds.Number (difference_of (d ∷ []))
  negative_one (number x) h = (refl, refl)
  negative_one _ h = absurd (cc)

  difference_two : (d e : Data) → is_of kinds.Number d ≡ true → is_of kinds.Number e ≡ true →
      holds S faults.Overflow ≡ true → OutcomeOf S wants.Any kinds.Number (difference_of (d ∷ e ∷ []))
  difference_two (number x) (number y) h g f = number_in (difference x y) (difference_overflows x y) f
  difference_two (number x) _ h g f = absurd (cc)
  difference_two _ e h g f = absurd (cc)

  pub difference_ok : Applies S ops.Subtract (λ world ds. difference_of ds)
  difference_ok = of_one_or_two S ops.Subtract (λ world ds. difference_of ds) (λ bound m s. s.arity)
      (λ w world l j d g none all. negative_one d g.wanted)
      (λ w world l l' j j' d d' g g' none all. difference_two d d' g.wanted g'.wanted
      (within_one S faults.Overflow all))

  -- a divisor that is a literal other than 0
  divisor : (l : Option Data) (y : ℤ) → LiteralIn l wants.Number (Ok (number y)) → is_not_zero l ≡ true →
      nat_eq (unsigned_abs y) 0 ≡ false
  divisor (Some (number z)) y q h = let same : z ≡ y = cc in subst (λ x. nat_eq (unsigned_abs x) 0 ≡ false)
      same (not_zero z h)
  divisor None y q h = absurd (cc)
  divisor (Some null) y q h = absurd (cc)
  divisor (Some (boolean b)) y q h = absurd (cc)
  divisor (Some (text s)) y q h = absurd (cc)
  divisor (Some (color c)) y q h = absurd (cc)
  divisor (Some (list ds)) y q h = absurd (cc)
  divisor (Some (map ps)) y q h = absurd (cc)

  quotient_in : (x y : ℤ) → holds S faults.Overflow ≡ true →
      (nat_eq (unsigned_abs y) 0 ≡ true → holds S faults.DivideByZero ≡ true) →
      OutcomeOf S wants.Any kinds.Number (the_number (quotient x y))
  quotient_in x (pos zero) f g = g refl
  quotient_in x (pos (suc d)) f g = number_in (quotient x (pos (suc d)))
      (bounded_overflows (rounded (x *ℤ pos 1000000) (suc d))) f
  quotient_in x (negsuc d) f g = number_in (quotient x (negsuc d))
      (bounded_overflows (rounded (neg_ℤ x *ℤ pos 1000000) (suc d))) f

  remainder_if : (b : Bool) (z : ℤ) → (b ≡ true → holds S faults.DivideByZero ≡ true) →
      OutcomeOf S wants.Any kinds.Number (the_number (if b then Err arith_faults.DivideByZero else Ok z))
  remainder_if true z g = g refl
  remainder_if false z g = (refl, refl)

  -- a 0 is listed, unless the divisor is a literal other than 0
  zero_listed : (l : Option Data) (y : ℤ) (b : Bool) → is_not_zero l ≡ b →
      LiteralIn l wants.Number (Ok (number y)) → Within S (faults_if (not b) faults.DivideByZero) →
      nat_eq (unsigned_abs y) 0 ≡ true → holds S faults.DivideByZero ≡ true
  zero_listed l y true q h all z = let other = divisor l y h q in absurd (cc)
  zero_listed l y false q h all z = within_one S faults.DivideByZero all

  divided : (l l' : Option Data) (d e : Data) → is_of kinds.Number d ≡ true → is_of kinds.Number e ≡ true →
      LiteralIn l' wants.Number (Ok e) →
      OwnIn S wants.Any (own_divide (l ∷ l' ∷ [])) (quotient_of (d ∷ e ∷ []))
  divided l l' (number x) (number y) h g q = λ none all.
      let zero_fault : FaultSet = faults_if (not (is_not_zero l')) faults.DivideByZero in
      quotient_in x y
      (within_one S faults.Overflow (within_left S (one_fault faults.Overflow) zero_fault all))
      (zero_listed l' y (is_not_zero l') refl q (within_right S (one_fault faults.Overflow) zero_fault all))
  divided l l' (number x) _ h g q = absurd (cc)
  divided l l' _ e h g q = absurd (cc)

  pub quotient_ok : Applies S ops.Divide (λ world ds. quotient_of ds)
  quotient_ok = of_two S ops.Divide (λ world ds. quotient_of ds) (λ bound m s. s.arity)
      (λ w world l l' j j' d d' g g'. divided l l' d d' g.wanted g'.wanted g'.literal)

  left_over : (l l' : Option Data) (d e : Data) → is_of kinds.Number d ≡ true → is_of kinds.Number e ≡ true →
      LiteralIn l' wants.Number (Ok e) →
      OwnIn S wants.Any (own_remainder (l ∷ l' ∷ [])) (remainder_of (d ∷ e ∷ []))
  left_over l l' (number x) (number y) h g q = λ none all.
      remainder_if (nat_eq (unsigned_abs y) 0) (x -ℤ y *ℤ int_div x y)
      (zero_listed l' y (is_not_zero l') refl q all)
  left_over l l' (number x) _ h g q = absurd (cc)
  left_over l l' _ e h g q = absurd (cc)

  pub remainder_ok : Applies S ops.Remainder (λ world ds. remainder_of ds)
  remainder_ok = of_two S ops.Remainder (λ world ds. remainder_of ds) (λ bound m s. s.arity)
      (λ w world l l' j j' d d' g g'. left_over l l' d d' g.wanted g'.wanted g'.literal)

  -- ---- functions of one number, and the least and greatest

  changed : (change : ℤ → ℤ) (d : Data) → is_of kinds.Number d ≡ true →
      OutcomeOf S wants.Any kinds.Number (of_number change (d ∷ []))
  changed change (number x) h = (refl, refl)
  changed change _ h = absurd (cc)

  pub absolute_ok : Applies S ops.Abs (λ world ds. of_number absolute ds)
  absolute_ok = of_one S ops.Abs (λ world ds. of_number absolute ds) (λ bound m s. s.arity)
      (λ w world l j d g none all. changed absolute d g.wanted)

  pub ceil_ok : Applies S ops.Ceil (λ world ds. of_number ceil_of ds)
  ceil_ok = of_one S ops.Ceil (λ world ds. of_number ceil_of ds) (λ bound m s. s.arity)
      (λ w world l j d g none all. changed ceil_of d g.wanted)

  pub floor_ok : Applies S ops.Floor (λ world ds. of_number floor_of ds)
  floor_ok = of_one S ops.Floor (λ world ds. of_number floor_of ds) (λ bound m s. s.arity)
      (λ w world l j d g none all. changed floor_of d g.wanted)

  pub round_ok : Applies S ops.Round (λ world ds. of_number round_of ds)
  round_ok = of_one S ops.Round (λ world ds. of_number round_of ds) (λ bound m s. s.arity)
      (λ w world l j d g none all. changed round_of d g.wanted)

  chosen_ok : (choose : ℤ → ℤ → ℤ) (x : ℤ) (ds : List Data) → AreNumbers ds →
      OutcomeOf S wants.Any kinds.Number (chosen choose x ds)
  chosen_ok choose x [] h = (refl, refl)
  chosen_ok choose x (number y ∷ ds) h = chosen_ok choose (choose x y) ds h.1
  chosen_ok choose x (null ∷ ds) h = absurd (let q = h.0 in cc)
  chosen_ok choose x (boolean b ∷ ds) h = absurd (let q = h.0 in cc)
  chosen_ok choose x (text s ∷ ds) h = absurd (let q = h.0 in cc)
  chosen_ok choose x (color c ∷ ds) h = absurd (let q = h.0 in cc)
  chosen_ok choose x (list es ∷ ds) h = absurd (let q = h.0 in cc)
  chosen_ok choose x (map ps ∷ ds) h = absurd (let q = h.0 in cc)

  some_chosen : (choose : ℤ → ℤ → ℤ) (ds : List Data) → nat_le 1 (length ds) ≡ true → AreNumbers ds →
      OutcomeOf S wants.Any kinds.Number (chosen_of choose ds)
  some_chosen choose [] n h = absurd (cc)
  some_chosen choose (number y ∷ ds) n h = chosen_ok choose y ds h.1
  some_chosen choose (null ∷ ds) n h = absurd (let q = h.0 in cc)
  some_chosen choose (boolean b ∷ ds) n h = absurd (let q = h.0 in cc)
  some_chosen choose (text s ∷ ds) n h = absurd (let q = h.0 in cc)
  some_chosen choose (color c ∷ ds) n h = absurd (let q = h.0 in cc)
  some_chosen choose (list es ∷ ds) n h = absurd (let q = h.0 in cc)
  some_chosen choose (map ps ∷ ds) n h = absurd (let q = h.0 in cc)

  pub least_ok : Applies S ops.Min (λ world ds. least_of ds)
  least_ok bound w world ls js ds s h = λ none all. some_chosen int_min ds s.arity
      (are_numbers ops.Min (λ m k w l j d g. g.0.wanted) (length ds) 0 w ls js ds h)

  pub greatest_ok : Applies S ops.Max (λ world ds. greatest_of ds)
  greatest_ok bound w world ls js ds s h = λ none all. some_chosen int_max ds s.arity
      (are_numbers ops.Max (λ m k w l j d g. g.0.wanted) (length ds) 0 w ls js ds h)

  -- ---- comparisons

  pub equal_ok : Applies S ops.Equal (λ world ds. equal_of ds)
  equal_ok = of_two S ops.Equal (λ world ds. equal_of ds) (λ bound m s. s.arity)
      (λ w world l l' j j' d d' g g' none all. (refl, refl))

  pub different_ok : Applies S ops.NotEqual (λ world ds. different_of ds)
  different_ok = of_two S ops.NotEqual (λ world ds. different_of ds) (λ bound m s. s.arity)
      (λ w world l l' j j' d d' g g' none all. (refl, refl))

  order_or : (accepts : Ordering → Bool) (o : Option Ordering) →
      (o ≡ None → holds S faults.NotOrdered ≡ true) →
      OutcomeOf S wants.Any kinds.Boolean (accepted accepts (or_not_ordered o))
  order_or accepts (Some o) h = (refl, refl)
  order_or accepts None h = h refl

  -- two values of kinds that are ordered have an order
  ordered : (j k : Kind) (d e : Data) → is_of j d ≡ true → is_of k e ≡ true → are_ordered j k ≡ true →
      order_of d e ≡ None → ⊥
  ordered kinds.Number kinds.Number (number a) (number b) h g o q = cc
  ordered kinds.Number kinds.Number (number a) _ h g o q = cc
  ordered kinds.Number kinds.Number _ e h g o q = cc
  ordered kinds.Text kinds.Text (text a) (text b) h g o q = cc
  ordered kinds.Text kinds.Text (text a) _ h g o q = cc
  ordered kinds.Text kinds.Text _ e h g o q = cc
  ordered _ _ d e h g o q = cc

  ordered_by : (j k : Kind) (d e : Data) (b : Bool) → are_ordered j k ≡ b → is_of j d ≡ true →
      is_of k e ≡ true → Within S (faults_if (not b) faults.NotOrdered) → order_of d e ≡ None →
      holds S faults.NotOrdered ≡ true
  ordered_by j k d e true o h g all q = absurd (ordered j k d e h g o q)
  ordered_by j k d e false o h g all q = within_one S faults.NotOrdered all

  ordered_two : (accepts : Ordering → Bool) (j k : Kind) (d e : Data) → is_of j d ≡ true → is_of k e ≡ true →
      OwnIn S wants.Any (own_ordered j k) (ordered_of accepts (d ∷ e ∷ []))
  ordered_two accepts j k d e h g = λ none all. order_or accepts (order_of d e)
      (ordered_by j k d e (are_ordered j k) refl h g all)

  pub less_ok : Applies S ops.Less (λ world ds. ordered_of is_less ds)
  less_ok = of_two S ops.Less (λ world ds. ordered_of is_less ds) (λ bound m s. s.arity)
      (λ w world l l' j j' d d' g g'. ordered_two is_less j j' d d' g.kind g'.kind)

  pub less_or_equal_ok : Applies S ops.LessOrEqual (λ world ds. ordered_of is_less_or_equal ds)
  less_or_equal_ok = of_two S ops.LessOrEqual (λ world ds. ordered_of is_less_or_equal ds)
      (λ bound m s. s.arity)
      (λ w world l l' j j' d d' g g'. ordered_two is_less_or_equal j j' d d' g.kind g'.kind)

  pub greater_ok : Applies S ops.Greater (λ world ds. ordered_of is_greater ds)
  greater_ok = of_two S ops.Greater (λ world ds. ordered_of is_greater ds) (λ bound m s. s.arity)
      (λ w world l l' j j' d d' g g'. ordered_two is_greater j j' d d' g.kind g'.kind)

  pub greater_or_equal_ok : Applies S ops.GreaterOrEqual (λ world ds. ordered_of is_greater_or_equal ds)
  greater_or_equal_ok = of_two S ops.GreaterOrEqual (λ world ds. ordered_of is_greater_or_equal ds)
      (λ bound m s. s.arity)
      (λ w world l l' j j' d d' g g'. ordered_two is_greater_or_equal j j' d d' g.kind g'.kind)
