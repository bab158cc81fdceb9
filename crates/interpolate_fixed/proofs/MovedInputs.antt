-- Laws of moved inputs.
use Rattle.std.proofs.Common.{◌≡◌, ℕ, ◌+◌, ◌-◌, ◌<◌, ℤ, pos, ◌-ℤ◌, List, length, refl, arith, true, false, inl, inr}
use Rattle.std.specs.Prelude.{Result, Ok, Err, int_le, nat_eq, unsigned_abs, ◌≤ℤ◌}
use Rattle.std.proofs.lemmas.Bool.{cases_Bool, cases_lt, eq-eqb, ne_eqb}
use Rattle.std.proofs.lemmas.Int.{ints, clamps}
use Rattle.fixed_num.specs.Number.{sum, difference, product, quotient}
use Rattle.fixed_num.specs.declared.fixed.Arith.{Arith}
use Rattle.prop_values.specs.declared.outcome.Curve.{Curve}
use Rattle.prop_values.specs.declared.outcome.Curve.TheVariants.{Linear, Exponential}
use Rattle.power_fixed.specs.Power.{one, power_of}
use Rattle.power_fixed.proofs.FixedBases.{power_one}
use Rattle.interpolate_fixed.specs.Places.{input_at, first_of, last_of, count_not_above}
use Rattle.interpolate_fixed.specs.PlaceFacts.{IsAscending, IsBetween}
use Rattle.interpolate_fixed.specs.Warp.{and_then, held, growth_of, moved_by, moved_between, warp_of}
use Rattle.interpolate_fixed.proofs.Counts.{count_is}

-- a step before an answer has an answer
and_then_ok : (a : Result ℤ Arith) (next : ℤ → Result ℤ Arith) (r : ℤ) → and_then a next ≡ Ok r → (z : ℤ) × (a ≡ Ok z) × (next z ≡ Ok r)
and_then_ok (Ok z) next r e = (z, refl, e)
and_then_ok (Err fault) next r e = absurd (cc)

-- what is held lies between its ends
held_between : (low high z : ℤ) → low ≤ℤ high → (low ≤ℤ held low high z) × (held low high z ≤ℤ high)
held_between low high z h = (omega (arith, ints, clamps), omega (arith, ints, clamps))

moved_by_between : (x0 x1 n m r : ℤ) → x0 ≤ℤ x1 → moved_by x0 x1 n m ≡ Ok r → (x0 ≤ℤ r) × (r ≤ℤ x1)
moved_by_between x0 x1 n m r h e =
    let (share, e1, f1) = and_then_ok (quotient n m) _ r e in
    let (width, e2, f2) = and_then_ok (difference x1 x0) _ r f1 in
    let (step, e3, f3) = and_then_ok (product width share) _ r f2 in
    let (z, e4, f4) = and_then_ok (sum x0 step) _ r f3 in
    let same : held x0 x1 z ≡ r = cc in
    rw (← same) (held_between x0 x1 z h)

moved_between_ends : (base x0 x1 x r : ℤ) → x0 ≤ℤ x → x ≤ℤ x1 → moved_between base x0 x1 x ≡ Ok r → (x0 ≤ℤ r) × (r ≤ℤ x1)
unfolding moved_between
moved_between_ends base x0 x1 x r h k e = elim (cases_Bool (nat_eq (unsigned_abs (x -ℤ x0)) 0)) [
  | inl at ↦ let e' = rw at at e in let same : x ≡ r = cc in rw (← same) (h, k)
  | inr behind ↦ let e' = rw behind at e in
      let (n, e1, f1) = and_then_ok (growth_of base x0 x) _ r e' in
      let (m, e2, f2) = and_then_ok (growth_of base x0 x1) _ r f1 in
      elim (cases_Bool (nat_eq (unsigned_abs m) 0)) [
        | inl flat ↦ let e'' = rw flat at f2 in let same : x ≡ r = cc in rw (← same) (h, k)
        | inr rising ↦ let e'' = rw rising at f2 in moved_by_between x0 x1 n m r (omega (arith, ints)) e''
      ]
]

-- the cases of the definition, by their premises
same_place : (x x0 : ℤ) → x ≡ x0 → nat_eq (unsigned_abs (x -ℤ x0)) 0 ≡ true
same_place x x0 h = eq-eqb (unsigned_abs (x -ℤ x0)) 0 (omega (arith, ints))

other_place : (x x0 : ℤ) → (x ≡ x0 → ⊥) → nat_eq (unsigned_abs (x -ℤ x0)) 0 ≡ false
other_place x x0 h = ne_eqb (unsigned_abs (x -ℤ x0)) 0 (λ e. h (omega (arith, ints)))

pub stays_at_start : (base x0 x1 x : ℤ) → x ≡ x0 → Ok x ≡ moved_between base x0 x1 x
unfolding moved_between
stays_at_start base x0 x1 x h = rw (same_place x x0 h) refl

pub first_fault : (base x0 x1 x : ℤ) (fault : Arith) → Err fault ≡ growth_of base x0 x → (x ≡ x0 → ⊥) → Err fault ≡ moved_between base x0 x1 x
unfolding moved_between
first_fault base x0 x1 x fault is h = rw (other_place x x0 h, ← is) refl

pub second_fault : (base x0 x1 x n : ℤ) (fault : Arith) → Ok n ≡ growth_of base x0 x → Err fault ≡ growth_of base x0 x1 → (x ≡ x0 → ⊥) → Err fault ≡ moved_between base x0 x1 x
unfolding moved_between
second_fault base x0 x1 x n fault is at h = rw (other_place x x0 h, ← is, ← at) refl

pub stays_flat : (base x0 x1 x n m : ℤ) → Ok n ≡ growth_of base x0 x → Ok m ≡ growth_of base x0 x1 → (x ≡ x0 → ⊥) → m ≡ pos 0 → Ok x ≡ moved_between base x0 x1 x
unfolding moved_between
stays_flat base x0 x1 x n m is at h flat =
    let none : nat_eq (unsigned_abs m) 0 ≡ true = eq-eqb (unsigned_abs m) 0 (omega (arith, ints)) in
    rw (other_place x x0 h, ← is, ← at, none) refl

pub moves : (base x0 x1 x n m : ℤ) → Ok n ≡ growth_of base x0 x → Ok m ≡ growth_of base x0 x1 → (x ≡ x0 → ⊥) → (m ≡ pos 0 → ⊥) → moved_by x0 x1 n m ≡ moved_between base x0 x1 x
unfolding moved_between
moves base x0 x1 x n m is at h rising =
    let some : nat_eq (unsigned_abs m) 0 ≡ false = ne_eqb (unsigned_abs m) 0 (λ e. rising (omega (arith, ints))) in
    rw (other_place x x0 h, ← is, ← at, some) refl

-- at a place that is between two inputs, x lies between them; elsewhere it is not moved
pub warp_between : (curve : Curve) (inputs : List ℤ) (x : ℤ) (i : ℕ) (r : ℤ) → IsAscending inputs → IsBetween inputs x i → warp_of curve inputs x ≡ Ok r → (input_at inputs i ≤ℤ r) × (r ≤ℤ input_at inputs (i + 1))
warp_between Linear inputs x i r rising at e = let same : x ≡ r = cc in rw (← same) (at.not_below, omega (arith, ints, at.below_next))
warp_between (Exponential base) inputs x i r rising at e = elim (cases_Bool (int_le x (first_of inputs))) [
  | inl first ↦ let e' = rw first at e in stays (cc)
  | inr behind ↦ elim (cases_Bool (int_le (last_of inputs) x)) [
    | inl last ↦ let e' = rw (behind, last) at e in stays (cc)
    | inr ahead ↦
        let same : count_not_above x inputs - 1 ≡ i = omega (arith, count_is inputs x i rising at) in
        let e' = rw (behind, ahead, same) at e in
        moved_between_ends base (input_at inputs i) (input_at inputs (i + 1)) x r at.not_below (omega (arith, ints, at.below_next)) e'
  ]
]
  where
    stays : x ≡ r → (input_at inputs i ≤ℤ r) × (r ≤ℤ input_at inputs (i + 1))
    stays same = rw (← same) (at.not_below, omega (arith, ints, at.below_next))

-- an input is not moved
no_way : (z : ℤ) → nat_eq (unsigned_abs (z -ℤ z)) 0 ≡ true
no_way z = let none : unsigned_abs (z -ℤ z) ≡ 0 = omega (arith, ints) in rw none refl

moved_nowhere : (base x0 x1 : ℤ) → moved_between base x0 x1 x0 ≡ Ok x0
unfolding moved_between
moved_nowhere base x0 x1 = rw (no_way x0) refl

pub warp_input : (curve : Curve) (inputs : List ℤ) (k : ℕ) → IsAscending inputs → k < length inputs → warp_of curve inputs (input_at inputs k) ≡ Ok (input_at inputs k)
warp_input Linear inputs k rising h = refl
warp_input (Exponential base) inputs k rising h = elim (cases_Bool (int_le (input_at inputs k) (first_of inputs))) [
  | inl first ↦ rw first refl
  | inr behind ↦ elim (cases_Bool (int_le (last_of inputs) (input_at inputs k))) [
    | inl last ↦ rw (behind, last) refl
    | inr ahead ↦ elim (cases_lt (k + 1) (length inputs)) [
      | inl inside ↦
          let same : count_not_above (input_at inputs k) inputs - 1 ≡ k = omega (arith, count_is inputs (input_at inputs k) k rising (here inside)) in
          rw (behind, ahead, same) (moved_nowhere base (input_at inputs k) (input_at inputs (k + 1)))
      | inr end ↦
          let top : length inputs - 1 ≡ k = omega arith in
          let ahead' = rw top at ahead in absurd (grind (arith, ints))
    ]
  ]
]
  where
    here : k + 1 < length inputs → IsBetween inputs (input_at inputs k) k
    here inside = record { within = inside; not_below = omega (arith, ints); below_next = rising k (k + 1) (pos 0) (omega arith) inside }

-- with base 1 nothing grows, and nothing is moved
growth_one : (x0 x m : ℤ) → growth_of one x0 x ≡ Ok m → m ≡ pos 0
growth_one x0 x m e =
    let (way, e1, f1) = and_then_ok (difference x x0) _ m e in
    let (grown, e2, f2) = and_then_ok (power_of one way) _ m f1 in
    let flat : grown ≡ one = let p = power_one way in cc in
    let f3 = rw flat at f2 in cc

moved_between_one : (x0 x1 x r : ℤ) → moved_between one x0 x1 x ≡ Ok r → r ≡ x
unfolding moved_between
moved_between_one x0 x1 x r e = elim (cases_Bool (nat_eq (unsigned_abs (x -ℤ x0)) 0)) [
  | inl at ↦ let e' = rw at at e in cc
  | inr behind ↦ let e' = rw behind at e in
      let (n, e1, f1) = and_then_ok (growth_of one x0 x) _ r e' in
      let (m, e2, f2) = and_then_ok (growth_of one x0 x1) _ r f1 in
      let flat : m ≡ pos 0 = growth_one x0 x1 m e2 in
      let f3 = rw flat at f2 in cc
]

pub warp_one : (inputs : List ℤ) (x r : ℤ) → warp_of (Exponential one) inputs x ≡ Ok r → r ≡ x
warp_one inputs x r e = elim (cases_Bool (int_le x (first_of inputs))) [
  | inl first ↦ let e' = rw first at e in cc
  | inr behind ↦ elim (cases_Bool (int_le (last_of inputs) x)) [
    | inl last ↦ let e' = rw (behind, last) at e in cc
    | inr ahead ↦ let e' = rw (behind, ahead) at e in
        moved_between_one (input_at inputs (count_not_above x inputs - 1)) (input_at inputs (count_not_above x inputs - 1 + 1)) x r e'
  ]
]
