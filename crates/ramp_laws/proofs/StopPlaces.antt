-- The place of an input among the inputs.
use Rattle.std.proofs.Common.{◌≡◌, ◌∙◌, inl, inr, ℕ, ◌+◌, ◌-◌, ◌<◌, ◌≤◌, ℤ, pos, List, length, get_or, refl, ap, sym, subst, arith, true, false}
use Rattle.std.proofs.lemmas.Bool.{cases_lt}
use Rattle.std.proofs.lemmas.Int.{ints}
use Rattle.std.proofs.lemmas.List.{get_or_default}
use Rattle.std.specs.Prelude.{int_le, ◌≤ℤ◌, ◌<ℤ◌, Ok, Err}
use Rattle.prop_values.specs.Data.{Data, number, color, list, Items, no_items, item}
use Rattle.prop_values.specs.declared.fault.EvalFault.{EvalFault}
use Rattle.fixed_num.specs.declared.color.Color.{Color}
use Rattle.interpolate_fixed.specs.Linear.{component_of, color_of}
use Rattle.interpolate_fixed.specs.PlaceFacts.{IsAscending}
use Rattle.interpolate_fixed.specs.Places.{input_at, first_of, last_of, count_not_above, place_of}
use Rattle.interpolate_fixed.specs.declared.place.StopPlace.{StopPlace}
use Rattle.interpolate_fixed.specs.declared.place.StopPlace.TheVariants.{First, Last, Between}
use Rattle.interpolate_fixed.proofs.Counts.{counted, place_first, place_last, place_between}
use Rattle.interpolate_fixed.proofs.LineLaws.{line_start}
use Rattle.operator_values.specs.Arithmetic.{the_number}
use Rattle.operator_values.specs.Evaluated.{Evaluated, then_value}
use Rattle.fixed_num.specs.declared.fixed.Arith.{Arith}
use Rattle.operator_values.specs.Ramps.{and_pair, pairs_in, and_item, items_between, the_list, list_between, between_of}
use Rattle.std.specs.Prelude.{Result}
use Rattle.std.specs.Result.{result_unwrap_or}

at_test : (a b : ℤ) → a ≤ℤ b → int_le a b ≡ true
at_test a b h = grind (arith, ints)

past_test : (a b : ℤ) → b <ℤ a → int_le a b ≡ false
past_test a b h = grind (arith, ints)

module _ (inputs : List ℤ) (i : ℕ) (rising : IsAscending inputs) (within : i < length inputs) where
  abbrev x : ℤ
  x = input_at inputs i

  up_to : (k : ℕ) (d : ℤ) → k < i + 1 → int_le (get_or inputs k d) x ≡ true
  up_to k d h = at_test (get_or inputs k d) x (elim (cases_lt k i) [
    | inl before ↦
        let less = rising k i (pos 0) before within in
        let same : get_or inputs k d ≡ get_or inputs k (pos 0) = get_or_default inputs k d (pos 0) (omega arith) in
        rw same (omega (arith, ints, less))
    | inr not_before ↦
        let here : k ≡ i = omega arith in
        let same : get_or inputs k d ≡ get_or inputs k (pos 0) = get_or_default inputs k d (pos 0) (omega arith) in
        rw (same, here) (omega (arith, ints))
  ])

  beyond : (k : ℕ) (d : ℤ) → i + 1 ≤ k → k < length inputs → int_le (get_or inputs k d) x ≡ false
  beyond k d h j =
      let less = rising i k (pos 0) (omega arith) j in
      let same : get_or inputs k d ≡ get_or inputs k (pos 0) = get_or_default inputs k d (pos 0) j in
      past_test (get_or inputs k d) x (rw same less)

  -- as many inputs are not above it as there are up to it
  pub count_at_stop : i + 1 ≡ count_not_above x inputs
  count_at_stop = counted inputs x (i + 1) (omega (arith, within)) ((λ k d j h. up_to k d h), (λ k d h j. beyond k d h j))

  -- its place: at an end, or from it to the next
  abbrev pub IsPlace : StopPlace → Type 0
  IsPlace First = i ≡ 0
  IsPlace Last = i ≡ length inputs - 1
  IsPlace (Between k) = (k ≡ i) × (x <ℤ input_at inputs (i + 1))

  pub stop_place : (p : StopPlace) × (place_of inputs x ≡ p) × IsPlace p
  stop_place = elim (cases_lt 0 i) [
    | inr first ↦
        let here : i ≡ 0 = omega arith in
        let low : x ≤ℤ first_of inputs = rw here (omega (arith, ints)) in
        (First, sym (place_first inputs x low), here)
    | inl later ↦
        let up : first_of inputs <ℤ x = rising 0 i (pos 0) later within in
        elim (cases_lt (i + 1) (length inputs)) [
          | inl inside ↦
              let next : x <ℤ input_at inputs (i + 1) = rising i (i + 1) (pos 0) (omega arith) inside in
              let down : x <ℤ last_of inputs = rising i (length inputs - 1) (pos 0) (omega arith) (omega arith) in
              (Between i, sym (place_between inputs x i up down count_at_stop), (refl, next))
          | inr end ↦
              let top : i ≡ length inputs - 1 = omega (arith, within) in
              let last : last_of inputs ≤ℤ x = rw top (omega (arith, ints)) in
              (Last, sym (place_last inputs x up last), top)
        ]
  ]

-- ---- at the start of the way to the next output

-- it is this value, or a fault
abbrev pub IsOrFaults : Data → Evaluated → Type 0
IsOrFaults d (Ok e) = d ≡ e
IsOrFaults d (Err fault) = Unit {0}

module _ (x x1 : ℤ) (up : x <ℤ x1) where
  abbrev BeginsWith : Items → Result (List (ℤ × ℤ)) EvalFault → Type 0
  BeginsWith ds (Ok pairs) = items_between x x x1 pairs ≡ Ok ds
  BeginsWith ds (Err fault) = Unit {0}

  pair_begins : (a b : ℤ) (ds : Items) (r : Result (List (ℤ × ℤ)) EvalFault) → BeginsWith ds r → BeginsWith (item (number a) ds) (and_pair a b r)
  pair_begins a b ds (Ok pairs) h =
      let first = line_start x a x1 b up in λ i. and_item (first i) (h i)
  pair_begins a b ds (Err fault) h = tt

  pairs_begin : (ds es : Items) → BeginsWith ds (pairs_in ds es)
  pairs_begin no_items no_items = refl
  pairs_begin (item (number a) ds) (item (number b) es) = pair_begins a b ds (pairs_in ds es) (pairs_begin ds es)
  pairs_begin _ _ = tt

  list_begins : (ds : Items) (r : Result (List (ℤ × ℤ)) EvalFault) → BeginsWith ds r → IsOrFaults (list ds) (list_between x x x1 r)
  list_begins ds (Ok pairs) h = subst (λ (r : Result Items EvalFault). IsOrFaults (list ds) (the_list r)) (sym h) refl
  list_begins ds (Err fault) h = tt

  component_begins : (a b : ℤ) → component_of x x a x1 b ≡ a
  component_begins a b = ap (λ (r : Result ℤ Arith). result_unwrap_or r a) (line_start x a x1 b up)

  color_begins : (a b : Color) → a ≡ color_of x x a x1 b
  color_begins a b =
      let r = sym (component_begins a.r b.r) in
      let g = sym (component_begins a.g b.g) in
      let blue = sym (component_begins a.b b.b) in
      let o = sym (component_begins a.a b.a) in
      λ i. record { r = r i; g = g i; b = blue i; a = o i }

  between_begins : (d e : Data) → IsOrFaults d (between_of x x d x1 e)
  between_begins (number a) (number b) =
      subst (λ (r : Result ℤ Arith). IsOrFaults (number a) (the_number r)) (sym (line_start x a x1 b up)) refl
  between_begins (color a) (color b) = ap color (color_begins a b)
  between_begins (list ds) (list es) = list_begins ds (pairs_in ds es) (pairs_begin ds es)
  between_begins d e = tt

  -- what goes on from it goes on from the value
  pub goes_on : (d : Data) (r : Evaluated) (go : Data → Evaluated) (e : Data) → IsOrFaults d r → then_value r go ≡ Ok e → go d ≡ Ok e
  goes_on d (Ok v) go e same h = ap go same ∙ h
  goes_on d (Err fault) go e same h = absurd (cc)

  pub between_goes_on : (d e : Data) (go : Data → Evaluated) (v : Data) → then_value (between_of x x d x1 e) go ≡ Ok v → go d ≡ Ok v
  between_goes_on d e go v h = goes_on d (between_of x x d x1 e) go v (between_begins d e) h
