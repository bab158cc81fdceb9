-- What an `interpolate` and a `step` give at their inputs.
use Rattle.std.proofs.Common.{◌≡◌, ◌∙◌, ℕ, ◌+◌, ◌<◌, ℤ, List, length, ap, sym, subst}
use Rattle.std.specs.Prelude.{◌<ℤ◌, Result, Ok, Err}
use Rattle.prop_values.specs.Data.{Data}
use Rattle.prop_values.specs.declared.kinds.Want.{Want}
use Rattle.fixed_num.specs.declared.fixed.Arith.{Arith}
use Rattle.interpolate_fixed.specs.PlaceFacts.{IsAscending}
use Rattle.interpolate_fixed.specs.Places.{input_at, place_of, count_not_above}
use Rattle.interpolate_fixed.specs.Warp.{warp_of}
use Rattle.interpolate_fixed.specs.declared.place.StopPlace.{StopPlace}
use Rattle.interpolate_fixed.specs.declared.place.StopPlace.TheVariants.{First, Last, Between}
use Rattle.interpolate_fixed.proofs.MovedInputs.{warp_input}
use Rattle.property_tables.specs.Fitting.{fit}
use Rattle.expr_syntax.specs.Operators.{ramp_want}
use Rattle.operator_values.specs.Arithmetic.{then_number}
use Rattle.operator_values.specs.Evaluated.{Evaluated, then_value}
use Rattle.eval_face.specs.Branches.{with_number, output_at, between_values, ramp_at}
use Rattle.eval_face.specs.Meaning.{means}
use Rattle.eval_face.specs.Meanings.{Meaning}
use Rattle.eval_face.specs.Names.{BoundOutcomes}
use Rattle.eval_face.specs.World.{World}
use Rattle.ramp_laws.specs.RampLaw.{RampsGiveTheirOutputs, StepsGiveTheirOutputs}
use Rattle.ramp_laws.proofs.StopPlaces.{IsPlace, stop_place, count_at_stop, between_goes_on}

-- the lower output goes on
lower_goes_on : (x x1 : ℤ) → x <ℤ x1 → (a b : Evaluated) (go : Data → Evaluated) (d : Data) → then_value (between_values x x x1 a b) go ≡ Ok d → then_value a go ≡ Ok d
lower_goes_on x x1 up (Ok e) (Ok f) go d h = between_goes_on x x1 up e f go d h
lower_goes_on x x1 up (Ok e) (Err fault) go d h = absurd (cc)
lower_goes_on x x1 up (Err fault) b go d h = absurd (cc)

module _ (inputs : List ℤ) (outputs : List Meaning) (i : ℕ) (rising : IsAscending inputs) (within : i < length inputs)
    (want : Want) (names : BoundOutcomes) (world : World) (go : Data → Evaluated) (d : Data) where
  abbrev the_input : ℤ
  the_input = input_at inputs i

  abbrev here : ℕ → Evaluated
  here k = output_at outputs k want names world

  ramp_by : (p : StopPlace) → IsPlace inputs i rising within p → then_value (ramp_at inputs outputs the_input p want names world) go ≡ Ok d →
      then_value (here i) go ≡ Ok d
  ramp_by First is h = subst (λ k. then_value (here k) go ≡ Ok d) (sym is) h
  ramp_by Last is h = subst (λ k. then_value (here k) go ≡ Ok d) (sym is) h
  ramp_by (Between k) is h =
      lower_goes_on the_input (input_at inputs (i + 1)) is.1 (here i) (here (i + 1)) go d
      (subst (λ j. then_value (between_values the_input (input_at inputs j) (input_at inputs (j + 1)) (here j) (here (j + 1))) go ≡ Ok d) is.0 h)

  ramp_gives : then_value (ramp_at inputs outputs the_input (place_of inputs the_input) want names world) go ≡ Ok d → then_value (here i) go ≡ Ok d
  ramp_gives h =
      let (p, is, at) = stop_place inputs i rising within in
      ramp_by p at (subst (λ q. then_value (ramp_at inputs outputs the_input q want names world) go ≡ Ok d) is h)

pub ramps_give : RampsGiveTheirOutputs
ramps_give curve inputs value outputs want names world i d rising within is gives =
    let x = input_at inputs i in
    let go : ℤ → Evaluated = λ x. then_value (ramp_at inputs (means outputs) x (place_of inputs x) (ramp_want want) names world) (fit want) in
    let by_number = ap (λ r. with_number r (λ v. then_number (warp_of curve inputs v) go)) is in
    let by_warp = ap (λ (r : Result ℤ Arith). then_number r go) (warp_input curve inputs i rising within) in
    ramp_gives inputs (means outputs) i rising within (ramp_want want) names world (fit want) d (sym by_warp ∙ (sym by_number ∙ gives))

pub steps_give : StepsGiveTheirOutputs
steps_give inputs value outputs want names world i rising within is =
    ap (λ r. with_number r (λ x. output_at (means outputs) (count_not_above x inputs) want names world)) is
    ∙ ap (λ k. output_at (means outputs) k want names world) (sym (count_at_stop inputs i rising within))
