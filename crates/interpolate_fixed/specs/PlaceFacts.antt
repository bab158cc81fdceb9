-- What a place among inputs says of them.
use Rattle.std.specs.Prelude.{ℕ, ◌+◌, ◌<◌, ℤ, ◌≤ℤ◌, ◌<ℤ◌, List, length, ⊤, pos}
use Rattle.std.specs.List.{AllPairs}
use Rattle.interpolate_fixed.specs.declared.place.StopPlace.{StopPlace}
use Rattle.interpolate_fixed.specs.declared.place.StopPlace.TheVariants.{First, Last, Between}
use Rattle.interpolate_fixed.specs.Places.{input_at}
use Rattle.prop_values.specs.declared.outcome.Curve.{Curve}
use Rattle.prop_values.specs.declared.outcome.Curve.TheVariants.{Linear, Exponential}

-- each input is below all later ones
abbrev pub IsAscending : List ℤ → Type 0
IsAscending inputs = AllPairs (λ a b. a <ℤ b) inputs

-- x is at or above input i and below the next
pub record IsBetween (inputs : List ℤ) (x : ℤ) (i : ℕ) : Type 0 where
  pub within : i + 1 < length inputs
  pub not_below : input_at inputs i ≤ℤ x
  pub below_next : x <ℤ input_at inputs (i + 1)

-- a fact of the place, where it is between two inputs
abbrev pub IfBetween : StopPlace → (ℕ → Type 0) → Type 0
IfBetween First P = ⊤
IfBetween Last P = ⊤
IfBetween (Between i) P = P i

-- i is the place of the greatest input that is not above x
pub record IsGreatestNotAbove (inputs : List ℤ) (x : ℤ) (i : ℕ) : Type 0 where
  pub within : i < length inputs
  pub not_above : input_at inputs i ≤ℤ x
  pub greatest : (k : ℕ) → k < length inputs → input_at inputs k ≤ℤ x → input_at inputs k ≤ℤ input_at inputs i

-- the base of the curve, where it has one, is above 0
abbrev pub HasPositiveBase : Curve → Type 0
HasPositiveBase Linear = ⊤
HasPositiveBase (Exponential base) = pos 0 <ℤ base
