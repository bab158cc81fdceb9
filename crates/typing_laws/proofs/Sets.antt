-- Sets of faults.
use Rattle.std.proofs.Common.{◌≡◌, Bool, true, false, refl}
use Rattle.std.proofs.lemmas.Bool.{or_left, or_right}
use Rattle.prop_values.specs.Faults.{holds, no_faults, one_fault, union}
use Rattle.prop_values.specs.declared.fault.EvalFault.{EvalFault}
use Rattle.prop_values.specs.declared.fault.EvalFault.TheVariants as faults
use Rattle.prop_values.specs.declared.fault.FaultSet.{FaultSet}
use Rattle.expr_types.specs.Own.{faults_if}

holds_left : (a b : FaultSet) (f : EvalFault) → holds a f ≡ true → holds (union a b) f ≡ true
holds_left a b faults.WrongType h = or_left _ _ h
holds_left a b faults.NotColor h = or_left _ _ h
holds_left a b faults.NotNumberText h = or_left _ _ h
holds_left a b faults.IndexOutside h = or_left _ _ h
holds_left a b faults.IndexNotWhole h = or_left _ _ h
holds_left a b faults.DivideByZero h = or_left _ _ h
holds_left a b faults.Overflow h = or_left _ _ h
holds_left a b faults.ColorRange h = or_left _ _ h
holds_left a b faults.NotOrdered h = or_left _ _ h
holds_left a b faults.NotInEnum h = or_left _ _ h

holds_right : (a b : FaultSet) (f : EvalFault) → holds b f ≡ true → holds (union a b) f ≡ true
holds_right a b faults.WrongType h = or_right _ _ h
holds_right a b faults.NotColor h = or_right _ _ h
holds_right a b faults.NotNumberText h = or_right _ _ h
holds_right a b faults.IndexOutside h = or_right _ _ h
holds_right a b faults.IndexNotWhole h = or_right _ _ h
holds_right a b faults.DivideByZero h = or_right _ _ h
holds_right a b faults.Overflow h = or_right _ _ h
holds_right a b faults.ColorRange h = or_right _ _ h
holds_right a b faults.NotOrdered h = or_right _ _ h
holds_right a b faults.NotInEnum h = or_right _ _ h

holds_one : (f : EvalFault) → holds (one_fault f) f ≡ true
holds_one faults.WrongType = refl
holds_one faults.NotColor = refl
holds_one faults.NotNumberText = refl
holds_one faults.IndexOutside = refl
holds_one faults.IndexNotWhole = refl
holds_one faults.DivideByZero = refl
holds_one faults.Overflow = refl
holds_one faults.ColorRange = refl
holds_one faults.NotOrdered = refl
holds_one faults.NotInEnum = refl

pub holds_none : (f : EvalFault) → holds no_faults f ≡ false
holds_none faults.WrongType = refl
holds_none faults.NotColor = refl
holds_none faults.NotNumberText = refl
holds_none faults.IndexOutside = refl
holds_none faults.IndexNotWhole = refl
holds_none faults.DivideByZero = refl
holds_none faults.Overflow = refl
holds_none faults.ColorRange = refl
holds_none faults.NotOrdered = refl
holds_none faults.NotInEnum = refl

-- a set that has the faults of another
abbrev pub Within : FaultSet → FaultSet → Type 0
Within S F = (f : EvalFault) → holds F f ≡ true → holds S f ≡ true

pub within_left : (S a b : FaultSet) → Within S (union a b) → Within S a
within_left S a b w f h = w f (holds_left a b f h)

pub within_right : (S a b : FaultSet) → Within S (union a b) → Within S b
within_right S a b w f h = w f (holds_right a b f h)

pub within_one : (S : FaultSet) (f : EvalFault) → Within S (one_fault f) → holds S f ≡ true
within_one S f w = w f (holds_one f)

pub within_if : (S : FaultSet) (t : Bool) (f : EvalFault) → t ≡ true → Within S (faults_if t f) →
    holds S f ≡ true
within_if S true f h w = w f (holds_one f)
within_if S false f h w = absurd (cc)
