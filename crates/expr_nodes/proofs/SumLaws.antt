-- The sum of two numbers.
use Rattle.std.proofs.Common.{◌≡◌, ◌∙◌, ℤ, pos, ◌≤◌, Ok, [], ◌∷◌, refl, sym, ap}
use Rattle.std.specs.Prelude.{unsigned_abs}
use Rattle.std.proofs.Math.IntN.{+ℤ_idl}
use Rattle.std.proofs.lemmas.Bool.{le-leb}
use Rattle.fixed_num.specs.Number.{bound, bounded, sum}
use Rattle.prop_values.specs.Data.{number}
use Rattle.operator_values.specs.Arithmetic.{then_number, the_number, folded, sum_of}

sum_itself : (z : ℤ) → unsigned_abs z ≤ bound → sum (pos 0) z ≡ Ok z
sum_itself z h = ap bounded (+ℤ_idl z) ∙ rw (le-leb (unsigned_abs z) bound h) refl

pub two_added : (a b : ℤ) → unsigned_abs a ≤ bound → the_number (sum a b) ≡ sum_of (number a ∷ number b ∷ [])
two_added a b h = sym (ap (λ r. then_number r (λ z. folded sum z (number b ∷ []))) (sum_itself a h))
