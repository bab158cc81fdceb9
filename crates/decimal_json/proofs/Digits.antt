-- Digits that lead from a phase to itself.
use Rattle.std.specs.Prelude.{◌≡◌, ◌&&◌, ℕ, true, if◌then◌else◌, Bool, Some, None}
use Rattle.std.specs.Char.{is_ascii_digit}
use Rattle.std.proofs.Common.{ap}
use Rattle.std.proofs.lemmas.Bool.{and_parts}
use Rattle.decimal_json.specs.declared.phase.Phase.{Phase}
use Rattle.decimal_json.specs.declared.phase.Phase.TheVariants.{Start, Minus, Zero, Digits, Point, Fraction, Letter, Sign, Exponent}
use Rattle.decimal_json.specs.Automaton.{next, repeats, fraction_from, exponent_from}

pub digit_repeats : (p : Phase) (c : ℕ) → repeats p ≡ true → is_ascii_digit c ≡ true → next p c ≡ Some p
digit_repeats Start c r d = cc
digit_repeats Minus c r d = cc
digit_repeats Zero c r d = cc
digit_repeats Digits c r d = ap (λ (b : Bool). if b then Some Digits else fraction_from c) d
digit_repeats Point c r d = cc
digit_repeats Fraction c r d = ap (λ (b : Bool). if b then Some Fraction else exponent_from c) d
digit_repeats Letter c r d = cc
digit_repeats Sign c r d = cc
digit_repeats Exponent c r d = ap (λ (b : Bool). if b then Some Exponent else None) d

pub digit_stays : (p : Phase) (c : ℕ) → (repeats p && is_ascii_digit c) ≡ true → next p c ≡ Some p
digit_stays p c h = let parts = and_parts (repeats p) (is_ascii_digit c) h in digit_repeats p c parts.0 parts.1
