-- Inputs of stops, and names of bindings, one after another.
use Rattle.std.proofs.Common.{◌≡◌, List, [], ◌∷◌, ◌++◌, ℕ, refl, ap, append_assoc, true, false}
use Rattle.std.specs.Prelude.{ℤ, Bool, Option, Some, None, Result, Ok, Err}
use Rattle.expr_syntax.specs.declared.fault.SynCode.{SynCode}
use Rattle.expr_syntax.specs.declared.fault.SynCode.TheVariants.{NumberRange}
use Rattle.expr_syntax.specs.Parts.{and_input, and_name}

-- the inputs so far, of which one may have been past the bound, and then those to come
abbrev pub after_inputs : Bool → List ℤ → Result (List ℤ) SynCode → Result (List ℤ) SynCode
after_inputs past ys (Err c) = Err c
after_inputs true ys (Ok zs) = Err NumberRange
after_inputs false ys (Ok zs) = Ok (ys ++ zs)

pub after_input : (past : Bool) (ys : List ℤ) (z : ℤ) (later : Result (List ℤ) SynCode) → after_inputs past (ys ++ z ∷ []) later ≡ after_inputs past ys (and_input (Some z) later)
after_input true ys z (Ok zs) = refl
after_input false ys z (Ok zs) = ap Ok (append_assoc ys (z ∷ []) zs)
after_input past ys z (Err c) = refl

pub past_input : (past : Bool) (ys : List ℤ) (later : Result (List ℤ) SynCode) → after_inputs true ys later ≡ after_inputs past ys (and_input None later)
past_input past ys (Ok zs) = refl
past_input past ys (Err c) = refl

pub skipped_input : (ys : List ℤ) (z : ℤ) (later : Result (List ℤ) SynCode) → after_inputs true ys later ≡ after_inputs true ys (and_input (Some z) later)
skipped_input ys z (Ok zs) = refl
skipped_input ys z (Err c) = refl

abbrev pub after_names : List (List ℕ) → Option (List (List ℕ)) → Option (List (List ℕ))
after_names ns (Some xs) = Some (ns ++ xs)
after_names ns None = None

pub after_name : (ns : List (List ℕ)) (n : List ℕ) (later : Option (List (List ℕ))) → after_names (ns ++ n ∷ []) later ≡ after_names ns (and_name n later)
after_name ns n (Some xs) = ap Some (append_assoc ns (n ∷ []) xs)
after_name ns n None = refl
