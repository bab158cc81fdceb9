-- What decides between outputs, by the value that it is.
use Rattle.std.proofs.Common.{◌≡◌, ℤ, Bool, true, false, Result, Ok, Err, refl, sym, ap, ◌∙◌}
use Rattle.fixed_num.specs.declared.fixed.Arith.{Arith}
use Rattle.prop_values.specs.Data.{Data, null, boolean, number, text, color, list, map}
use Rattle.prop_values.specs.declared.fault.EvalFault.{EvalFault}
use Rattle.operator_values.specs.Arithmetic.{then_number}
use Rattle.operator_values.specs.Evaluated.{Evaluated, or_fault}
use Rattle.eval_face.specs.Branches.{branch, with_number}
use Rattle.operator_rules.specs.Inputs.{condition_in, number_in}

-- what a condition chooses
abbrev pub by_flag : Result Bool EvalFault → Evaluated → Evaluated → Evaluated
by_flag (Ok true) output later = output
by_flag (Ok false) output later = later
by_flag (Err fault) output later = Err fault

pub branch_by : (d : Data) (output later : Evaluated) → branch (Ok d) output later ≡ by_flag (condition_in d) output later
branch_by (boolean true) output later = refl
branch_by (boolean false) output later = refl
branch_by null output later = refl
branch_by (number z) output later = refl
branch_by (text s) output later = refl
branch_by (color c) output later = refl
branch_by (list ds) output later = refl
branch_by (map ps) output later = refl

-- what a number goes on to
abbrev pub by_number : Result ℤ EvalFault → (ℤ → Evaluated) → Evaluated
by_number (Ok z) go = go z
by_number (Err fault) go = Err fault

pub number_by : (d : Data) (go : ℤ → Evaluated) → with_number (Ok d) go ≡ by_number (number_in d) go
number_by (number z) go = refl
number_by null go = refl
number_by (boolean b) go = refl
number_by (text s) go = refl
number_by (color c) go = refl
number_by (list ds) go = refl
number_by (map ps) go = refl

pub number_with : (a : Evaluated) (d : Data) (x : Result ℤ EvalFault) (go : ℤ → Evaluated) → a ≡ Ok d → x ≡ number_in d → by_number x go ≡ with_number a go
number_with a d x go p q = ap (λ y. by_number y go) q ∙ (sym (number_by d go) ∙ ap (λ y. with_number y go) (sym p))

pub moved_by : (r : Result ℤ Arith) (go : ℤ → Evaluated) → by_number (or_fault r) go ≡ then_number r go
moved_by (Ok z) go = refl
moved_by (Err a) go = refl
