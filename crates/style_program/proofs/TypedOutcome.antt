-- The outcome of an expression, by what the check of its types answers.
use Rattle.std.specs.Prelude.{◌≡◌, ℕ, List, Bool, Ok, Err, refl}
use Rattle.prop_values.specs.declared.kinds.Want.TheVariants.{Any}
use Rattle.expr_syntax.specs.Term.{Term}
use Rattle.expr_types.specs.JudgedFacts.{judged}
use Rattle.expr_types.specs.Typing.{Typed}
use Rattle.style_program.specs.ValueRun.{typed_outcome, judged_outcome, fault_in}

pub judged_typed : (images scripts : List ℕ → Bool) (t : Term) (typed : Typed) → judged_outcome images scripts t (fault_in (judged (t, Any) typed)) ≡ typed_outcome images scripts t typed
judged_typed images scripts t (Ok found) = refl
judged_typed images scripts t (Err fault) = refl
