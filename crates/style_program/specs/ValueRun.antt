-- The run of `value`: the value of an expression, or the fault of its evaluation.
use Rattle.std.specs.Prelude.{ℕ, pos, List, [], ◌++◌, codes, Bool, Option, Some, None, Result, Ok, Err}
use Rattle.prop_values.specs.Data.{Data}
use Rattle.prop_values.specs.Faults.{fault_name}
use Rattle.prop_values.specs.ValueText.{listed_text}
use Rattle.prop_values.specs.declared.fault.EvalFault.{EvalFault}
use Rattle.prop_values.specs.declared.kinds.Want.TheVariants.{Any}
use Rattle.expr_syntax.specs.Reading.{Reading, reading}
use Rattle.expr_syntax.specs.Term.{Term}
use Rattle.expr_types.specs.Checked.{checked_free}
use Rattle.expr_types.specs.Judged.{Judged}
use Rattle.expr_types.specs.Typing.{Typed}
use Rattle.expr_types.specs.declared.fault.TypeFault.{TypeFault}
use Rattle.eval_face.specs.Meaning.{mean}
use Rattle.eval_face.specs.World.{World, feature_world, no_feature}
use Rattle.program_runs.specs.declared.status.Ending.TheVariants.{Fine, Found}
use Rattle.program_runs.specs.Outcome.{RunOutcome, line, said}
use Rattle.program_runs.specs.Runs.{Run, ends, parses}
use Rattle.style_program.specs.Refusals.{outside, no_expression, no_type}

abbrev pub value_outcome : Result Data EvalFault → RunOutcome
value_outcome (Ok d) = said (line (listed_text d)) Fine
value_outcome (Err fault) = said (line (codes "error " ++ fault_name fault)) Found

module _ (images scripts : List ℕ → Bool) where
  -- at zoom 0, without a feature and a state
  abbrev pub value_world : World
  value_world = feature_world (pos 0) no_feature [] images scripts

  -- a type fault comes before what the expression gives
  abbrev pub typed_outcome : Term → Typed → RunOutcome
  typed_outcome t (Ok found) = value_outcome (mean t Any [] value_world)
  typed_outcome t (Err fault) = no_type fault

  abbrev pub expression_outcome : Reading → RunOutcome
  expression_outcome (Ok (Some t)) = typed_outcome t (checked_free t)
  expression_outcome (Ok None) = outside
  expression_outcome (Err fault) = no_expression fault

  -- the word is JSON text
  abbrev pub value_run : List ℕ → Run
  value_run text = parses (codes "expr") text (λ t. ends (expression_outcome (reading t)))

  -- ---- for proofs: the same, by the fault that the check answers
  abbrev pub judged_outcome : Term → Option TypeFault → RunOutcome
  judged_outcome t None = value_outcome (mean t Any [] value_world)
  judged_outcome t (Some fault) = no_type fault

abbrev pub fault_in : Result Judged TypeFault → Option TypeFault
fault_in (Ok pair) = None
fault_in (Err fault) = Some fault
