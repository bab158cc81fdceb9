-- Outcomes, as they are borrowed and owned.
use Rattle.std.specs.Prelude.{Option, Some, None, Result, Ok, Err}
use Rattle.std.specs.Borrow.{Bor}
use Rattle.prop_values.specs.View.{data_of}
use Rattle.prop_values.specs.declared.fault.EvalFault.{EvalFault}
use Rattle.prop_values.specs.declared.value.Value.{Value}
use Rattle.operator_values.specs.Evaluated.{Evaluated}

abbrev pub outcome_lent : Result (Bor Value) EvalFault → Evaluated
outcome_lent (Ok value) = Ok (data_of value.now)
outcome_lent (Err fault) = Err fault

-- the outcome that is borrowed, where one is kept
abbrev pub seen_outcome : Option (Result (Bor Value) EvalFault) → Option Evaluated
seen_outcome (Some r) = Some (outcome_lent r)
seen_outcome None = None

abbrev pub outcome_owned : Result Value EvalFault → Evaluated
outcome_owned (Ok value) = Ok (data_of value)
outcome_owned (Err fault) = Err fault
