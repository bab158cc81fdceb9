use Rattle.std.proofs.Common.{◌≡◌, drop, length}
use Rattle.std.specs.Prelude.{None}
use Rattle.decimal_json.specs.View.{trees}
use Rattle.expr_syntax.specs.Elements.{taken}
use Rattle.expr_syntax.specs.Rows.{is_input}
use Rattle.expr_syntax.specs.Parts.{inputs_of}
use Rattle.expr_syntax.proofs.InputLaws.{after_inputs}
use Rattle.expr_syntax.proofs.StopLaws.{IsLast}
use Rattle.expr_syntax.proofs.values.read_inputs.Given as goal

abbrev pub invariant-loop-i : goal.invariant-loop-i
invariant-loop-i l = (after_inputs l.past l.inputs (inputs_of l.before (taken (λ n i. is_input i) (length l.items) l.i (trees (drop l.i l.items)))) ≡ inputs_of None (taken (λ n i. is_input i) (length l.items) 0 (trees l.items))) × IsLast l.past l.before l.inputs
