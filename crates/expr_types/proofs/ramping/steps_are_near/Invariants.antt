use Rattle.std.proofs.Common.{◌≡◌, drop, length}
use Rattle.expr_types.specs.LiteralView.{literals_of}
use Rattle.expr_types.specs.Ramping.{steps_are_near}
use Rattle.expr_types.proofs.ramping.steps_are_near.Given as goal

abbrev pub invariant-loop-place : goal.invariant-loop-place
invariant-loop-place l = (length l.inputs ≡ length l.outputs) × (steps_are_near (drop l.place l.inputs) l.want (literals_of (drop l.place l.outputs)) ≡ steps_are_near l.inputs l.want (literals_of l.outputs))
