-- What an evaluation gives, and what it leaves as it was.
use Rattle.std.specs.Prelude.{◌≡◌, List, Result, IfOk}
use Rattle.prop_values.specs.Data.{Data}
use Rattle.prop_values.specs.declared.fault.EvalFault.{EvalFault}
use Rattle.prop_values.specs.declared.kinds.Want.{Want}
use Rattle.prop_values.specs.declared.value.Value.{Value}
use Rattle.halts.specs.declared.halt.Halt.{Halt}
use Rattle.operator_values.specs.Evaluated.{GivesValue}
use Rattle.eval_face.specs.Meanings.{Meaning}
use Rattle.eval_face.specs.Names.{BoundOutcomes}
use Rattle.eval_face.specs.World.{World}
use Rattle.operator_rules.specs.ValueStack.{GivesAll, IsBelow, added}
use Rattle.expr_plain.specs.Frames.{names_of, IsEntered}
use Rattle.expr_plain.specs.declared.evaluation.Evaluation.{Evaluation}
use Rattle.expr_plain.specs.declared.frames.Frames.{Frames}

-- What is given is what is meant in the names of the frames, unless an allocation fails. With a value the frames are
-- still entered, and the stack of values is as it was.
pub record Evaluates (result : Result Value (Halt EvalFault)) (meaning : Meaning) (want : Want) (frames : Frames)
    (world : World) (before after : Evaluation) : Type 0 where
  pub meant : GivesValue result (meaning want (names_of frames.scope.now world) world)
  pub entered : IfOk result (λ _. IsEntered frames world after)
  pub stands : IfOk result (λ _. after.values.items ≡ before.values.items)

-- The values that are meant are added to the stack of values, and the frames are still entered.
pub record EvaluatesAll {A : Type 0} (result : Result A (Halt EvalFault))
    (meaning : Want → BoundOutcomes → World → Result (List Data) EvalFault) (want : Want) (frames : Frames)
    (world : World) (before after : Evaluation) : Type 0 where
  pub meant : GivesAll result (added before.values.items after.values.items)
      (meaning want (names_of frames.scope.now world) world)
  pub entered : IfOk result (λ _. IsEntered frames world after)
  pub stands : IfOk result (λ _. IsBelow before.values.items after.values.items)
