use Rattle.std.proofs.Common.{◌≡◌, ap, sym, ◌∙◌, drop}
use Rattle.expr_types.specs.LiteralView.{literals_of}
use Rattle.expr_types.specs.Ramping.{is_fitting, next_from, steps_are_near}
use Rattle.expr_types.proofs.StepLaws.{unfitting, next_turn}
use Rattle.expr_types.proofs.ramping.steps_are_near.Goals as goal

pub returns-then-not-branch : goal.returns-then-not-branch
returns-then-not-branch c =
    unfitting c.args.inputs.now c.args.want.now c.args.outputs.now c.loop-place.place c.index-outputs-place.result (steps_are_near c.args.inputs.now c.args.want.now (literals_of c.args.outputs.now)) c.loop-place.invariant.1 c.index-outputs-place.is c.loop-place-test.true c.loop-place.invariant.0
    (sym (c.in_ok-is_fitting.ensures ∙ ap (λ l. is_fitting c.args.want.now l) c.literal_of.ensures) ∙ c.if-not-branch.true)

pub loop-place-preserved : goal.loop-place-preserved
loop-place-preserved c = (
  c.loop-place.invariant.0,
  next_turn c.args.inputs.now c.args.want.now c.args.outputs.now c.loop-place.place c.index-outputs-place.result (steps_are_near c.args.inputs.now c.args.want.now (literals_of c.args.outputs.now)) c.loop-place.invariant.1 c.index-outputs-place.is c.loop-place-test.true c.loop-place.invariant.0
      (sym (c.in_ok-is_fitting.ensures ∙ ap (λ l. is_fitting c.args.want.now l) c.literal_of.ensures) ∙ c.if-not-branch.false)
      (sym (c.if-not-is_next_near.ensures ∙ (ap (λ xs. next_from xs (literals_of c.split_at-in-loop-place.result.1.now)) c.split_at.ensures.back ∙ ap (λ es. next_from (drop c.loop-place.place c.args.inputs.now) (literals_of es)) c.split_at-in-loop-place.ensures.back))),
)
