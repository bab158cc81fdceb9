use Rattle.std.proofs.Common.{◌∙◌, ◌++◌, [], ◌∷◌, map, arith, sym, ap, List}
use Rattle.std.proofs.lemmas.List.{map-append}
use Rattle.operator_values.specs.Evaluated.{Evaluated}
use Rattle.prop_values.specs.ViewParts.{evaluated_of}
use Rattle.expr_nodes.specs.Outcome.{outcome}
use Rattle.expr_nodes.specs.Filled.{filled}
use Rattle.expr_nodes.proofs.TurnLaws.{turn_below, turn_gives, turn_paid, turn_within}
use Rattle.expr_nodes.proofs.workspace.Workspace.evaluate_bindings.Goals as goal

pub evaluate_alone-requires : goal.evaluate_alone-requires
evaluate_alone-requires g c =
    let bs = g.B.Bindings.listed c.args.bindings.now in
    let world = g.W.WorldView.world c.args.world.now in
    let b = g.N.NodeHandle.node c.binding.result in
    turn_below bs (map evaluated_of c.as_slice.result.now) world c.loop-slot.slot b c.requires.earlier c.binding.ensures
    (ap (map evaluated_of) c.as_slice.ensures.value ∙ c.loop-slot.invariant.gives)

pub returns-in_err-outcome-clause-most : goal.returns-in_err-outcome-clause-most
returns-in_err-outcome-clause-most g c =
    turn_within (g.B.Bindings.listed c.args.bindings.now) (map evaluated_of c.as_slice.result.now) c.loop-slot.slot
    (g.N.NodeHandle.node c.binding.result) c.args.steps.now c.loop-slot.steps c.evaluate_alone.new.steps
    c.binding.ensures c.loop-slot.invariant.paid c.evaluate_alone.ensures.most

pub returns-in_err-push-clause-most : goal.returns-in_err-push-clause-most
returns-in_err-push-clause-most g c =
    turn_within (g.B.Bindings.listed c.args.bindings.now) (map evaluated_of c.as_slice.result.now) c.loop-slot.slot
    (g.N.NodeHandle.node c.binding.result) c.args.steps.now c.loop-slot.steps c.evaluate_alone.new.steps
    c.binding.ensures c.loop-slot.invariant.paid c.evaluate_alone.ensures.most

pub loop-slot-preserved : goal.loop-slot-preserved
loop-slot-preserved g c =
    let bs = g.B.Bindings.listed c.args.bindings.now in
    let world = g.W.WorldView.world c.args.world.now in
    let b = g.N.NodeHandle.node c.binding.result in
    let given = map evaluated_of c.as_slice.result.now in
    let own = evaluated_of c.in_ok-outcome.outcome in
    let same = ap (map evaluated_of) c.as_slice.ensures.value in
    let next = turn_gives bs given world c.loop-slot.slot b own c.requires.earlier c.binding.ensures (same ∙ c.loop-slot.invariant.gives)
    (c.in_ok-outcome.ensures (outcome (filled given b) [] world) c.evaluate_alone.ensures.meaning) in
    record {
      gives = ap (map evaluated_of) c.in_ok-push.ensures.items
          ∙ (map-append evaluated_of c.loop-slot.given.items (c.in_ok-outcome.outcome ∷ [])
          ∙ (ap (λ (xs : List Evaluated). xs ++ own ∷ []) (sym same) ∙ next));
      rises = omega (arith, c.evaluate_alone.ensures.least, c.loop-slot.invariant.rises);
      paid = turn_paid bs given c.loop-slot.slot b c.args.steps.now c.loop-slot.steps c.evaluate_alone.new.steps
          c.binding.ensures c.loop-slot.invariant.paid c.evaluate_alone.ensures.most;
    }
