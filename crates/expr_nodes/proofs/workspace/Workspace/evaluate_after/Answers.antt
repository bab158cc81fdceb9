use Rattle.std.proofs.Common.{◌∙◌, map, arith, ap, subst}
use Rattle.prop_values.specs.ViewParts.{evaluated_of}
use Rattle.operator_values.specs.Evaluated.{GivesValue}
use Rattle.expr_nodes.proofs.FilledLaws.{filled_size}
use Rattle.expr_nodes.proofs.NodeLaws.{size_pos}
use Rattle.expr_nodes.proofs.TurnLaws.{root_below, root_gives}
use Rattle.expr_nodes.proofs.workspace.Workspace.evaluate_after.Goals as goal

pub evaluate_alone-requires : goal.evaluate_alone-requires
evaluate_alone-requires g c =
    let bs = g.B.Bindings.listed c.args.bindings.now in
    let world = g.W.WorldView.world c.args.world.now in
    let n = g.N.NodeHandle.node c.args.tree in
    root_below bs _ world n c.requires.below (ap (map evaluated_of) c.as_slice-known.ensures.value ∙ c.in-Ok.ensures.given)

pub returns-clause-meaning : goal.returns-clause-meaning
returns-clause-meaning g c =
    let bs = g.B.Bindings.listed c.args.bindings.now in
    let world = g.W.WorldView.world c.args.world.now in
    let n = g.N.NodeHandle.node c.args.tree in
    let e = root_gives bs _ world n c.requires.below (ap (map evaluated_of) c.as_slice-known.ensures.value ∙ c.in-Ok.ensures.given) in
    subst (GivesValue c.evaluate_alone.result) e c.evaluate_alone.ensures.meaning

pub returns-clause-most : goal.returns-clause-most
returns-clause-most g c =
    let f = filled_size (g.N.NodeHandle.node c.args.tree) (map evaluated_of c.as_slice-known.result.now) in
    omega (arith, f, c.evaluate_alone.ensures.most, c.in-Ok.ensures.most)

pub returns-in_default-clause-most : goal.returns-in_default-clause-most
returns-in_default-clause-most g c =
    let s = size_pos (g.N.NodeHandle.node c.args.tree) in
    omega (arith, s, c.tick.ensures, c.evaluate_bindings.ensures.most)
