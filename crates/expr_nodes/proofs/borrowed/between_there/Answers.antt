use Rattle.std.proofs.Common.{◌∙◌, ◌+◌, sym, subst}
use Rattle.interpolate_fixed.specs.Places.{input_at}
use Rattle.operator_values.specs.Evaluated.{GivesValue}
use Rattle.eval_face.specs.Branches.{between_values}
use Rattle.expr_nodes.specs.Node.{children}
use Rattle.expr_nodes.proofs.NodeLaws.{outcome_here}
use Rattle.expr_nodes.proofs.borrowed.between_there.Goals as goal

pub returns-clause-given : goal.returns-clause-given
returns-clause-given g c = λ ps world.
    let cs = children (g.N.NodeHandle.node c.args.tree.now) in
    let i = c.args.i in
    let lower = outcome_here cs (i + 1) (g.N.NodeHandle.node c.child-first.result) ps world c.child-first.ensures ∙ c.in_ok-lower.ensures ps world in
    let upper = outcome_here cs (i + 2) (g.N.NodeHandle.node c.child-second.result) ps world c.child-second.ensures ∙ c.in_ok-upper.ensures ps world in
    subst (GivesValue c.between.result)
    (sym (λ k. between_values c.args.at (input_at c.args.inputs.now i) (input_at c.args.inputs.now (i + 1)) (lower k) (upper k)))
    c.between.ensures
