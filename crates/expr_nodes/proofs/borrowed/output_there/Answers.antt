use Rattle.prop_values.specs.View.{data_of}
use Rattle.expr_nodes.specs.Node.{children}
use Rattle.expr_nodes.proofs.BorrowedLaws.{match_there}
use Rattle.expr_nodes.proofs.borrowed.output_there.Goals as goal

pub returns : goal.returns
returns g c = λ ps.
    let cs = children (g.N.NodeHandle.node c.args.tree.now) in
    let world = g.W.WorldView.world c.args.world.now in
    match_there c.args.labels.now cs (g.N.NodeHandle.node c.child-input.result) ps world (data_of c.in_ok-value.value.now) c.count.result c.saturating_sub.result c.output_of.result
    c.child-input.ensures (c.in_ok-value.ensures ps) c.count.ensures c.saturating_sub.ensures c.output_of.ensures
