use Rattle.std.proofs.lemmas.Option.{IfSome_then}
use Rattle.expr_nodes.proofs.BorrowedLaws.{number_there}
use Rattle.expr_nodes.proofs.borrowed.number_there.Goals as goal

pub returns-in-Number : goal.returns-in-Number
returns-in-Number g c =
    let n = g.N.NodeHandle.node c.args.tree.now in
    let world = g.W.WorldView.world c.args.world.now in
    IfSome_then c.number_in.result c.number_in.ensures
    (λ z h ps. number_there n (g.N.NodeHandle.node c.child.result) c.args.op.now c.args.want.now ps world z c.requires c.in-Number.is
    c.child.ensures (h ps) (c.takes_numbers.ensures c.if-not-takes_numbers.false z))
