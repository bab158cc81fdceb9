use Rattle.std.proofs.Common.{map, arith}
use Rattle.prop_values.specs.ViewParts.{evaluated_of}
use Rattle.expr_nodes.proofs.FilledLaws.{filled_count, filled_child}
use Rattle.expr_nodes.proofs.given.GivenNodeNodeHandle.child.Goals as goal

pub child-requires : goal.child-requires
child-requires g c =
    let e = filled_count (map evaluated_of c.args.self.now.given.now) (g.N.NodeHandle.node c.args.self.now.node) in
    omega (arith, c.requires)

pub returns : goal.returns
returns g c =
    filled_child (map evaluated_of c.args.self.now.given.now) (g.N.NodeHandle.node c.args.self.now.node) c.args.place
    (g.N.NodeHandle.node c.child.result) c.child.ensures
