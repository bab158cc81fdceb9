use Rattle.expr_nodes.proofs.BoxedLaws.{boxed_at}
use Rattle.expr_nodes.proofs.boxed_node.node_at.Goals as goal

pub returns : goal.returns
returns c = boxed_at c.args.nodes.now c.args.place c.index-nodes-place.result c.index-nodes-place.is c.requires
