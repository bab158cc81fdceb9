use Rattle.std.proofs.Common.{ap}
use Rattle.node_pool.specs.Pooled.{are_ordered}
use Rattle.node_pool.proofs.FlatLaws.{block_made}
use Rattle.node_pool.proofs.flattening.flattened.Goals as goal

pub put_side_by_side-requires : goal.put_side_by_side-requires
put_side_by_side-requires c = ap (are_ordered 0) c.new-nodes.ensures.items

pub returns : goal.returns
returns c =
    block_made c.in_ok-first.first c.args.root c.args.bindings.items c.push.new.self.items c.new-nodes.result.items
    c.put_side_by_side.new.nodes.items c.in_ok-push.ensures.items c.in_ok-first.ensures
