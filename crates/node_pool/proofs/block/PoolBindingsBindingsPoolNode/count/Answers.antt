use Rattle.std.proofs.Common.{sym}
use Rattle.node_pool.proofs.PoolLaws.{bindings_count}
use Rattle.node_pool.proofs.block.PoolBindingsBindingsPoolNode.count.Goals as goal

pub returns : goal.returns
returns c = let s = c.args.self.now in sym (bindings_count s.nodes.now s.first s.count s.within)
