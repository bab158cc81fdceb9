use Rattle.std.proofs.Common.{ap, ◌∙◌}
use Rattle.node_pool.proofs.PoolLaws.{last_count}
use Rattle.node_pool.proofs.block.PoolNodeNodeHandle.count.Goals as goal

pub returns : goal.returns
returns c =
    let s = c.args.self.now in
    ap (λ r. r.1) c.argument_range.ensures ∙ last_count s.nodes.now c.last_of.result.now s.ordered c.last_of.ensures
