use Rattle.std.proofs.Common.{◌-◌, ◌∙◌, length, take}
use Rattle.std.proofs.lemmas.Option.{IfSome_then}
use Rattle.node_pool.specs.Pooled.{pooled_nodes}
use Rattle.node_pool.proofs.PoolLaws.{last_is}
use Rattle.node_pool.proofs.block.PoolNodeNodeHandle.indexed.Goals as goal

pub returns : goal.returns
returns c =
    let ps = c.args.self.now.nodes.now in
    IfSome_then c.indexed_in.result c.indexed_in.ensures
    (λ items is. last_is ps c.last_of.result.now c.last_of.ensures ∙ is (take (length ps - 1) (pooled_nodes ps)))
