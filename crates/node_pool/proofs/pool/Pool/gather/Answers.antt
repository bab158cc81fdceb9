use Rattle.std.proofs.Common.{◌∙◌, List, sym, ap, subst}
use Rattle.node_pool.specs.Blocks.{AreHeld, IsSound, blocks_of, bound_nodes}
use Rattle.node_pool.specs.declared.pooled_expression.PooledExpression.{PooledExpression}
use Rattle.node_pool.specs.declared.pooled_node.PooledNode.{PooledNode}
use Rattle.node_pool.proofs.BlockLaws.{gathered_sound, gathered_bounds}
use Rattle.node_pool.proofs.pool.Pool.gather.Goals as goal

pub moved_blocks-requires-clause-held : goal.moved_blocks-requires-clause-held
moved_blocks-requires-clause-held c =
    let P : List PooledExpression → Type 0 = λ es. AreHeld c.self.inside.nodes.items es in
    subst P (sym c.as_slice-expressions.ensures.value) c.self.invariant.held

pub invariant_of-self : goal.invariant_of-self
invariant_of-self c =
    let ps = c.self.inside.nodes.items in
    let es = c.self.inside.expressions.items in
    let blocks = c.in-Ok.ensures.blocks ∙ ap (blocks_of ps) c.as_slice-expressions.ensures.value in
    let P : List PooledNode → Type 0 = λ x. IsSound x c.put_one_after_another.new.expressions.items 0 in
    let Q : List PooledExpression → Type 0 = λ x. IsSound (blocks_of ps es) x 0 in
    subst P (sym blocks) (subst Q (sym c.put_one_after_another.ensures) (gathered_sound ps es c.self.inside.unused c.self.invariant))

pub returns-in-Ok : goal.returns-in-Ok
returns-in-Ok c =
    let ps = c.self.inside.nodes.items in
    let es = c.self.inside.expressions.items in
    let blocks = c.in-Ok.ensures.blocks ∙ ap (blocks_of ps) c.as_slice-expressions.ensures.value in
    (λ i. bound_nodes (blocks i) (c.put_one_after_another.ensures i)) ∙ (gathered_bounds ps es c.self.invariant.held ∙ c.self.view_is)
