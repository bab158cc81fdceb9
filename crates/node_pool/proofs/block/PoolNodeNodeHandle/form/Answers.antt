use Rattle.std.proofs.Common.{◌-◌, length, take, sym, subst}
use Rattle.expr_nodes.specs.Node.{Node}
use Rattle.expr_nodes.specs.NodeForms.{IsForm}
use Rattle.node_pool.specs.Pooled.{pooled_nodes}
use Rattle.node_pool.proofs.PoolLaws.{last_is}
use Rattle.node_pool.proofs.block.PoolNodeNodeHandle.form.Goals as goal

pub returns : goal.returns
returns c =
    let ps = c.args.self.now.nodes.now in
    let P : Node → Type 0 = λ n. IsForm c.form_of.result n in
    subst P (sym (last_is ps c.last_of.result.now c.last_of.ensures)) (c.form_of.ensures (take (length ps - 1) (pooled_nodes ps)))
