use Rattle.node_pool.proofs.PoolLaws.{inner_form}
use Rattle.node_pool.proofs.pooled_node.form_of.Goals as goal

pub returns-in-Inner : goal.returns-in-Inner
returns-in-Inner c = λ ns. inner_form c.args.node.now c.in-Inner.op c.in-Inner.want c.in-Inner.field-2 c.in-Inner.field-3 ns c.in-Inner.is
