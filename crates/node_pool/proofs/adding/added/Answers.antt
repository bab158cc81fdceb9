use Rattle.std.proofs.Common.{◌∙◌, length, sym, ap}
use Rattle.expr_nodes.specs.Boxed.{boxed_node, boxed_nodes}
use Rattle.node_pool.proofs.BlockLaws.{added_at_end}
use Rattle.node_pool.proofs.FlatLaws.{boxed_length}
use Rattle.node_pool.proofs.adding.added.Goals as goal

pub returns-clause-ok : goal.returns-clause-ok
returns-clause-ok c =
    let parts = c.into_parts-root.result in
    let count = ap length c.as_slice-bindings.ensures.value ∙ sym (boxed_length parts.1.items) in
    added_at_end c.args.nodes.now.items c.in_ok-block.block.items c.append.new.self.items _ (boxed_node parts.0) (boxed_nodes parts.1.items) _
    c.in_ok-append.ensures.items (ap length c.as_slice-start.ensures.value) count c.in_ok-block.ensures
    c.into_parts-root.ensures.parts c.into_parts-root.ensures.evaluable
