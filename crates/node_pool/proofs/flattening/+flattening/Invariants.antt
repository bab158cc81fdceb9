use Rattle.std.specs.Prelude.{true}
use Rattle.std.proofs.Common.{◌≡◌, ◌+◌, ◌*◌, ◌≤◌, ◌++◌, length, take}
use Rattle.std.specs.Vec.Iter.{into_iter_items}
use Rattle.expr_nodes.specs.Boxed.{boxed_node, boxed_nodes}
use Rattle.expr_nodes.specs.Node.{size, total_size}
use Rattle.node_pool.specs.Pooled.{pooled_nodes, are_ordered}
use Rattle.node_pool.specs.Flattened.{each_by, all_follow}
use Rattle.node_pool.proofs.flattening.+flattening.Given as goal

-- An argument has fewer nodes than its node.

abbrev pub decreases-flat_node : goal.decreases-flat_node
decreases-flat_node l = 2 * size (boxed_node l.node)

abbrev pub decreases-put_side_by_side : goal.decreases-put_side_by_side
decreases-put_side_by_side l = 2 * total_size (boxed_nodes l.boxed.items) + 1

-- the nodes so far and those to come are all
abbrev pub invariant-put_side_by_side-loop-node : goal.invariant-put_side_by_side-loop-node
invariant-put_side_by_side-loop-node l = record {
  ordered : are_ordered 0 l.nodes.items ≡ true;
  kept : take (length l.fn.nodes.items) l.nodes.items ≡ l.fn.nodes.items;
  follow : all_follow l.last.items (length l.nodes.items) ≡ true;
  same : each_by l.last.items (pooled_nodes l.nodes.items) ++ boxed_nodes (into_iter_items l.node-iterator) ≡ boxed_nodes l.fn.boxed.items;
  smaller : total_size (boxed_nodes (into_iter_items l.node-iterator)) ≤ total_size (boxed_nodes l.fn.boxed.items);
}
