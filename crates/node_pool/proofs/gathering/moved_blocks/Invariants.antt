use Rattle.std.proofs.Common.{◌≡◌, ℕ, ◌+◌, ◌≤◌, length, take, drop, Some, vec_len, vec_capacity}
use Rattle.std.specs.List.{slice_get}
use Rattle.node_pool.specs.Blocks.{block_of, blocks_of, total_length}
use Rattle.node_pool.specs.declared.pooled_expression.PooledExpression.{PooledExpression}
use Rattle.node_pool.proofs.gathering.moved_blocks.Given as goal

-- the blocks so far are moved, and those to come are what they were
abbrev pub invariant-loop-expression : goal.invariant-loop-expression
invariant-loop-expression l = record {
  moved : l.moved.items ≡ blocks_of l.fn.nodes.items (take l.expression-index l.expressions);
  room : vec_len l.moved + total_length (drop l.expression-index l.expressions) ≤ vec_capacity l.moved;
  nodes : length l.nodes.items ≡ length l.fn.nodes.items;
  later : (j : ℕ) (e : PooledExpression) → l.expression-index ≤ j → slice_get l.expressions j ≡ Some e → block_of l.nodes.items e ≡ block_of l.fn.nodes.items e;
}
