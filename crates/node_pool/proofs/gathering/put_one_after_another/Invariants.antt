use Rattle.std.proofs.Common.{◌≡◌, ◌++◌, take, drop}
use Rattle.node_pool.specs.Blocks.{one_after_another, total_length}
use Rattle.node_pool.proofs.gathering.put_one_after_another.Given as goal

-- the expressions so far are renumbered
abbrev pub invariant-loop-place : goal.invariant-loop-place
invariant-loop-place l = record {
  moved : l.expressions.items ≡ one_after_another 0 (take l.place l.fn.expressions.items) ++ drop l.place l.fn.expressions.items;
  start : l.start ≡ total_length (take l.place l.fn.expressions.items);
}
