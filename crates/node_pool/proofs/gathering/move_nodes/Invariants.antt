use Rattle.std.specs.Prelude.{◌⊎◌}
use Rattle.std.proofs.Common.{◌≡◌, ℕ, ◌+◌, ◌≤◌, ◌++◌, length, take, drop, vec_len, vec_capacity}
use Rattle.node_pool.proofs.gathering.move_nodes.Given as goal

-- so many are moved, and the nodes elsewhere are what they were
abbrev pub invariant-loop-place : goal.invariant-loop-place
invariant-loop-place l = record {
  moved : l.moved.items ≡ l.fn.moved.items ++ take l.place (drop l.start l.fn.nodes.items);
  capacity : vec_capacity l.moved ≡ vec_capacity l.fn.moved;
  len : vec_len l.moved ≡ vec_len l.fn.moved + l.place;
  nodes : length l.nodes.items ≡ length l.fn.nodes.items;
  others : (s n : ℕ) → (s + n ≤ l.start) ⊎ (l.start + l.place ≤ s) → take n (drop s l.nodes.items) ≡ take n (drop s l.fn.nodes.items);
}
