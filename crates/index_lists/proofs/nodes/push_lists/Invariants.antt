use Rattle.std.proofs.Common.{◌≡◌, ℕ, ◌-◌, ◌<◌, ◌≤◌, length, slice_index, vec_capacity}
use Rattle.index_lists.proofs.nodes.push_lists.Given as goal

abbrev pub invariant-loop-list : goal.invariant-loop-list
invariant-loop-list l = record {
  len : length l.nodes.items ≡ l.list;
  room : l.lists ≤ vec_capacity l.nodes;
  old : (k : ℕ) → k < length l.fn.nodes.items → slice_index l.nodes.items k ≡ slice_index l.fn.nodes.items k;
  new : (k : ℕ) → length l.fn.nodes.items ≤ k → k < l.list → slice_index l.nodes.items k ≡ 4294967295 - k;
}
