use Rattle.std.proofs.Common.{◌≡◌, ℕ, ◌<◌, ◌≤◌, length, slice_index, vec_capacity}
use Rattle.index_lists.proofs.nodes.push_slots.Given as goal

abbrev pub invariant-loop-slot : goal.invariant-loop-slot
invariant-loop-slot l = record {
  len : length l.nodes.items ≡ l.slot;
  room : l.slots ≤ vec_capacity l.nodes;
  old : (k : ℕ) → k < length l.fn.nodes.items → slice_index l.nodes.items k ≡ slice_index l.fn.nodes.items k;
  new : (k : ℕ) → length l.fn.nodes.items ≤ k → k < l.slot → slice_index l.nodes.items k ≡ k;
}
