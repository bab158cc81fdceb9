use Rattle.std.proofs.Common.{◌≡◌, ◌+◌, length}
use Rattle.layer_buckets.specs.Growing.{HasRoom, StaySeen}
use Rattle.layer_buckets.specs.Keeping.{IsKeeping}
use Rattle.layer_buckets.proofs.kept_cells.KeptCells.reserve.Given as goal

abbrev pub invariant-loop-slot : goal.invariant-loop-slot
invariant-loop-slot l = record {
  keeping : IsKeeping l.self;
  same : StaySeen l.fn.self l.self;
  room : HasRoom l.self l.slots;
  slots : length l.self.slots.items ≡ l._slot;
  free : length l.self.free.items + length l.fn.self.slots.items ≡ length l.fn.self.free.items + l._slot;
}
