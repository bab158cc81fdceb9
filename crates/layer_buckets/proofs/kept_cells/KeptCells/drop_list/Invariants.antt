use Rattle.std.proofs.Common.{◌≡◌, None, if◌then◌else◌}
use Rattle.layer_buckets.specs.KeptSlots.{full_count}
use Rattle.layer_buckets.specs.Keeping.{IsKeeping, kept_outcome, lists_at}
use Rattle.layer_buckets.specs.Listing.{AreAlike, IsThere, is_in}
use Rattle.layer_buckets.specs.declared.slots.CellPlace.{CellPlace}
use Rattle.layer_buckets.proofs.kept_cells.KeptCells.drop_list.Given as goal

-- what is not in the list is kept as it was
abbrev pub invariant-loop-slot : goal.invariant-loop-slot
invariant-loop-slot l = record {
  sound : IsKeeping l.self;
  there : IsThere l.self.lists l.name;
  columns : l.self.columns.items ≡ l.fn.self.columns.items;
  alike : AreAlike l.fn.self.lists l.self.lists;
  ends : (p : CellPlace) → (if is_in l.name (lists_at l.fn.self.columns.items p) then None else kept_outcome l.self p) ≡ (if is_in l.name (lists_at l.fn.self.columns.items p) then None else kept_outcome l.fn.self p);
}

abbrev pub decreases-loop-slot : goal.decreases-loop-slot
decreases-loop-slot l = full_count l.self.slots.items
