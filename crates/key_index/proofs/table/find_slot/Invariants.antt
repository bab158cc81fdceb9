use Rattle.std.proofs.Common.{◌≡◌, drop}
use Rattle.std.specs.Prelude.{map}
use Rattle.key_index.specs.Table.{slot_place}
use Rattle.key_index.proofs.table.find_slot.Given as goal

abbrev pub invariant-loop-slot : goal.invariant-loop-slot
invariant-loop-slot g l = slot_place l.hash l.key (map g.T.Keyed.key l.entries) (drop l.slot-index l.slots) ≡ slot_place l.hash l.key (map g.T.Keyed.key l.entries) l.slots
