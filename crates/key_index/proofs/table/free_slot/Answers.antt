use Rattle.std.proofs.Common.{rules}
use Rattle.key_index.proofs.Slots.{free_at}
use Rattle.key_index.proofs.table.free_slot.Goals as goal

pub returns-then-slot-eq0 : goal.returns-then-slot-eq0
returns-then-slot-eq0 c = search (rules, free_at)
