use Rattle.std.proofs.Common.{arith}
use Rattle.layer_buckets.proofs.GrowthLaws.{stay_then}
use Rattle.layer_buckets.proofs.kept_cells.KeptCells.reserve.Goals as goal

pub loop-slot-preserved : goal.loop-slot-preserved
loop-slot-preserved c =
    let i = c.loop-slot.invariant in
    record {
      keeping = c.add_slot.ensures.keeping;
      same = stay_then c.args.self.now c.loop-slot.self c.add_slot.new.self i.same c.add_slot.ensures.same;
      room = c.add_slot.ensures.room c.in-Ok.slots i.room;
      slots = omega (arith, i.slots, c.add_slot.ensures.slots);
      free = omega (arith, i.free, c.add_slot.ensures.free);
    }
