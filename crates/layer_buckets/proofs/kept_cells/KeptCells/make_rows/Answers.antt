use Rattle.layer_buckets.specs.KeptSlots.{kept_of}
use Rattle.layer_buckets.specs.Keeping.{lists_at, lists_of}
use Rattle.layer_buckets.proofs.Listings.{hold_same}
use Rattle.layer_buckets.proofs.Keeping.{lists_same}
use Rattle.layer_buckets.proofs.GrowthLaws.{lists_grown, there_grown, held_grown}
use Rattle.layer_buckets.proofs.kept_cells.KeptCells.make_rows.Goals as goal

pub returns-clause-keeping : goal.returns-clause-keeping
returns-clause-keeping c =
    let b = c.args.self.now in
    let k = c.requires.keeping in
    let columns = b.columns.items in
    let others = c.grow_rows.new.columns.items in
    let r = c.grow_rows.ensures in
    let same = lists_grown columns others c.args.column c.args.rows c.requires.column r.count r.others r.rows in
    record {
      hold = hold_same b.lists (λ s. lists_of (lists_at columns) (kept_of b.slots.items s)) (λ s. lists_of (lists_at others) (kept_of b.slots.items s)) k.hold (λ s. lists_same (lists_at columns) (lists_at others) (kept_of b.slots.items s) same);
      have = k.have;
      counted = k.counted;
      there = there_grown b.lists columns others c.args.column c.args.rows same k.there c.requires.there r.fresh;
      back = λ s p q. r.stay p s (k.back s p q);
      free = k.free;
      within = k.within;
      full = k.full;
      room = k.room;
    }

pub returns-clause-kept_outcome : goal.returns-clause-kept_outcome
returns-clause-kept_outcome c = held_grown c.args.self.now.columns.items c.grow_rows.new.columns.items c.args.self.now.slots.items c.requires.keeping.back c.grow_rows.ensures.stay
