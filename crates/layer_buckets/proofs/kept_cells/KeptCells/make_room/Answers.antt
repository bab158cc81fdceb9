use Rattle.std.proofs.Common.{◌≡◌, ℕ, List, Some, length, sym, ap, subst, arith}
use Rattle.std.specs.Prelude.{is_some}
use Rattle.index_lists.specs.SlotLists.{times_in}
use Rattle.index_lists.specs.Holds.{one_of}
use Rattle.layer_buckets.specs.KeptSlots.{kept_of, place_in, full_count}
use Rattle.layer_buckets.specs.Keeping.{lists_at, lists_of, slot_named}
use Rattle.layer_buckets.specs.Listing.{HoldAll, HaveSlots}
use Rattle.layer_buckets.specs.declared.slots.CellPlace.{CellPlace}
use Rattle.layer_buckets.specs.declared.slots.ValueSlot.{ValueSlot}
use Rattle.layer_buckets.proofs.kept_cells.KeptCells.make_room.Goals as goal

pub returns-clause-keeping : goal.returns-clause-keeping
returns-clause-keeping c =
    let b = c.args.self.now in
    let k = c.requires in
    let g = c.reserve-listed.ensures.grown in
    let numbers = lists_at b.columns.items in
    let after = c.reserve-listed.new.self in
    let e = c.reserve.ensures.items in
    let f = c.reserve-2.ensures.items in
    let P : List ValueSlot → Type 0 = λ x. HoldAll after (λ s. lists_of numbers (kept_of x s)) in
    let Q : List ValueSlot → Type 0 = λ x. (s : ℕ) (p : CellPlace) → place_in (kept_of x s) ≡ Some p → slot_named b p ≡ Some s in
    record {
      hold = subst P (sym e) (g.hold (λ s. lists_of numbers (kept_of b.slots.items s)) k.hold);
      have = subst (λ n. HaveSlots after n) (sym (ap length e)) (g.have (length b.slots.items) k.have);
      counted = c.reserve-listed.ensures.counted;
      there = λ p s q. g.there (numbers p) (k.there p s q);
      back = subst Q (sym e) k.back;
      free = λ s. let x = ap (times_in s) f in let y = ap (λ z. one_of (is_some (kept_of z s))) e in let h = k.free s in omega arith;
      within = λ s h. let x = ap (times_in s) f in let n = ap length e in let w = k.within s (omega arith) in omega arith;
      full = let x = ap length f in let n = ap length e in let m = ap full_count e in omega (arith, k.full);
      room = let n = ap length e in omega (arith, k.room, c.reserve-2.ensures.capacity);
    }
