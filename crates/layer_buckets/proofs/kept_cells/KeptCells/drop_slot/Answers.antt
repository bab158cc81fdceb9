use Rattle.std.proofs.Common.{◌≡◌, ℕ, ◌+◌, List, Some, length, length-set, set, sym, ap, ◌∙◌, subst, arith}
use Rattle.std.specs.Prelude.{is_some}
use Rattle.index_lists.specs.SlotLists.{times_in}
use Rattle.index_lists.specs.Holds.{one_of}
use Rattle.layer_buckets.specs.KeptSlots.{kept_of, no_slot, place_in, full_count, outcome_at}
use Rattle.layer_buckets.specs.Keeping.{lists_at, lists_of, slot_named}
use Rattle.layer_buckets.specs.Listing.{HoldAll, HaveSlots}
use Rattle.layer_buckets.specs.declared.slots.CellPlace.{CellPlace}
use Rattle.layer_buckets.specs.declared.slots.ValueSlot.{ValueSlot}
use Rattle.layer_buckets.proofs.Listings.{listed_in, there_alike, have_alike, counted_alike}
use Rattle.layer_buckets.proofs.SlotLaws.{full_within, full_emptied, outcome_emptied, free_emptied, within_emptied, longer, back_emptied}
use Rattle.layer_buckets.proofs.Keeping.{moves_out}
use Rattle.layer_buckets.proofs.kept_cells.KeptCells.drop_slot.Goals as goal

pub numbers_in-numbers-requires : goal.numbers_in-numbers-requires
numbers_in-numbers-requires c = full_within c.args.self.now.slots.items c.args.slot c.requires.kept

pub take-requires : goal.take-requires
take-requires c =
    let b = c.args.self.now in
    listed_in b.lists (λ s. lists_of (lists_at b.columns.items) (kept_of b.slots.items s)) c.args.slot c.numbers_in-numbers.result c.requires.sound.hold (sym c.numbers_in-numbers.ensures)

pub give_back-requires : goal.give_back-requires
give_back-requires c =
    let b = c.args.self.now in
    let f = full_emptied b.slots.items c.args.slot c.requires.kept in
    omega (arith, c.requires.sound.full, c.requires.sound.room)

pub empty-requires : goal.empty-requires
empty-requires c = full_within c.args.self.now.slots.items c.args.slot c.requires.kept

pub returns-clause-sound : goal.returns-clause-sound
returns-clause-sound c =
    let b = c.args.self.now in
    let sound = c.requires.sound in
    let slots = b.slots.items in
    let slot = c.args.slot in
    let w = full_within slots slot c.requires.kept in
    let numbers = lists_at b.columns.items in
    let count = full_emptied slots slot c.requires.kept in
    let len = length-set slots slot no_slot in
    let e = c.empty.ensures in
    let f = c.give_back.ensures.items in
    let after = c.take.new.self in
    record {
      hold = let P : List ValueSlot → Type 0 = λ x. HoldAll after (λ s. lists_of numbers (kept_of x s)) in
          subst P (sym e) (c.take.ensures.hold (λ s. lists_of numbers (kept_of slots s)) (λ s. lists_of numbers (kept_of (set slots slot no_slot) s)) sound.hold (sym c.numbers_in-numbers.ensures) (moves_out numbers slots slot w));
      have = let P : ℕ → Type 0 = λ n. HaveSlots after n in
          subst P (sym (ap length e ∙ len)) (have_alike b.lists after (length slots) c.take.ensures.alike sound.have);
      counted = counted_alike b.lists after c.take.ensures.alike sound.counted;
      there = λ p s q. there_alike b.lists after (numbers p) c.take.ensures.alike (sound.there p s q);
      back = let P : List ValueSlot → Type 0 = λ x. (s : ℕ) (p : CellPlace) → place_in (kept_of x s) ≡ Some p → slot_named b p ≡ Some s in
          subst P (sym e) (back_emptied b.columns.items slots slot w sound.back);
      free = λ s. let g = free_emptied b.free.items slots slot w c.requires.kept sound.free s in let x = ap (times_in s) f in let y = ap (λ k. one_of (is_some (kept_of k s))) e in omega arith;
      within = λ s k. let x = ap (times_in s) f in let n = ap length e in let v = within_emptied b.free.items slots slot w sound.within s (omega arith) in omega arith;
      full = let x = ap length f in let y = longer b.free.items slot in let n = ap length e in let m = ap full_count e in omega (arith, sound.full);
      room = let n = ap length e in omega (arith, sound.room, c.give_back.ensures.room);
    }

pub returns-clause-alike : goal.returns-clause-alike
returns-clause-alike c = c.take.ensures.alike

pub returns-clause-fewer : goal.returns-clause-fewer
returns-clause-fewer c = ap (λ x. full_count x + 1) c.empty.ensures ∙ full_emptied c.args.self.now.slots.items c.args.slot c.requires.kept

pub returns-clause-kept_outcome : goal.returns-clause-kept_outcome
returns-clause-kept_outcome c = λ p.
    let b = c.args.self.now in
    ap (λ x. outcome_at b.columns.items x p) c.empty.ensures ∙ outcome_emptied b.columns.items b.slots.items c.args.slot p (full_within b.slots.items c.args.slot c.requires.kept) (c.requires.sound.back c.args.slot)
